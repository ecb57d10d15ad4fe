-- What the calls of a host answer and leave.
use Rattle.std.specs.Prelude.{◌≡◌, ℕ, ℤ, ◌+◌, ◌^◌, ◌-◌, min, Bool, true, false, List, [], length, Option, None, Some, Result, Ok, Err, MatchResult}
use Rattle.net_base.specs.Capabilities.{all_checksums}
use Rattle.net_base.specs.Checksum.TheVariants as Checksum
use Rattle.net_base.specs.Time.{IsMoment}
use Rattle.net_base.specs.DeviceCapabilities.{DeviceCapabilities}
use Rattle.net_base.specs.Medium.{Medium}
use Rattle.net_base.specs.Medium.TheVariants as On
use Rattle.ip_wire.specs.EthernetAddress.{EthernetAddress}
use Rattle.ip_wire.specs.HardwareAddress.{HardwareAddress}
use Rattle.ip_wire.specs.HardwareAddress.TheVariants as Hardware
use Rattle.c_calls.specs.Link.{LinkValue, unused, IsTaken, arrived, fetch_answer, fetch_after, push_refusal}
use Rattle.c_calls.specs.Polling.{LinkPolls}
use Rattle.c_calls.specs.declared.link.error.PushError.{PushError}
use Rattle.c_calls.specs.declared.link.error.FetchError.{FetchError}
use Rattle.c_calls.specs.Codes.{coded}
use Rattle.c_calls.specs.declared.code.Code.{Code}
use Rattle.c_calls.specs.declared.code.Code.TheVariants as Is
use Rattle.interface.specs.Host.{host_at}
use Rattle.interface.specs.Instant.{host_instant}
use Rattle.interface.specs.Made.{new_host}
use Rattle.interface.specs.State.{state}
use Rattle.interface.specs.Settings.{default_config, network_config, refusal}
use Rattle.interface.specs.SocketStorage.{SocketStorage}
use Rattle.interface.specs.Config.{Config}
use Rattle.interface.specs.NewError.{NewError}
use Rattle.sockets.specs.declared.socket.Socket.{Socket}
use Rattle.interface.specs.Backlog.Calls.{micros_of}
use Rattle.c_calls.specs.Backlogs.{RefreshesAll}
use Rattle.c_calls.specs.Codes.{of_new, of_push, of_fetch}
use Rattle.c_calls.specs.Host.{StackValue}
use Rattle.c_calls.specs.Numbers.{no_slots}
use Rattle.c_calls.specs.declared.host.Counters.{Counters}
use Rattle.c_calls.specs.declared.host.Settings.{Settings}

-- COUNTERS

-- one more, up to the largest number of 64 bits
abbrev pub counted : ℕ → ℕ
counted n = min (n + 1) (2 ^ 64 - 1)

abbrev pub none_counted : Counters
none_counted = record { frames_in = 0; frames_dropped = 0; frames_out = 0; polls = 0 }

-- FRAMES

-- a frame came, and was taken in or refused
abbrev pub took : StackValue → List ℕ → StackValue
took s frame = record s { link = arrived s.link frame; counters = record s.counters { frames_in = counted s.counters.frames_in } }

abbrev pub dropped : StackValue → StackValue
dropped s = record s { counters = record s.counters { frames_dropped = counted s.counters.frames_dropped } }

-- the code names why the link refuses a frame of this length
abbrev pub IsFrameRefusal : LinkValue → ℕ → Code → Type 0
IsFrameRefusal link len code = (error : PushError) × push_refusal link len error × (code ≡ of_push error)

-- a frame of these bytes is taken in, or refused
abbrev pub TakesFrame : List ℕ → StackValue → Result (Unit {0}) Code → StackValue → Type 0
TakesFrame frame s result s' = MatchResult result (λ u. IsTaken s.link (length frame) × (s' ≡ took s frame))
    (λ code. IsFrameRefusal s.link (length frame) code × (s' ≡ dropped s))

abbrev pub or_empty : Option ℕ → Result ℕ Code
or_empty None = Err Is.Empty
or_empty (Some n) = Ok n

-- the first frame that is to go was handed out, where it fits
abbrev pub fetched_by : Result ℕ FetchError → StackValue → ℕ → StackValue
fetched_by (Err e) s room = s
fetched_by (Ok n) s room = record s {
  link = record s.link { sent = fetch_after s.link.sent room };
  counters = record s.counters { frames_out = counted s.counters.frames_out };
}

abbrev pub fetched_from : StackValue → ℕ → StackValue
fetched_from s room = fetched_by (fetch_answer s.link.sent room) s room

-- THE DEVICE that settings describe

abbrev pub medium_of : Option EthernetAddress → Medium
medium_of None = On.Ip
medium_of (Some address) = On.Ethernet

abbrev pub hardware_of : Option EthernetAddress → HardwareAddress
hardware_of None = Hardware.Ip
hardware_of (Some address) = Hardware.Ethernet address

abbrev pub device_of : Settings → DeviceCapabilities
device_of settings =
    record { medium = medium_of settings.hardware; max_transmission_unit = settings.mtu; checksum = all_checksums Checksum.Both }

-- of a host on a network of many, or as smoltcp's
abbrev pub initial_config : Bool → HardwareAddress → Config
initial_config true hardware = network_config hardware
initial_config false hardware = default_config hardware

abbrev pub config_of : Settings → Config
config_of settings =
    record (initial_config settings.host_requirements (hardware_of settings.hardware)) {
      random_seed = settings.seed;
      isn_key = settings.isn_key;
      multicast_reports = settings.multicast_reports;
    }

-- A HOST THAT IS MADE

-- without frames, addresses, routes, sockets, listeners and clients
abbrev pub initial_host : Settings → ℤ → StackValue
initial_host settings now = record {
  link = unused (device_of settings) settings.frames;
  host = new_host (config_of settings) (device_of settings) now;
  slots = no_slots;
  listeners = [];
  dhcp = None;
  dns = None;
  counters = none_counted;
}

abbrev pub NewHostUnless : Option NewError → StackValue → Result StackValue Code → Type 0
NewHostUnless (Some error) initial result = result ≡ Err (of_new error)
NewHostUnless None initial result = MatchResult result (λ made. made ≡ initial) (λ code. code ≡ Is.Memory)

-- what the interface refuses is refused by its code; else a host is made, or there is no memory
abbrev pub NewHost : Settings → ℤ → Result StackValue Code → Type 0
NewHost settings now result =
    NewHostUnless (refusal (config_of settings) (device_of settings) now) (initial_host settings now) result

-- A POLL

-- the interface polls, and then each listener sees how far its sockets came
abbrev pub PollsAndListens : ℤ → ℕ → StackValue → Bool → StackValue → Type 0
PollsAndListens now budget s changed s' =
    (polled : List (SocketStorage Socket))
    × LinkPolls now budget (state s.link s.host s.slots.sockets) changed (state s'.link s'.host polled)
    × RefreshesAll (micros_of now) s.listeners polled s'.listeners s'.slots.sockets
    × (s'.slots.tags ≡ s.slots.tags)
    × (s'.counters ≡ record s.counters { polls = counted s.counters.polls })

abbrev pub PollsAt : ℤ → ℕ → StackValue → Result Bool Code → StackValue → Type 0
PollsAt now budget s result s' =
    MatchResult result (λ changed. IsMoment now × PollsAndListens now budget s changed s') (λ code. (code ≡ Is.Moment) × (IsMoment now → ⊥) × (s' ≡ s))

-- when it wants to be polled, asked at an instant
abbrev pub AsksAt : ℤ → StackValue → Result (Option ℤ) Code → StackValue → Type 0
AsksAt now s result s' =
    MatchResult result
    (λ at. IsMoment now × (at ≡ host_instant (host_at now s.host) s.slots.sockets) × (s' ≡ record s { host = host_at now s.host }))
    (λ code. (code ≡ Is.Moment) × (IsMoment now → ⊥) × (s' ≡ s))
