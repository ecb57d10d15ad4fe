-- Values as C has them.
use Rattle.std.specs.Prelude.{ℕ, ℤ, pos, ◌^◌, ◌-◌, ◌==◌, nat_lt, nat_le, not, Bool, true, false, if◌then◌else◌, List, [], ◌∷◌, slice_index, Option, None, Some}
use Rattle.std.specs.Prelude.{Result, Ok, Err}
use Rattle.ip_wire.specs.EthernetAddress.{EthernetAddress}
use Rattle.ip_wire.specs.IpAddress.{IpAddress}
use Rattle.ip_wire.specs.IpAddress.TheVariants as Ip
use Rattle.ip_wire.specs.IpEndpoint.{IpEndpoint}
use Rattle.ip_wire.specs.IpListenEndpoint.{IpListenEndpoint}
use Rattle.ip_wire.specs.IpVersion.{IpVersion}
use Rattle.ip_wire.specs.IpVersion.TheVariants as Version
use Rattle.ip_wire.specs.Ipv4Address.{Ipv4Address}
use Rattle.ip_wire.specs.IpProtocol.{IpProtocol}
use Rattle.ip_wire.specs.Protocol.{protocol_of}
use Rattle.ip_wire.specs.TcpTimestampGenerator.{TcpTimestampGenerator}
use Rattle.sockets.specs.CongestionControl.{CongestionControl}
use Rattle.sockets.specs.CongestionControl.TheVariants as Control
use Rattle.socket_datagram.specs.declared.udp.UdpMetadata.{UdpMetadata}
use Rattle.sockets.specs.State.{State}
use Rattle.sockets.specs.State.TheVariants as At
use Rattle.c_calls.specs.EndReason.{EndReason}
use Rattle.c_calls.specs.EndReason.TheVariants as Why
use Rattle.c_calls.specs.declared.code.Code.{Code}
use Rattle.c_calls.specs.declared.code.Code.TheVariants as Is
use Rattle.c_calls.specs.declared.host.Counters as Host_counters
use Rattle.c_calls.specs.declared.host.Settings as Host
use Rattle.zemplovir_c.specs.declared.types.Counters.{Counters}
use Rattle.zemplovir_c.specs.declared.types.Address.{Address}
use Rattle.zemplovir_c.specs.declared.types.Endpoint.{Endpoint}
use Rattle.zemplovir_c.specs.declared.types.Settings.{Settings}

-- ADDRESSES

abbrev pub v4_in : List ℕ → Ipv4Address
v4_in bytes = record { 0 = slice_index bytes 0 ∷ slice_index bytes 1 ∷ slice_index bytes 2 ∷ slice_index bytes 3 ∷ [] }

-- family 4 or 6, or 0 for none
abbrev pub optional_in : Address → Result (Option IpAddress) Code
optional_in a =
    if a.family == 0 then Ok None
    else if a.family == 4 then Ok (Some (Ip.Ipv4 (v4_in a.bytes)))
    else if a.family == 6 then Ok (Some (Ip.Ipv6 (record { 0 = a.bytes })))
    else Err Is.BadArgument

abbrev pub required_by : Result (Option IpAddress) Code → Result IpAddress Code
required_by (Ok (Some address)) = Ok address
required_by (Ok None) = Err Is.BadArgument
required_by (Err code) = Err code

abbrev pub required_in : Address → Result IpAddress Code
required_in a = required_by (optional_in a)

abbrev pub endpoint_by : Result IpAddress Code → ℕ → Result IpEndpoint Code
endpoint_by (Ok address) port = Ok (record { addr = address; port = port })
endpoint_by (Err code) port = Err code

abbrev pub endpoint_in : Endpoint → Result IpEndpoint Code
endpoint_in e = endpoint_by (required_in e.address) e.port

abbrev pub listens_at : Option IpAddress → ℕ → IpListenEndpoint
listens_at address port = record { addr = address; port = port }

-- the unused bytes are 0
abbrev pub address_out : IpAddress → Address
address_out (Ip.Ipv4 a) = record {
  family = 4;
  bytes = slice_index a.0 0 ∷ slice_index a.0 1 ∷ slice_index a.0 2 ∷ slice_index a.0 3 ∷ 0 ∷ 0 ∷ 0 ∷ 0 ∷ 0 ∷ 0 ∷ 0 ∷ 0 ∷ 0 ∷ 0 ∷ 0 ∷ 0 ∷ [];
}
address_out (Ip.Ipv6 a) = record { family = 6; bytes = a.0 }

abbrev pub no_address : Address
no_address = record { family = 0; bytes = 0 ∷ 0 ∷ 0 ∷ 0 ∷ 0 ∷ 0 ∷ 0 ∷ 0 ∷ 0 ∷ 0 ∷ 0 ∷ 0 ∷ 0 ∷ 0 ∷ 0 ∷ 0 ∷ [] }

abbrev pub address_or_none : Option IpAddress → Address
address_or_none None = no_address
address_or_none (Some address) = address_out address

abbrev pub endpoint_out : IpEndpoint → Endpoint
endpoint_out e = record { address = address_out e.addr; port = e.port }

abbrev pub metadata : IpEndpoint → Option IpAddress → UdpMetadata
metadata remote local = record { endpoint = remote; local_address = local; meta = record {} }

-- NUMBERS

-- so many microseconds; the largest number of 64 bits stands for none
abbrev pub duration_of : ℕ → Option ℕ
duration_of micros = if micros == 2 ^ 64 - 1 then None else Some micros

-- 0 for no
abbrev pub is_on : ℕ → Bool
is_on n = not (n == 0)

abbrev pub bit : Bool → ℕ
bit true = 1
bit false = 0

-- the instant, or the largest number for never
abbrev pub instant_or_never : Option ℤ → ℤ
instant_or_never None = pos (2 ^ 63 - 1)
instant_or_never (Some instant) = instant

-- above 255 stands for none
abbrev pub byte_or_none : ℕ → Option ℕ
byte_or_none n = if nat_le 256 n then None else Some n

-- 0 for none, 2 for CUBIC's, else Reno's
abbrev pub control_of : ℕ → CongestionControl
control_of n = if n == 2 then Control.Cubic else if is_on n then Control.Reno else Control.None

-- 0 for none, else they begin with this number
abbrev pub generator_of : ℕ → ℕ → Option TcpTimestampGenerator
generator_of n first = if is_on n then Some (record { 0 = first }) else None

-- a protocol by its number, or all
abbrev pub protocol_by : Option ℕ → Option IpProtocol
protocol_by None = None
protocol_by (Some n) = Some (protocol_of n)

abbrev pub protocol_in : ℕ → Option IpProtocol
protocol_in n = protocol_by (byte_or_none n)

abbrev pub counters_out : Host_counters.Counters → Counters
counters_out c = record { frames_in = c.frames_in; frames_dropped = c.frames_dropped; frames_out = c.frames_out; polls = c.polls }

abbrev pub state_number : State → ℕ
state_number At.Closed = 0
state_number At.Listen = 1
state_number At.SynSent = 2
state_number At.SynReceived = 3
state_number At.Established = 4
state_number At.FinWait1 = 5
state_number At.FinWait2 = 6
state_number At.CloseWait = 7
state_number At.Closing = 8
state_number At.LastAck = 9
state_number At.TimeWait = 10

-- 0 for none
abbrev pub reason_number : Option EndReason → ℕ
reason_number None = 0
reason_number (Some Why.Closed) = 1
reason_number (Some Why.Reset) = 2
reason_number (Some Why.Refused) = 3
reason_number (Some Why.TimedOut) = 4
reason_number (Some Why.Unreachable) = 5
reason_number (Some Why.Aborted) = 6

-- family 4 or 6, or 0 for both
abbrev pub version_in : ℕ → Result (Option IpVersion) Code
version_in family =
    if family == 0 then Ok None
    else if family == 4 then Ok (Some Version.Ipv4)
    else if family == 6 then Ok (Some Version.Ipv6)
    else Err Is.BadArgument

-- SETTINGS

-- medium 1 is Ethernet, 2 is IP
abbrev pub hardware_in : Settings → Result (Option EthernetAddress) Code
hardware_in s =
    if s.medium == 1 then Ok (Some (record { 0 = s.hardware }))
    else if s.medium == 2 then Ok None
    else Err Is.BadArgument

-- the key of initial sequence numbers, where it counts
abbrev pub key_in : Settings → Option (List ℕ)
key_in s = if s.keyed == 0 then None else Some s.isn_key

abbrev pub settings_by : Result (Option EthernetAddress) Code → Settings → Result Host.Settings Code
settings_by (Err code) s = Err code
settings_by (Ok hardware) s = Ok (record {
  hardware = hardware;
  mtu = s.mtu;
  seed = s.seed;
  isn_key = key_in s;
  frames = s.frames;
  host_requirements = s.without_host_requirements == 0;
  multicast_reports = s.without_multicast_reports == 0;
})

abbrev pub settings_in : Settings → Result Host.Settings Code
settings_in s = settings_by (hardware_in s) s
