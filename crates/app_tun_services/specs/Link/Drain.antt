-- A device that takes one packet a turn, and keeps what is sent until the turn is answered.
use Rattle.std.specs.Prelude.{◌≡◌, ℕ, ◌+◌, ◌-◌, ◌^◌, ◌==◌, not, nat_lt, min, if◌then◌else◌, Bool, IsTrue, List, [], ◌∷◌, ◌++◌, length, Option, Some, None}
use Rattle.net_base.specs.Device.{Move, Took, Empty, Allowed, Emitted, Denied, gives_tokens}
use Rattle.net_base.specs.DeviceCapabilities.{DeviceCapabilities}
use Rattle.app_tun_services.specs.Link.Answer.{packet_bytes}
use Rattle.app_tun_services.specs.Link.Reset.{is_reset}
use Rattle.app_tun_services.specs.Link.Fault.{fault_of, with_fault, no_faults}
use Rattle.app_tun_services.specs.declared.link.fault.Faults.{Faults}

-- the packet of the turn while it wasn't taken; how many came, how many of them were resets of TCP, how many had a fault, and how many
-- were dropped for their length; the bytes of what was sent since the last answer; how many packets went, and how many of them were resets; how many packets
-- were refused; and what the device says of itself
pub record DrainValue : Type 0 where
  pub waiting : Option (List ℕ)
  pub received : ℕ
  pub resets_received : ℕ
  pub faults : Faults
  pub dropped : ℕ
  pub sent : List ℕ
  pub emitted : ℕ
  pub resets_sent : ℕ
  pub refusals : ℕ
  pub capabilities : DeviceCapabilities

-- a turn of no bytes brings no packet
abbrev pub unless_empty : List ℕ → Option (List ℕ)
unless_empty [] = None
unless_empty (byte ∷ bytes) = Some (byte ∷ bytes)

-- counted to the largest number of 64 bits
abbrev pub one_more : ℕ → ℕ
one_more n = min (n + 1) (2 ^ 64 - 1)

abbrev pub one_more_if : Bool → ℕ → ℕ
one_more_if b n = if b then one_more n else n

-- a packet that comes is counted
abbrev pub received : List ℕ → DrainValue → DrainValue
received packet d = record d {
  received = one_more_if (not (length packet == 0)) d.received;
  resets_received = one_more_if (is_reset d.capabilities.medium packet) d.resets_received;
  faults = if length packet == 0 then d.faults else with_fault (fault_of d.capabilities.medium packet) d.faults;
}

-- A turn's packet comes, in place of one that wasn't taken. One that is longer than the link takes is dropped, and they are counted to
-- the largest number of 64 bits.
abbrev pub placed : List ℕ → DrainValue → DrainValue
placed packet d =
    if nat_lt d.capabilities.max_transmission_unit (length packet)
    then record d { waiting = None; dropped = one_more d.dropped }
    else record d { waiting = unless_empty packet }

abbrev pub brought : List ℕ → DrainValue → DrainValue
brought packet d = placed packet (received packet d)

-- a packet that goes is kept for the answer, and counted
abbrev pub gone : List ℕ → DrainValue → DrainValue
gone packet d = record d {
  sent = d.sent ++ packet_bytes packet;
  emitted = one_more d.emitted;
  resets_sent = one_more_if (is_reset d.capabilities.medium packet) d.resets_sent;
}

-- nothing came, nothing waits, nothing was sent
abbrev pub initial_drain : DeviceCapabilities → DrainValue
initial_drain capabilities = record {
  waiting = None;
  received = 0;
  resets_received = 0;
  faults = no_faults;
  dropped = 0;
  sent = [];
  emitted = 0;
  resets_sent = 0;
  refusals = 0;
  capabilities = capabilities;
}

abbrev pub DrainMove : DrainValue → Move → DrainValue → Type 0
DrainMove old (Took t packet) new =
    IsTrue (gives_tokens old.refusals) × (old.waiting ≡ Some packet) × (new ≡ record old { waiting = None })
DrainMove old (Empty t) new = (new ≡ old) × (IsTrue (gives_tokens old.refusals) → old.waiting ≡ None)
DrainMove old (Allowed t leave) new = (new ≡ old) × (leave ≡ gives_tokens old.refusals)
DrainMove old (Emitted packet) new = new ≡ gone packet old
DrainMove old (Denied _) new = new ≡ record old { refusals = old.refusals + 1 }
