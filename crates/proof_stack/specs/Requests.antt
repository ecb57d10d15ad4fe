-- Requests for neighbours and answers to them, one after another, on a network of many (RFC 1122, section 2.3.2.1; RFC 4861, section 7.2.2).
use Rattle.std.specs.Prelude.{◌≡◌, ℕ, ◌+◌, ℤ, pos, ◌+ℤ◌, ◌≤ℤ◌, ◌<ℤ◌, int_lt, Bool, false, List, [], ◌∷◌}
use Rattle.ip_wire.specs.HardwareAddress.{HardwareAddress}
use Rattle.ip_wire.specs.IpAddress.{IpAddress}
use Rattle.iface_tables.specs.Neighbor.{CacheValue, filled, last_request, own_silence, renewed, requested, silent_time}
use Rattle.iface_tables.specs.declared.neighbor.Neighbor.{Neighbor}

-- a neighbour is asked for at an instant; one answers, or a packet comes from it
pub data NeighborEvent : Type 0 where
  Asked : IpAddress → ℤ → NeighborEvent
  Answered : Neighbor → NeighborEvent
  Heard : IpAddress → HardwareAddress → ℤ → NeighborEvent

-- Each makes of what is known of neighbours what it does in a host. A request goes where the silence that counts for its address is over.
abbrev pub Follows : CacheValue → List NeighborEvent → CacheValue → Type 0
Follows c [] c' = c' ≡ c
Follows c (Asked address instant ∷ es) c' =
    (int_lt instant (own_silence (last_request c address) c) ≡ false) × Follows (requested c address instant) es c'
Follows c (Answered entry ∷ es) c' = Follows (filled c entry) es c'
Follows c (Heard address hardware instant ∷ es) c' = Follows (renewed c address hardware instant) es c'

-- the requests go within the second that begins at an instant
abbrev pub AreInSecond : ℤ → List NeighborEvent → Type 0
AreInSecond start [] = Unit {0}
AreInSecond start (Asked address instant ∷ es) = (start ≤ℤ instant) × (instant <ℤ (start +ℤ pos silent_time)) × AreInSecond start es
AreInSecond start (Answered entry ∷ es) = AreInSecond start es
AreInSecond start (Heard address hardware instant ∷ es) = AreInSecond start es

-- how many requests there are, and of how many neighbours something came
abbrev pub requests_in : List NeighborEvent → ℕ
requests_in [] = 0
requests_in (Asked address instant ∷ es) = requests_in es + 1
requests_in (Answered entry ∷ es) = requests_in es
requests_in (Heard address hardware instant ∷ es) = requests_in es

abbrev pub answers_in : List NeighborEvent → ℕ
answers_in [] = 0
answers_in (Asked address instant ∷ es) = answers_in es
answers_in (Answered entry ∷ es) = answers_in es + 1
answers_in (Heard address hardware instant ∷ es) = answers_in es + 1
