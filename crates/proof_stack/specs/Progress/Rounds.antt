-- Questions for neighbours that sockets wait for, one after the other.
use Rattle.std.specs.Prelude.{◌≡◌, ◌≢◌, ◌⊎◌, ℕ, ℤ, pos, ◌+ℤ◌, ◌≤ℤ◌, List, [], ◌∷◌, slice_get, Option, Some}
use Rattle.std.specs.List.{AllByRecursion}
use Rattle.ip_wire.specs.IpAddress.{IpAddress}
use Rattle.iface_ingress.specs.Socket.{Socket}
use Rattle.iface_tables.specs.Inner.{InnerValue}
use Rattle.iface_tables.specs.Neighbor.{silent_time}
use Rattle.iface_egress.specs.declared.socket_set.SocketStorage.{SocketStorage}
use Rattle.interface.specs.Awaited.{awaited_in, next_awaited}
use Rattle.interface.specs.declared.awaited.Awaited.{Awaited}

-- a question for the neighbour whose turn it is: the host and its sockets before it
pub record Round : Type 0 where
  pub host : InnerValue
  pub slots : List (SocketStorage Socket)
  pub asked : Awaited
  pub turn : next_awaited host slots ≡ Some asked

-- A question counts in a later one: where the same neighbour is asked for again, its last request was to be answered a second after that question,
-- or later.
abbrev pub Counts : Round → Round → Type 0
Counts r later =
    later.asked.hop ≡ r.asked.hop → (last : ℤ) × (later.asked.last_request ≡ Some last) × ((r.host.instant +ℤ pos silent_time) ≤ℤ last)

-- each question counts in those after it: nobody who answers is waited for again
abbrev pub AreRounds : List Round → Type 0
AreRounds [] = Unit {0}
AreRounds (r ∷ more) = AllByRecursion (Counts r) more × AreRounds more

abbrev pub IsOneOf : IpAddress → List IpAddress → Type 0
IsOneOf a [] = ⊥
IsOneOf a (b ∷ more) = (a ≡ b) ⊎ IsOneOf a more

-- A socket waits for this neighbour, whose last request, if it was asked for, was to be answered by then; and in its slot another one of these is
-- asked for.
pub record PassesOver (hop : IpAddress) (last : Option ℤ) (hops : List IpAddress) (r : Round) : Type 0 where
  pub n : ℕ
  pub slot : SocketStorage Socket
  pub awaited : Awaited
  pub stands : slice_get r.slots n ≡ Some slot
  pub waits : awaited_in r.host slot ≡ Some awaited
  pub whom : awaited.hop ≡ hop
  pub since : awaited.last_request ≡ last
  pub due : (when : ℤ) → last ≡ Some when → when ≤ℤ r.host.instant
  pub other : r.asked.hop ≢ hop
  pub another : IsOneOf r.asked.hop hops
