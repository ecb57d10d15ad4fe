-- A host that is asked too early has nothing to send.
use Rattle.std.specs.Prelude.{◌≡◌, ◌≤ℤ◌, ◌<ℤ◌, ℤ, pos, false, List, [], ◌∷◌, Option, None, Some}
use Rattle.ip_wire.specs.IpAddress.{IpAddress}
use Rattle.iface_tables.specs.Inner.{InnerValue, at_instant, next_hop}
use Rattle.iface_egress.specs.declared.socket_set.Item.{Item}
use Rattle.iface_egress.specs.declared.socket_set.SocketStorage.{SocketStorage}
use Rattle.iface_ingress.specs.Sockets.{settled, IsSameButForSlots}
use Rattle.iface_ingress.specs.Socket.{Socket}
use Rattle.iface_egress.specs.Fragments.{LeftValue}
use Rattle.interface.specs.Host.{Sender}
use Rattle.interface.specs.Instant.{poll_instant}
use Rattle.interface.specs.Pass.{Passed}

-- SAMENESS

-- the same state and queues, whatever padding lies in them, once an open offer is settled as not sent
abbrev pub IsUnchanged : Socket → Socket → Type 0
IsUnchanged s s' = IsSameButForSlots s (settled false s')

abbrev pub IsItemUnchanged : Option (Item Socket) → Option (Item Socket) → Type 0
IsItemUnchanged None None = Unit {0}
IsItemUnchanged (Some item) (Some item') = IsUnchanged item.socket item'.socket
IsItemUnchanged None (Some item') = ⊥
IsItemUnchanged (Some item) None = ⊥

-- slot by slot
abbrev pub AreUnchanged : List (SocketStorage Socket) → List (SocketStorage Socket) → Type 0
AreUnchanged [] [] = Unit {0}
AreUnchanged (p ∷ ps) (p' ∷ ps') = IsItemUnchanged p.inner p'.inner × AreUnchanged ps ps'
AreUnchanged [] (p' ∷ ps') = ⊥
AreUnchanged (p ∷ ps) [] = ⊥

-- QUIET

-- there is no such instant, or it is later
abbrev pub IsEarlier : ℤ → Option ℤ → Type 0
IsEarlier t None = Unit {0}
IsEarlier t (Some instant) = t <ℤ instant

-- every destination has the same next hop at both instants
abbrev pub RoutesStay : InnerValue → ℤ → Type 0
RoutesStay asked t = (address : IpAddress) → next_hop (at_instant t asked) address ≡ next_hop asked address

-- a host that was asked, and is polled later, but before the instant that it answered
pub record IsEarly (asked : InnerValue) (left : Option LeftValue) (ps : List (SocketStorage Socket)) (t : ℤ) : Type 0 where
  pub instant : pos 0 ≤ℤ t
  pub since : asked.instant ≤ℤ t
  pub before : IsEarlier t (poll_instant asked left ps)
  pub routes : RoutesStay asked t

-- Nothing happened but that offers were settled: the device wasn't asked for leave, no socket or queue changed, and the host
-- that was asked would answer the same now.
pub record IsQuiet {D : Type 0} (asked : InnerValue) (s : Sender D) (ps : List (SocketStorage Socket)) (e : Passed D) : Type 0 where
  pub sender : e.sender ≡ s
  pub changed : e.changed ≡ false
  pub due_instant : poll_instant asked s.left e.slots ≡ poll_instant asked s.left ps
