-- What a socket is asked to wait for.
use Rattle.std.specs.Prelude.{◌≡◌, List, Option, Some, None}
use Rattle.std.specs.List.{AllByRecursion}
use Rattle.iface_ingress.specs.Socket.{Socket}
use Rattle.iface_ingress.specs.Socket.TheVariants as Kind
use Rattle.iface_egress.specs.declared.socket_set.Item.{Item}
use Rattle.iface_egress.specs.declared.socket_set.SocketStorage.{SocketStorage}

-- The user timeout of a connection isn't 0. One of 0 ends as it begins: the first offer begins it in silence, and the next one, at the
-- same instant, ends the connection.
abbrev pub IsPatient : Socket → Type 0
IsPatient (Kind.Tcp v) = v.tcb.settings.timeout ≡ Some 0 → ⊥
IsPatient s = Unit {0}

abbrev pub IsItemPatient : Option (Item Socket) → Type 0
IsItemPatient None = Unit {0}
IsItemPatient (Some item) = IsPatient item.socket

-- each socket of a set
abbrev pub ArePatient : List (SocketStorage Socket) → Type 0
ArePatient slots = AllByRecursion (λ slot. IsItemPatient slot.inner) slots
