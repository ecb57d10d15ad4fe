-- What a host answers that is asked when it wants to be polled.
use Rattle.std.specs.Prelude.{◌≡◌, ℤ, ◌≤ℤ◌, List, Option, Some, None}
use Rattle.std.specs.List.{AllByRecursion}
use Rattle.iface_egress.specs.Meta.{unmarked}
use Rattle.iface_egress.specs.declared.socket_set.Item.{Item}
use Rattle.iface_egress.specs.declared.socket_set.SocketStorage.{SocketStorage}
use Rattle.iface_ingress.specs.Socket.{Socket}

-- no later than the instant at which a host wants to be polled, if it does at all
abbrev pub IsByThen : ℤ → Option ℤ → Type 0
IsByThen instant None = Unit {0}
IsByThen instant (Some at) = instant ≤ℤ at

-- NO NEIGHBOR IS WAITED FOR

-- the socket isn't marked as one that waits for a neighbor
abbrev pub IsUnmarked : Option (Item Socket) → Type 0
IsUnmarked None = Unit {0}
IsUnmarked (Some item) = item.meta ≡ unmarked

abbrev pub AreUnmarked : List (SocketStorage Socket) → Type 0
AreUnmarked slots = AllByRecursion (λ slot. IsUnmarked slot.inner) slots
