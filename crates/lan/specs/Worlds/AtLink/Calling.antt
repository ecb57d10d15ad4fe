-- A call of an application, as an event says it.
use Rattle.std.specs.Prelude.{◌≡◌, ℕ, Bool, true, false, if◌then◌else◌, List, slice_set, Option, None, Some}
use Rattle.sockets.specs.Context.{ContextValue}
use Rattle.interface.specs.Host.{HostValue}
use Rattle.interface.specs.Made.{with_inner}
use Rattle.iface_egress.specs.Inner.{context_of, drawn}
use Rattle.iface_egress.specs.Set.{with_socket}
use Rattle.iface_egress.specs.declared.socket_set.Item.{Item}
use Rattle.iface_egress.specs.declared.socket_set.SocketStorage.{SocketStorage}
use Rattle.sockets.specs.declared.socket.Socket.{Socket}
use Rattle.lan.specs.Worlds.AtLink.Call.{SocketCall}
use Rattle.lan.specs.Worlds.AtLink.Tables.{has_call}
use Rattle.lan.specs.declared.at_link.history.record.SocketKind.{SocketKind}
use Rattle.lan.specs.Worlds.AtLink.Kinds.{Kind}
use Rattle.lan.specs.Worlds.AtLink.Kinds.Act.{Calls}
use Rattle.lan.specs.Worlds.AtLink.Kinds.Kind.{OfHost}
use Rattle.lan.specs.Worlds.AtLink.Calls.{Did}
use Rattle.lan.specs.Worlds.AtLink.Answers.{HasTaken}
use Rattle.lan.specs.Worlds.AtLink.Does.{does, draws}
use Rattle.lan.specs.Worlds.AtLink.Node.{kind_at}
use Rattle.lan.specs.declared.at_link.answer.Taken.{Taken}

-- what an event does to a socket, where it is a call that a socket of its kind has
abbrev pub did_by : ContextValue → Socket → Kind → Option (Did Socket)
did_by cx socket (OfHost side (Calls i call)) = does cx socket call
did_by cx socket kind = None

-- whether it draws a random word
abbrev pub draws_by : ContextValue → Socket → Kind → Bool
draws_by cx socket (OfHost side (Calls i call)) = draws cx socket call
draws_by cx socket kind = false

-- AT A PLACE

-- there is a socket, and one of its kind has the call
abbrev pub is_called : Option SocketKind → SocketCall → Bool
is_called None call = false
is_called (Some kind) call = has_call kind call

abbrev pub ItemCalls : HostValue → List (SocketStorage Socket) → ℕ → Kind → Option (Item Socket) → Option Taken → HostValue →
    List (SocketStorage Socket) → Type 0
ItemCalls h ps i kind None said h' ps' = (said ≡ None) × (h' ≡ h) × (ps' ≡ ps)
ItemCalls h ps i kind (Some item) said h' ps' =
    (socket : Socket) × HasTaken (did_by (context_of h.inner) item.socket kind) item.socket said socket
    × (h' ≡ (if draws_by (context_of h.inner) item.socket kind then with_inner h (drawn h.inner) else h))
    × (ps' ≡ slice_set ps i (with_socket item socket))

-- what an event does to the socket at a slot; nothing where the slot is free
abbrev pub SlotCalls : HostValue → List (SocketStorage Socket) → ℕ → Kind → Option (SocketStorage Socket) → Option Taken → HostValue →
    List (SocketStorage Socket) → Type 0
SlotCalls h ps i kind None said h' ps' = (said ≡ None) × (h' ≡ h) × (ps' ≡ ps)
SlotCalls h ps i kind (Some slot) said h' ps' = ItemCalls h ps i kind slot.inner said h' ps'

-- the event is a call of the socket at this slot, and a socket of its kind has it
abbrev pub IsCall : List (SocketStorage Socket) → ℕ → Kind → Type 0
IsCall ps i (OfHost side (Calls j call)) = (j ≡ i) × (is_called (kind_at ps i) call ≡ true)
IsCall ps i kind = ⊥
