-- The lines of a script, and the event that each names.
use Rattle.std.specs.Prelude.{◌≡◌, ℕ, ◌==◌, Bool, true, false, if◌then◌else◌, List, [], ◌∷◌, Option, None, Some}
use Rattle.lan.specs.declared.at_link.history.event.Side as host_side
use Rattle.lan.specs.declared.at_link.history.event.Side.TheVariants as Host
use Rattle.lan.specs.declared.at_link.history.event.Event.{Event}
use Rattle.lan.specs.declared.at_link.history.event.Event.TheVariants as E
use Rattle.sim_link.specs.Lines.{SaysLine}
use Rattle.sim_link.specs.declared.kinds.Side.{Side}
use Rattle.sim_link.specs.declared.kinds.Side.TheVariants.{A, B}
use Rattle.sim_link.specs.declared.line.Line.{Line}
use Rattle.sim_link.specs.declared.line.Line.TheVariants.{World, Socket, Start, Listen, Connect, Send, Recv, Close, Abort, State, Bind, Ident, SendTo}
use Rattle.sim_link.specs.declared.line.Line.TheVariants.{SendIcmp, SendRaw, RecvFrom, Addrs, Hw, Route, Poll, PollAt, Deliver, Damage, Noise, Room, Cut}

-- LINES

-- the lines of a script: a line ends at the byte 0a, and the last may end without it
abbrev pub onto_line : ℕ → List (List ℕ) → List (List ℕ)
onto_line byte [] = (byte ∷ []) ∷ []
onto_line byte (line ∷ lines) = (byte ∷ line) ∷ lines

abbrev pub lines_of : List ℕ → List (List ℕ)
lines_of [] = []
lines_of (byte ∷ bytes) = if byte == 10 then [] ∷ lines_of bytes else onto_line byte (lines_of bytes)

-- what a line says, if it says anything
abbrev pub Said : List ℕ → Option Line → Type 0
Said text (Some line) = SaysLine text line
Said text None = (line : Line) → SaysLine text line → ⊥

-- EVENTS

abbrev pub side_of : Side → host_side.Side
side_of A = Host.A
side_of B = Host.B

-- the event that a line names; a line of the header names none
abbrev pub event_of : Line → Option Event
event_of (World medium mtu) = None
event_of (Socket h spec) = None
event_of Start = None
event_of (Listen h s port) = Some (E.Listen (side_of h) s port)
event_of (Connect h s remote port) = Some (E.Connect (side_of h) s remote port)
event_of (Send h s bytes) = Some (E.Send (side_of h) s bytes)
event_of (Recv h s limit) = Some (E.Recv (side_of h) s limit)
event_of (Close h s) = Some (E.Close (side_of h) s)
event_of (Abort h s) = Some (E.Abort (side_of h) s)
event_of (State h s) = Some (E.State (side_of h) s)
event_of (Bind h s port) = Some (E.Bind (side_of h) s port)
event_of (Ident h s ident) = Some (E.Ident (side_of h) s ident)
event_of (SendTo h s remote bytes) = Some (E.SendTo (side_of h) s remote bytes)
event_of (SendIcmp h s remote bytes) = Some (E.SendIcmp (side_of h) s remote bytes)
event_of (SendRaw h s bytes) = Some (E.SendRaw (side_of h) s bytes)
event_of (RecvFrom h s limit) = Some (E.RecvFrom (side_of h) s limit)
event_of (Addrs h blocks) = Some (E.Addrs (side_of h) (record { items = blocks }))
event_of (Hw h address) = Some (E.HardwareAddr (side_of h) address)
event_of (Route h router) = Some (E.Route (side_of h) router)
event_of (Poll h instant budget) = Some (E.Poll (side_of h) instant budget)
event_of (PollAt h instant) = Some (E.PollAt (side_of h) instant)
event_of (Deliver h k padding) = Some (E.Deliver (side_of h) k padding)
event_of (Damage h k slot word padding) = Some (E.Damage (side_of h) k slot word padding)
event_of (Noise h bytes) = Some (E.Noise (side_of h) bytes)
event_of (Room h room) = Some (E.Room (side_of h) room)
event_of (Cut h k at) = Some (E.Cut (side_of h) k at)

-- whether a line names bytes, which take memory before the world is asked
abbrev pub has_bytes : Line → Bool
has_bytes (Send h s bytes) = true
has_bytes (SendTo h s remote bytes) = true
has_bytes (SendIcmp h s remote bytes) = true
has_bytes (SendRaw h s bytes) = true
has_bytes (Deliver h k padding) = true
has_bytes (Damage h k slot word padding) = true
has_bytes (Noise h bytes) = true
has_bytes _ = false
