-- A socket as a value.
use Rattle.std.specs.Prelude.{ℕ, ◌+◌, Bool, false, List, [], length, Option, Some, None}
use Rattle.net_base.specs.Ring.{Ring, cleared}
use Rattle.tcp_ranges.specs.ReceiveMap.{space}
use Rattle.tcp_block.specs.TcbRules.{initial_tcb, forgotten, default_settings, window_field, announced}
use Rattle.tcp_block.specs.declared.tcb.Tcb.{Tcb}
use Rattle.tcp_state.specs.declared.offer.OpenOffer.{OpenOffer}
use Rattle.tcp_state.specs.declared.offer.Reply.{Reply}

-- The receive buffer: the bytes that wait to be read; the receive map after them, one entry for each free offset from RCV.NXT
-- on, so its length is RCV.WND; and where in the storage the first byte that waits stands.
pub record Received : Type 0 where
  pub waiting : List ℕ
  pub map : List (Option ℕ)
  pub start : ℕ

-- The TCB, the receive buffer, the send ring, whose queue begins at the first byte that isn't acknowledged, and the
-- offer that isn't settled.
pub record TcpValue : Type 0 where
  pub tcb : Tcb
  pub received : Received
  pub queued : Ring ℕ
  pub offered : Option OpenOffer

-- what a segment that comes leads to: the socket after it, the segment that answers it, and whether a random word was drawn
pub record Arrived : Type 0 where
  pub socket : TcpValue
  pub answer : Option Reply
  pub draws : Bool

abbrev pub received_of : List ℕ → List (Option ℕ) → ℕ → Received
received_of waiting map start = record { waiting = waiting; map = map; start = start }

-- how many bytes a receive buffer holds at most
abbrev pub room_of : Received → ℕ
room_of r = length r.waiting + length r.map

-- nothing waits and nothing is held
abbrev pub emptied : Received → Received
emptied r = received_of [] (space (room_of r)) 0

-- a socket with a receive buffer of this capacity and this send ring, before its OPEN
abbrev pub new_socket : ℕ → Ring ℕ → TcpValue
new_socket capacity queued = record {
  tcb = initial_tcb default_settings;
  received = received_of [] (space capacity) 0;
  queued = cleared queued;
  offered = None;
}

abbrev pub with_tcb : TcpValue → Tcb → TcpValue
with_tcb v tcb = record v { tcb = tcb }

-- an offer that isn't settled counts as not sent
abbrev pub unoffered : TcpValue → TcpValue
unoffered v = record v { offered = None }

-- CLOSED, with the endpoints forgotten; both queues and a FIN that was taken stay
abbrev pub ended : TcpValue → TcpValue
ended v = with_tcb v (forgotten v.tcb)

-- both queues emptied, and all of an earlier connection dropped
abbrev pub opened : TcpValue → Tcb → TcpValue
opened v tcb = record { tcb = tcb; received = emptied v.received; queued = cleared v.queued; offered = None }

-- the length of the send queue
abbrev pub queued_in : TcpValue → ℕ
queued_in v = length v.queued.queue

-- RCV.WND
abbrev pub free_in : TcpValue → ℕ
free_in v = length v.received.map

-- the window field of its segments, but of a SYN
abbrev pub window_of : TcpValue → ℕ
window_of v = window_field v.tcb (room_of v.received) (announced v.tcb (room_of v.received) (free_in v) (length v.received.waiting))

-- nothing comes of it
abbrev pub dropped : TcpValue → Arrived
dropped v = record { socket = v; answer = None; draws = false }

abbrev pub answered_with : TcpValue → Reply → Arrived
answered_with v reply = record { socket = v; answer = Some reply; draws = false }
