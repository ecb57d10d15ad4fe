-- A socket of datagrams as a value, whatever kind it is of, and what its calls answer and leave.
use Rattle.std.specs.Prelude.{ℕ, nat_lt, nat_le, not, ◌&&◌, Bool, false, if◌then◌else◌, List, [], ◌++◌, length, drop, Option, None, Some, is_some, is_none}
use Rattle.std.specs.Prelude.{Result, Ok, Err, is_ok}
use Rattle.net_base.specs.Packets.{Packets, packets_in, used_offsets, is_full_for, appended, unpadded, first, without_first}
use Rattle.socket_context.specs.Packet.{PacketValue}
use Rattle.socket_context.specs.declared.poll_at.PollAt.{PollAt}
use Rattle.socket_context.specs.declared.poll_at.PollAt.TheVariants as At
use Rattle.socket_datagram.specs.declared.error.RecvError.{RecvError}
use Rattle.socket_datagram.specs.declared.error.RecvError.TheVariants as Recv
use Rattle.socket_datagram.specs.declared.error.SendError.{SendError}
use Rattle.socket_datagram.specs.declared.error.SendError.TheVariants as Send

-- Both queues, in which each datagram has a header, the settings, and the packet of the open offer. That packet takes the
-- first queued datagram.
pub record SocketValue (Header Settings : Type 0) : Type 0 where
  pub received : Packets Header
  pub queued : Packets Header
  pub settings : Settings
  pub offered : Option PacketValue

-- what was answered, but for a count
abbrev pub is_done : {E : Type 0} → Result ℕ E → Result (Unit {0}) E
is_done (Ok n) = Ok tt
is_done (Err e) = Err e

module _ {H : Type 0} where
  -- QUEUES

  abbrev pub has_packets : Packets H → Bool
  has_packets q = is_some (first q)

  -- an entry is left for one more datagram
  abbrev pub has_slots : Packets H → Bool
  has_slots q = not (nat_le q.positions (used_offsets q.packets))

  abbrev pub emptied : Packets H → Packets H
  emptied q = packets_in [] 0 q.positions q.room

  -- with a datagram after the others, which is dropped where the queue is full
  abbrev pub taken_in : Packets H → ℕ → H → List ℕ → Packets H
  taken_in q size header bytes = if is_full_for q size then q else appended q size header bytes

  abbrev pub read_answer_by : Option (H × List ℕ) → ℕ → Result (ℕ × H) RecvError
  read_answer_by None room = Err Recv.Exhausted
  read_answer_by (Some p) room = if nat_lt room (length p.1) then Err Recv.Truncated else Ok (length p.1, p.0)

  -- what is answered where so many bytes of the first datagram can be read
  abbrev pub read_answer : Packets H → ℕ → Result (ℕ × H) RecvError
  read_answer q room = read_answer_by (first q) room

  abbrev pub read_written_by : Option (H × List ℕ) → List ℕ → List ℕ
  read_written_by None slice = slice
  read_written_by (Some p) slice = if nat_lt (length slice) (length p.1) then slice else p.1 ++ drop (length p.1) slice

  -- the slice after the first datagram was read into it
  abbrev pub read_written : Packets H → List ℕ → List ℕ
  read_written q slice = read_written_by (first q) slice

  -- what is left of a queue whose first datagram went, or didn't
  abbrev pub left_by : Bool → Packets H → Packets H
  left_by sent q = if sent then without_first q else q

  -- a socket wants to be polled exactly where a datagram is queued
  abbrev pub due : Packets H → PollAt
  due q = if has_packets q then At.Now else At.Ingress

  -- nothing is queued, and there is room for a datagram of so many bytes
  abbrev pub takes_alone : Packets H → ℕ → Bool
  takes_alone q size = is_none (first q) && not (is_full_for q size)

  -- what a datagram of so many bytes is answered, where its receiver can be addressed or can't
  abbrev pub send_answer_to : Bool → Packets H → ℕ → Result (Unit {0}) SendError
  send_answer_to is_unaddressable q size =
      if is_unaddressable then Err Send.Unaddressable else if is_full_for q size then Err Send.BufferFull else Ok tt

module _ {H S : Type 0} where
  abbrev pub initial : S → Packets H → Packets H → SocketValue H S
  initial settings received queued = record { received = received; queued = queued; settings = settings; offered = None }

  -- what an offer is told: a datagram that was sent leaves its queue, another one stays first
  abbrev pub settled : Bool → SocketValue H S → SocketValue H S
  settled sent v = record v { queued = left_by (sent && is_some v.offered) v.queued; offered = None }

  -- CALLS. Each of them first settles an open offer as not sent.

  abbrev pub with_settings : SocketValue H S → S → SocketValue H S
  with_settings v settings = record v { settings = settings; offered = None }

  abbrev pub can_recv : SocketValue H S → Bool
  can_recv v = has_packets v.received

  abbrev pub can_send : SocketValue H S → Bool
  can_send v = has_slots v.queued

  -- with a datagram after the others, where there was room for so many bytes
  abbrev pub with_queued : SocketValue H S → H → ℕ → List ℕ → SocketValue H S
  with_queued v header size bytes = record v { queued = appended v.queued size header bytes; offered = None }

  -- after an answer to a datagram of these bytes
  abbrev pub sent_after : {E : Type 0} → Result (Unit {0}) E → SocketValue H S → H → List ℕ → SocketValue H S
  sent_after answer v header bytes = if is_ok answer then with_queued v header (length bytes) bytes else settled false v

  abbrev pub recv_answer : SocketValue H S → ℕ → Result (ℕ × H) RecvError
  recv_answer v room = read_answer v.received room

  -- the first datagram is gone, also where it was truncated
  abbrev pub recv_after : SocketValue H S → SocketValue H S
  recv_after v = record v { received = without_first v.received; offered = None }

  abbrev pub recv_written : SocketValue H S → List ℕ → List ℕ
  recv_written v slice = read_written v.received slice

  -- looking at the first datagram drops the padding before it
  abbrev pub peeked : SocketValue H S → SocketValue H S
  peeked v = record v { received = unpadded v.received; offered = None }

  -- a datagram for the socket arrived
  abbrev pub arrived : SocketValue H S → ℕ → H → List ℕ → SocketValue H S
  arrived v size header bytes = record v { received = taken_in v.received size header bytes; offered = None }

  abbrev pub poll_of : SocketValue H S → PollAt
  poll_of v = due v.queued
