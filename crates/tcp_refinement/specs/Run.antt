-- Runs of two sockets: whatever their users, their hosts and the network do, in any order.
use Rattle.std.specs.Prelude.{◌≡◌, ℕ, ◌^◌, ◌<◌, Bool, true, false, List, [], ◌∷◌, ◌++◌, length, take, Some, slice_get}
use Rattle.ip_wire.specs.IpListenEndpoint.{IpListenEndpoint}
use Rattle.ip_wire.specs.IpRepr.{IpRepr}
use Rattle.ip_wire.specs.TcpHeader.{TcpHeader}
use Rattle.net_base.specs.Ring.{Ring}
use Rattle.socket_context.specs.Context.{ContextValue}
use Rattle.tcp_theory.specs.Segment.{Segment}
use Rattle.tcp_theory.specs.Segment.Control.{Rst}
use Rattle.tcp_theory.specs.Side.Opening.{NotYet}
use Rattle.tcp_block.specs.FourTuple.{FourTuple}
use Rattle.tcp_block.specs.Arrival.{arrives}
use Rattle.tcp_block.specs.Calls.{listening, connecting, sent_more, recv_after, close_after, abort_after}
use Rattle.tcp_block.specs.Offers.{offer_of}
use Rattle.tcp_block.specs.Settled.{settled}
use Rattle.tcp_block.specs.States.{is_closed, takes_writes}
use Rattle.tcp_block.specs.Value.{TcpValue}
use Rattle.tcp_refinement.specs.Tie.{Past, no_past, core_of, segment_of}
use Rattle.tcp_refinement.specs.Promises.{AreSafeSockets}
use Rattle.tcp_refinement.specs.History.{listened, called, with_written, with_read, closes_in, closed_by, with_sent, with_answer, with_offer}

-- a socket, and what was seen of it
pub record Seen : Type 0 where
  pub socket : TcpValue
  pub past : Past

pub data Event : Type 0 where
  -- calls of its user that are accepted
  Listens : (endpoint : IpListenEndpoint) → Event
  Connects : (pair : FourTuple) (number : ℕ) → Event
  Sends : (queued : Ring ℕ) (bytes : List ℕ) → Event
  Reads : (count : ℕ) → Event
  Closes : Event
  Aborts : Event
  -- a setting, a refused call, an offer that isn't settled yet: nothing that the tie reads changes
  Changes : (new : TcpValue) → Event
  -- a segment comes, the peer's segment of this index
  Comes : (cx : ContextValue) (ip : IpRepr) (header : TcpHeader) (bytes : List ℕ) (k : ℕ) → Event
  -- it is asked for a segment, and the offer is settled
  Offers : (cx : ContextValue) (sent : Bool) → Event
  -- its host sends a reset for it
  HostResets : (x : Segment) → Event

-- the first OPEN
abbrev pub IsFirstOpen : Seen → Type 0
IsFirstOpen s = (is_closed s.socket.tcb.state ≡ true) × (s.past.opening ≡ NotYet)

-- what the event asks for, of a socket alongside its peer
abbrev pub MayHappen : Seen → Seen → Event → Type 0
MayHappen s t (Listens endpoint) = IsFirstOpen s
MayHappen s t (Connects pair number) = IsFirstOpen s × (number < 2 ^ 32)
MayHappen s t (Sends queued bytes) =
    (takes_writes s.socket.tcb.state ≡ true) × (queued.queue ≡ s.socket.queued.queue ++ bytes) × (length (s.past.written ++ bytes) < 2 ^ 29)
MayHappen s t (Changes new) = core_of new ≡ core_of s.socket
MayHappen s t (Comes cx ip header bytes k) = slice_get t.past.sent k ≡ Some (segment_of header bytes)
MayHappen s t (HostResets x) = x.control ≡ Rst
MayHappen s t other = Unit {0}

abbrev pub seen : TcpValue → Past → Seen
seen socket past = record { socket = socket; past = past }

-- the segment of an offer is sent when it is settled so
abbrev pub offered : Bool → Past → TcpValue → Past
offered true p v = with_offer p v.offered v.queued.queue
offered false p v = p

abbrev pub happens : Seen → Event → Seen
happens s (Listens endpoint) = seen (listening s.socket endpoint) (listened s.past)
happens s (Connects pair number) = seen (connecting s.socket pair number) (called s.past)
happens s (Sends queued bytes) = seen (sent_more s.socket queued) (with_written s.past bytes)
happens s (Reads count) = seen (recv_after s.socket count) (with_read s.past (take count s.socket.received.waiting))
happens s Closes = seen (close_after s.socket) (closed_by (closes_in s.socket.tcb.state) s.past)
happens s Aborts = seen (abort_after s.socket) s.past
happens s (Changes new) = seen new s.past
happens s (Comes cx ip header bytes k) =
    seen (arrives cx s.socket ip header bytes).socket (with_answer s.past (arrives cx s.socket ip header bytes).answer)
happens s (Offers cx sent) = seen (settled sent (offer_of cx s.socket).socket) (offered sent s.past (offer_of cx s.socket).socket)
happens s (HostResets x) = seen s.socket (with_sent s.past x)

-- two sockets, and an event at one of them
pub record Sockets : Type 0 where
  pub a : Seen
  pub b : Seen

pub data Step : Type 0 where
  A : (event : Event) → Step
  B : (event : Event) → Step

abbrev pub May : Sockets → Step → Type 0
May w (A event) = MayHappen w.a w.b event
May w (B event) = MayHappen w.b w.a event

abbrev pub after : Sockets → Step → Sockets
after w (A event) = record w { a = happens w.a event }
after w (B event) = record w { b = happens w.b event }

-- each step may happen where the ones before it have led to
abbrev pub IsRun : Sockets → List Step → Type 0
IsRun w [] = Unit {0}
IsRun w (step ∷ steps) = May w step × IsRun (after w step) steps

abbrev pub run : Sockets → List Step → Sockets
run w [] = w
run w (step ∷ steps) = run (after w step) steps

-- two sockets that weren't opened, with the resets that their hosts sent
abbrev pub start : TcpValue → TcpValue → List Segment → List Segment → Sockets
start v w resets others = record { a = seen v (no_past resets); b = seen w (no_past others) }

-- both streams
abbrev pub AreSafe : Sockets → Type 0
AreSafe w = AreSafeSockets w.a.socket w.a.past w.b.socket w.b.past × AreSafeSockets w.b.socket w.b.past w.a.socket w.a.past
