-- A socket alongside a conforming peer: which end of the connection it is, its runs with whatever comes, and what is promised of them.
use Rattle.std.specs.Prelude.{◌≡◌, ◌⊎◌, ℕ, suc, ◌+◌, ◌-◌, ◌%◌, ◌^◌, ◌<◌, Bool, true, false, if◌then◌else◌, List, [], ◌∷◌, ◌++◌, length}
use Rattle.std.specs.List.{AllByRecursion}
use Rattle.ip_wire.specs.IpEndpoint.{IpEndpoint}
use Rattle.ip_wire.specs.IpListenEndpoint.{IpListenEndpoint}
use Rattle.ip_wire.specs.IpRepr.{IpRepr}
use Rattle.ip_wire.specs.TcpHeader.{TcpHeader}
use Rattle.net_base.specs.Ring.{ring}
use Rattle.tcp_block.specs.Context.{ContextValue}
use Rattle.tcp_theory.specs.Safe.{IsPrefixOf}
use Rattle.tcp_theory.specs.Segment.{Segment}
use Rattle.tcp_theory.specs.Side.{one_if}
use Rattle.tcp_theory.specs.Side.Opening.{NotYet, Passive, Active}
use Rattle.tcp_block.specs.State.{State}
use Rattle.tcp_block.specs.State.TheVariants as In
use Rattle.tcp_block.specs.Arrival.{arrives}
use Rattle.tcp_block.specs.Calls.{listen_after, connect_after, send_answer, send_after}
use Rattle.tcp_block.specs.Opening.{is_first_syn}
use Rattle.tcp_block.specs.States.{owes_fin}
use Rattle.tcp_block.specs.Value.{TcpValue, new_socket}
use Rattle.tcp_refinement.specs.History.{with_answer, with_written, listen_opens, connect_opens, opened_by, bytes_taken}
use Rattle.tcp_refinement.specs.Promises.{read_or_waiting}
use Rattle.tcp_refinement.specs.Run.{Seen, seen}
use Rattle.tcp_refinement.specs.Run as two
use Rattle.tcp_refinement.specs.Tie.{Past, no_past, segment_of}
use Rattle.tcp_peer.specs.Peer.{End, IsHonest, HasAckedTo}

-- THE END THAT IT IS

-- ISS: SND.UNA, less its SYN, its bytes and its FIN as far as they are acknowledged
abbrev pub first_of : TcpValue → Past → ℕ
first_of v p =
    2 ^ 32
    + (v.tcb.sender.una.0
    + (one_if v.tcb.sender.syn_unacked + length v.queued.queue + one_if (owes_fin v.tcb.state))
    + (2 ^ 32 - (1 + length p.written + one_if p.closed)))
    % 2 ^ 32

-- IRS: RCV.NXT, less the SYN, the bytes and the FIN that it took
abbrev pub heard_of : TcpValue → Past → ℕ
heard_of v p =
    2 ^ 32
    + (v.tcb.receiver.next.0 + (2 ^ 32 - (1 + length (read_or_waiting p v) + one_if v.tcb.receiver.took_fin))) % 2 ^ 32

-- what it has written so far is its stream so far; it took no SYN before SYN-RECEIVED
abbrev pub end_in : State → TcpValue → Past → End
end_in In.Listen v p = record { first = first_of v p; stream = p.written; ends = p.closed; heard = 0 }
end_in In.SynSent v p = record { first = first_of v p; stream = p.written; ends = p.closed; heard = 0 }
end_in other v p = record { first = first_of v p; stream = p.written; ends = p.closed; heard = heard_of v p }

-- RUNS

-- a socket with what was seen of it, and each segment that came and counted, in order
pub record Meeting : Type 0 where
  pub here : Seen
  pub came : List Segment

-- what comes in CLOSED is dropped unread, and in LISTEN all but a SYN without ACK
abbrev pub counts_in : State → TcpHeader → Bool
counts_in In.Closed header = false
counts_in In.Listen header = is_first_syn header
counts_in other header = true

pub data Event : Type 0 where
  -- a segment comes, whoever sent it
  Comes : (cx : ContextValue) (ip : IpRepr) (header : TcpHeader) (bytes : List ℕ) → Event
  -- listen, connect and send, as they are answered
  Listens : (endpoint : IpListenEndpoint) → Event
  Connects : (cx : ContextValue) (remote : IpEndpoint) (local : IpListenEndpoint) → Event
  Sends : (bytes : List ℕ) → Event
  -- any other call, an offer with its settling, a reset of its host; or a segment that came arrives again
  Does : (event : two.Event) → Event

-- of a peer the events of a socket see only what it sent
abbrev pub sender_of : List Segment → Seen
sender_of came = seen (new_socket 0 (ring [] [] 0)) (no_past came)

-- each segment that counts is this peer's, which is honest
abbrev pub MayHappen : End → Meeting → Event → Type 0
MayHappen peer w (Comes cx ip header bytes) =
    counts_in w.here.socket.tcb.state header ≡ true
    → IsHonest peer (end_in w.here.socket.tcb.state w.here.socket w.here.past) w.here.past.sent (segment_of header bytes)
MayHappen peer w (Listens endpoint) = listen_opens w.here.socket endpoint ≡ true → w.here.past.opening ≡ NotYet
MayHappen peer w (Connects cx remote local) = connect_opens cx w.here.socket remote local ≡ true → w.here.past.opening ≡ NotYet
MayHappen peer w (Sends bytes) = length (w.here.past.written ++ bytes_taken (send_answer w.here.socket (length bytes)) bytes) < 2 ^ 29
MayHappen peer w (Does event) = two.MayHappen w.here (sender_of w.came) event

abbrev pub happens : Meeting → Event → Meeting
happens w (Comes cx ip header bytes) = record {
  here = seen (arrives cx w.here.socket ip header bytes).socket (with_answer w.here.past (arrives cx w.here.socket ip header bytes).answer);
  came = if counts_in w.here.socket.tcb.state header then w.came ++ segment_of header bytes ∷ [] else w.came;
}
happens w (Listens endpoint) =
    record w { here = seen (listen_after w.here.socket endpoint) (opened_by Passive (listen_opens w.here.socket endpoint) w.here.past) }
happens w (Connects cx remote local) =
    record w {
      here = seen (connect_after cx w.here.socket remote local) (opened_by Active (connect_opens cx w.here.socket remote local) w.here.past);
    }
happens w (Sends bytes) =
    record w {
      here = seen (send_after w.here.socket bytes) (with_written w.here.past (bytes_taken (send_answer w.here.socket (length bytes)) bytes));
    }
happens w (Does event) = record w { here = two.happens w.here event }

abbrev pub IsRun : End → Meeting → List Event → Type 0
IsRun peer w [] = Unit {0}
IsRun peer w (event ∷ events) = MayHappen peer w event × IsRun peer (happens w event) events

abbrev pub run : Meeting → List Event → Meeting
run w [] = w
run w (event ∷ events) = run (happens w event) events

-- a socket that wasn't opened, with resets that its host sent for it
abbrev pub start : TcpValue → List Segment → Meeting
start v resets = record { here = seen v (no_past resets); came = [] }

-- PROMISES

-- its segments say what is so of an end that its user's bytes are the stream of
pub record IsHonestEnd (peer : End) (p : Past) (came : List Segment) : Type 0 where
  pub this : End
  pub stream : this.stream ≡ p.written
  pub ends : this.ends ≡ p.closed
  pub honest : AllByRecursion (IsHonest this peer came) p.sent

pub record IsSafeBeside (peer : End) (v : TcpValue) (p : Past) (came : List Segment) : Type 0 where
  -- what was read and waits begins what the peer writes
  pub prefix : IsPrefixOf (read_or_waiting p v) peer.stream
  -- a FIN that was taken means that the peer's stream ends, and that all of it was taken in
  pub finished : v.tcb.receiver.took_fin ≡ true → (peer.ends ≡ true) × (read_or_waiting p v ≡ peer.stream)
  -- only bytes that the peer acknowledged have left the send queue
  pub freed : (length p.written - length v.queued.queue ≡ 0) ⊎ HasAckedTo peer came (suc peer.heard + (length p.written - length v.queued.queue))
  -- it is a conforming peer, too
  pub honest : IsHonestEnd peer p came
