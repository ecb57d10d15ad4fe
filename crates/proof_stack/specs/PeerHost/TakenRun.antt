-- A socket alongside a peer that has to be honest only where the socket takes something. What its rules drop, challenge or answer by a reset may
-- say anything, as what is sent for an old connection of the same ends (RFC 9293, 3.5.1); and a listener that fell back begins anew.
use Rattle.std.specs.Prelude.{◌≡◌, ℕ, not, ◌&&◌, ◌||◌, Bool, true, false, if◌then◌else◌, List, [], ◌∷◌, ◌++◌, length, None, is_some}
use Rattle.ip_wire.specs.TcpHeader.{TcpHeader}
use Rattle.tcp_theory.specs.ReceiveMap.{space}
use Rattle.tcp_theory.specs.Segment.{Segment}
use Rattle.tcp_theory.specs.Side.Opening.{Passive}
use Rattle.tcp_block.specs.Context.{ContextValue}
use Rattle.tcp_block.specs.State.{State}
use Rattle.tcp_block.specs.State.TheVariants as In
use Rattle.tcp_block.specs.Arrival.{is_before_window, is_void_syn, challenges_first}
use Rattle.tcp_block.specs.Checks.{Check, acknowledgement_check, is_in_window}
use Rattle.tcp_block.specs.Checks.Check.{Passes, Old}
use Rattle.tcp_block.specs.Controls.{is_syn, is_rst}
use Rattle.tcp_block.specs.Opening.{is_first_syn, acks_syn}
use Rattle.tcp_block.specs.Value.{TcpValue, free_in}
use Rattle.tcp_refinement.specs.Run.{seen}
use Rattle.tcp_refinement.specs.Tie.{Past, segment_of}
use Rattle.tcp_peer.specs.Peer.{End, IsHonest}
use Rattle.proof_stack.specs.PeerHost.SocketRun.{Meeting, Event, end_in}
use Rattle.proof_stack.specs.PeerHost.SocketRun as whole
use Rattle.proof_stack.specs.PeerHost.SocketRun.Event.{Comes}

-- WHAT IS TAKEN OF A SEGMENT

-- from SYN-RECEIVED on: its acknowledgement, where that passes and the segment lies in the window or just before; its bytes and its FIN in the
-- window
abbrev pub is_taken_by : Check → TcpValue → TcpHeader → ℕ → Bool
is_taken_by (Passes by) v header size =
    if is_in_window v.tcb (free_in v) header size then not (is_syn header.control) else is_before_window v header size
is_taken_by Old v header size = is_in_window v.tcb (free_in v) header size
is_taken_by other v header size = false

-- in LISTEN a SYN without ACK; in SYN-SENT such a SYN, or one that acknowledges ISS + 1; later neither a reset nor what is challenged
abbrev pub is_taken_in : State → ContextValue → TcpValue → TcpHeader → ℕ → Bool
is_taken_in In.Closed cx v header size = false
is_taken_in In.Listen cx v header size = is_first_syn header
is_taken_in In.SynSent cx v header size =
    is_syn header.control && (not (is_some header.ack_number) || acks_syn v.tcb.sender.una header.ack_number)
is_taken_in other cx v header size =
    not (is_rst header.control)
    && (not (challenges_first v.tcb header cx.instant) && is_taken_by (acknowledgement_check v.tcb header.ack_number) v header size)

abbrev pub is_taken : ContextValue → TcpValue → TcpHeader → ℕ → Bool
is_taken cx v header size = not (is_void_syn header) && is_taken_in v.tcb.state cx v header size

-- RUNS

abbrev pub MayHappen : End → Meeting → Event → Type 0
MayHappen peer w (Comes cx ip header bytes) =
    is_taken cx w.here.socket header (length bytes) ≡ true
    → IsHonest peer (end_in w.here.socket.tcb.state w.here.socket w.here.past) w.here.past.sent (segment_of header bytes)
MayHappen peer w event = whole.MayHappen peer w event

-- of what came that alone counts which was taken
abbrev pub happens : Meeting → Event → Meeting
happens w (Comes cx ip header bytes) = record {
  here = (whole.happens w (Comes cx ip header bytes)).here;
  came = if is_taken cx w.here.socket header (length bytes) then w.came ++ segment_of header bytes ∷ [] else w.came;
}
happens w event = whole.happens w event

abbrev pub IsTakenRun : End → Meeting → List Event → Type 0
IsTakenRun peer w [] = Unit {0}
IsTakenRun peer w (event ∷ events) = MayHappen peer w event × IsTakenRun peer (happens w event) events

abbrev pub run : Meeting → List Event → Meeting
run w [] = w
run w (event ∷ events) = run (happens w event) events

-- A LISTENER

-- in LISTEN, with nothing queued or held, as `listen` leaves it
pub record IsListener (v : TcpValue) : Type 0 where
  pub state : v.tcb.state ≡ In.Listen
  pub unnamed : v.tcb.names.pair ≡ None
  pub waiting : v.received.waiting ≡ []
  pub map : v.received.map ≡ space (length v.received.map)
  pub queue : v.queued.queue ≡ []
  pub unfinished : v.tcb.receiver.took_fin ≡ false

-- nothing was written, read or sent since it listens, but resets
abbrev pub listened : List Segment → Past
listened resets = record { opening = Passive; written = []; read = []; closed = false; sent = resets }

-- whatever it was before
abbrev pub anew : TcpValue → List Segment → Meeting
anew v resets = record { here = seen v (listened resets); came = [] }
