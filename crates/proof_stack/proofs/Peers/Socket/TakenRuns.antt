-- Each run of a socket alongside a peer that is honest of what the socket takes, and a listener that begins anew.
use Rattle.std.proofs.Common.{◌≡◌, ℕ, not, Bool, true, false, if◌then◌else◌, List, [], ◌∷◌, ◌++◌, length, refl, sym, subst}
use Rattle.std.proofs.lemmas.Bool.{and_parts}
use Rattle.ip_wire.specs.IpRepr.{IpRepr}
use Rattle.ip_wire.specs.TcpHeader.{TcpHeader}
use Rattle.tcp_block.specs.Context.{ContextValue}
use Rattle.tcp_theory.specs.Alone.{AreResets, unopened}
use Rattle.tcp_theory.specs.Move.{listening}
use Rattle.tcp_theory.specs.Move.Move.{Listens as SideListens}
use Rattle.tcp_theory.specs.Segment.{Segment}
use Rattle.tcp_block.specs.State.{State}
use Rattle.tcp_block.specs.State.TheVariants as In
use Rattle.tcp_block.specs.Arrival.{arrives, is_void_syn}
use Rattle.tcp_block.specs.Value.{TcpValue}
use Rattle.tcp_refinement.specs.History.{with_answer}
use Rattle.tcp_refinement.specs.Promises.{IsInitial}
use Rattle.tcp_refinement.specs.Run.{Seen}
use Rattle.tcp_refinement.specs.Tie.{Past, unsent, FitsIn, IsListening, core_of, segment_of}
use Rattle.tcp_refinement.proofs.AnsweredLaws.{keeps_listen, keeps_connect, keeps_send}
use Rattle.tcp_refinement.proofs.ArrivalLaws.{keeps_arrival}
use Rattle.tcp_peer.specs.Peer.{End, IsEnd, IsHonest}
use Rattle.tcp_peer.proofs.Among.{slice_get-last}
use Rattle.tcp_peer.proofs.Shadow.{meets_move, meets_start}
use Rattle.proof_stack.specs.PeerHost.SocketRun.{Meeting, Event, IsSafeBeside, counts_in, end_in, start}
use Rattle.proof_stack.specs.PeerHost.SocketRun.Event.{Comes, Listens, Connects, Sends, Does}
use Rattle.proof_stack.specs.PeerHost.TakenRun.{is_taken_in, is_taken, MayHappen, happens, IsTakenRun, run, IsListener, listened, anew}
use Rattle.proof_stack.proofs.Peers.Socket.Pinned.{MeetsSocket, socket_step}
use Rattle.proof_stack.proofs.Peers.Socket.Runs.{socket_safe}
use Rattle.proof_stack.proofs.Peers.Socket.Steps.{socket_start, socket_does, comes_honest}
use Rattle.proof_stack.proofs.Peers.Socket.Untaken.{keeps_untaken}

-- what is taken counts
taken_counts : (state : State) (cx : ContextValue) (v : TcpValue) (header : TcpHeader) (size : ℕ) → is_taken_in state cx v header size ≡ true →
    counts_in state header ≡ true
taken_counts In.Closed cx v header size e = absurd (cc)
taken_counts In.Listen cx v header size e = e
taken_counts In.SynSent cx v header size e = refl
taken_counts other cx v header size e = refl

socket_takes :
    (peer : End) (s : Seen) (came : List Segment) (cx : ContextValue) (ip : IpRepr) (header : TcpHeader) (bytes : List ℕ) → IsEnd peer
    → (is_taken cx s.socket header (length bytes) ≡ true
    → IsHonest peer (end_in s.socket.tcb.state s.socket s.past) s.past.sent (segment_of header bytes))
    → MeetsSocket peer s.socket s.past came
    → MeetsSocket peer (arrives cx s.socket ip header bytes).socket (with_answer s.past (arrives cx s.socket ip header bytes).answer)
    (if is_taken cx s.socket header (length bytes) then came ++ segment_of header bytes ∷ [] else came)
socket_takes peer s came cx ip header bytes e honest m = by (is_taken cx s.socket header (length bytes)) refl where
  by : (test : Bool) → is_taken cx s.socket header (length bytes) ≡ test →
      MeetsSocket peer (arrives cx s.socket ip header bytes).socket (with_answer s.past (arrives cx s.socket ip header bytes).answer) (if test then came ++
      segment_of header bytes ∷ [] else came)
  by false none = socket_step peer s.socket _ s.past _ came e (λ w q still k. keeps_untaken cx s.socket w s.past q ip header bytes none k) m
  by true takes =
      let parts = and_parts (not (is_void_syn header)) (is_taken_in s.socket.tcb.state cx s.socket header (length bytes)) takes in
      let counts = taken_counts s.socket.tcb.state cx s.socket header (length bytes) parts.1 in
      let m' = comes_honest peer s.socket s.past came header bytes e m counts (honest takes) in
      socket_step peer s.socket _ s.past _ (came ++ segment_of header bytes ∷ []) e
      (λ w q still k. keeps_arrival cx s.socket w s.past q ip header bytes (length came) k
      (still (length came) (segment_of header bytes) (slice_get-last came (segment_of header bytes))))
      m'

meets_event : (peer : End) (w : Meeting) (event : Event) → IsEnd peer → MayHappen peer w event → MeetsSocket peer w.here.socket w.here.past w.came →
    MeetsSocket peer (happens w event).here.socket (happens w event).here.past (happens w event).came
meets_event peer w (Comes cx ip header bytes) e may m = socket_takes peer w.here w.came cx ip header bytes e may m
meets_event peer w (Listens endpoint) e may m =
    socket_step peer w.here.socket _ w.here.past _ w.came e (λ v q still k. keeps_listen w.here.socket v w.here.past q endpoint k may) m
meets_event peer w (Connects cx remote local) e may m =
    socket_step peer w.here.socket _ w.here.past _ w.came e (λ v q still k. keeps_connect cx w.here.socket v w.here.past q remote local k may) m
meets_event peer w (Sends bytes) e may m =
    socket_step peer w.here.socket _ w.here.past _ w.came e (λ v q still k. keeps_send w.here.socket v w.here.past q bytes k may) m
meets_event peer w (Does event) e may m = socket_does peer w.here w.came event e may m

meets_run : (peer : End) (w : Meeting) (events : List Event) → IsEnd peer → IsTakenRun peer w events → MeetsSocket peer w.here.socket w.here.past w.came →
    MeetsSocket peer (run w events).here.socket (run w events).here.past (run w events).came
meets_run peer w [] e is_run m = m
meets_run peer w (event ∷ events) e is_run m = meets_run peer (happens w event) events e is_run.1 (meets_event peer w event e is_run.0 m)

-- FROM NEW

abbrev SafeAt : End → Meeting → Type 0
SafeAt peer w = IsSafeBeside peer w.here.socket w.here.past w.came

safe_at : (peer : End) (w : Meeting) → IsEnd peer → MeetsSocket peer w.here.socket w.here.past w.came → SafeAt peer w
safe_at peer w e m = socket_safe peer w.here.socket w.here.past w.came e m

module _ (peer : End) (v : TcpValue) (resets : List Segment) (events : List Event) (e : IsEnd peer) (are_resets : AreResets resets) where
  module _ (initial : IsInitial v) (is_run : IsTakenRun peer (start v resets) events) where
    new_meets : MeetsSocket peer (run (start v resets) events).here.socket (run (start v resets) events).here.past (run (start v resets) events).came
    new_meets = meets_run peer (start v resets) events e is_run (socket_start peer v resets e initial are_resets)

    pub taken_safe : SafeAt peer (run (start v resets) events)
    taken_safe = safe_at peer (run (start v resets) events) e new_meets

  -- FROM LISTEN

  anew_fits : IsListener v → IsListening (core_of v) (unsent (record (listening (length v.received.map)) { sent = resets }))
  anew_fits l = record {
    side = refl;
    blank = record { waiting = l.waiting; map = l.map; queue = l.queue; unfinished = l.unfinished };
    unnamed = l.unnamed;
  }

  anew_start : IsListener v → MeetsSocket peer v (listened resets) []
  anew_start l = record {
    side = record (listening (length v.received.map)) { sent = resets };
    past = refl;
    fits =
        subst (λ (state : State). FitsIn state (core_of v) (unsent (record (listening (length v.received.map)) { sent = resets }))) (sym l.state)
        (anew_fits l);
    meets =
        meets_move peer (unopened (length v.received.map) resets) [] SideListens (meets_start peer (length v.received.map) resets e are_resets) refl;
  }

  module _ (listener : IsListener v) (is_run : IsTakenRun peer (anew v resets) events) where
    anew_meets : MeetsSocket peer (run (anew v resets) events).here.socket (run (anew v resets) events).here.past (run (anew v resets) events).came
    anew_meets = meets_run peer (anew v resets) events e is_run (anew_start listener)

    pub anew_safe : SafeAt peer (run (anew v resets) events)
    anew_safe = safe_at peer (run (anew v resets) events) e anew_meets

-- BACK IN LISTEN

back_in_listen : (peer : End) (v : TcpValue) (p : Past) (came : List Segment) → MeetsSocket peer v p came → v.tcb.state ≡ In.Listen → IsListener v
back_in_listen peer v p came m at =
    let l : IsListening (core_of v) (unsent m.side) = subst (λ (state : State). FitsIn state (core_of v) (unsent m.side)) at m.fits in
    record { state = at; unnamed = l.unnamed; waiting = l.blank.waiting; map = l.blank.map; queue = l.blank.queue; unfinished = l.blank.unfinished }

pub listens_again :
    (peer : End) (v : TcpValue) (resets : List Segment) (events : List Event) → IsEnd peer → IsInitial v → AreResets resets
    → IsTakenRun peer (start v resets) events → (run (start v resets) events).here.socket.tcb.state ≡ In.Listen
    → IsListener (run (start v resets) events).here.socket
listens_again peer v resets events e initial are_resets is_run =
    let end = run (start v resets) events in
    back_in_listen peer end.here.socket end.here.past end.came (new_meets peer v resets events e are_resets initial is_run)

pub listens_again_anew :
    (peer : End) (v : TcpValue) (resets : List Segment) (events : List Event) → IsEnd peer → IsListener v → AreResets resets
    → IsTakenRun peer (anew v resets) events → (run (anew v resets) events).here.socket.tcb.state ≡ In.Listen
    → IsListener (run (anew v resets) events).here.socket
listens_again_anew peer v resets events e listener are_resets is_run =
    let end = run (anew v resets) events in
    back_in_listen peer end.here.socket end.here.past end.came (anew_meets peer v resets events e are_resets listener is_run)
