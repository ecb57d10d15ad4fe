-- Each event of a socket alongside the peer.
use Rattle.std.proofs.Common.{◌≡◌, inl, inr, ℕ, Bool, true, false, if◌then◌else◌, List, [], ◌∷◌, ◌++◌, length, None, refl, sym, ap, ◌∙◌, subst}
use Rattle.std.proofs.lemmas.Bool.{cond_both}
use Rattle.ip_wire.specs.IpRepr.{IpRepr}
use Rattle.ip_wire.specs.TcpHeader.{TcpHeader}
use Rattle.tcp_block.specs.Context.{ContextValue}
use Rattle.tcp_theory.specs.Alone.{AreResets, unopened}
use Rattle.tcp_theory.specs.Invariant.{HoldsBetween}
use Rattle.tcp_theory.specs.Segment.{Segment}
use Rattle.tcp_theory.specs.Side.{Side}
use Rattle.tcp_block.specs.State.{State}
use Rattle.tcp_block.specs.State.TheVariants as In
use Rattle.tcp_block.specs.Arrival.{arrives, arrives_in, is_void_syn}
use Rattle.tcp_block.specs.Opening.{is_first_syn, answering}
use Rattle.tcp_block.specs.Timeout.{timeout_restarted}
use Rattle.tcp_block.specs.Value.{TcpValue, Arrived, with_tcb, dropped, unoffered}
use Rattle.tcp_refinement.specs.History.{with_answer}
use Rattle.tcp_refinement.specs.Promises.{IsInitial}
use Rattle.tcp_refinement.specs.Run.{Seen}
use Rattle.tcp_refinement.specs.Run as two
use Rattle.tcp_refinement.specs.Run.Event.{Listens, Connects, Sends, Reads, Closes, Aborts, Changes, Comes, Offers, HostResets}
use Rattle.tcp_refinement.specs.Tie.{Past, past_of, no_past, unsent, FitsIn, core_of, segment_of}
use Rattle.tcp_refinement.proofs.ArrivalLaws.{keeps_arrival}
use Rattle.tcp_refinement.proofs.CallLaws.{keeps_listening, keeps_connecting, keeps_read, keeps_close, keeps_abort, keeps_same}
use Rattle.tcp_refinement.proofs.CallMoves.{keeps_writes}
use Rattle.tcp_refinement.proofs.OfferLaws.{keeps_sent_offer, keeps_unsent_offer}
use Rattle.tcp_refinement.proofs.PromiseLemmas.{keeps_reset, initial_fits}
use Rattle.tcp_refinement.proofs.Tied.{is_connected}
use Rattle.tcp_peer.specs.Peer.{End, IsEnd, IsHonest, as_end}
use Rattle.tcp_peer.proofs.Among.{slice_get-last}
use Rattle.tcp_peer.proofs.Shadow.{shadow, Meets, meets_start}
use Rattle.tcp_peer.proofs.Comes.{meets_honest}
use Rattle.proof_stack.specs.PeerHost.SocketRun.{end_in, counts_in, sender_of}
use Rattle.proof_stack.proofs.Peers.Socket.Pinned.{MeetsSocket, socket_step}
use Rattle.proof_stack.proofs.Peers.Socket.Ends.{end_connected, end_asking, syn_to_any, first_syn}
use Rattle.tcp_block.specs.Isn.{isn, draws_number}
use Rattle.tcp_block.specs.Timestamps.{believed}
use Rattle.tcp_block.specs.Endpoints.{pair_in}

pub socket_start : (peer : End) (v : TcpValue) (resets : List Segment) → IsEnd peer → IsInitial v → AreResets resets → MeetsSocket peer v (no_past resets) []
socket_start peer v resets e initial are_resets =
    record {
      side = unopened (length v.received.map) resets;
      past = refl;
      fits = initial_fits v resets initial;
      meets =
          meets_start peer (length v.received.map) resets e are_resets;
    }

-- CALLS, OFFERS, AND WHAT COMES AGAIN

pub socket_does :
    (peer : End) (s : Seen) (came : List Segment) (event : two.Event) → IsEnd peer → two.MayHappen s (sender_of came) event →
    MeetsSocket peer s.socket s.past came
    → MeetsSocket peer (two.happens s event).socket (two.happens s event).past came
socket_does peer s came (Listens endpoint) e may =
    socket_step peer s.socket _ s.past _ came e (λ w q still k. keeps_listening s.socket w s.past q endpoint k may.0 may.1)
socket_does peer s came (Connects pair number) e may =
    socket_step peer s.socket _ s.past _ came e (λ w q still k. keeps_connecting s.socket w s.past q pair number k may.0.0 may.0.1 may.1)
socket_does peer s came (Sends queued bytes) e may =
    socket_step peer s.socket _ s.past _ came e (λ w q still k. keeps_writes s.socket w s.past q queued bytes k may.0 may.1 may.2)
socket_does peer s came (Reads count) e may = socket_step peer s.socket _ s.past _ came e (λ w q still k. keeps_read s.socket w s.past q count k)
socket_does peer s came Closes e may = socket_step peer s.socket _ s.past _ came e (λ w q still k. keeps_close s.socket w s.past q k)
socket_does peer s came Aborts e may = socket_step peer s.socket _ s.past _ came e (λ w q still k. keeps_abort s.socket w s.past q k)
socket_does peer s came (Changes new) e may = socket_step peer s.socket _ s.past _ came e (λ w q still k. keeps_same s.socket new w s.past q may k)
socket_does peer s came (Comes cx ip header bytes slot) e may =
    socket_step peer s.socket _ s.past _ came e
    (λ w q still k. keeps_arrival cx s.socket w s.past q ip header bytes slot k (still slot (segment_of header bytes) may))
socket_does peer s came (Offers cx true) e may = socket_step peer s.socket _ s.past _ came e (λ w q still k. keeps_sent_offer cx s.socket w s.past q k)
socket_does peer s came (Offers cx false) e may = socket_step peer s.socket _ s.past _ came e (λ w q still k. keeps_unsent_offer cx s.socket w s.past q k)
socket_does peer s came (HostResets x) e may = socket_step peer s.socket _ s.past _ came e (λ w q still k. keeps_reset s.socket w s.past q x may k)

-- WHAT COMES

module _ (peer : End) (v : TcpValue) (p : Past) (came : List Segment) (header : TcpHeader) (bytes : List ℕ) (e : IsEnd peer)
    (m : MeetsSocket peer v p came) where
  abbrev x : Segment
  x = segment_of header bytes

  -- honest to the socket, so to the side after it
  to_side :
      (state : State) → v.tcb.state ≡ state → counts_in state header ≡ true → IsHonest peer (end_in state v (past_of m.side)) m.side.sent x → (t : Side) →
      HoldsBetween m.side t
      → IsHonest peer (as_end m.side) m.side.sent x
  to_side In.Closed at counts honest t holds = absurd (cc)
  to_side In.Listen at counts honest t holds =
      let syn = first_syn header bytes counts in
      syn_to_any peer (end_in In.Listen v (past_of m.side)) (as_end m.side) m.side.sent x syn.0 syn.1 honest
  to_side In.SynSent at counts honest t holds =
      subst (λ (this : End). IsHonest peer this m.side.sent x)
      (end_asking v m.side t holds at (subst (λ (state : State). FitsIn state (core_of v) (unsent m.side)) at m.fits)) honest
  to_side state at counts honest t holds =
      let connected : is_connected v.tcb.state ≡ true = ap is_connected at in
      let same = ap (λ (state : State). end_in state v (past_of m.side)) at in
      subst (λ (this : End). IsHonest peer this m.side.sent x) (sym same ∙ end_connected v m.side t holds connected m.fits) honest

  of_side : counts_in v.tcb.state header ≡ true → IsHonest peer (end_in v.tcb.state v p) p.sent x → (t : Side) → HoldsBetween m.side t →
      IsHonest peer (as_end m.side) m.side.sent x
  of_side counts honest t holds =
      to_side v.tcb.state refl counts (subst (λ (q : Past). IsHonest peer (end_in v.tcb.state v q) q.sent x) (sym m.past) honest) t holds

  pub comes_honest : counts_in v.tcb.state header ≡ true → IsHonest peer (end_in v.tcb.state v p) p.sent x → MeetsSocket peer v p (came ++ x ∷ [])
  comes_honest counts honest = record {
    side = m.side;
    past = m.past;
    fits = m.fits;
    meets = meets_honest peer m.side came x e (by m.meets) m.meets;
  } where
    by : Meets peer m.side came → IsHonest peer (as_end m.side) m.side.sent x
    by (inl b) = of_side counts honest (shadow peer [] false b.una b.took b.fin came) b.holds
    by (inr b) = of_side counts honest (shadow peer peer.stream peer.ends b.una b.took b.fin came) b.holds

  -- what is dropped unread changes nothing
  abbrev Stays : Arrived → Type 0
  Stays a = MeetsSocket peer a.socket (with_answer p a.answer) came

  stays : Stays (dropped (unoffered v))
  stays = socket_step peer v (unoffered v) p p came e (λ w q still k. keeps_same v (unoffered v) w p q refl k) m

  pub comes_unread : (cx : ContextValue) (ip : IpRepr) → counts_in v.tcb.state header ≡ false → Stays (arrives cx v ip header bytes)
  comes_unread cx ip unread =
      cond_both (is_void_syn header) (dropped (unoffered v)) (arrives_in v.tcb.state cx (unoffered v) ip header bytes) (λ (a : Arrived). Stays a) (λ _. stays)
      (λ _. by v.tcb.state unread)
    where
      by : (state : State) → counts_in state header ≡ false → Stays (arrives_in state cx (unoffered v) ip header bytes)
      by In.Closed none = stays
      by In.Listen none =
          cond_both (is_first_syn header)
          (record {
            socket =
                with_tcb (unoffered v)
                (timeout_restarted (believed (answering v.tcb ip header (isn cx (pair_in ip header))) cx.instant) cx.instant 0);
            answer = None;
            draws = draws_number cx;
          })
          (dropped (unoffered v)) (λ (a : Arrived). Stays a)
          (λ syn. absurd (let clash : true ≡ false = sym syn ∙ none in cc))
          (λ _. stays)
      by other none = absurd (cc)

pub socket_comes :
    (peer : End) (s : Seen) (came : List Segment) (cx : ContextValue) (ip : IpRepr) (header : TcpHeader) (bytes : List ℕ) → IsEnd peer
    → (counts_in s.socket.tcb.state header ≡ true → IsHonest peer (end_in s.socket.tcb.state s.socket s.past) s.past.sent (segment_of header bytes))
    → MeetsSocket peer s.socket s.past came
    → MeetsSocket peer (arrives cx s.socket ip header bytes).socket (with_answer s.past (arrives cx s.socket ip header bytes).answer)
    (if counts_in s.socket.tcb.state header then came ++ segment_of header bytes ∷ [] else came)
socket_comes peer s came cx ip header bytes e honest m = by (counts_in s.socket.tcb.state header) refl where
  by : (test : Bool) → counts_in s.socket.tcb.state header ≡ test →
      MeetsSocket peer (arrives cx s.socket ip header bytes).socket (with_answer s.past (arrives cx s.socket ip header bytes).answer) (if test then came ++
      segment_of header bytes ∷ [] else came)
  by false unread = comes_unread peer s.socket s.past came header bytes e m cx ip unread
  by true counts =
      let m' = comes_honest peer s.socket s.past came header bytes e m counts (honest counts) in
      socket_step peer s.socket _ s.past _ (came ++ segment_of header bytes ∷ []) e
      (λ w q still k. keeps_arrival cx s.socket w s.past q ip header bytes (length came) k
      (still (length came) (segment_of header bytes) (slice_get-last came (segment_of header bytes))))
      m'
