-- Each run of a socket alongside the peer, and what it promises.
use Rattle.std.proofs.Common.{◌≡◌, ◌⊎◌, inl, inr, ℕ, suc, ◌+◌, ◌-◌, ◌==◌, ◌||◌, not, min, Bool, true, false, if◌then◌else◌, List, [], ◌∷◌, ◌++◌, length, Some}
use Rattle.std.proofs.Common.{None, Err, refl, sym, ap, ◌∙◌, subst, arith, append-nil}
use Rattle.std.proofs.lemmas.Bool.{eqb-true}
use Rattle.tcp_theory.specs.Alone.{AreResets}
use Rattle.tcp_theory.specs.Safe.{IsPrefixOf}
use Rattle.tcp_theory.specs.Segment.{Segment}
use Rattle.tcp_theory.specs.Side.{Side, taken_in, freed}
use Rattle.tcp_block.specs.RecvError.TheVariants as Recv
use Rattle.tcp_block.specs.Calls.{recv_answer, nothing_left, or_count}
use Rattle.tcp_block.specs.States.{accepts_data}
use Rattle.tcp_block.specs.Value.{TcpValue}
use Rattle.tcp_refinement.specs.Promises.{IsInitial, read_or_waiting}
use Rattle.tcp_refinement.specs.Tie.{Past, past_of, core_of}
use Rattle.tcp_refinement.proofs.PromiseLemmas.{Shows, shows}
use Rattle.tcp_peer.specs.Peer.{End, IsEnd, HasAckedTo, as_end}
use Rattle.tcp_peer.specs.Safe as one
use Rattle.tcp_peer.proofs.Shadow.{shadow, Meets}
use Rattle.tcp_peer.proofs.Safety.{meets_safe}
use Rattle.proof_stack.specs.PeerHost.SocketRun.{Meeting, Event, MayHappen, happens, IsRun, run, start, IsSafeBeside}
use Rattle.proof_stack.specs.PeerHost.SocketRun.Event.{Comes, Listens, Connects, Sends, Does}
use Rattle.tcp_refinement.proofs.AnsweredLaws.{keeps_listen, keeps_connect, keeps_send}
use Rattle.proof_stack.proofs.Peers.Socket.Pinned.{MeetsSocket, socket_step}
use Rattle.proof_stack.proofs.Peers.Socket.Steps.{socket_start, socket_does, socket_comes}

safe_side :
    (peer : End) (v : TcpValue) (s : Side) (came : List Segment) → one.IsSafeBeside peer (record { side = s; came = came }) → Shows (core_of v) s
    → IsSafeBeside peer v (past_of s) came
safe_side peer v s came safe a =
    let same : read_or_waiting (past_of s) v ≡ taken_in s = ap (λ (bytes : List ℕ). s.read ++ bytes) a.waiting in
    let left = ap length a.queue in
    let gone : length s.written - length v.queued.queue ≡ freed s = omega (arith, left) in
    record {
      prefix = subst (λ (bytes : List ℕ). IsPrefixOf bytes peer.stream) (sym same) safe.prefix;
      finished = λ e. let end = safe.finished (sym a.took_fin ∙ e) in (end.0, same ∙ end.1);
      freed = freed_by gone safe.freed;
      honest = record { this = as_end s; stream = refl; ends = refl; honest = safe.honest };
    }
  where
    freed_by :
        length s.written - length v.queued.queue ≡ freed s → (freed s ≡ 0) ⊎ ((peer.heard ≡ s.iss) × HasAckedTo peer came (suc s.iss + freed s))
        → (length s.written - length v.queued.queue ≡ 0) ⊎ HasAckedTo peer came (suc peer.heard + (length s.written - length v.queued.queue))
    freed_by gone (inl none) = inl (gone ∙ none)
    freed_by gone (inr to) =
        let heard = to.0 in
        let position : suc s.iss + freed s ≡ suc peer.heard + (length s.written - length v.queued.queue) = omega (arith, heard, gone) in
        inr (subst (λ (n : ℕ). HasAckedTo peer came n) position to.1)

pub socket_safe : (peer : End) (v : TcpValue) (p : Past) (came : List Segment) → IsEnd peer → MeetsSocket peer v p came → IsSafeBeside peer v p came
socket_safe peer v p came e m =
    subst (λ (p : Past). IsSafeBeside peer v p came) m.past (safe_side peer v m.side came (meets_safe peer m.side came e m.meets) (shown m.meets))
  where
    shown : Meets peer m.side came → Shows (core_of v) m.side
    shown (inl b) = shows (core_of v) m.side (shadow peer [] false b.una b.took b.fin came) b.holds m.fits
    shown (inr b) = shows (core_of v) m.side (shadow peer peer.stream peer.ends b.una b.took b.fin came) b.holds m.fits

meets_event : (peer : End) (w : Meeting) (event : Event) → IsEnd peer → MayHappen peer w event → MeetsSocket peer w.here.socket w.here.past w.came →
    MeetsSocket peer (happens w event).here.socket (happens w event).here.past (happens w event).came
meets_event peer w (Comes cx ip header bytes) e may m = socket_comes peer w.here w.came cx ip header bytes e may m
meets_event peer w (Listens endpoint) e may m =
    socket_step peer w.here.socket _ w.here.past _ w.came e (λ v q still k. keeps_listen w.here.socket v w.here.past q endpoint k may) m
meets_event peer w (Connects cx remote local) e may m =
    socket_step peer w.here.socket _ w.here.past _ w.came e (λ v q still k. keeps_connect cx w.here.socket v w.here.past q remote local k may) m
meets_event peer w (Sends bytes) e may m =
    socket_step peer w.here.socket _ w.here.past _ w.came e (λ v q still k. keeps_send w.here.socket v w.here.past q bytes k may) m
meets_event peer w (Does event) e may m = socket_does peer w.here w.came event e may m

meets_run : (peer : End) (w : Meeting) (events : List Event) → IsEnd peer → IsRun peer w events → MeetsSocket peer w.here.socket w.here.past w.came →
    MeetsSocket peer (run w events).here.socket (run w events).here.past (run w events).came
meets_run peer w [] e is_run m = m
meets_run peer w (event ∷ events) e is_run m = meets_run peer (happens w event) events e is_run.1 (meets_event peer w event e is_run.0 m)

pub runs_safe :
    (peer : End) (v : TcpValue) (resets : List Segment) (events : List Event) → IsEnd peer → IsInitial v → AreResets resets → IsRun peer (start v resets) events
    → IsSafeBeside peer (run (start v resets) events).here.socket (run (start v resets) events).here.past (run (start v resets) events).came
runs_safe peer v resets events e initial are_resets is_run =
    let end = run (start v resets) events in
    socket_safe peer end.here.socket end.here.past end.came e (meets_run peer (start v resets) events e is_run (socket_start peer v resets e initial are_resets))

-- THE END OF THE STREAM

empty_of : (bytes : List ℕ) → length bytes ≡ 0 → bytes ≡ []
empty_of [] e = refl
empty_of (x ∷ bytes) e = absurd (omega arith)

took_the_fin : (took : Bool) → nothing_left took ≡ Recv.Finished → took ≡ true
took_the_fin true e = refl
took_the_fin false e = absurd (cc)

-- a read that is answered by it
pub read_to_the_end :
    (peer : End) (v : TcpValue) (p : Past) (came : List Segment) (room : ℕ) → IsSafeBeside peer v p came → recv_answer v room ≡ Err Recv.Finished
    → (peer.ends ≡ true) × (p.read ≡ peer.stream)
read_to_the_end peer v p came room safe = by (accepts_data v.tcb.state) (length v.received.waiting == 0) refl where
  by :
      (open_yet none : Bool) → (length v.received.waiting == 0) ≡ none
      → or_count (if open_yet || not none then None else Some (nothing_left v.tcb.receiver.took_fin)) (min room (length v.received.waiting)) ≡
      Err Recv.Finished
      → (peer.ends ≡ true) × (p.read ≡ peer.stream)
  by true none empty e = absurd (cc)
  by false false empty e = absurd (cc)
  by false true empty e =
      let finished : nothing_left v.tcb.receiver.took_fin ≡ Recv.Finished = cc in
      let end = safe.finished (took_the_fin v.tcb.receiver.took_fin finished) in
      let waiting = empty_of v.received.waiting (eqb-true (length v.received.waiting) 0 empty) in
      (end.0, sym (ap (λ (bytes : List ℕ). p.read ++ bytes) waiting ∙ append-nil p.read) ∙ end.1)
