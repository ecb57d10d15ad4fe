-- Whatever keeps the invariant between two sockets keeps it between a socket and the peer: the peer stands for a socket that is CLOSED,
-- and three segments that say where it counts from tell its positions afterwards.
use Rattle.std.proofs.Common.{◌≡◌, ◌⊎◌, inl, inr, ℕ, suc, ◌+◌, ◌^◌, ◌<◌, Bool, false, List, [], ◌∷◌, ◌++◌, length, Some, None, slice_get, refl, sym, ap, ◌∙◌}
use Rattle.std.proofs.Common.{subst, arith, le_refl}
use Rattle.std.specs.List.{AllByRecursion}
use Rattle.net_base.specs.Ring.{ring}
use Rattle.tcp_theory.specs.Invariant.{HoldsBetween}
use Rattle.tcp_theory.specs.Invariant as law
use Rattle.tcp_theory.specs.Numbers.{wire}
use Rattle.tcp_theory.specs.Segment.{Segment}
use Rattle.tcp_theory.specs.Segment.Control.{Plain, Syn}
use Rattle.tcp_theory.specs.Side.{Side, taken_in, one_if, send_queue}
use Rattle.tcp_theory.specs.Side.Phase.{Synchronized, Ended}
use Rattle.tcp_theory.specs.Side.Opening.{NotYet, Passive, Active}
use Rattle.tcp_theory.proofs.Lists.{Begins-length}
use Rattle.tcp_theory.proofs.Grows.{Grows-same, IsWellFormed-same, OneWay-own, OneWay-same}
use Rattle.tcp_theory.proofs.Calls.{same_sync, one_if-small}
use Rattle.tcp_theory.proofs.Opening.{syn_of, acked}
use Rattle.tcp_block.specs.Value.{TcpValue, new_socket, received_of}
use Rattle.tcp_refinement.specs.Tie.{Past, past_of, unsent, IsUnopened, IsEnded, IsSideOf, Keeps, core_of}
use Rattle.tcp_peer.specs.Peer.{End, IsEnd}
use Rattle.tcp_peer.proofs.Among.{slice_get-more}
use Rattle.tcp_peer.proofs.Shadow.{shadow, IsBeside, Meets, says}

-- a socket alongside the peer: it is a side that is
pub record MeetsSocket (peer : End) (v : TcpValue) (p : Past) (came : List Segment) : Type 0 where
  pub side : Side
  pub past : past_of side ≡ p
  pub fits : IsSideOf v side
  pub meets : Meets peer side came

all_first : {X : Type 0} (P : X → Type 0) (xs ys : List X) → AllByRecursion P (xs ++ ys) → AllByRecursion P xs
all_first P [] ys all = tt
all_first P (x ∷ xs) ys all = (all.0, all_first P xs ys all.1)

all_last : {X : Type 0} (P : X → Type 0) (xs : List X) (y : X) → AllByRecursion P (xs ++ y ∷ []) → P y
all_last P [] y all = all.0
all_last P (x ∷ xs) y all = all_last P xs y all.1

-- its SYN, and the numbers that it acknowledges
abbrev its_syn : End → Segment
its_syn peer = record { control = Syn; seq = wire peer.first; ack = None; bytes = [] }

abbrev its_ack : ℕ → Segment
its_ack position = record { control = Plain; seq = 0; ack = Some (wire position); bytes = [] }

-- a CLOSED socket with these queues
abbrev stand_in : List ℕ → List ℕ → Bool → TcpValue
stand_in queue waiting fin =
    record (new_socket 0 (ring [] [] 0)) {
      tcb =
          record (new_socket 0 (ring [] [] 0)).tcb { receiver = record (new_socket 0 (ring [] [] 0)).tcb.receiver { took_fin = fin } };
      received = received_of waiting [] 0;
      queued = ring queue [] 0;
    }

module _ (peer : End) (written : List ℕ) (closed : Bool) (s : Side) (came : List Segment) (e : IsEnd peer) (b : IsBeside peer written closed s came) where
  abbrev peer_side : List Segment → Side
  peer_side sent = shadow peer written closed b.una b.took b.fin sent

  abbrev reach : ℕ
  reach = suc peer.heard + length b.took + one_if b.fin

  abbrev told : List Segment
  told = ((came ++ its_syn peer ∷ []) ++ its_ack (suc peer.heard) ∷ []) ++ its_ack reach ∷ []

  holds_told : HoldsBetween s (peer_side told)
  holds_told =
      let one = came ++ its_syn peer ∷ [] in
      let two = one ++ its_ack (suc peer.heard) ∷ [] in
      says s (peer_side two) (its_ack reach)
      (says s (peer_side one) (its_ack (suc peer.heard))
      (says s (peer_side came) (its_syn peer) b.holds refl refl
      (inr (inr (inr (record { syn = refl; at = peer.first; first = e.first; seq = refl; bare = λ _. (refl, refl) })), inl refl)))
      refl refl
      (inr (
        inr (inl (record { plain = refl; bytes = inl refl })),
        inr (wire (suc peer.heard), refl, record { at = suc peer.heard; same = refl; heard = e.heard.0; after_syn = omega arith; high = omega arith }),
      )))
      refl refl
      (inr (
        inr (inl (record { plain = refl; bytes = inl refl })),
        inr (wire reach, refl, record { at = reach; same = refl; heard = e.heard.0; after_syn = omega arith; high = le_refl _ }),
      ))

  abbrev w : TcpValue
  w = stand_in (send_queue (peer_side told)) b.took b.fin

  fits_told : IsSideOf w (peer_side told)
  fits_told = inr (record { once = λ (e : Active ≡ NotYet). absurd (cc); phase = refl; took_fin = refl; queue = refl; waiting = refl; map = refl })

  pub keeps_told : (v : TcpValue) (p : Past) → past_of s ≡ p → IsSideOf v s → Keeps v p w (past_of (peer_side told))
  keeps_told v p past fits = record {
    side = s;
    peer_side = peer_side told;
    past = past;
    peer_side_past = refl;
    fits = fits;
    peer_side_fits = fits_told;
    holds = holds_told;
  }

  pub still_came : (k : ℕ) (x : Segment) → slice_get came k ≡ Some x → slice_get told k ≡ Some x
  still_came k x at =
      slice_get-more ((came ++ its_syn peer ∷ []) ++ its_ack (suc peer.heard) ∷ []) (its_ack reach ∷ []) k x
      (slice_get-more (came ++ its_syn peer ∷ []) (its_ack (suc peer.heard) ∷ []) k x (slice_get-more came (its_syn peer ∷ []) k x at))

  -- what it has taken in is short
  took_short : length b.took < 2 ^ 29
  took_short = let shorter = Begins-length b.took s.written b.holds.0.received in let short = b.holds.0.well_formed.short in omega arith

  -- whatever peer there is afterwards, it counts as before
  module _ (new t : Side) (past : past_of t ≡ past_of (peer_side told)) (holds : HoldsBetween new t) (k : IsEnded (core_of w) (unsent t)) where
    said : AllByRecursion (law.IsHonest t new) told
    said = subst (λ (q : Past). AllByRecursion (law.IsHonest t new) q.sent) past holds.1.sent

    said_syn : law.IsHonest t new (its_syn peer)
    said_syn =
        all_last (law.IsHonest t new) came (its_syn peer)
        (all_first (law.IsHonest t new) (came ++ its_syn peer ∷ []) (its_ack (suc peer.heard) ∷ [])
        (all_first (law.IsHonest t new) ((came ++ its_syn peer ∷ []) ++ its_ack (suc peer.heard) ∷ []) (its_ack reach ∷ []) said))

    said_low : law.IsHonest t new (its_ack (suc peer.heard))
    said_low =
        all_last (law.IsHonest t new) (came ++ its_syn peer ∷ []) (its_ack (suc peer.heard))
        (all_first (law.IsHonest t new) ((came ++ its_syn peer ∷ []) ++ its_ack (suc peer.heard) ∷ []) (its_ack reach ∷ []) said)

    said_high : law.IsHonest t new (its_ack reach)
    said_high = all_last (law.IsHonest t new) ((came ++ its_syn peer ∷ []) ++ its_ack (suc peer.heard) ∷ []) (its_ack reach) said

    came_only : AllByRecursion (law.IsHonest t new) came
    came_only =
        all_first (law.IsHonest t new) came (its_syn peer ∷ [])
        (all_first (law.IsHonest t new) (came ++ its_syn peer ∷ []) (its_ack (suc peer.heard) ∷ [])
        (all_first (law.IsHonest t new) ((came ++ its_syn peer ∷ []) ++ its_ack (suc peer.heard) ∷ []) (its_ack reach ∷ []) said))

    same_first : peer.first ≡ t.iss
    same_first =
        let syn = syn_of t new (its_syn peer) refl said_syn in
        let number = syn.seq in
        let at = (syn.bare refl).0 in
        let low = syn.first.0 in
        let high = syn.first.1 in
        let low' = e.first.0 in
        let high' = e.first.1 in
        omega arith

    same_taken : taken_in (peer_side told) ≡ taken_in t
    same_taken = ap (λ (bytes : List ℕ). [] ++ bytes) k.waiting ∙ ap (λ (read : List ℕ). read ++ t.waiting) (sym (ap (λ (q : Past). q.read) past))

    same_heard : peer.heard ≡ t.irs
    same_heard =
        let a = acked t new (its_ack (suc peer.heard)) (wire (suc peer.heard)) tt refl said_low in
        let z = acked t new (its_ack reach) (wire reach) tt refl said_high in
        let a_same = a.same in
        let a_past = a.after_syn in
        let a_high = a.high in
        let z_same = z.same in
        let z_past = z.after_syn in
        let z_high = z.high in
        let size = ap length same_taken in
        let fin = ap one_if k.took_fin in
        let small = one_if-small b.fin in
        let short = took_short in
        let low = e.heard.0 in
        let high = e.heard.1 in
        let low' = a.heard in
        let high' = holds.1.well_formed.irs in
        omega arith

    pub beside_again : IsBeside peer written closed new came
    beside_again =
        let t' = shadow peer written closed t.una b.took b.fin came in
        let written_same : written ≡ t.written = sym (ap (λ (q : Past). q.written) past) in
        let closed_same : closed ≡ t.closed = sym (ap (λ (q : Past). q.closed) past) in
        let opening_same : Active ≡ t.opening = sym (ap (λ (q : Past). q.opening) past) in
        let size = ap length same_taken in
        let fin = ap one_if k.took_fin in
        let heard = same_heard in
        let closed_size = ap one_if closed_same in
        let grows = Grows-same t t' (λ _. tt) same_first written_same (λ asked. closed_same ∙ asked) opening_same (λ _. (heard, omega arith)) in
        let well = IsWellFormed-same t t' holds.1.well_formed same_first refl written_same (omega arith) heard tt (λ early. absurd early) in
        record {
          una = t.una;
          took = b.took;
          fin = b.fin;
          taken = b.taken;
          holds = (
            OneWay-same t t' grows new holds.0 same_taken k.map k.took_fin heard,
            OneWay-own t t' grows new holds.1 well (same_sync t t' new same_first refl written_same (λ _ (e : Ended ≡ Synchronized). absurd (cc)) holds.1.sync)
                (λ (e : Active ≡ Passive). absurd (cc)) (came_again (law.IsHonest t' new)),
          );
        }
      where
        came_again : (P : Segment → Type 0) → AllByRecursion P t.sent → AllByRecursion P came
        came_again P all =
            all_first P came (its_syn peer ∷ [])
            (all_first P (came ++ its_syn peer ∷ []) (its_ack (suc peer.heard) ∷ [])
            (all_first P ((came ++ its_syn peer ∷ []) ++ its_ack (suc peer.heard) ∷ []) (its_ack reach ∷ [])
            (subst (λ (q : Past). AllByRecursion P q.sent) past all)))

  -- so a step of a socket alongside any peer is one alongside the peer
  pub beside_step : (v' : TcpValue) (p' : Past) → Keeps v' p' w (past_of (peer_side told)) → (new : Side) × (past_of new ≡ p') × IsSideOf v' new ×
      IsBeside peer written closed new came
  beside_step v' p' k = (k.side, k.past, k.fits, by k.peer_side_fits) where
    by : IsUnopened (core_of w) (unsent k.peer_side) ⊎ IsEnded (core_of w) (unsent k.peer_side) → IsBeside peer written closed k.side came
    by (inr ended) = beside_again k.side k.peer_side k.peer_side_past k.holds ended
    by (inl u) =
        absurd (let clash : Active ≡ NotYet = sym (ap (λ (q : Past). q.opening) k.peer_side_past) ∙ ap (λ (x : Side). x.opening) u.side in cc)

-- the step of a socket, of any peer that sent what came
abbrev pub Steps : TcpValue → Past → TcpValue → Past → List Segment → Type 0
Steps v p v' p' came = (w : TcpValue) (q : Past) → ((k : ℕ) (x : Segment) → slice_get came k ≡ Some x → slice_get q.sent k ≡ Some x) → Keeps v p w q →
    Keeps v' p' w q

pub socket_step : (peer : End) (v v' : TcpValue) (p p' : Past) (came : List Segment) → IsEnd peer → Steps v p v' p' came → MeetsSocket peer v p came →
    MeetsSocket peer v' p' came
socket_step peer v v' p p' came e step m = by m.meets where
  beside : (written : List ℕ) (closed : Bool) → IsBeside peer written closed m.side came → (new : Side) × (past_of new ≡ p') × IsSideOf v' new ×
      IsBeside peer written closed new came
  beside written closed b =
      beside_step peer written closed m.side came e b v' p'
      (step (w peer written closed m.side came e b) (past_of (peer_side peer written closed m.side came e b (told peer written closed m.side came e b)))
      (still_came peer written closed m.side came e b) (keeps_told peer written closed m.side came e b v p m.past m.fits))

  by : Meets peer m.side came → MeetsSocket peer v' p' came
  by (inl b) = let r = beside [] false b in record { side = r.0; past = r.1; fits = r.2; meets = inl r.3 }
  by (inr b) = let r = beside peer.stream peer.ends b in record { side = r.0; past = r.1; fits = r.2; meets = inr r.3 }
