-- What is honest of an end stays so as its side goes on, and is honest to the end that the other side is.
use Rattle.std.proofs.Common.{◌≡◌, ◌⊎◌, inl, inr, ℕ, suc, ◌+◌, ◌-◌, ◌^◌, ◌<◌, ◌≤◌, nat_lt, Bool, true, false, List, [], ◌∷◌, length, drop, Some, None}
use Rattle.std.proofs.Common.{refl, sym, ap, ◌∙◌, subst, arith}
use Rattle.tcp_theory.specs.ReceiveMap.{Begins}
use Rattle.tcp_theory.specs.Numbers.{wire, IsFirst}
use Rattle.tcp_theory.specs.Segment.{Control, Segment, IsData}
use Rattle.tcp_theory.specs.Segment.Control.{Plain, Syn, Fin, Rst}
use Rattle.tcp_theory.specs.Side.{Phase, Side}
use Rattle.tcp_theory.specs.Side.Phase.{Unopened, Listen, SynSent, SynReceived, Synchronized, Ended}
use Rattle.tcp_theory.specs.Invariant.{IsLate, IsEarly, IsWellFormed}
use Rattle.tcp_theory.specs.Invariant as law
use Rattle.tcp_theory.proofs.Lists.{Begins-drop-grow, Begins-nothing, drop-nothing}
use Rattle.tcp_theory.proofs.Grows.{Grows}
use Rattle.tcp_peer.specs.Peer.{End, IsAcknowledged, HasAckedTo, IsPiece, IsOld, SaysOfItself, SaysOfTheOther, IsHonest, as_end}
use Rattle.tcp_peer.proofs.Learns.{test_lt, test_ge}
use Rattle.tcp_net.proofs.Oneself.{IsLocal}

-- a side is an end, which may count from any SYN as long as it took none
abbrev pub end_with : Side → ℕ → End
end_with s heard = record { first = s.iss; stream = s.written; ends = s.closed; heard = heard }

abbrev pub Heard : Side → ℕ → Type 0
Heard s heard = (s.irs < 2 ^ 32) ⊎ (heard ≡ s.irs)

late_or_early : (phase : Phase) → IsLate phase ⊎ IsEarly phase
late_or_early Unopened = inr tt
late_or_early Listen = inr tt
late_or_early SynSent = inr tt
late_or_early SynReceived = inr tt
late_or_early Synchronized = inl tt
late_or_early Ended = inl tt

-- nothing of an empty stream
no_bytes : (k : ℕ) (bytes stream : List ℕ) → stream ≡ [] → Begins bytes (drop k stream) → bytes ≡ []
no_bytes k bytes stream none begins =
    Begins-nothing bytes (subst (Begins bytes) (drop-nothing k) (subst (λ (ys : List ℕ). Begins bytes (drop k ys)) none begins))

-- MORE IS WRITTEN

module _ (s new : Side) (heard : ℕ) (grows : Grows s new) (well : IsWellFormed s) (other : End) (theirs : List Segment) (x : Segment) where
  abbrev me : End
  me = end_with s heard

  abbrev me' : End
  me' = end_with new heard

  grown_late : IsLate s.phase → IsPiece me other x → (other.heard ≡ s.iss) ⊎ (new.written ≡ []) → IsPiece me' other x
  grown_late late p hears =
      let stays = (grows.late late).1 in
      let grown = grows.written.1 in
      let more = grows.written.0 in
      let past = p.after_syn in
      record {
        kind = p.kind;
        at = p.at;
        number = p.number;
        after_syn = omega arith;
        bytes = rw (stays, grown) (Begins-drop-grow (p.at - suc s.iss) x.bytes s.written more p.bytes);
        fin = λ e. let f = p.fin e in let c = grows.closed f.0 in let same = ap length c.1 in let ends = f.1 in (c.0, omega arith);
        heard = by hears;
      }
    where
      by : (other.heard ≡ s.iss) ⊎ (new.written ≡ []) → (other.heard ≡ new.iss) ⊎ (new.written ≡ [])
      by (inl same) = inl (same ∙ sym (grows.late late).1)
      by (inr none) = inr none

  -- of an empty stream
  grown_empty : IsLate s.phase ⊎ IsEarly s.phase → s.written ≡ [] → IsPiece me other x → (control : Control) → x.control ≡ control →
      SaysOfItself me' other theirs x
  grown_empty when none p Plain c = inr (inl (c, no_bytes (p.at - suc s.iss) x.bytes s.written none p.bytes))
  grown_empty (inl late) none p Fin c = inl (grown_late late p (inr ((grows.closed (p.fin c).0).1 ∙ none)))
  grown_empty (inr early) none p Fin c = absurd (let open_still = (well.early early).2 in let clash : false ≡ true = sym open_still ∙ (p.fin c).0 in cc)
  grown_empty when none p Syn c = absurd (subst IsData c p.kind)
  grown_empty when none p Rst c = absurd (subst IsData c p.kind)

  grown_piece : IsLate s.phase ⊎ IsEarly s.phase → IsPiece me other x → (other.heard ≡ s.iss) ⊎ (s.written ≡ []) → SaysOfItself me' other theirs x
  grown_piece (inl late) p (inl same) = inl (grown_late late p (inl same))
  grown_piece (inl late) p (inr none) = grown_empty (inl late) none p x.control refl
  grown_piece (inr early) p hears = grown_empty (inr early) (well.early early).0 p x.control refl

  pub honest_grows : IsLocal s x → IsHonest me other theirs x → IsHonest me' other theirs x
  honest_grows own (inl reset) = inl reset
  honest_grows (inl reset) (inr said) = inl reset
  honest_grows (inr own) (inr said) = inr (itself said.0, ack said.1) where
    itself : SaysOfItself me other theirs x → SaysOfItself me' other theirs x
    itself (inl p) = grown_piece (late_or_early s.phase) p p.heard
    itself (inr (inl bare)) = inr (inl bare)
    itself (inr (inr (inl old))) = inr (inr (inl old))
    itself (inr (inr (inr p))) = inr (inr (inr (record {
      syn = p.syn;
      number = p.number;
      bare = λ none. let is = own.0 p.syn none in is.0 ∙ ap wire (sym (grows.active is.1).1);
    })))

    ack : SaysOfTheOther me other x → SaysOfTheOther me' other x
    ack (inl none) = inl none
    ack (inr some) = let h = some.2 in inr (some.0, some.1, record { at = h.at; same = h.same; so_far = h.so_far })

-- IT MAY COUNT FROM ANY SYN UNTIL IT TAKES ONE

module _ (s : Side) (heard : ℕ) (other : End) (theirs : List Segment) (x : Segment) where
  abbrev us : End
  us = end_with s heard

  any_itself : SaysOfItself (as_end s) other theirs x → SaysOfItself us other theirs x
  any_itself (inl p) = inl (record {
    kind = p.kind;
    at = p.at;
    number = p.number;
    after_syn = p.after_syn;
    bytes = p.bytes;
    fin = p.fin;
    heard = p.heard;
  })
  any_itself (inr (inl bare)) = inr (inl bare)
  any_itself (inr (inr (inl old))) = inr (inr (inl old))
  any_itself (inr (inr (inr p))) = inr (inr (inr (record { syn = p.syn; number = p.number; bare = p.bare })))

  pub honest_heard : Heard s heard → IsLocal s x → IsHonest (as_end s) other theirs x → IsHonest us other theirs x
  honest_heard h own (inl reset) = inl reset
  honest_heard h (inl reset) (inr said) = inl reset
  honest_heard (inr same) (inr own) (inr said) = subst (λ (n : ℕ). IsHonest (end_with s n) other theirs x) (sym same) (inr said)
  honest_heard (inl unheard) (inr own) (inr said) = inr (any_itself said.0, none own.1) where
    none : (x.ack ≡ None) ⊎ ((number : ℕ) × (x.ack ≡ Some number) × law.HasReached s number) → SaysOfTheOther us other x
    none (inl bare) = inl bare
    none (inr some) = absurd (let low = some.2.heard in omega arith)

-- THE OTHER END

module _ (me : End) (t : Side) (theirs theirs' : List Segment) (x : Segment) where
  -- it took a SYN
  pub honest_same : ((number : ℕ) → IsAcknowledged theirs number → IsAcknowledged theirs' number) → IsHonest me (as_end t) theirs x →
      IsHonest me (as_end t) theirs' x
  honest_same more (inl reset) = inl reset
  honest_same more (inr said) = inr (itself said.0, said.1) where
    far : (position : ℕ) → (position ≤ suc t.irs) ⊎ HasAckedTo (as_end t) theirs position → (position ≤ suc t.irs) ⊎ HasAckedTo (as_end t) theirs' position
    far position (inl syn) = inl syn
    far position (inr to) = inr (record { number = to.number; acknowledged = more to.number to.acknowledged; far = to.far })

    itself : SaysOfItself me (as_end t) theirs x → SaysOfItself me (as_end t) theirs' x
    itself (inl p) = inl p
    itself (inr (inl bare)) = inr (inl bare)
    itself (inr (inr (inl old))) = inr (inr (inl (record {
      plain = old.plain;
      at = old.at;
      number = old.number;
      heard = old.heard;
      low = old.low;
      high = far (old.at + length x.bytes) old.high;
    })))
    itself (inr (inr (inr p))) = inr (inr (inr p))

  -- it took none: what is honest whichever SYN it takes
  module _ (heard : ℕ) (first : IsFirst heard) (not_mine : heard ≡ me.first → ⊥) (not_there : heard ≡ 2 ^ 32 + x.seq → ⊥)
      (never : (number : ℕ) → IsAcknowledged theirs number → ⊥) where
    abbrev guess : End
    guess = end_with t heard

    below : (bytes : List ℕ) → x.bytes ≡ bytes → (old : IsOld guess theirs x) → (old.at + length x.bytes ≤ suc heard) ⊎ HasAckedTo guess theirs (old.at + length x.bytes) →
        x.bytes ≡ []
    below [] same old high = same
    below (byte ∷ bytes) same old (inr to) = absurd (never to.number to.acknowledged)
    below (byte ∷ bytes) same old (inl syn) =
        let size = ap length same in
        let low = old.low in
        let number = old.number in
        let from = first.0 in
        let to = first.1 in
        absurd (not_there (omega arith))

    pub honest_unheard : IsHonest me guess theirs x → IsHonest me (as_end t) theirs' x
    honest_unheard (inl reset) = inl reset
    honest_unheard (inr said) = inr (itself said.0, ack said.1) where
      silent : (heard ≡ me.first) ⊎ (me.stream ≡ []) → (t.irs ≡ me.first) ⊎ (me.stream ≡ [])
      silent (inl same) = absurd (not_mine same)
      silent (inr none) = inr none

      itself : SaysOfItself me guess theirs x → SaysOfItself me (as_end t) theirs' x
      itself (inl p) = inl (record {
        kind = p.kind;
        at = p.at;
        number = p.number;
        after_syn = p.after_syn;
        bytes = p.bytes;
        fin = p.fin;
        heard = silent p.heard;
      })
      itself (inr (inl bare)) = inr (inl bare)
      itself (inr (inr (inl old))) = inr (inl (old.plain, below x.bytes refl old old.high))
      itself (inr (inr (inr p))) = inr (inr (inr p))

      ack : SaysOfTheOther me guess x → SaysOfTheOther me (as_end t) x
      ack (inl none) = inl none
      ack (inr some) = let h = some.2 in inr (some.0, some.1, record { at = h.at; same = h.same; so_far = h.so_far })

-- a position of a SYN that is neither of two
pub record Another (p q : ℕ) : Type 0 where
  pub first : ℕ
  pub is_first : IsFirst first
  pub not_p : first ≡ p → ⊥
  pub not_q : first ≡ q → ⊥

pub another : (p q : ℕ) → Another p q
another p q = by (nat_lt (2 ^ 32) p) refl (nat_lt (2 ^ 32) q) refl where
  low : ((2 ^ 32) ≡ p → ⊥) → ((2 ^ 32) ≡ q → ⊥) → Another p q
  low a b = record { first = 2 ^ 32; is_first = (omega arith, omega arith); not_p = a; not_q = b }

  pick : (k : ℕ) → k < 3 → (2 ^ 32 + k ≡ p → ⊥) → (2 ^ 32 + k ≡ q → ⊥) → Another p q
  pick k small a b = record { first = 2 ^ 32 + k; is_first = (omega arith, omega arith); not_p = a; not_q = b }

  -- p at 2 ^ 32 or below
  below_p : p ≤ 2 ^ 32 → (one : Bool) → nat_lt (2 ^ 32 + 1) q ≡ one → (two : Bool) → nat_lt q (2 ^ 32 + 1) ≡ two → Another p q
  below_p p_low true f two g = let far = test_lt (2 ^ 32 + 1) q f in pick 1 (omega arith) (λ e. absurd (omega arith)) (λ e. absurd (omega (arith, far)))
  below_p p_low false f true g = let near = test_lt q (2 ^ 32 + 1) g in pick 1 (omega arith) (λ e. absurd (omega arith)) (λ e. absurd (omega (arith, near)))
  below_p p_low false f false g = let near = test_ge (2 ^ 32 + 1) q f in pick 2 (omega arith) (λ e. absurd (omega arith)) (λ e. absurd (omega (arith, near)))

  below_q : q ≤ 2 ^ 32 → (one : Bool) → nat_lt (2 ^ 32 + 1) p ≡ one → (two : Bool) → nat_lt p (2 ^ 32 + 1) ≡ two → Another p q
  below_q q_low true f two g = let far = test_lt (2 ^ 32 + 1) p f in pick 1 (omega arith) (λ e. absurd (omega (arith, far))) (λ e. absurd (omega arith))
  below_q q_low false f true g = let near = test_lt p (2 ^ 32 + 1) g in pick 1 (omega arith) (λ e. absurd (omega (arith, near))) (λ e. absurd (omega arith))
  below_q q_low false f false g = let near = test_ge (2 ^ 32 + 1) p f in pick 2 (omega arith) (λ e. absurd (omega (arith, near))) (λ e. absurd (omega arith))

  by : (a : Bool) → nat_lt (2 ^ 32) p ≡ a → (b : Bool) → nat_lt (2 ^ 32) q ≡ b → Another p q
  by true e true f =
      let p_high = test_lt (2 ^ 32) p e in
      let q_high = test_lt (2 ^ 32) q f in
      low (λ same. absurd (omega (arith, p_high))) (λ same. absurd (omega (arith, q_high)))
  by false e b f = below_p (test_ge (2 ^ 32) p e) (nat_lt (2 ^ 32 + 1) q) refl (nat_lt q (2 ^ 32 + 1)) refl
  by true e false f = below_q (test_ge (2 ^ 32) q f) (nat_lt (2 ^ 32 + 1) p) refl (nat_lt p (2 ^ 32 + 1)) refl
