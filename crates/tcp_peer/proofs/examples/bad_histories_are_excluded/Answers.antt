use Rattle.std.proofs.Common.{◌≡◌, ◌⊎◌, inl, inr, ℕ, ◌+◌, ◌<◌, ◌≤◌, suc, List, [], ◌∷◌, length, get_or, refl, sym, ap, subst, arith}
use Rattle.tcp_theory.specs.Segment.{Segment}
use Rattle.tcp_theory.specs.Segment.Control.{Plain, Rst}
use Rattle.tcp_theory.specs.Side.{freed}
use Rattle.tcp_theory.specs.Examples.{at, piece, bare_ack}
use Rattle.tcp_peer.specs.Peer.{IsEnd, HasAckedTo, HasReached, IsPiece, IsOld, counted}
use Rattle.tcp_peer.specs.Examples.{peer, this, took, Cannot}
use Rattle.tcp_peer.proofs.Liars.{bytes_there, reached_by, piece_or_old, acked_of_one, acked_of_none}
use Rattle.tcp_peer.proofs.examples.bad_histories_are_excluded.Goals as goal

pub returns-clause-other_byte : goal.returns-clause-other_byte
returns-clause-other_byte c = λ safe. let second = ap (λ (xs : List ℕ). get_or xs 1 0) safe.prefix.1 in absurd (omega arith)

pub returns-clause-swapped : goal.returns-clause-swapped
returns-clause-swapped c = λ safe. let first = ap (λ (xs : List ℕ). get_or xs 0 0) safe.prefix.1 in absurd (omega arith)

pub returns-clause-skipped : goal.returns-clause-skipped
returns-clause-skipped c = λ safe. let first = ap (λ (xs : List ℕ). get_or xs 0 0) safe.prefix.1 in absurd (omega arith)

pub returns-clause-twice : goal.returns-clause-twice
returns-clause-twice c = λ safe. let second = ap (λ (xs : List ℕ). get_or xs 1 0) safe.prefix.1 in absurd (omega arith)

pub returns-clause-past_the_end : goal.returns-clause-past_the_end
returns-clause-past_the_end c = λ safe. let size = ap length safe.prefix.1 in absurd (omega arith)

pub returns-clause-early_end : goal.returns-clause-early_end
returns-clause-early_end c = λ safe. let size = ap length (safe.finished refl).1 in absurd (omega arith)

-- two bytes are freed of one whose SYN and one byte at most were acknowledged
freed_two : (came : List Segment) → ((position : ℕ) → HasAckedTo peer came position → position ≤ at 102) → Cannot (record (took []) { una = at 103 }) came
freed_two came most safe = by safe.freed where
  by : (freed (record (took []) { una = at 103 }) ≡ 0) ⊎ ((peer.heard ≡ at 100) × HasAckedTo peer came (at 103)) → ⊥
  by (inl none) = absurd (omega arith)
  by (inr to) = let far = most (at 103) to.1 in absurd (omega arith)

pub returns-clause-freed_unasked : goal.returns-clause-freed_unasked
returns-clause-freed_unasked c = freed_two [] (λ position to. absurd (acked_of_none to.number to.acknowledged))

pub returns-clause-freed_more : goal.returns-clause-freed_more
returns-clause-freed_more c =
    freed_two (bare_ack 301 102 ∷ []) (λ position to.
    let e = acked_of_one (bare_ack 301 102) to.number to.acknowledged in
    let same : 102 ≡ to.number = cc in
    let far = subst (λ (n : ℕ). position ≤ counted (at 100) n) (sym same) to.far in
    omega arith)

is_end : IsEnd this
is_end = record { first = (omega arith, omega arith); heard = (omega arith, omega arith); short = omega arith }

pub returns-clause-sent_other : goal.returns-clause-sent_other
returns-clause-sent_other c = λ safe. by (piece_or_old this peer [] (piece 101 301 (9 ∷ [])) tt (λ e. absurd (omega arith)) safe.honest.0) where
  old : (p : IsOld peer [] (piece 101 301 (9 ∷ []))) → (p.at + 1 ≤ at 101) ⊎ HasAckedTo peer [] (p.at + 1) → ⊥
  old p (inl syn) = let number = p.number in let low = p.low in absurd (omega arith)
  old p (inr to) = acked_of_none to.number to.acknowledged

  by : IsPiece this peer (piece 101 301 (9 ∷ [])) ⊎ IsOld peer [] (piece 101 301 (9 ∷ [])) → ⊥
  by (inl p) =
      let b = bytes_there this peer (piece 101 301 (9 ∷ [])) 0 is_end (omega arith) refl (λ e. absurd (omega arith)) p in
      let clash = b.0 in
      absurd (omega arith)
  by (inr p) = old p p.high

pub returns-clause-acknowledged_more : goal.returns-clause-acknowledged_more
returns-clause-acknowledged_more c =
    λ safe. by (reached_by this peer [] (bare_ack 101 306) 306 (λ (e : Plain ≡ Rst). absurd (cc)) refl safe.honest.0) where
      most : (h : HasReached this peer 306) → (h.at ≡ suc (at 300)) ⊎ ((at 300 ≡ at 300) × (at 300 < h.at) × (h.at ≤ at 305)) → ⊥
      most h (inl syn) = let same = h.same in absurd (omega arith)
      most h (inr far) = let same = h.same in let past = far.1 in let high = far.2 in absurd (omega arith)

      by : HasReached this peer 306 → ⊥
      by h = most h h.so_far
