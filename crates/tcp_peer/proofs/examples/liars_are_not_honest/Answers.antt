use Rattle.std.proofs.Common.{◌≡◌, ◌⊎◌, inl, inr, ℕ, ◌+◌, ◌<◌, ◌≤◌, suc, true, false, [], ◌∷◌, length, drop, refl, sym, ap, subst, arith}
use Rattle.tcp_theory.specs.ReceiveMap.{Begins}
use Rattle.tcp_theory.specs.Segment.{Segment, IsData}
use Rattle.tcp_theory.specs.Segment.Control.{Plain, Rst}
use Rattle.tcp_theory.specs.Examples.{at, syn, piece, last_piece, bare_ack}
use Rattle.tcp_peer.specs.Peer.{IsEnd, HasAckedTo, HasReached, IsPiece, IsOld, counted}
use Rattle.tcp_peer.specs.Examples.{peer, this, told, Says}
use Rattle.tcp_peer.proofs.Liars.{bytes_there, reached_by, piece_or_old, fin_piece, bare_syn, acked_of_one}
use Rattle.tcp_peer.proofs.examples.liars_are_not_honest.Goals as goal

is_end : IsEnd peer
is_end = record { first = (omega arith, omega arith); heard = (omega arith, omega arith); short = omega arith }

-- bytes at these numbers are new to one that counts from this SYN, and acknowledged it alone
new_bytes : (heard k : ℕ) (x : Segment) → at 299 ≤ heard → heard ≤ at 300 → k < 1_000 → x.seq ≡ 301 + k → (length x.bytes ≡ 0 → ⊥) →
    IsOld (record this { heard = heard }) told x → ⊥
new_bytes heard k x low top small seq some p = by p.high where
  old_at : at 301 ≤ p.at
  old_at = let number = p.number in let from = p.low in omega arith

  by : (p.at + length x.bytes ≤ suc heard) ⊎ HasAckedTo (record this { heard = heard }) told (p.at + length x.bytes) → ⊥
  by (inl syn) = let new = old_at in some (omega arith)
  by (inr to) =
      let e = acked_of_one (bare_ack 101 301) to.number to.acknowledged in
      let same : 301 ≡ to.number = cc in
      let far = subst (λ (n : ℕ). p.at + length x.bytes ≤ counted heard n) (sym same) to.far in
      let new = old_at in
      some (omega arith)

says_payload : (x : Segment) (k : ℕ) → IsData x.control → (length x.bytes ≡ 0 → ⊥) → k < 1_000 → x.seq ≡ 301 + k → Says x →
    Begins x.bytes (drop k (1 ∷ 2 ∷ 3 ∷ []))
says_payload x k kind some small seq says = by (piece_or_old peer this told x kind some says) where
  by : IsPiece peer this x ⊎ IsOld this told x → Begins x.bytes (drop k (1 ∷ 2 ∷ 3 ∷ []))
  by (inl p) = bytes_there peer this x k is_end (omega arith) (omega arith) some p
  by (inr p) = absurd (new_bytes (at 300) k x (omega arith) (omega arith) small seq some p)

pub returns-clause-other_byte : goal.returns-clause-other_byte
returns-clause-other_byte c =
    λ says. let b = says_payload (piece 301 101 (1 ∷ 9 ∷ [])) 0 tt (λ e. absurd (omega arith)) (omega arith) refl says in let clash = b.1.0 in absurd (omega arith)

pub returns-clause-swapped : goal.returns-clause-swapped
returns-clause-swapped c =
    λ says. let b = says_payload (piece 301 101 (2 ∷ 1 ∷ [])) 0 tt (λ e. absurd (omega arith)) (omega arith) refl says in let clash = b.0 in absurd (omega arith)

pub returns-clause-past_the_end : goal.returns-clause-past_the_end
returns-clause-past_the_end c =
    λ says. let b = says_payload (piece 303 101 (3 ∷ 4 ∷ [])) 2 tt (λ e. absurd (omega arith)) (omega arith) refl says in absurd b.1

pub returns-clause-not_acknowledged : goal.returns-clause-not_acknowledged
returns-clause-not_acknowledged c =
    λ says. let b = says_payload (piece 302 101 (0 ∷ [])) 1 tt (λ e. absurd (omega arith)) (omega arith) refl says in let clash = b.0 in absurd (omega arith)

pub returns-clause-early_fin : goal.returns-clause-early_fin
returns-clause-early_fin c =
    λ says.
    let p = fin_piece peer this told (last_piece 301 101 (1 ∷ [])) refl says in
    let ends = (p.fin refl).1 in
    let number = p.number in
    absurd (omega arith)

pub returns-clause-endless : goal.returns-clause-endless
returns-clause-endless c =
    λ says.
    let p = fin_piece (record peer { ends = false }) this told (last_piece 303 101 (3 ∷ [])) refl says in
    let ends : false ≡ true = (p.fin refl).0 in
    absurd (cc)

acks_nothing_else : (number : ℕ) → 103 < number → number < 1_000 → HasReached peer this number → ⊥
acks_nothing_else number low high h = by h.so_far where
  by : (h.at ≡ suc peer.heard) ⊎ ((peer.heard ≡ this.first) × (peer.heard < h.at) × (h.at ≤ at 103)) → ⊥
  by (inl syn) = let same = h.same in absurd (omega arith)
  by (inr far) = let same = h.same in let past = far.1 in let most = far.2 in absurd (omega arith)

acks_no_less : (number : ℕ) → number ≤ 100 → HasReached peer this number → ⊥
acks_no_less number low h = by h.so_far where
  by : (h.at ≡ suc peer.heard) ⊎ ((peer.heard ≡ this.first) × (peer.heard < h.at) × (h.at ≤ at 103)) → ⊥
  by (inl syn) = let same = h.same in absurd (omega arith)
  by (inr far) = let same = h.same in let past = far.1 in let most = far.2 in absurd (omega arith)

pub returns-clause-unsent : goal.returns-clause-unsent
returns-clause-unsent c =
    λ says. acks_nothing_else 104 (omega arith) (omega arith) (reached_by peer this told (bare_ack 304 104) 104 (λ (e : Plain ≡ Rst). absurd (cc)) refl says)

pub returns-clause-before_syn : goal.returns-clause-before_syn
returns-clause-before_syn c =
    λ says. acks_no_less 100 (omega arith) (reached_by peer this told (bare_ack 304 100) 100 (λ (e : Plain ≡ Rst). absurd (cc)) refl says)

pub returns-clause-other_first : goal.returns-clause-other_first
returns-clause-other_first c = λ says. let number = bare_syn peer this told (syn 301) refl refl says in absurd (omega arith)

pub returns-clause-unheard : goal.returns-clause-unheard
returns-clause-unheard c =
    λ says. by (piece_or_old peer (record this { heard = at 299 }) told (piece 301 101 (1 ∷ [])) tt (λ e. absurd (omega arith)) says)
  where
    by : IsPiece peer (record this { heard = at 299 }) (piece 301 101 (1 ∷ [])) ⊎ IsOld (record this { heard = at 299 }) told (piece 301 101 (1 ∷ [])) → ⊥
    by (inr p) = new_bytes (at 299) 0 (piece 301 101 (1 ∷ [])) (omega arith) (omega arith) (omega arith) refl (λ e. absurd (omega arith)) p
    by (inl p) = heard p.heard where
      heard : (at 299 ≡ at 300) ⊎ (peer.stream ≡ []) → ⊥
      heard (inl same) = absurd (omega arith)
      heard (inr none) = absurd (let size = ap length none in omega arith)
