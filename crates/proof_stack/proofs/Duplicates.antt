-- Further duplicates, one after the other.
use Rattle.std.proofs.Common.{◌≡◌, ℕ, zero, suc, ◌+◌, ◌*◌, ◌≤◌, min, true, refl, ◌∙◌, arith}
use Rattle.tcp_state.specs.Reno.{RenoValue, inflated, most}
use Rattle.proof_stack.specs.Duplicates.{inflated_by}

none : (c m : ℕ) → c ≤ most → c ≡ min most (c + 0 * m)
none c m small = omega arith

low : (c : ℕ) → min most c ≤ most
low c = omega arith

joined : (c m n : ℕ) → min most (min most (c + m) + n * m) ≡ min most (c + suc n * m)
joined c m n = grind arith

pub widened : (r : RenoValue) (n : ℕ) → r.cwnd ≤ most
    → (inflated_by (record r { recovers = true }) n).cwnd ≡ min most (r.cwnd + n * r.mss)
widened r zero small = none r.cwnd r.mss small
widened r (suc n) small =
    widened (record r { cwnd = min most (r.cwnd + r.mss) }) n (low (r.cwnd + r.mss)) ∙ joined r.cwnd r.mss n

pub kept : (r : RenoValue) (n : ℕ) → (inflated_by (record r { recovers = true }) n).ssthresh ≡ r.ssthresh
kept r zero = refl
kept r (suc n) = kept (record r { cwnd = min most (r.cwnd + r.mss) }) n
