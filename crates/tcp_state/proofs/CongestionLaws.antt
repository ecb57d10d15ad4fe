-- What CUBIC leaves of Reno.
use Rattle.std.proofs.Common.{◌≡◌, ◌≤◌, ◌<◌, ℕ, ◌+◌, ◌==◌, nat_lt, min, ℤ, Bool, true, false, if◌then◌else◌}
use Rattle.std.proofs.Common.{None, refl, sym, ◌∙◌, arith}
use Rattle.std.proofs.lemmas.Bool.{eqb-true}
use Rattle.tcp_state.specs.Reno.{RenoValue, most, growth, counted, grown, widened, acknowledged}
use Rattle.tcp_state.proofs.CubicLaws.{in_first}

picked : (test : Bool) (a b c d : RenoValue) → a.cwnd ≡ c.cwnd → b.cwnd ≡ d.cwnd → (if test then a else b).cwnd ≡ (if test then c else d).cwnd
picked true a b c d p q = p
picked false a b c d p q = q

other : (test : Bool) (a b : RenoValue) → test ≡ false → (if test then a else b).cwnd ≡ b.cwnd
other true a b e = absurd (cc)
other false a b e = refl

is_some : (n : ℕ) → 1 ≤ n → (n == 0) ≡ false
is_some n p = at (n == 0) refl where
  at : (test : Bool) → (n == 0) ≡ test → (n == 0) ≡ false
  at true e = let none = eqb-true n 0 e in absurd (omega (arith, p, none))
  at false e = e

-- in slow start the window is the same
same : (r : RenoValue) (count : ℕ) (now : ℤ) (rtt : ℕ) → r.cwnd < r.ssthresh → widened r count now rtt ≡ widened (record r { cubic = None }) count now rtt
same r count now rtt slow =
    in_first r.cwnd r.ssthresh (min most (r.cwnd + growth r count)) (grown (counted r count now) r count now rtt) slow
    ∙ sym (in_first r.cwnd r.ssthresh (min most (r.cwnd + growth r count))
    (grown (counted (record r { cubic = None }) count now) (record r { cubic = None }) count now rtt) slow)

pub slow_start : (r : RenoValue) (count : ℕ) (now : ℤ) (rtt : ℕ) → r.cwnd < r.ssthresh
    → (acknowledged r count now rtt).cwnd ≡ (acknowledged (record r { cubic = None }) count now rtt).cwnd
slow_start r count now rtt slow =
    picked (count == 0) r (record r { cwnd = widened r count now rtt; timed_out = false; cubic = counted r count now }) (record r { cubic = None })
    (record r {
      cwnd = widened (record r { cubic = None }) count now rtt;
      timed_out = false;
      cubic = counted (record r { cubic = None }) count now;
    })
    refl (same r count now rtt slow)

-- without CUBIC each stage is Reno's
alike : (slow : Bool) (r : RenoValue) (count : ℕ) (now : ℤ) (rtt : ℕ)
    → (if slow then min most (r.cwnd + growth r count) else grown (if slow then None else None) r count now rtt) ≡ min most (r.cwnd + growth r count)
alike true r count now rtt = refl
alike false r count now rtt = refl

pub without : (r : RenoValue) (count : ℕ) (now : ℤ) (rtt : ℕ) → 1 ≤ count
    → (acknowledged (record r { cubic = None }) count now rtt).cwnd ≡ min most (r.cwnd + growth r count)
without r count now rtt some =
    other (count == 0) (record r { cubic = None })
    (record r {
      cwnd = widened (record r { cubic = None }) count now rtt;
      timed_out = false;
      cubic = counted (record r { cubic = None }) count now;
    })
    (is_some count some)
    ∙ alike (nat_lt r.cwnd r.ssthresh) (record r { cubic = None }) count now rtt
