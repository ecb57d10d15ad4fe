-- The cube root of CUBIC is the whole one, and the window stays within its bounds.
use Rattle.std.proofs.Common.{◌≡◌, ◌≤◌, ◌<◌, ℕ, zero, suc, ◌+◌, ◌-◌, ◌*◌, ◌/◌, ◌^◌, ℤ, true, false, nat_le, nat_lt, min, max, if◌then◌else◌}
use Rattle.std.proofs.Common.{Option, Some, None, refl, sym, ap, ◌∙◌, subst, arith}
use Rattle.std.proofs.lemmas.Bool.{cond_both}
use Rattle.std.proofs.lemmas.Bool.Decides.{nat_tests}
use Rattle.std.proofs.lemmas.Nat.{mul-le}
use Rattle.std.proofs.Math.Nat.{pow-suc, mul_comm, div-le_of_le-mul}
use Rattle.tcp_state.specs.RoundTrip.{millis_between}
use Rattle.tcp_state.specs.Cubic.{most, cubed, stepped, rooted, cube_root, target, grown, window_in, w_cubic, decreased, rise, CubicValue, lost}
use Rattle.tcp_state.specs.declared.cubic.Epoch.{Epoch}

le_by : (a b : ℕ) → nat_le a b ≡ true → a ≤ b
le_by a b is = grind (arith, nat_tests, is)

lt_by : (a b : ℕ) → nat_le a b ≡ false → b < a
lt_by a b is = grind (arith, nat_tests, is)

-- THE CUBE ROOT

pub proceeds : (at step n root first : ℕ) → at < 21 → rooted (21 - at) step n root ≡ first → rooted (21 - (at + 1)) (step / 2) n (stepped root step n) ≡ first
proceeds at step n root first less is =
    let next : 21 - at ≡ suc (21 - (at + 1)) = omega (arith, less) in
    sym (ap (λ (left : ℕ). rooted left step n root) next) ∙ is

-- a root lies between, which is looked for
abbrev Within : ℕ → ℕ → ℕ → Type 0
Within n root size = (cubed root ≤ n) × (n < cubed (root + size))

rooted_within : (left step n root : ℕ) → step ≡ 2 ^ left / 2 → Within n root (2 ^ left) → Within n (rooted left step n root) 1
rooted_within zero step n root e p = p
rooted_within (suc left) step n root e p =
    rooted_within left (step / 2) n (stepped root step n) halves
    (cond_both (nat_le (cubed (root + step)) n) (root + step) root (λ (x : ℕ). Within n x (2 ^ left))
    (λ is. (le_by _ _ is, subst (λ (x : ℕ). n < cubed x) above p.1))
    (λ is. (p.0, subst (λ (x : ℕ). n < cubed (root + x)) whole (lt_by _ _ is)))) where
      double : 2 ^ suc left ≡ 2 ^ left * 2
      double = pow-suc 2 left

      whole : step ≡ 2 ^ left
      whole = omega (arith, e, double)

      halves : step / 2 ≡ 2 ^ left / 2
      halves = ap (λ (x : ℕ). x / 2) whole

      above : root + 2 ^ suc left ≡ root + step + 2 ^ left
      above = omega (arith, whole, double)

pub is_root : (n : ℕ) → n < 2 ^ 63 → (cubed (cube_root n) ≤ n) × (n < cubed (cube_root n + 1))
unfolding cube_root
is_root n small = rooted_within 21 1_048_576 n 0 refl (omega arith, omega (arith, small))

-- THE WINDOW

low : (cwnd w : ℕ) → cwnd ≤ target cwnd w
low cwnd w = omega arith

high : (cwnd w : ℕ) → target cwnd w ≤ cwnd + cwnd / 2
high cwnd w = omega arith

part : (a b c : ℕ) → b ≤ c → a * b / c ≤ a
part a b c less = div-le_of_le-mul c (subst (λ (x : ℕ). a * b ≤ x) (mul_comm a c) (mul-le a b a c (omega arith) less))

-- so far the window goes to a target
way : (mss cwnd w : ℕ) → (target cwnd w - cwnd) * min mss cwnd / cwnd ≤ cwnd / 2
way mss cwnd w =
    let most_of = part (target cwnd w - cwnd) (min mss cwnd) cwnd (omega arith) in
    let snd_max = high cwnd w in
    omega (arith, most_of, snd_max)

grown_low : (mss cwnd here there w_est : ℕ) → cwnd ≤ grown mss cwnd here there w_est
grown_low mss cwnd here there w_est =
    cond_both (nat_lt here w_est) (target cwnd w_est) (cwnd + (target cwnd there - cwnd) * min mss cwnd / cwnd) (λ (x : ℕ). cwnd ≤ x)
    (λ _. low cwnd w_est) (λ _. omega arith)

grown_high : (mss cwnd here there w_est : ℕ) → grown mss cwnd here there w_est ≤ cwnd + cwnd / 2
grown_high mss cwnd here there w_est =
    cond_both (nat_lt here w_est) (target cwnd w_est) (cwnd + (target cwnd there - cwnd) * min mss cwnd / cwnd) (λ (x : ℕ). x ≤ cwnd + cwnd / 2)
    (λ _. high cwnd w_est) (λ _. let far = way mss cwnd there in omega (arith, far))

least : (a b c : ℕ) → c ≤ a → c ≤ b → c ≤ min a b
least a b c p q = omega arith

below : (a b c : ℕ) → b ≤ c → min a b ≤ c
below a b c p = omega arith

first_of : (a b : ℕ) → min a b ≤ a
first_of a b = omega arith

pub grows : (mss cwnd w_max : ℕ) (e : Option Epoch) (now : ℤ) (rtt : ℕ) → cwnd ≤ most → cwnd ≤ window_in mss cwnd w_max e now rtt
grows mss cwnd w_max None now rtt p = omega arith
grows mss cwnd w_max (Some e) now rtt p =
    let t = millis_between e.since now in
    least most _ cwnd p (grown_low mss cwnd (w_cubic mss w_max e.k t) (w_cubic mss w_max e.k (t + rtt)) e.w_est)

pub half : (mss cwnd w_max : ℕ) (e : Option Epoch) (now : ℤ) (rtt : ℕ) → window_in mss cwnd w_max e now rtt ≤ cwnd + cwnd / 2
half mss cwnd w_max None now rtt = omega arith
half mss cwnd w_max (Some e) now rtt =
    let t = millis_between e.since now in
    below most _ (cwnd + cwnd / 2) (grown_high mss cwnd (w_cubic mss w_max e.k t) (w_cubic mss w_max e.k (t + rtt)) e.w_est)

pub bounded : (mss cwnd w_max : ℕ) (e : Option Epoch) (now : ℤ) (rtt : ℕ) → cwnd ≤ most → window_in mss cwnd w_max e now rtt ≤ most
bounded mss cwnd w_max None now rtt p = p
bounded mss cwnd w_max (Some e) now rtt p = first_of most _

-- where the cube lies below W_est, that is the target
friendly_target : (cwnd w : ℕ) → w ≤ cwnd + cwnd / 2 → w ≤ target cwnd w
friendly_target cwnd w p = omega arith

pub in_first : (here w a b : ℕ) → here < w → (if nat_lt here w then a else b) ≡ a
in_first here w a b p = grind (arith, nat_tests, p)

pub in_second : (here w a b : ℕ) → w ≤ here → (if nat_lt here w then a else b) ≡ b
in_second here w a b p = grind (arith, nat_tests, p)

grown_friendly : (mss cwnd here there w_est : ℕ) → here < w_est → w_est ≤ cwnd + cwnd / 2 → w_est ≤ grown mss cwnd here there w_est
grown_friendly mss cwnd here there w_est less small =
    subst (λ (x : ℕ). w_est ≤ x) (sym (in_first here w_est (target cwnd w_est) (cwnd + (target cwnd there - cwnd) * min mss cwnd / cwnd) less))
    (friendly_target cwnd w_est small)

pub friendly : (mss cwnd w_max : ℕ) (e : Epoch) (now : ℤ) (rtt : ℕ) → w_cubic mss w_max e.k (millis_between e.since now) < e.w_est
    → e.w_est ≤ most → e.w_est ≤ cwnd + cwnd / 2 → e.w_est ≤ window_in mss cwnd w_max (Some e) now rtt
friendly mss cwnd w_max e now rtt less bound small =
    let t = millis_between e.since now in
    least most _ e.w_est bound (grown_friendly mss cwnd (w_cubic mss w_max e.k t) (w_cubic mss w_max e.k (t + rtt)) e.w_est less small)

-- elsewhere the window never passes the cube a round trip later
to_target : (cwnd w way : ℕ) → way ≤ target cwnd w - cwnd → cwnd + way ≤ max cwnd w
to_target cwnd w way p = omega arith

grown_cube : (mss cwnd here there w_est : ℕ) → w_est ≤ here → grown mss cwnd here there w_est ≤ max cwnd there
grown_cube mss cwnd here there w_est less =
    subst (λ (x : ℕ). x ≤ max cwnd there) (sym (in_second here w_est (target cwnd w_est) (cwnd + (target cwnd there - cwnd) * min mss cwnd / cwnd) less))
    (to_target cwnd there ((target cwnd there - cwnd) * min mss cwnd / cwnd) (part (target cwnd there - cwnd) (min mss cwnd) cwnd (omega arith)))

pub under_the_cube : (mss cwnd w_max : ℕ) (e : Epoch) (now : ℤ) (rtt : ℕ) → e.w_est ≤ w_cubic mss w_max e.k (millis_between e.since now)
    → window_in mss cwnd w_max (Some e) now rtt ≤ max cwnd (w_cubic mss w_max e.k (millis_between e.since now + rtt))
under_the_cube mss cwnd w_max e now rtt less =
    let t = millis_between e.since now in
    below most _ _ (grown_cube mss cwnd (w_cubic mss w_max e.k t) (w_cubic mss w_max e.k (t + rtt)) e.w_est less)

-- until K the cube lies at W_max at most
no_more : (w_max r : ℕ) → w_max + 0 - r ≤ w_max
no_more w_max r = omega arith

zero_times : (mss : ℕ) → 0 * mss / 2500 ≡ 0
zero_times mss = omega arith

pub concave : (mss w_max k t : ℕ) → t ≤ k → w_cubic mss w_max k t ≤ w_max
concave mss w_max k t less =
    let none : t - k ≡ 0 = omega (arith, less) in
    let flat : rise mss (t - k) ≡ 0 = ap (λ (x : ℕ). rise mss x) none ∙ zero_times mss in
    subst (λ (x : ℕ). w_max + x - rise mss (k - t) ≤ w_max) (sym flat) (no_more w_max (rise mss (k - t)))

-- LOSSES

pub seven_tenths : (mss flight : ℕ) → flight ≤ most → flight * 7 / 10 ≤ decreased mss flight
seven_tenths mss flight p = omega arith

pub converges : (c : CubicValue) (cwnd : ℕ) → 1 ≤ cwnd → cwnd < c.w_max → (lost c cwnd).w_max < cwnd
converges c cwnd some less =
    subst (λ (x : ℕ). x < cwnd) (sym (in_first cwnd c.w_max (cwnd * 17 / 20) cwnd less)) (shorter cwnd some) where
      shorter : (n : ℕ) → 1 ≤ n → n * 17 / 20 < n
      shorter n p = omega arith

pub falls : (mss cwnd flight : ℕ) → 2 * mss ≤ cwnd → decreased mss (min flight cwnd) ≤ cwnd
falls mss cwnd flight p = omega arith

pub two_segments : (mss flight : ℕ) → 2 * mss ≤ most → 2 * mss ≤ decreased mss flight
two_segments mss flight p = omega arith
