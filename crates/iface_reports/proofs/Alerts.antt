-- One option after the other.
use Rattle.std.proofs.Common.{◌≡◌, ℕ, suc, Bool, true, false, List, drop, ap, ◌∙◌}
use Rattle.iface_reports.specs.Heard.{alerts_among, option_at_front}
use Rattle.iface_reports.specs.declared.mld_in.OptionAhead.{OptionAhead}
use Rattle.iface_reports.specs.declared.mld_in.OptionAhead.TheVariants as Ahead

abbrev pub after_front : ℕ → List ℕ → OptionAhead → Bool
after_front most bytes Ahead.End = false
after_front most bytes Ahead.Alert = true
after_front most bytes (Ahead.Other len) = alerts_among most (drop len bytes)

by_front : (most : ℕ) (bytes : List ℕ) (front : OptionAhead) → option_at_front bytes ≡ front → alerts_among (suc most) bytes ≡ after_front most bytes front
unfolding alerts_among
by_front most bytes front is = ap (after_front most bytes) is

pub front_counts : (left most : ℕ) (bytes : List ℕ) (front : OptionAhead) → left ≡ suc most → front ≡ option_at_front bytes
    → alerts_among left bytes ≡ after_front most bytes front
front_counts left most bytes front more is = ap (λ n. alerts_among n bytes) more ∙ by_front most bytes front (let e : option_at_front bytes ≡ front = cc in e)

pub none_left : (left : ℕ) (bytes : List ℕ) → left ≡ 0 → alerts_among left bytes ≡ false
unfolding alerts_among
none_left left bytes none = ap (λ n. alerts_among n bytes) none
