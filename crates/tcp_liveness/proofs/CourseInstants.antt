-- Instants of a course, and times between them.
use Rattle.std.proofs.Common.{◌≡◌, ℕ, ℤ, pos, ◌+ℤ◌, ◌≤ℤ◌, ◌<ℤ◌, int_lt, int_le, Bool, true, false, Some, refl, arith}
use Rattle.std.proofs.lemmas.Int.{ints}
use Rattle.tcp_invariants.specs.Moments.{is_due}

pub itself : (a : ℤ) → a ≤ℤ a
itself a = grind arith

pub upto : (a b c : ℤ) → a ≤ℤ b → b ≤ℤ c → a ≤ℤ c
upto a b c e f = grind arith

pub at_most : (instant now : ℤ) → instant ≡ now → instant ≤ℤ now
at_most instant now e = grind arith

pub not_both : (last end : ℤ) → end ≤ℤ last → last <ℤ end → ⊥
not_both last end e f = first_of (omega (arith, ints), grind (arith, ints))

pub later : (now : ℤ) (n : ℕ) → now ≤ℤ (now +ℤ pos n)
later now n = first_of (omega (arith, ints), grind (arith, ints))

pub more_time : (a b : ℤ) (n : ℕ) → a ≤ℤ b → (a +ℤ pos n) ≤ℤ (b +ℤ pos n)
more_time a b n e = first_of (omega (arith, ints), grind (arith, ints))

pub less_time : (a end : ℤ) (n : ℕ) → (a +ℤ pos n) <ℤ end → a <ℤ end
less_time a end n e = first_of (omega (arith, ints), grind (arith, ints))

pub sooner : (a b end : ℤ) (n : ℕ) → a ≤ℤ b → (b +ℤ pos n) <ℤ end → (a +ℤ pos n) <ℤ end
sooner a b end n e f = first_of (omega (arith, ints), grind (arith, ints))

pub below : (due now : ℤ) → int_lt due now ≡ true → due ≤ℤ now
below due now e = first_of (omega (arith, ints), grind (arith, ints))

pub not_below : (due now : ℤ) → int_lt due now ≡ false → now ≤ℤ due
not_below due now e = first_of (omega (arith, ints), grind (arith, ints))

pub passed : (limit now : ℤ) → int_lt limit now ≡ true → limit <ℤ now
passed limit now e = first_of (omega (arith, ints), grind (arith, ints))

pub come : (when now : ℤ) → when ≤ℤ now → is_due now (Some when) ≡ true
come when now e = by (int_le when now) refl where
  never : int_le when now ≡ false → ⊥
  never so = first_of (omega (arith, ints), grind (arith, ints))

  by : (due : Bool) → int_le when now ≡ due → due ≡ true
  by true so = refl
  by false so = absurd (never so)
