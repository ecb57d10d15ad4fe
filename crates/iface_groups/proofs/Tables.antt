-- What is due in a table.
use Rattle.std.proofs.Common.{◌≡◌, ◌⊎◌, ℕ, zero, suc, ◌+◌, ◌<◌, ◌≤◌, Bool, true, false, nat_le, refl, sym, ◌∙◌, ap, arith, inl, inr}
use Rattle.std.proofs.lemmas.Bool.{leb-true, leb-false, le-leb, lt-leb}
use Rattle.std.specs.Prelude.{◌||◌, min, fold, position, List, [], ◌∷◌, Option, Some, None}
use Rattle.std.specs.List.{list_any, position_from}
use Rattle.std.proofs.lemmas.Iterator.Adapters.{position_from-zero}
use Rattle.iface_groups.specs.Member.{absent, due_at, has_come, next_told}
use Rattle.iface_groups.specs.Table.{row_at, rows_due, sooner, sooner_of, is_row_due, next_row}
use Rattle.iface_groups.specs.declared.member.Member.{Member}
use Rattle.iface_groups.specs.declared.mode.CompatibilityMode.{CompatibilityMode}
use Rattle.iface_groups.specs.declared.table.Row.{Row}
use Rattle.iface_groups.proofs.Members.{bool_is, quiet_before, quiet_never}

or_assoc : (a b c : Bool) → ((a || b) || c) ≡ (a || (b || c))
or_assoc true b c = refl
or_assoc false b c = refl

-- the least of two has come where one of them has
least_has_come : (now a b : ℕ) → nat_le (min a b) now ≡ (nat_le a now || nat_le b now)
least_has_come now a b =
    elim (bool_is (nat_le a now)) [
      | inl hit ↦ rw hit (le-leb (min a b) now (omega (arith, leb-true a now hit)))
      | inr miss ↦ elim (bool_is (nat_le b now)) [
        | inl hit ↦ rw miss (rw hit (le-leb (min a b) now (omega (arith, leb-true b now hit))))
        | inr both ↦ rw miss (rw both (lt-leb (min a b) now (omega (arith, leb-false a now miss, leb-false b now both))))
      ]
    ]

sooner_has_come : (now : ℕ) (a b : Option ℕ) → has_come now (sooner a b) ≡ (has_come now a || has_come now b)
sooner_has_come now None b = refl
sooner_has_come now (Some a) None = elim (bool_is (nat_le a now)) [ inl hit ↦ rw hit refl | inr miss ↦ rw miss refl ]
sooner_has_come now (Some a) (Some b) = least_has_come now a b

-- the soonest moment has come exactly where that of a row has
soonest_has_come : (now : ℕ) (due : Option ℕ) (rows : List Row)
    → has_come now (fold sooner_of due rows) ≡ (has_come now due || list_any (is_row_due now) rows)
soonest_has_come now due [] = elim (bool_is (has_come now due)) [ inl hit ↦ rw hit refl | inr miss ↦ rw miss refl ]
soonest_has_come now due (r ∷ rows) =
    soonest_has_come now (sooner_of due r) rows
    ∙ (ap (λ (b : Bool). b || list_any (is_row_due now) rows) (sooner_has_come now due (due_at r.member))
    ∙ or_assoc (has_come now due) (is_row_due now r) (list_any (is_row_due now) rows))

-- the first that passes, and whether any does
none_from : (p : Row → Bool) (i : ℕ) (rows : List Row) → list_any p rows ≡ false → position_from p i rows ≡ None
none_from p i [] none = refl
none_from p i (r ∷ rows) none =
    elim (bool_is (p r)) [
      | inl hit ↦ let n = rw hit at none in absurd (cc (n))
      | inr miss ↦ let n = rw miss at none in rw miss (none_from p (i + 1) rows n)
    ]

some_from : (p : Row → Bool) (i : ℕ) (rows : List Row) → list_any p rows ≡ true → position_from p i rows ≡ None → ⊥
some_from p i [] any none = cc (any)
some_from p i (r ∷ rows) any none =
    elim (bool_is (p r)) [
      | inl hit ↦ let n = rw hit at none in cc (n)
      | inr miss ↦ let a = rw miss at any in let n = rw miss at none in some_from p (i + 1) rows a n
    ]

from_start : (now : ℕ) (rows : List Row) → next_row now rows ≡ position_from (is_row_due now) 0 rows
from_start now rows = position_from-zero (is_row_due now) rows

passes_at : (now : ℕ) (rows : List Row) → has_come now (rows_due rows) ≡ list_any (is_row_due now) rows
passes_at now rows = soonest_has_come now None rows

pub none_before : (now at : ℕ) (rows : List Row) → rows_due rows ≡ Some at → now < at → next_row now rows ≡ None
none_before now at rows due before =
    from_start now rows
    ∙ none_from (is_row_due now) 0 rows
    (sym (passes_at now rows) ∙ (ap (has_come now) due ∙ lt-leb at now before))

pub none_ever : (now : ℕ) (rows : List Row) → rows_due rows ≡ None → next_row now rows ≡ None
none_ever now rows due = from_start now rows ∙ none_from (is_row_due now) 0 rows (sym (passes_at now rows) ∙ ap (has_come now) due)

pub some_then : (now at : ℕ) (rows : List Row) → rows_due rows ≡ Some at → at ≤ now → next_row now rows ≡ None → ⊥
some_then now at rows due come none =
    some_from (is_row_due now) 0 rows (sym (passes_at now rows) ∙ (ap (has_come now) due ∙ le-leb at now come)) (sym (from_start now rows) ∙ none)

-- a member whose moment hasn't come tells nothing
untold_by : (mode : CompatibilityMode) (now : ℕ) (m : Member) (due : Option ℕ) → due_at m ≡ due → has_come now due ≡ false → next_told mode now m ≡ None
untold_by mode now m None is not_come = quiet_never mode now m is
untold_by mode now m (Some at) is not_come = quiet_before mode now at m is (omega (arith, leb-false at now not_come))

untold : (mode : CompatibilityMode) (now : ℕ) (r : Row) → is_row_due now r ≡ false → next_told mode now r.member ≡ None
untold mode now r not_due = untold_by mode now r.member (due_at r.member) refl not_due

-- none that passes, from a place on: so none at any
none_at : (mode : CompatibilityMode) (now k i : ℕ) (rows : List Row) → position_from (is_row_due now) k rows ≡ None → next_told mode now (row_at rows i).member ≡ None
none_at mode now k i [] none = refl
none_at mode now k zero (r ∷ rows) none =
    elim (bool_is (is_row_due now r)) [ inl hit ↦ let n = rw hit at none in absurd (cc (n)) | inr miss ↦ untold mode now r miss ]
none_at mode now k (suc i) (r ∷ rows) none =
    elim (bool_is (is_row_due now r)) [
      | inl hit ↦ let n = rw hit at none in absurd (cc (n))
      | inr miss ↦ let n = rw miss at none in none_at mode now (k + 1) i rows n
    ]

pub nothing_told : (mode : CompatibilityMode) (now i : ℕ) (rows : List Row) → next_row now rows ≡ None → next_told mode now (row_at rows i).member ≡ None
nothing_told mode now i rows none = none_at mode now 0 i rows (sym (from_start now rows) ∙ none)
