-- Before anything is due nothing is told.
use Rattle.std.proofs.Common.{◌≡◌, ℕ, ◌+◌, ◌<◌, ◌&&◌, ℤ, pos, negsuc, ◌≤ℤ◌, ◌<ℤ◌, Bool, true, false, List, [], ◌∷◌, Option, Some, None, inl, inr, refl, sym, ap, ◌∙◌, subst, arith}
use Rattle.std.specs.Prelude.{min, position, unsigned_abs}
use Rattle.std.specs.List.{position_from}
use Rattle.std.proofs.lemmas.Iterator.Adapters.{position_from-zero}
use Rattle.net_base.specs.Device.{Move}
use Rattle.ip_wire.specs.AddressTests.{are_of_one_family}
use Rattle.ip_wire.specs.IpAddress.{IpAddress}
use Rattle.iface_groups.specs.Table.{is_row_due, next_row, rows_due}
use Rattle.iface_groups.specs.declared.table.Row.{Row}
use Rattle.iface_groups.proofs.Members.{bool_is}
use Rattle.iface_groups.proofs.Tables.{none_before, none_ever}
use Rattle.iface_tables.specs.Inner.{InnerValue}
use Rattle.iface_reports.specs.Reports.{ReportsValue, instant_of, last_instant, micros, reports_due}
use Rattle.iface_reports.specs.Told.{first_due, is_due_in, v4_family, v6_family}
use Rattle.iface_reports.specs.Transmits.{Tells, TellsAt, Transmits}

-- ROWS

and_false : (a : Bool) → a && false ≡ false
and_false true = refl
and_false false = refl

-- where no row is due none of a family is
none_from : (family : IpAddress) (now k : ℕ) (rows : List Row) → position_from (is_row_due now) k rows ≡ None → position_from (is_due_in family now) k rows ≡ None
none_from family now k [] none = refl
none_from family now k (r ∷ rows) none =
    elim (bool_is (is_row_due now r)) [
      | inl hit ↦ let n = rw hit at none in absurd (cc (n))
      | inr miss ↦ let n = rw miss at none in
          let no : is_due_in family now r ≡ false = ap (λ (b : Bool). are_of_one_family family r.group && b) miss ∙ and_false (are_of_one_family family r.group) in
          rw no (none_from family now (k + 1) rows n)
    ]

none_in : (family : IpAddress) (now : ℕ) (rows : List Row) → next_row now rows ≡ None → first_due family now rows ≡ None
none_in family now rows none =
    position_from-zero (is_due_in family now) rows ∙ none_from family now 0 rows (sym (position_from-zero (is_row_due now) rows) ∙ none)

-- MOMENTS

-- there is no such instant, or it is later
abbrev pub IsBefore : ℤ → Option ℤ → Type 0
IsBefore t None = Unit {0}
IsBefore t (Some at) = t <ℤ at

natural_before : (now m : ℕ) → pos now <ℤ pos m → now < m
natural_before now m before = grind (arith)

negative : (n : ℕ) → pos 0 ≤ℤ negsuc n → ⊥
negative n from = grind (arith)

not_yet : (t : ℤ) (due : Option ℕ) (rows : List Row) → pos 0 ≤ℤ t → rows_due rows ≡ due → IsBefore t (instant_of due) → next_row (unsigned_abs t) rows ≡ None
not_yet (pos now) None rows from is before = none_ever now rows is
not_yet (pos now) (Some at) rows from is before =
    let less : now < min at last_instant = natural_before now (min at last_instant) before in
    none_before now at rows is (omega (arith, less))
not_yet (negsuc n) due rows from is before = absurd (negative n from)

-- WHAT IS TOLD

module _ {D : Type 0} (moves : D → Move → D → Type 0) (i : InnerValue) where
  none_at : (old : D) (family : IpAddress) (r : ReportsValue) (at : Option ℕ) (went : Bool) (new : D) (after : ReportsValue) → at ≡ None
      → TellsAt moves i old family r at went new after → (went ≡ true) × (new ≡ old) × (after ≡ r)
  none_at old family r None went new after none tells = tells
  none_at old family r (Some at) went new after none tells = absurd (cc)

  none_told : (old : D) (family : IpAddress) (r : ReportsValue) (went : Bool) (new : D) (after : ReportsValue) → next_row (micros i) r.rows ≡ None
      → Tells moves i old family r went new after → (went ≡ true) × (new ≡ old) × (after ≡ r)
  none_told old family r went new after none tells =
      none_at old family r (first_due family (micros i) r.rows) went new after (none_in family (micros i) r.rows none) tells

  none_sent : (old : D) (r : ReportsValue) (went : Bool) (new : D) (after : ReportsValue) → next_row (micros i) r.rows ≡ None
      → Transmits moves i old r went new after → (went ≡ true) × (new ≡ old) × (after ≡ r)
  none_sent old r went new after none (inl stops) = absurd (let said = (none_told old v4_family r false new after none stops.0).0 in cc (said))
  none_sent old r went new after none (inr goes) =
      let first = none_told old v4_family r true goes.0 goes.1 none goes.2 in
      let still : next_row (micros i) goes.1.rows ≡ None = ap (λ (x : ReportsValue). next_row (micros i) x.rows) first.2 ∙ none in
      let second = none_told goes.0 v6_family goes.1 went new after still goes.3 in
      (second.0, second.1 ∙ first.1, second.2 ∙ first.2)

  pub quiet_reports : (old : D) (r : ReportsValue) (went : Bool) (new : D) (after : ReportsValue) → pos 0 ≤ℤ i.instant → IsBefore i.instant (reports_due r)
      → Transmits moves i old r went new after → (went ≡ true) × (new ≡ old) × (after ≡ r)
  quiet_reports old r went new after from before =
      none_sent old r went new after (not_yet i.instant (rows_due r.rows) r.rows from refl before)
