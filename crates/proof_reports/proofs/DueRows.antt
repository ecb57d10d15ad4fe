-- What is due is tried.
use Rattle.std.proofs.Common.{◌≡◌, ◌⊎◌, ℕ, ◌+◌, ◌≤◌, ◌&&◌, ℤ, pos, negsuc, ◌≤ℤ◌, Bool, true, false, List, [], ◌∷◌, Option, Some, None, inl, inr, refl, sym, ap, ◌∙◌, subst, arith}
use Rattle.std.specs.Prelude.{min, position, unsigned_abs}
use Rattle.std.specs.List.{position_from}
use Rattle.std.proofs.lemmas.Iterator.Adapters.{position_from-zero}
use Rattle.net_base.specs.Device.{Move, Allowed}
use Rattle.net_base.specs.Time.{IsMoment}
use Rattle.ip_wire.specs.AddressTests.{are_of_one_family}
use Rattle.ip_wire.specs.IpAddress.{IpAddress}
use Rattle.ip_wire.specs.IpAddress.TheVariants as Ip
use Rattle.iface_groups.specs.Table.{is_row_due, next_row, rows_due}
use Rattle.iface_groups.specs.declared.table.Row.{Row}
use Rattle.iface_groups.proofs.Members.{bool_is}
use Rattle.iface_groups.proofs.Tables.{some_then}
use Rattle.iface_tables.specs.Inner.{InnerValue}
use Rattle.iface_reports.specs.Reports.{ReportsValue, instant_of, last_instant, micros, reports_due}
use Rattle.iface_reports.specs.Told.{ReportValue, first_due, is_due_in, v4_family, v6_family, report_at}
use Rattle.iface_reports.specs.Transmits.{GoesIf, Tells, TellsAt, Transmits}

-- ROWS: one that is due is due in its family

and_false : (a : Bool) → a && false ≡ false
and_false true = refl
and_false false = refl

family_of : (g : IpAddress) → (are_of_one_family v4_family g ≡ true) ⊎ (are_of_one_family v6_family g ≡ true)
family_of (Ip.Ipv4 a) = inl refl
family_of (Ip.Ipv6 a) = inr refl

not_in : (family : IpAddress) (now : ℕ) (r : Row) → is_row_due now r ≡ false → is_due_in family now r ≡ false
not_in family now r miss =
    ap (λ (b : Bool). are_of_one_family family r.group && b) miss ∙ and_false (are_of_one_family family r.group)

due_in : (family : IpAddress) (now : ℕ) (r : Row) → are_of_one_family family r.group ≡ true → is_row_due now r ≡ true → is_due_in family now r ≡ true
due_in family now r of hit = rw of hit

none_both : (now k : ℕ) (rows : List Row) → position_from (is_due_in v4_family now) k rows ≡ None → position_from (is_due_in v6_family now) k rows ≡ None
    → position_from (is_row_due now) k rows ≡ None
none_both now k [] four six = refl
none_both now k (r ∷ rows) four six =
    elim (bool_is (is_row_due now r)) [
      | inl hit ↦ elim (family_of r.group) [
        | inl of ↦ let n = rw (due_in v4_family now r of hit) at four in absurd (cc (n))
        | inr of ↦ let n = rw (due_in v6_family now r of hit) at six in absurd (cc (n))
      ]
      | inr miss ↦
          let a = rw (not_in v4_family now r miss) at four in
          let b = rw (not_in v6_family now r miss) at six in
          rw miss (none_both now (k + 1) rows a b)
    ]

neither : (now : ℕ) (rows : List Row) → first_due v4_family now rows ≡ None → first_due v6_family now rows ≡ None → next_row now rows ≡ None
neither now rows four six =
    position_from-zero (is_row_due now) rows
    ∙ none_both now 0 rows (sym (position_from-zero (is_due_in v4_family now) rows) ∙ four) (sym (position_from-zero (is_due_in v6_family now) rows) ∙ six)

-- MOMENTS

natural_le : (a b : ℕ) → pos a ≤ℤ pos b → a ≤ b
natural_le a b le = grind (arith)

negative : (n : ℕ) → pos 0 ≤ℤ negsuc n → ⊥
negative n from = grind (arith)

same_some : (x y : ℤ) → Some x ≡ Some y → x ≡ y
same_some x y is = cc

has_come : (t : ℤ) → IsMoment t → (due : Option ℕ) (rows : List Row) → rows_due rows ≡ due → (at : ℤ) → instant_of due ≡ Some at → at ≤ℤ t
    → next_row (unsigned_abs t) rows ≡ None → ⊥
has_come (pos now) moment None rows is at same late none = absurd (cc)
has_come (pos now) moment (Some n) rows is at same late none =
    let low : min n last_instant ≤ now =
    natural_le (min n last_instant) now (subst (λ (x : ℤ). x ≤ℤ pos now) (sym (same_some (pos (min n last_instant)) at same)) late) in
    let high = natural_le now _ moment.1 in
    some_then now n rows is (omega (arith, low, high)) none
has_come (negsuc k) moment due rows is at same late none = absurd (negative k moment.0)

-- WHAT IS ASKED

module _ {D : Type 0} (moves : D → Move → D → Type 0) (i : InnerValue) where
  abbrev Asks : D → Type 0
  Asks old = (given : Bool) × (mid : D) × moves old (Allowed i.instant given) mid

  goes : (old new : D) (report : ReportValue) (went : Bool) → GoesIf moves i old report went new → Asks old
  goes old new report true one = (true, one.0, one.1)
  goes old new report false (inl none) = (false, new, none)
  goes old new report false (inr one) = (true, one.0, one.1)

  stops : (old new : D) (family : IpAddress) (r after : ReportsValue) (at : Option ℕ) → TellsAt moves i old family r at false new after → Asks old
  stops old new family r after None tells = absurd (let said = tells.0 in cc (said))
  stops old new family r after (Some at) tells = goes old new (report_at i family r at) false tells.0

  asks_or : (old new : D) (family : IpAddress) (r after : ReportsValue) (at : Option ℕ) (went : Bool) → TellsAt moves i old family r at went new after
      → Asks old ⊎ ((at ≡ None) × (new ≡ old) × (after ≡ r))
  asks_or old new family r after None went tells = inr (refl, tells.1, tells.2)
  asks_or old new family r after (Some at) true tells = inl (goes old new (report_at i family r at) true tells.0)
  asks_or old new family r after (Some at) false tells = inl (goes old new (report_at i family r at) false tells.0)

  pub tried : (old new : D) (r after : ReportsValue) (went : Bool) (at : ℤ) → IsMoment i.instant → reports_due r ≡ Some at → at ≤ℤ i.instant
      → Transmits moves i old r went new after → Asks old
  tried old new r after went at moment due late (inl one) = stops old new v4_family r after (first_due v4_family (micros i) r.rows) one.0
  tried old new r after went at moment due late (inr one) =
      first (asks_or old one.0 v4_family r one.1 (first_due v4_family (micros i) r.rows) true one.2)
    where
      second : (first_due v4_family (micros i) r.rows ≡ None) → one.0 ≡ old → one.1 ≡ r
          → Asks one.0 ⊎ ((first_due v6_family (micros i) one.1.rows ≡ None) × (new ≡ one.0) × (after ≡ one.1)) → Asks old
      second four same is (inl asks) = subst Asks same asks
      second four same is (inr none) =
          let six : first_due v6_family (micros i) r.rows ≡ None =
          subst (λ (x : ReportsValue). first_due v6_family (micros i) x.rows ≡ None) is none.0 in
          absurd (has_come i.instant moment (rows_due r.rows) r.rows refl at due late (neither (micros i) r.rows four six))

      first : Asks old ⊎ ((first_due v4_family (micros i) r.rows ≡ None) × (one.0 ≡ old) × (one.1 ≡ r)) → Asks old
      first (inl asks) = asks
      first (inr none) =
          second none.0 none.1 none.2 (asks_or one.0 new v6_family one.1 after (first_due v6_family (micros i) one.1.rows) went one.3)
