-- Rows of groups to which the host doesn't listen any more, and rows that aren't due.
use Rattle.std.proofs.Common.{◌≡◌, ℕ, Bool, true, false, List, [], ◌∷◌, ◌++◌, Some, refl, sym, ◌∙◌, ap, arith, inl, inr, subst}
use Rattle.std.proofs.lemmas.Bool.{le-leb}
use Rattle.std.specs.Prelude.{◌&&◌, not, if◌then◌else◌}
use Rattle.std.specs.List.{filter, list_any}
use Rattle.ip_wire.specs.IpAddress.{IpAddress}
use Rattle.ip_wire.specs.IpAddress.TheVariants as Ip
use Rattle.net_base.specs.RandomWords.{next_state, word}
use Rattle.wire_igmp.specs.declared.group_record.RecordType.TheVariants as Record
use Rattle.iface_groups.specs.Member.{next_told}
use Rattle.iface_groups.specs.Querier.{mode_at}
use Rattle.iface_groups.specs.Table.{row_at}
use Rattle.iface_groups.specs.declared.mode.CompatibilityMode.{CompatibilityMode}
use Rattle.iface_groups.specs.declared.mode.CompatibilityMode.TheVariants as Mode
use Rattle.iface_groups.specs.declared.mode.Told.TheVariants as Told_of
use Rattle.iface_groups.specs.declared.table.Row.{Row}
use Rattle.iface_groups.proofs.Members.{bool_is}
use Rattle.iface_tables.specs.Inner.{InnerValue, is_member_of}
use Rattle.iface_reports.specs.Reports.{ReportsValue, micros, mode_of, is_stray, left_by, left_row, without_strays}
use Rattle.iface_reports.specs.Told.{is_due_in, first_due, record_in, records_in, told_row}
use Rattle.proof_reports.proofs.Places.{first_passes, from_zero, none_made}

and_false : (a : Bool) → (a && false) ≡ false
and_false true = refl
and_false false = refl

left_of : (a b : Bool) → (a && b) ≡ true → a ≡ true
left_of true b e = refl
left_of false b e = absurd (cc (e))

-- STRAYS

left_listens : (mode : CompatibilityMode) (now drawn : ℕ) (row : Row) → row.member.listens ≡ true → (left_by mode now drawn row).member.listens ≡ false
left_listens mode now drawn row listens = rw listens refl

left_is_none : (i : InnerValue) (mode : CompatibilityMode) (drawn : ℕ) (row : Row) → row.member.listens ≡ true
    → is_stray i (left_by mode (micros i) drawn row) ≡ false
left_is_none i mode drawn row listens = ap (λ (b : Bool). b && not (is_member_of i row.group)) (left_listens mode (micros i) drawn row listens)

no_stray : (i : InnerValue) (igmp mld : CompatibilityMode) (drawn : ℕ) (row : Row) → is_stray i (left_row i igmp mld drawn row) ≡ false
no_stray i igmp mld drawn row =
    elim (bool_is (is_stray i row)) [
      | inl hit ↦ rw hit (left_is_none i (mode_of igmp mld row.group) drawn row (left_of row.member.listens (not (is_member_of i row.group)) hit))
      | inr miss ↦ rw miss miss
    ]

pub strays_left : (i : InnerValue) (r : ReportsValue) → list_any (is_stray i) (without_strays i r).rows ≡ false
strays_left i r =
    elim (bool_is (list_any (is_stray i) r.rows)) [
      | inl hit ↦ rw hit (none_made (is_stray i) (left_row i (mode_at (micros i) r.igmp) (mode_at (micros i) r.mld) (word (next_state r.random)))
          (no_stray i (mode_at (micros i) r.igmp) (mode_at (micros i) r.mld) (word (next_state r.random))) r.rows)
      | inr miss ↦ rw miss miss
    ]

pub none_left : (i : InnerValue) (r : ReportsValue) → list_any (is_stray i) r.rows ≡ false → without_strays i r ≡ r
none_left i r miss = rw miss refl

mode_same : (mode : CompatibilityMode) (group : IpAddress) → mode_of mode mode group ≡ mode
mode_same mode (Ip.Ipv4 a) = refl
mode_same mode (Ip.Ipv6 a) = refl

left_told : (now drawn : ℕ) (row : Row) → row.member.listens ≡ true
    → next_told Mode.Igmpv3 now (left_by Mode.Igmpv3 now drawn row).member ≡ Some (Told_of.Record Record.ChangeToInclude)
left_told now drawn row listens = rw listens (rw (le-leb now now (omega arith)) refl)

pub left_says : (i : InnerValue) (drawn : ℕ) (row : Row) → is_stray i row ≡ true
    → next_told Mode.Igmpv3 (micros i) (left_row i Mode.Igmpv3 Mode.Igmpv3 drawn row).member ≡ Some (Told_of.Record Record.ChangeToInclude)
left_says i drawn row stray =
    let made : left_row i Mode.Igmpv3 Mode.Igmpv3 drawn row ≡ left_by Mode.Igmpv3 (micros i) drawn row =
    rw stray (ap (λ (mode : CompatibilityMode). left_by mode (micros i) drawn row) (mode_same Mode.Igmpv3 row.group)) in
    ap (λ (x : Row). next_told Mode.Igmpv3 (micros i) x.member) made
    ∙ left_told (micros i) drawn row (left_of row.member.listens (not (is_member_of i row.group)) stray)

pub member_stays : (i : InnerValue) (drawn : ℕ) (row : Row) → is_member_of i row.group ≡ true → left_row i Mode.Igmpv3 Mode.Igmpv3 drawn row ≡ row
member_stays i drawn row member =
    let no : is_stray i row ≡ false = ap (λ (b : Bool). row.member.listens && not b) member ∙ and_false row.member.listens in
    rw no refl

-- ROWS THAT ARE DUE

pub first_is_due : (family : IpAddress) (now at : ℕ) (rows : List Row) → first_due family now rows ≡ Some at → is_due_in family now (row_at rows at) ≡ true
first_is_due family now at rows first =
    let place = first_passes (is_due_in family now) 0 at rows (sym (from_zero (is_due_in family now) rows) ∙ first) in
    let there : place.0 ≡ at = omega (arith, place.1) in
    subst (λ (n : ℕ). is_due_in family now (row_at rows n) ≡ true) there place.3

none_of : (family : IpAddress) (now : ℕ) (row : Row) → is_due_in family now row ≡ false → record_in family now row ≡ []
none_of family now row miss = rw miss refl

records_with : (family : IpAddress) (now : ℕ) (r : Row) (rows due : List Row) (is : Bool) → is_due_in family now r ≡ is
    → records_in family now rows ≡ records_in family now due → record_in family now r ++ records_in family now rows ≡ records_in family now (if is then r ∷ due else due)
records_with family now r rows due true is rest = ap (λ (bytes : List ℕ). record_in family now r ++ bytes) rest
records_with family now r rows due false is rest = ap (λ (bytes : List ℕ). bytes ++ records_in family now rows) (none_of family now r is) ∙ rest

pub records_of_due : (family : IpAddress) (now : ℕ) (rows : List Row) → records_in family now rows ≡ records_in family now (filter (is_due_in family now) rows)
records_of_due family now [] = refl
records_of_due family now (r ∷ rows) =
    records_with family now r rows (filter (is_due_in family now) rows) (is_due_in family now r) refl (records_of_due family now rows)

pub others_stay : (family : IpAddress) (now : ℕ) (row : Row) → is_due_in family now row ≡ false → told_row family now row ≡ row
others_stay family now row miss = rw miss refl
