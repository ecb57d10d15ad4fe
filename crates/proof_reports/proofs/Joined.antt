-- What a join makes of the rows.
use Rattle.std.proofs.Common.{◌≡◌, ℕ, ◌+◌, ◌<◌, Bool, true, false, List, [], ◌∷◌, ◌++◌, length, Option, Some, None, refl, sym, ◌∙◌, ap, arith, subst}
use Rattle.std.proofs.lemmas.Bool.{le-leb}
use Rattle.std.proofs.lemmas.Slice.Eq.{bytes_eq-Decides}
use Rattle.std.specs.Prelude.{◌==◌, ◌&&◌, not, slice_set}
use Rattle.std.specs.List.{position_from}
use Rattle.ip_wire.specs.AddressTests.{is_same_address}
use Rattle.ip_wire.specs.IpAddress.{IpAddress}
use Rattle.ip_wire.specs.IpAddress.TheVariants as Ip
use Rattle.net_base.specs.RandomWords.{next_state, word}
use Rattle.wire_igmp.specs.declared.group_record.RecordType.TheVariants as Record
use Rattle.iface_groups.specs.Member.{absent, changed, joined, due_at, next_told}
use Rattle.iface_groups.specs.Table.{row_at, is_of, row_index_of, first_free, is_free, slot_by, member_at, member_of, listens_to, entered, entered_at}
use Rattle.iface_groups.specs.declared.member.Member.{Member}
use Rattle.iface_groups.specs.declared.mode.CompatibilityMode.TheVariants as Mode
use Rattle.iface_groups.specs.declared.mode.Told.TheVariants as Told_of
use Rattle.iface_groups.specs.declared.table.Row.{Row}
use Rattle.iface_tables.specs.Inner.{InnerValue}
use Rattle.iface_reports.specs.Reports.{ReportsValue, micros, mode_in, gap_of, is_reported, is_new, is_full_for, with_group, joined_by}
use Rattle.proof_reports.proofs.Places.{first_passes, set_first, set_none, behind_none, row_behind, row_set, from_zero}

own_group : (group : IpAddress) → is_same_address group group ≡ true
own_group (Ip.Ipv4 a) = (bytes_eq-Decides a.0 a.0).1 refl
own_group (Ip.Ipv6 a) = (bytes_eq-Decides a.0 a.0).1 refl

pub not_true : (a : Bool) → not a ≡ true → a ≡ false
not_true true e = absurd (cc (e))
not_true false e = refl

pub left_of : (a b : Bool) → (a && b) ≡ true → a ≡ true
left_of true b e = refl
left_of false b e = absurd (cc (e))

right_of : (a b : Bool) → (a && b) ≡ true → b ≡ true
right_of true b e = e
right_of false b e = absurd (cc (e))

-- the row that a join puts in
abbrev pub entry : IpAddress → ℕ → ℕ → Member → Row
entry group now gap m = record { group = group; member = joined now gap m }

fresh_entry : (now gap : ℕ) (m : Member) → m.listens ≡ false → joined now gap m ≡ changed true 2 now gap
fresh_entry now gap m miss = rw miss refl

pub from_start : (n : ℕ) → Some (0 + n) ≡ Some n
from_start n = ap (λ (a : ℕ). Some a) (let same : 0 + n ≡ n = omega arith in same)

member_there : (rows : List Row) (group : IpAddress) (n : ℕ) (x : Row) → row_index_of rows group ≡ Some n → row_at rows n ≡ x → member_of rows group ≡ x.member
member_there rows group n x index row = ap (λ (o : Option ℕ). member_at o rows) index ∙ ap (λ (y : Row). y.member) row

in_own_row : (rows : List Row) (group : IpAddress) (now gap n : ℕ) → row_index_of rows group ≡ Some n → listens_to rows group ≡ false
    → member_of (slice_set rows n (entry group now gap (row_at rows n).member)) group ≡ changed true 2 now gap
in_own_row rows group now gap n index miss =
    let first : position_from (is_of group) 0 rows ≡ Some n = sym (from_zero (is_of group) rows) ∙ index in
    let place = first_passes (is_of group) 0 n rows first in
    let in_range : n < length rows = omega (arith, place.1, place.2) in
    let x : Row = entry group now gap (row_at rows n).member in
    let still : row_index_of (slice_set rows n x) group ≡ Some n =
    from_zero (is_of group) (slice_set rows n x) ∙ (set_first (is_of group) 0 n rows x (first ∙ sym (from_start n)) (own_group group) ∙ from_start n) in
    let listens : (row_at rows n).member.listens ≡ false = sym (ap (λ (o : Option ℕ). (member_at o rows).listens) index) ∙ miss in
    member_there (slice_set rows n x) group n x still (row_set rows n x in_range) ∙ fresh_entry now gap (row_at rows n).member listens

in_free_row : (rows : List Row) (group : IpAddress) (now gap n : ℕ) → row_index_of rows group ≡ None → first_free rows ≡ Some n
    → member_of (slice_set rows n (entry group now gap (row_at rows n).member)) group ≡ changed true 2 now gap
in_free_row rows group now gap n none free =
    let none_first : position_from (is_of group) 0 rows ≡ None = sym (from_zero (is_of group) rows) ∙ none in
    let place = first_passes is_free 0 n rows (sym (from_zero is_free rows) ∙ free) in
    let there : place.0 ≡ n = omega (arith, place.1) in
    let in_range : n < length rows = omega (arith, place.2, there) in
    let is_free_there : is_free (row_at rows n) ≡ true = subst (λ (a : ℕ). is_free (row_at rows a) ≡ true) there place.3 in
    let listens : (row_at rows n).member.listens ≡ false = not_true (row_at rows n).member.listens (left_of (not (row_at rows n).member.listens) ((row_at rows n).member.changes == 0) is_free_there) in
    let x : Row = entry group now gap (row_at rows n).member in
    let index : row_index_of (slice_set rows n x) group ≡ Some n =
    from_zero (is_of group) (slice_set rows n x) ∙ (set_none (is_of group) 0 n rows x none_first in_range (own_group group) ∙ from_start n) in
    member_there (slice_set rows n x) group n x index (row_set rows n x in_range) ∙ fresh_entry now gap (row_at rows n).member listens

in_new_row : (rows : List Row) (group : IpAddress) (now gap : ℕ) → row_index_of rows group ≡ None
    → member_of (rows ++ entry group now gap absent ∷ []) group ≡ changed true 2 now gap
in_new_row rows group now gap none =
    let none_first : position_from (is_of group) 0 rows ≡ None = sym (from_zero (is_of group) rows) ∙ none in
    let x : Row = entry group now gap absent in
    let index : row_index_of (rows ++ x ∷ []) group ≡ Some (length rows) =
    from_zero (is_of group) (rows ++ x ∷ []) ∙ (behind_none (is_of group) 0 rows x none_first (own_group group) ∙ from_start (length rows)) in
    member_there (rows ++ x ∷ []) group (length rows) x index (row_behind rows x)

entered_free : (rows : List Row) (group : IpAddress) (now gap : ℕ) (free : Option ℕ) → first_free rows ≡ free → row_index_of rows group ≡ None
    → member_of (entered_at free rows group now gap) group ≡ changed true 2 now gap
entered_free rows group now gap None is none = in_new_row rows group now gap none
entered_free rows group now gap (Some n) is none = in_free_row rows group now gap n none is

entered_slot : (rows : List Row) (group : IpAddress) (now gap : ℕ) (own : Option ℕ) → row_index_of rows group ≡ own → listens_to rows group ≡ false
    → member_of (entered_at (slot_by own rows) rows group now gap) group ≡ changed true 2 now gap
entered_slot rows group now gap None is miss = entered_free rows group now gap (first_free rows) refl is
entered_slot rows group now gap (Some n) is miss = in_own_row rows group now gap n is miss

entered_is : (rows : List Row) (group : IpAddress) (now gap : ℕ) → listens_to rows group ≡ false
    → member_of (entered rows group now gap) group ≡ changed true 2 now gap
entered_is rows group now gap miss = entered_slot rows group now gap (row_index_of rows group) refl miss

abbrev gap_for : InnerValue → IpAddress → ReportsValue → ℕ
gap_for i group r = gap_of (mode_in i group r) (word (next_state r.random))

joined_is : (i : InnerValue) (group : IpAddress) (r : ReportsValue) → is_new group r ≡ true → is_full_for group r.rows ≡ false
    → member_of (joined_by i group r).rows group ≡ changed true 2 (micros i) (gap_for i group r)
joined_is i group r new room =
    let miss : listens_to r.rows group ≡ false = not_true (listens_to r.rows group) (right_of (is_reported group) (not (listens_to r.rows group)) new) in
    let made : joined_by i group r ≡ with_group i group r = rw new (rw room refl) in
    ap (λ (q : ReportsValue). member_of q.rows group) made ∙ entered_is r.rows group (micros i) (gap_for i group r) miss

told_now : (now gap : ℕ) → next_told Mode.Igmpv3 now (changed true 2 now gap) ≡ Some (Told_of.Record Record.ChangeToExclude)
told_now now gap = rw (le-leb now now (omega arith)) refl

pub joined_listens : (i : InnerValue) (group : IpAddress) (r : ReportsValue) → is_new group r ≡ true → is_full_for group r.rows ≡ false
    → listens_to (joined_by i group r).rows group ≡ true
joined_listens i group r new room = ap (λ (m : Member). m.listens) (joined_is i group r new room)

pub joined_due : (i : InnerValue) (group : IpAddress) (r : ReportsValue) → is_new group r ≡ true → is_full_for group r.rows ≡ false
    → due_at (member_of (joined_by i group r).rows group) ≡ Some (micros i)
joined_due i group r new room = ap (λ (m : Member). due_at m) (joined_is i group r new room)

pub joined_says : (i : InnerValue) (group : IpAddress) (r : ReportsValue) → is_new group r ≡ true → is_full_for group r.rows ≡ false
    → next_told Mode.Igmpv3 (micros i) (member_of (joined_by i group r).rows group) ≡ Some (Told_of.Record Record.ChangeToExclude)
joined_says i group r new room =
    ap (λ (m : Member). next_told Mode.Igmpv3 (micros i) m) (joined_is i group r new room) ∙ told_now (micros i) (gap_for i group r)
