-- A join leaves what is told of other groups as it is.
use Rattle.std.proofs.Common.{◌≡◌, ℕ, ◌+◌, ◌<◌, Bool, true, false, List, [], ◌∷◌, ◌++◌, length, Option, Some, None, refl, sym, ◌∙◌, ap, arith, subst}
use Rattle.std.proofs.lemmas.Slice.Eq.{bytes_eq-Decides}
use Rattle.std.specs.Prelude.{◌==◌, not, slice_set}
use Rattle.std.specs.List.{position_from}
use Rattle.std.specs.Str.{bytes_eq}
use Rattle.ip_wire.specs.AddressTests.{is_same_address}
use Rattle.ip_wire.specs.IpAddress.{IpAddress}
use Rattle.ip_wire.specs.IpAddress.TheVariants as Ip
use Rattle.iface_groups.specs.Member.{absent}
use Rattle.iface_groups.specs.Table.{row_at, is_of, row_index_of, first_free, is_free, slot_by, member_at, member_of, listens_to, entered, entered_at}
use Rattle.iface_groups.specs.declared.member.Member.{Member}
use Rattle.iface_groups.specs.declared.table.Row.{Row}
use Rattle.iface_tables.specs.Inner.{InnerValue}
use Rattle.iface_reports.specs.Reports.{ReportsValue, is_new, is_full_for, with_group, joined_by}
use Rattle.proof_reports.proofs.Places.{first_passes, set_other, behind_some, row_before, row_apart, from_zero}
use Rattle.proof_reports.proofs.Joined.{entry, from_start, left_of, not_true}

-- ADDRESSES

bytes_same : (a b : List ℕ) → bytes_eq a b ≡ true → a ≡ b
bytes_same a b e = (bytes_eq-Decides a b).0 e

bytes_are : (a b : List ℕ) → a ≡ b → bytes_eq a b ≡ true
bytes_are a b e = (bytes_eq-Decides a b).1 e

-- two addresses that a third is are one
same_by : (a b c : IpAddress) → is_same_address a b ≡ true → is_same_address a c ≡ true → is_same_address b c ≡ true
same_by (Ip.Ipv4 a) (Ip.Ipv4 b) (Ip.Ipv4 c) one other = bytes_are b.0 c.0 (sym (bytes_same a.0 b.0 one) ∙ bytes_same a.0 c.0 other)
same_by (Ip.Ipv6 a) (Ip.Ipv6 b) (Ip.Ipv6 c) one other = bytes_are b.0 c.0 (sym (bytes_same a.0 b.0 one) ∙ bytes_same a.0 c.0 other)
same_by (Ip.Ipv4 a) (Ip.Ipv6 b) c one other = absurd (cc (one))
same_by (Ip.Ipv6 a) (Ip.Ipv4 b) c one other = absurd (cc (one))
same_by (Ip.Ipv4 a) (Ip.Ipv4 b) (Ip.Ipv6 c) one other = absurd (cc (other))
same_by (Ip.Ipv6 a) (Ip.Ipv6 b) (Ip.Ipv4 c) one other = absurd (cc (other))

-- ROWS

-- what is told of the other group, whose row is this one
pub record Other (rows : List Row) (group other : IpAddress) (m : ℕ) : Type 0 where
  pub index : row_index_of rows other ≡ Some m
  pub apart : is_same_address group other ≡ false
  pub listens : listens_to rows other ≡ true

there : (rows : List Row) (group : IpAddress) (m : ℕ) → row_index_of rows group ≡ Some m → position_from (is_of group) 0 rows ≡ Some (0 + m)
there rows group m index = sym (from_zero (is_of group) rows) ∙ (index ∙ sym (from_start m))

passes_there : (p : Row → Bool) (rows : List Row) (m : ℕ) → position_from p 0 rows ≡ Some (0 + m) → (m < length rows) × (p (row_at rows m) ≡ true)
passes_there p rows m is =
    let place = first_passes p 0 (0 + m) rows is in
    let same : place.0 ≡ m = omega (arith, place.1) in
    (omega (arith, place.2, same), subst (λ (n : ℕ). p (row_at rows n) ≡ true) same place.3)

member_kept : (rows : List Row) (group other : IpAddress) (now gap m n : ℕ) (old : Member) → Other rows group other m → (n ≡ m → ⊥)
    → member_of (slice_set rows n (entry group now gap old)) other ≡ member_of rows other
member_kept rows group other now gap m n old o apart =
    let x : Row = entry group now gap old in
    let index : row_index_of (slice_set rows n x) other ≡ Some m =
    from_zero (is_of other) (slice_set rows n x) ∙ (set_other (is_of other) 0 m n rows x (there rows other m o.index) o.apart apart ∙ from_start m) in
    ap (λ (q : Option ℕ). member_at q (slice_set rows n x)) index
    ∙ (ap (λ (y : Row). y.member) (row_apart rows m n x apart) ∙ sym (ap (λ (q : Option ℕ). member_at q rows) o.index))

not_own : (rows : List Row) (group other : IpAddress) (m n : ℕ) → Other rows group other m → row_index_of rows group ≡ Some n → n ≡ m → ⊥
not_own rows group other m n o index same =
    let mine = (passes_there (is_of group) rows n (there rows group n index)).1 in
    let theirs = (passes_there (is_of other) rows m (there rows other m o.index)).1 in
    let one : is_same_address (row_at rows m).group group ≡ true = subst (λ (a : ℕ). is_of group (row_at rows a) ≡ true) same mine in
    let both : is_same_address group other ≡ true = same_by (row_at rows m).group group other one theirs in
    let clash : true ≡ false = sym both ∙ o.apart in
    cc (clash)

not_free : (rows : List Row) (group other : IpAddress) (m n : ℕ) → Other rows group other m → first_free rows ≡ Some n → n ≡ m → ⊥
not_free rows group other m n o free same =
    let found = (passes_there is_free rows n (sym (from_zero is_free rows) ∙ (free ∙ sym (from_start n)))).1 in
    let at_m : is_free (row_at rows m) ≡ true = subst (λ (a : ℕ). is_free (row_at rows a) ≡ true) same found in
    let silent : (row_at rows m).member.listens ≡ false = not_true (row_at rows m).member.listens (left_of (not (row_at rows m).member.listens) ((row_at rows m).member.changes == 0) at_m) in
    let heard : (row_at rows m).member.listens ≡ true = sym (ap (λ (q : Option ℕ). (member_at q rows).listens) o.index) ∙ o.listens in
    let clash : true ≡ false = sym heard ∙ silent in
    cc (clash)

kept_behind : (rows : List Row) (group other : IpAddress) (now gap m : ℕ) → Other rows group other m
    → member_of (rows ++ entry group now gap absent ∷ []) other ≡ member_of rows other
kept_behind rows group other now gap m o =
    let x : Row = entry group now gap absent in
    let in_range = (passes_there (is_of other) rows m (there rows other m o.index)).0 in
    let index : row_index_of (rows ++ x ∷ []) other ≡ Some m =
    from_zero (is_of other) (rows ++ x ∷ []) ∙ (behind_some (is_of other) 0 (0 + m) rows x (there rows other m o.index) ∙ from_start m) in
    ap (λ (q : Option ℕ). member_at q (rows ++ x ∷ [])) index
    ∙ (ap (λ (y : Row). y.member) (row_before rows m x in_range) ∙ sym (ap (λ (q : Option ℕ). member_at q rows) o.index))

kept_free : (rows : List Row) (group other : IpAddress) (now gap m : ℕ) (free : Option ℕ) → first_free rows ≡ free → Other rows group other m
    → member_of (entered_at free rows group now gap) other ≡ member_of rows other
kept_free rows group other now gap m None is o = kept_behind rows group other now gap m o
kept_free rows group other now gap m (Some n) is o = member_kept rows group other now gap m n (row_at rows n).member o (not_free rows group other m n o is)

kept_slot : (rows : List Row) (group other : IpAddress) (now gap m : ℕ) (own : Option ℕ) → row_index_of rows group ≡ own → Other rows group other m
    → member_of (entered_at (slot_by own rows) rows group now gap) other ≡ member_of rows other
kept_slot rows group other now gap m None is o = kept_free rows group other now gap m (first_free rows) refl o
kept_slot rows group other now gap m (Some n) is o = member_kept rows group other now gap m n (row_at rows n).member o (not_own rows group other m n o is)

-- a group that is listened to has a row
kept_by : (rows : List Row) (group other : IpAddress) (now gap : ℕ) (index : Option ℕ) → row_index_of rows other ≡ index → is_same_address group other ≡ false
    → listens_to rows other ≡ true → member_of (entered rows group now gap) other ≡ member_of rows other
kept_by rows group other now gap None is apart listens =
    let none : listens_to rows other ≡ false = ap (λ (q : Option ℕ). (member_at q rows).listens) is in
    let clash : true ≡ false = sym listens ∙ none in
    absurd (cc (clash))
kept_by rows group other now gap (Some m) is apart listens =
    kept_slot rows group other now gap m (row_index_of rows group) refl (record { index = is; apart = apart; listens = listens })

kept_if : (i : InnerValue) (group other : IpAddress) (r : ReportsValue) (new full : Bool) → is_new group r ≡ new → is_full_for group r.rows ≡ full
    → is_same_address group other ≡ false → listens_to r.rows other ≡ true → member_of (joined_by i group r).rows other ≡ member_of r.rows other
kept_if i group other r false full old some apart listens =
    let made : joined_by i group r ≡ r = rw old refl in ap (λ (q : ReportsValue). member_of q.rows other) made
kept_if i group other r true true new room apart listens =
    let made : joined_by i group r ≡ r = rw new (rw room refl) in ap (λ (q : ReportsValue). member_of q.rows other) made
kept_if i group other r true false new room apart listens =
    let made : joined_by i group r ≡ with_group i group r = rw new (rw room refl) in
    ap (λ (q : ReportsValue). member_of q.rows other) made
    ∙ kept_by r.rows group other _ _ (row_index_of r.rows other) refl apart listens

pub others_kept : (i : InnerValue) (group other : IpAddress) (r : ReportsValue) → is_same_address group other ≡ false → listens_to r.rows other ≡ true
    → member_of (joined_by i group r).rows other ≡ member_of r.rows other
others_kept i group other r apart listens = kept_if i group other r (is_new group r) (is_full_for group r.rows) refl refl apart listens
