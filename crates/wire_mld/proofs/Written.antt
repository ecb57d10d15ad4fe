-- A message that is sent, and read back.
use Rattle.std.proofs.Common.{◌≡◌, ℕ, ◌+◌, ◌-◌, ◌*◌, ◌/◌, ◌%◌, ◌<◌, ◌≤◌, Bool, true, false, IsTrue, List, [], ◌∷◌, ◌++◌, length, drop, slice_index, refl, sym, ap, subst, arith}
use Rattle.std.specs.Prelude.{if◌then◌else◌, ◌==◌}
use Rattle.wire_address.proofs.Sums.{ChecksumHolds-complement}
use Rattle.wire_address.specs.Address.{IsIpv6Address}
use Rattle.wire_address.specs.Fields.{put16}
use Rattle.wire_address.specs.Pseudo.{pseudo_v6}
use Rattle.wire_address.specs.Sum.{word_sum, folded, ChecksumHolds}
use Rattle.wire_address.specs.declared.ipv6.Ipv6Address.{Ipv6Address}
use Rattle.wire_mld.specs.Mld.{IsMld, IsChecked, Says, IsValue, CanCarry, covered, checksum_of, carried_in, header_len, spelling, sent_fields, written}
use Rattle.wire_mld.specs.declared.repr.MldRepr.{MldRepr}
use Rattle.wire_mld.specs.declared.repr.MldRepr.TheVariants as Repr

-- a number in the checksum field adds itself to the word sum
word_sum-check : (v : MldRepr) (carried : List ℕ) (check : ℕ) → check < 65536
    → word_sum (spelling v (sent_fields check) carried) ≡ word_sum (spelling v (sent_fields 0) carried) + check
word_sum-check (Repr.QueryV1 code group) carried check small = omega arith
word_sum-check (Repr.Query code group suppress qrv qqic sources) carried check small = omega arith
word_sum-check (Repr.ReportV1 group) carried check small = omega arith
word_sum-check (Repr.Done group) carried check small = omega arith
word_sum-check (Repr.Report records) carried check small = omega arith

-- the checksum's value doesn't change the length
length-check : (v : MldRepr) (carried : List ℕ) (check : ℕ) → length (spelling v (sent_fields check) carried) ≡ length (spelling v (sent_fields 0) carried)
length-check (Repr.QueryV1 code group) carried check = refl
length-check (Repr.Query code group suppress qrv qqic sources) carried check = refl
length-check (Repr.ReportV1 group) carried check = refl
length-check (Repr.Done group) carried check = refl
length-check (Repr.Report records) carried check = refl

-- the checksum stands in its field
pub put-check : (v : MldRepr) (carried : List ℕ) (check : ℕ) → put16 (spelling v (sent_fields 0) carried) 2 check ≡ spelling v (sent_fields check) carried
put-check (Repr.QueryV1 code group) carried check = refl
put-check (Repr.Query code group suppress qrv qqic sources) carried check = refl
put-check (Repr.ReportV1 group) carried check = refl
put-check (Repr.Done group) carried check = refl
put-check (Repr.Report records) carried check = refl

-- a message whose checksum was written holds it
IsChecked-written : (source destination : Ipv6Address) (v : MldRepr) (carried : List ℕ) → IsChecked source destination (written source destination true v carried)
IsChecked-written source destination v carried =
    let total : ℕ = covered source destination (spelling v (sent_fields 0) carried) in
    let sums : word_sum (spelling v (sent_fields (65535 - folded total)) carried) ≡ word_sum (spelling v (sent_fields 0) carried) + (65535 - folded total) =
    word_sum-check v carried (65535 - folded total) (omega arith)
    in
    let longer : word_sum (pseudo_v6 source.0 destination.0 58 (length (spelling v (sent_fields (65535 - folded total)) carried))) ≡
    word_sum (pseudo_v6 source.0 destination.0 58 (length (spelling v (sent_fields 0) carried))) =
    ap (λ n. word_sum (pseudo_v6 source.0 destination.0 58 n)) (length-check v carried (65535 - folded total))
    in
    let same : covered source destination (written source destination true v carried) ≡ total + (65535 - folded total) = omega (arith, sums, longer) in
    subst ChecksumHolds (sym same) (ChecksumHolds-complement total)

-- an address is that of its sixteen bytes
sixteen : (xs : List ℕ) → length xs ≡ 16 → xs ≡ slice_index xs 0 ∷ slice_index xs 1 ∷ slice_index xs 2 ∷ slice_index xs 3 ∷ slice_index xs 4 ∷ slice_index xs 5 ∷ slice_index xs 6 ∷ slice_index xs 7 ∷ slice_index xs 8 ∷ slice_index xs 9 ∷ slice_index xs 10 ∷ slice_index xs 11 ∷ slice_index xs 12 ∷ slice_index xs 13 ∷ slice_index xs 14 ∷ slice_index xs 15 ∷ []
sixteen (x0 ∷ x1 ∷ x2 ∷ x3 ∷ x4 ∷ x5 ∷ x6 ∷ x7 ∷ x8 ∷ x9 ∷ x10 ∷ x11 ∷ x12 ∷ x13 ∷ x14 ∷ x15 ∷ []) len = refl
sixteen _ len = absurd (omega arith)

abbrev of_sixteen : ℕ → ℕ → ℕ → ℕ → ℕ → ℕ → ℕ → ℕ → ℕ → ℕ → ℕ → ℕ → ℕ → ℕ → ℕ → ℕ → Ipv6Address
of_sixteen x0 x1 x2 x3 x4 x5 x6 x7 x8 x9 x10 x11 x12 x13 x14 x15 = record { 0 = x0 ∷ x1 ∷ x2 ∷ x3 ∷ x4 ∷ x5 ∷ x6 ∷ x7 ∷ x8 ∷ x9 ∷ x10 ∷ x11 ∷ x12 ∷ x13 ∷ x14 ∷ x15 ∷ [] }

for_sixteen : (P : Ipv6Address → Type 0) (group : Ipv6Address) → IsIpv6Address group → ((x0 x1 x2 x3 x4 x5 x6 x7 x8 x9 x10 x11 x12 x13 x14 x15 : ℕ) → P (of_sixteen x0 x1 x2 x3 x4 x5 x6 x7 x8 x9 x10 x11 x12 x13 x14 x15)) → P group
for_sixteen P group is all =
    subst P (sym (let e = sixteen group.0 is.0 in
    let same : group ≡ of_sixteen (slice_index group.0 0) (slice_index group.0 1) (slice_index group.0 2) (slice_index group.0 3) (slice_index group.0 4) (slice_index group.0 5) (slice_index group.0 6) (slice_index group.0 7) (slice_index group.0 8) (slice_index group.0 9) (slice_index group.0 10) (slice_index group.0 11) (slice_index group.0 12) (slice_index group.0 13) (slice_index group.0 14) (slice_index group.0 15) = λ i. record { 0 = e i } in same)) (all _ _ _ _ _ _ _ _ _ _ _ _ _ _ _ _)

-- the flag that stands above three bits
flag_is : (s : Bool) (q : ℕ) → q < 8 → s ≡ ((16 * 0 + (if s then 8 else 0) + q) / 8 % 2 == 1)
flag_is true q low = let one : (16 * 0 + 8 + q) / 8 ≡ 1 = omega arith in sym (ap (λ k. k % 2 == 1) one)
flag_is false q low = let none : (16 * 0 + 0 + q) / 8 ≡ 0 = omega arith in sym (ap (λ k. k % 2 == 1) none)

low_is : (s : Bool) (q : ℕ) → q < 8 → q ≡ (16 * 0 + (if s then 8 else 0) + q) % 8
low_is true q low = omega arith
low_is false q low = omega arith

-- what a message says that was sent, whatever its checksum
Says-spelling : (v : MldRepr) (carried : List ℕ) (check : ℕ) → IsValue v → CanCarry v carried → Says (spelling v (sent_fields check) carried) v
Says-spelling (Repr.QueryV1 code group) carried check value can =
    for_sixteen (λ g. Says (spelling (Repr.QueryV1 code g) (sent_fields check) carried) (Repr.QueryV1 code g)) group value.1
    (λ x0 x1 x2 x3 x4 x5 x6 x7 x8 x9 x10 x11 x12 x13 x14 x15. record { kind = refl; exact = omega (arith, ap length can); code_is = omega (arith, value.0); group_is = refl })
Says-spelling (Repr.Query code group suppress qrv qqic sources) carried check value can =
    for_sixteen (λ g. Says (spelling (Repr.Query code g suppress qrv qqic sources) (sent_fields check) carried) (Repr.Query code g suppress qrv qqic sources)) group value.1
    (λ x0 x1 x2 x3 x4 x5 x6 x7 x8 x9 x10 x11 x12 x13 x14 x15. record { kind = refl; header = omega arith; code_is = omega (arith, value.0); group_is = refl; suppress_is = flag_is suppress qrv value.2; robustness = low_is suppress qrv value.2; interval = refl; number = omega (arith, value.4); sources_there = omega (arith, can) })
Says-spelling (Repr.ReportV1 group) carried check value can =
    for_sixteen (λ g. Says (spelling (Repr.ReportV1 g) (sent_fields check) carried) (Repr.ReportV1 g)) group value
    (λ x0 x1 x2 x3 x4 x5 x6 x7 x8 x9 x10 x11 x12 x13 x14 x15. record { kind_is = refl; header = omega arith; group_is = refl })
Says-spelling (Repr.Done group) carried check value can =
    for_sixteen (λ g. Says (spelling (Repr.Done g) (sent_fields check) carried) (Repr.Done g)) group value
    (λ x0 x1 x2 x3 x4 x5 x6 x7 x8 x9 x10 x11 x12 x13 x14 x15. record { kind_is = refl; header = omega arith; group_is = refl })
Says-spelling (Repr.Report records) carried check value can = record { kind = refl; number = omega (arith, value); records_there = can }

-- how many bytes a message has that is sent
length-spelling : (v : MldRepr) (carried : List ℕ) (check : ℕ) → IsValue v → length (spelling v (sent_fields check) carried) ≡ header_len v + length carried
length-spelling (Repr.QueryV1 code group) carried check value =
    for_sixteen (λ g. length (spelling (Repr.QueryV1 code g) (sent_fields check) carried) ≡ 24 + length carried) group value.1
    (λ x0 x1 x2 x3 x4 x5 x6 x7 x8 x9 x10 x11 x12 x13 x14 x15. omega arith)
length-spelling (Repr.Query code group suppress qrv qqic sources) carried check value =
    for_sixteen (λ g. length (spelling (Repr.Query code g suppress qrv qqic sources) (sent_fields check) carried) ≡ 28 + length carried) group value.1
    (λ x0 x1 x2 x3 x4 x5 x6 x7 x8 x9 x10 x11 x12 x13 x14 x15. omega arith)
length-spelling (Repr.ReportV1 group) carried check value =
    for_sixteen (λ g. length (spelling (Repr.ReportV1 g) (sent_fields check) carried) ≡ 24 + length carried) group value
    (λ x0 x1 x2 x3 x4 x5 x6 x7 x8 x9 x10 x11 x12 x13 x14 x15. omega arith)
length-spelling (Repr.Done group) carried check value =
    for_sixteen (λ g. length (spelling (Repr.Done g) (sent_fields check) carried) ≡ 24 + length carried) group value
    (λ x0 x1 x2 x3 x4 x5 x6 x7 x8 x9 x10 x11 x12 x13 x14 x15. omega arith)
length-spelling (Repr.Report records) carried check value = omega arith

pub length-message : (source destination : Ipv6Address) (sealed : Bool) (v : MldRepr) (carried : List ℕ) → IsValue v
    → length (written source destination sealed v carried) ≡ header_len v + length carried
length-message source destination sealed v carried value = length-spelling v carried _ value

-- what it carries is read back
carried-spelling : (v : MldRepr) (carried : List ℕ) (check : ℕ) → IsValue v → carried_in (spelling v (sent_fields check) carried) v ≡ carried
carried-spelling (Repr.QueryV1 code group) carried check value =
    for_sixteen (λ g. carried_in (spelling (Repr.QueryV1 code g) (sent_fields check) carried) (Repr.QueryV1 code g) ≡ carried) group value.1
    (λ x0 x1 x2 x3 x4 x5 x6 x7 x8 x9 x10 x11 x12 x13 x14 x15. refl)
carried-spelling (Repr.Query code group suppress qrv qqic sources) carried check value =
    for_sixteen (λ g. carried_in (spelling (Repr.Query code g suppress qrv qqic sources) (sent_fields check) carried) (Repr.Query code g suppress qrv qqic sources) ≡ carried) group value.1
    (λ x0 x1 x2 x3 x4 x5 x6 x7 x8 x9 x10 x11 x12 x13 x14 x15. refl)
carried-spelling (Repr.ReportV1 group) carried check value =
    for_sixteen (λ g. carried_in (spelling (Repr.ReportV1 g) (sent_fields check) carried) (Repr.ReportV1 g) ≡ carried) group value
    (λ x0 x1 x2 x3 x4 x5 x6 x7 x8 x9 x10 x11 x12 x13 x14 x15. refl)
carried-spelling (Repr.Done group) carried check value =
    for_sixteen (λ g. carried_in (spelling (Repr.Done g) (sent_fields check) carried) (Repr.Done g) ≡ carried) group value
    (λ x0 x1 x2 x3 x4 x5 x6 x7 x8 x9 x10 x11 x12 x13 x14 x15. refl)
carried-spelling (Repr.Report records) carried check value = refl

pub carried-written : (source destination : Ipv6Address) (sealed : Bool) (v : MldRepr) (carried : List ℕ) → IsValue v
    → carried_in (written source destination sealed v carried) v ≡ carried
carried-written source destination sealed v carried value = carried-spelling v carried _ value

least : (v : MldRepr) → 8 ≤ header_len v
least (Repr.QueryV1 code group) = omega arith
least (Repr.Query code group suppress qrv qqic sources) = omega arith
least (Repr.ReportV1 group) = omega arith
least (Repr.Done group) = omega arith
least (Repr.Report records) = omega arith

-- a message that was sent is read back
pub IsMld-written : (source destination : Ipv6Address) (tested sealed : Bool) (v : MldRepr) (carried : List ℕ) → IsValue v → CanCarry v carried →
    (IsTrue tested → IsTrue sealed)
    → IsMld source destination tested (written source destination sealed v carried) v
IsMld-written source destination tested false v carried value can both = record {
  whole = omega (arith, length-message source destination false v carried value, least v);
  checked = λ t. absurd (cc (both t));
  says = Says-spelling v carried _ value can;
}
IsMld-written source destination tested true v carried value can both = record {
  whole = omega (arith, length-message source destination true v carried value, least v);
  checked = λ _. IsChecked-written source destination v carried;
  says = Says-spelling v carried _ value can;
}
