-- A message that is sent, and read back.
use Rattle.std.proofs.Common.{◌≡◌, ℕ, ◌+◌, ◌*◌, ◌/◌, ◌%◌, ◌<◌, ◌≤◌, Bool, true, false, List, [], ◌∷◌, length, slice_index, refl, sym, ap, subst, arith}
use Rattle.std.specs.Prelude.{if◌then◌else◌, ◌==◌}
use Rattle.wire_address.proofs.Sums.{ChecksumHolds-complement}
use Rattle.wire_address.specs.Address.{IsIpv4Address}
use Rattle.wire_address.specs.Fields.{put16}
use Rattle.wire_address.specs.Sum.{word_sum, ChecksumHolds, complement}
use Rattle.wire_address.specs.declared.ipv4.Ipv4Address.{Ipv4Address}
use Rattle.wire_igmp.specs.Igmp.{IsIgmp, Says, IsValue, CanCarry, carried_in, header_len, spelling, sent_fields, written}
use Rattle.wire_igmp.specs.declared.repr.IgmpRepr.{IgmpRepr}
use Rattle.wire_igmp.specs.declared.repr.IgmpRepr.TheVariants as Repr

-- a number in the checksum field adds itself to the word sum
word_sum-check : (v : IgmpRepr) (carried : List ℕ) (check : ℕ) → check < 65536
    → word_sum (spelling v (sent_fields check) carried) ≡ word_sum (spelling v (sent_fields 0) carried) + check
word_sum-check (Repr.MembershipQuery code group) carried check small = omega arith
word_sum-check (Repr.MembershipQueryV3 code group suppress qrv qqic sources) carried check small = omega arith
word_sum-check (Repr.MembershipReport group version) carried check small = omega arith
word_sum-check (Repr.LeaveGroup group) carried check small = omega arith
word_sum-check (Repr.MembershipReportV3 records) carried check small = omega arith

-- the checksum stands in its field
pub put-check : (v : IgmpRepr) (carried : List ℕ) (check : ℕ) → put16 (spelling v (sent_fields 0) carried) 2 check ≡ spelling v (sent_fields check) carried
put-check (Repr.MembershipQuery code group) carried check = refl
put-check (Repr.MembershipQueryV3 code group suppress qrv qqic sources) carried check = refl
put-check (Repr.MembershipReport group version) carried check = refl
put-check (Repr.LeaveGroup group) carried check = refl
put-check (Repr.MembershipReportV3 records) carried check = refl

-- a message that is sent holds its checksum
ChecksumHolds-written : (v : IgmpRepr) (carried : List ℕ) → ChecksumHolds (word_sum (written v carried))
ChecksumHolds-written v carried =
    let total : ℕ = word_sum (spelling v (sent_fields 0) carried) in
    subst ChecksumHolds (sym (word_sum-check v carried (complement total) (omega arith))) (ChecksumHolds-complement total)

-- an address is that of its four bytes
four : (xs : List ℕ) → length xs ≡ 4 → xs ≡ slice_index xs 0 ∷ slice_index xs 1 ∷ slice_index xs 2 ∷ slice_index xs 3 ∷ []
four (a ∷ b ∷ c ∷ d ∷ []) len = refl
four _ len = absurd (omega arith)

abbrev of_four : ℕ → ℕ → ℕ → ℕ → Ipv4Address
of_four a b c d = record { 0 = a ∷ b ∷ c ∷ d ∷ [] }

for_four : (P : Ipv4Address → Type 0) (group : Ipv4Address) → IsIpv4Address group → ((a b c d : ℕ) → P (of_four a b c d)) → P group
for_four P group is all =
    subst P (sym (let e = four group.0 is.0 in
    let same : group ≡ of_four (slice_index group.0 0) (slice_index group.0 1) (slice_index group.0 2) (slice_index group.0 3) = λ i. record { 0 = e i } in same)) (all _ _ _ _)

-- the flag that stands above three bits
flag_is : (s : Bool) (q : ℕ) → q < 8 → s ≡ ((16 * 0 + (if s then 8 else 0) + q) / 8 % 2 == 1)
flag_is true q low = let one : (16 * 0 + 8 + q) / 8 ≡ 1 = omega arith in sym (ap (λ k. k % 2 == 1) one)
flag_is false q low = let none : (16 * 0 + 0 + q) / 8 ≡ 0 = omega arith in sym (ap (λ k. k % 2 == 1) none)

low_is : (s : Bool) (q : ℕ) → q < 8 → q ≡ (16 * 0 + (if s then 8 else 0) + q) % 8
low_is true q low = omega arith
low_is false q low = omega arith

-- what a message says that was sent, whatever its checksum
Says-four : (a b c d : ℕ) (code : ℕ) (carried : List ℕ) (check : ℕ) → carried ≡ [] → Says (spelling (Repr.MembershipQuery code (of_four a b c d)) (sent_fields check) carried) (Repr.MembershipQuery code (of_four a b c d))
Says-four a b c d code carried check none = record { kind = refl; exact = omega (arith, ap length none); code_is = refl; group_is = refl }

Says-spelling : (v : IgmpRepr) (carried : List ℕ) (check : ℕ) → IsValue v → CanCarry v carried → Says (spelling v (sent_fields check) carried) v
Says-spelling (Repr.MembershipQuery code group) carried check value can =
    for_four (λ g. Says (spelling (Repr.MembershipQuery code g) (sent_fields check) carried) (Repr.MembershipQuery code g)) group value.1
    (λ a b c d. Says-four a b c d code carried check can)
Says-spelling (Repr.MembershipQueryV3 code group suppress qrv qqic sources) carried check value can =
    for_four (λ g. Says (spelling (Repr.MembershipQueryV3 code g suppress qrv qqic sources) (sent_fields check) carried) (Repr.MembershipQueryV3 code g suppress qrv qqic sources)) group value.1
    (λ a b c d. record {
      kind = refl;
      header = omega arith;
      code_is = refl;
      group_is = refl;
      suppress_is = flag_is suppress qrv value.2;
      robustness = low_is suppress qrv value.2;
      interval = refl;
      number = omega (arith, value.4);
      sources_there = omega (arith, can);
    })
Says-spelling (Repr.MembershipReport group version) carried check value can =
    for_four (λ g. Says (spelling (Repr.MembershipReport g version) (sent_fields check) carried) (Repr.MembershipReport g version)) group value
    (λ a b c d. record { kind_is = refl; group_is = refl })
Says-spelling (Repr.LeaveGroup group) carried check value can =
    for_four (λ g. Says (spelling (Repr.LeaveGroup g) (sent_fields check) carried) (Repr.LeaveGroup g)) group value
    (λ a b c d. record { kind_is = refl; group_is = refl })
Says-spelling (Repr.MembershipReportV3 records) carried check value can = record { kind = refl; number = omega (arith, value); records_there = can }

-- how many bytes a message has that is sent
pub length-spelling : (v : IgmpRepr) (carried : List ℕ) (check : ℕ) → IsValue v → length (spelling v (sent_fields check) carried) ≡ header_len v + length carried
length-spelling (Repr.MembershipQuery code group) carried check value =
    for_four (λ g. length (spelling (Repr.MembershipQuery code g) (sent_fields check) carried) ≡ 8 + length carried) group value.1 (λ a b c d. omega arith)
length-spelling (Repr.MembershipQueryV3 code group suppress qrv qqic sources) carried check value =
    for_four (λ g. length (spelling (Repr.MembershipQueryV3 code g suppress qrv qqic sources) (sent_fields check) carried) ≡ 12 + length carried) group value.1
    (λ a b c d. omega arith)
length-spelling (Repr.MembershipReport group version) carried check value =
    for_four (λ g. length (spelling (Repr.MembershipReport g version) (sent_fields check) carried) ≡ 8 + length carried) group value (λ a b c d. omega arith)
length-spelling (Repr.LeaveGroup group) carried check value =
    for_four (λ g. length (spelling (Repr.LeaveGroup g) (sent_fields check) carried) ≡ 8 + length carried) group value (λ a b c d. omega arith)
length-spelling (Repr.MembershipReportV3 records) carried check value = omega arith

pub length-message : (v : IgmpRepr) (carried : List ℕ) → IsValue v → length (written v carried) ≡ header_len v + length carried
length-message v carried value = length-spelling v carried _ value

-- what it carries is read back
carried-spelling : (v : IgmpRepr) (carried : List ℕ) (check : ℕ) → IsValue v → carried_in (spelling v (sent_fields check) carried) v ≡ carried
carried-spelling (Repr.MembershipQuery code group) carried check value =
    for_four (λ g. carried_in (spelling (Repr.MembershipQuery code g) (sent_fields check) carried) (Repr.MembershipQuery code g) ≡ carried) group value.1
    (λ a b c d. refl)
carried-spelling (Repr.MembershipQueryV3 code group suppress qrv qqic sources) carried check value =
    for_four (λ g. carried_in (spelling (Repr.MembershipQueryV3 code g suppress qrv qqic sources) (sent_fields check) carried) (Repr.MembershipQueryV3 code g suppress qrv qqic sources) ≡ carried) group value.1
    (λ a b c d. refl)
carried-spelling (Repr.MembershipReport group version) carried check value =
    for_four (λ g. carried_in (spelling (Repr.MembershipReport g version) (sent_fields check) carried) (Repr.MembershipReport g version) ≡ carried) group value
    (λ a b c d. refl)
carried-spelling (Repr.LeaveGroup group) carried check value =
    for_four (λ g. carried_in (spelling (Repr.LeaveGroup g) (sent_fields check) carried) (Repr.LeaveGroup g) ≡ carried) group value (λ a b c d. refl)
carried-spelling (Repr.MembershipReportV3 records) carried check value = refl

pub carried-written : (v : IgmpRepr) (carried : List ℕ) → IsValue v → carried_in (written v carried) v ≡ carried
carried-written v carried value = carried-spelling v carried _ value

least : (v : IgmpRepr) → 8 ≤ header_len v
least (Repr.MembershipQuery code group) = omega arith
least (Repr.MembershipQueryV3 code group suppress qrv qqic sources) = omega arith
least (Repr.MembershipReport group version) = omega arith
least (Repr.LeaveGroup group) = omega arith
least (Repr.MembershipReportV3 records) = omega arith

-- a message that was sent is read back
pub IsIgmp-written : (v : IgmpRepr) (carried : List ℕ) → IsValue v → CanCarry v carried → IsIgmp (written v carried) v
IsIgmp-written v carried value can = record {
  whole = omega (arith, length-message v carried value, least v);
  checked = ChecksumHolds-written v carried;
  says = Says-spelling v carried _ value can;
}
