-- A message that is read.
use Rattle.std.proofs.Common.{◌≡◌, ◌≢◌, ℕ, ◌+◌, ◌*◌, ◌/◌, ◌%◌, ◌<◌, ◌^◌, ◌≤◌, zero, suc, List, [], ◌∷◌, ◌++◌, length, take, drop, refl, sym, ◌∙◌, ap, subst, arith, inl, inr}
use Rattle.std.specs.Prelude.{slice_index, slice_range, if◌then◌else◌, ◌==◌}
use Rattle.std.specs.Int.{w16, to_be_bytes}
use Rattle.std.proofs.lemmas.Bool.Decides.{eqb_tells}
use Rattle.std.proofs.lemmas.List.{get_or-drop}
use Rattle.wire_address.proofs.Peel.{peel8, peel16, peel_to, length-slice_range}
use Rattle.wire_address.specs.Address.{IsIpv4Address}
use Rattle.wire_address.specs.Fields.{be16, IsBytes}
use Rattle.wire_address.specs.declared.ipv4.Ipv4Address.{Ipv4Address}
use Rattle.wire_igmp.specs.Igmp.{IsIgmp, Says, Fits, IsValue, carried_in, front, free_fields, spelling}
use Rattle.wire_igmp.specs.IgmpMessage.{report_number}
use Rattle.wire_igmp.specs.declared.message.IgmpVersion.{IgmpVersion}
use Rattle.wire_igmp.specs.declared.message.IgmpVersion.TheVariants as Version
use Rattle.wire_igmp.specs.declared.repr.IgmpRepr.{IgmpRepr}
use Rattle.wire_igmp.specs.declared.repr.IgmpRepr.TheVariants as Repr

-- the type of a message
abbrev pub kind_of : IgmpRepr → ℕ
kind_of (Repr.MembershipQuery code group) = 17
kind_of (Repr.MembershipQueryV3 code group suppress qrv qqic sources) = 17
kind_of (Repr.MembershipReport group version) = report_number version
kind_of (Repr.LeaveGroup group) = 23
kind_of (Repr.MembershipReportV3 records) = 34

pub kind_is : (bytes : List ℕ) (v : IgmpRepr) → Says bytes v → slice_index bytes 0 ≡ kind_of v
kind_is bytes (Repr.MembershipQuery code group) says = says.kind
kind_is bytes (Repr.MembershipQueryV3 code group suppress qrv qqic sources) says = says.kind
kind_is bytes (Repr.MembershipReport group version) says = says.kind_is
kind_is bytes (Repr.LeaveGroup group) says = says.kind_is
kind_is bytes (Repr.MembershipReportV3 records) says = says.kind

-- the front of a message that names a group
front_is : (bytes : List ℕ) (kind code : ℕ) (group : Ipv4Address) → IsBytes bytes → 8 ≤ length bytes → kind ≡ slice_index bytes 0 → code ≡ slice_index bytes 1 →
    group.0 ≡ slice_range bytes 4 8
    → bytes ≡ front kind code (be16 bytes 2) group (drop 8 bytes)
front_is bytes kind code group small whole k c g =
    peel8 bytes 0 kind _ (omega (arith, whole)) k (
    peel8 bytes 1 code _ (omega (arith, whole)) c (
    peel16 bytes 2 (be16 bytes 2) _ small (omega (arith, whole)) refl (peel_to bytes 4 8 group.0 _ (omega arith) g refl)
    )
    )

-- the parts of a byte
parts_are : (n : ℕ) → 16 * (n / 16) + (if n / 8 % 2 == 1 then 8 else 0) + n % 8 ≡ n
parts_are n =
    elim (eqb_tells (n / 8 % 2) 1) [
      | inl hit ↦ rw hit.0 (let is : n / 8 % 2 ≡ 1 = hit.1 in omega arith)
      | inr miss ↦ rw miss.0 (let not : n / 8 % 2 ≢ 1 = miss.1 in omega arith)
    ]

-- a message is spelled by its value, with what a value doesn't keep, and what it carries
spelled : (bytes : List ℕ) (v : IgmpRepr) → IsBytes bytes → 8 ≤ length bytes → Says bytes v → bytes ≡ spelling v (free_fields bytes) (carried_in bytes v)
spelled bytes (Repr.MembershipQuery code group) small whole says = front_is bytes 17 code group small whole (sym says.kind) says.code_is says.group_is
spelled bytes (Repr.MembershipQueryV3 code group suppress qrv qqic sources) small whole says =
    let header : 12 ≤ length bytes = says.header in
    let b : ℕ = 16 * (slice_index bytes 8 / 16) + (if suppress then 8 else 0) + qrv in
    let same : b ≡ slice_index bytes 8 =
    ap (λ s. 16 * (slice_index bytes 8 / 16) + (if s then 8 else 0) + qrv) says.suppress_is ∙
    ap (λ q. 16 * (slice_index bytes 8 / 16) + (if slice_index bytes 8 / 8 % 2 == 1 then 8 else 0) + q) says.robustness ∙ parts_are (slice_index bytes 8)
    in
    let tail : drop 8 bytes ≡ b ∷ qqic ∷ (to_be_bytes w16 sources ++ drop 12 bytes) =
    peel8 bytes 8 b _ (omega arith) same (peel8 bytes 9 qqic _ (omega arith) says.interval (peel16 bytes 10 sources _ small header says.number refl))
    in
    front_is bytes 17 code group small whole (sym says.kind) says.code_is says.group_is ∙ ap (front 17 code (be16 bytes 2) group) tail
spelled bytes (Repr.MembershipReport group version) small whole says = front_is bytes _ _ group small whole (sym says.kind_is) refl says.group_is
spelled bytes (Repr.LeaveGroup group) small whole says = front_is bytes _ _ group small whole (sym says.kind_is) refl says.group_is
spelled bytes (Repr.MembershipReportV3 records) small whole says =
    peel8 bytes 0 34 _ (omega arith) (sym says.kind) (
    peel8 bytes 1 (slice_index bytes 1) _ (omega arith) refl (
    peel16 bytes 2 (be16 bytes 2) _ small (omega arith) refl (
    peel16 bytes 4 (be16 bytes 4) _ small (omega arith) refl (peel16 bytes 6 records _ small whole says.number refl)
    )
    )
    )

pub bytes-spelling : (bytes : List ℕ) (v : IgmpRepr) → IsBytes bytes → IsIgmp bytes v → bytes ≡ spelling v (free_fields bytes) (carried_in bytes v)
bytes-spelling bytes v small is = spelled bytes v small is.whole is.says

-- a number of two bytes
be16-small : (bytes : List ℕ) (i : ℕ) → IsBytes bytes → be16 bytes i < 2 ^ 16
be16-small bytes i small = omega (arith, small i, small (i + 1))

-- bytes of bytes are bytes
IsBytes-take : (n : ℕ) (bytes : List ℕ) → IsBytes bytes → IsBytes (take n bytes)
IsBytes-take zero bytes small i = omega arith
IsBytes-take (suc n) [] small i = omega arith
IsBytes-take (suc n) (x ∷ xs) small zero = small 0
IsBytes-take (suc n) (x ∷ xs) small (suc i) = IsBytes-take n xs (λ j. small (suc j)) i

IsBytes-drop : (n : ℕ) (bytes : List ℕ) → IsBytes bytes → IsBytes (drop n bytes)
IsBytes-drop n bytes small i = rw (get_or-drop n bytes i 0) (small (n + i))

-- an address that is read is one
address_is : (bytes : List ℕ) (group : Ipv4Address) → IsBytes bytes → 8 ≤ length bytes → group.0 ≡ slice_range bytes 4 8 → IsIpv4Address group
address_is bytes group small whole is =
    (omega (arith, ap length is, length-slice_range bytes 4 8 (omega arith) whole), subst IsBytes (sym is) (IsBytes-take 4 _ (IsBytes-drop 4 bytes small)))

-- what bytes say can be sent
fits-says : (bytes : List ℕ) (v : IgmpRepr) → IsBytes bytes → 8 ≤ length bytes → Says bytes v → Fits v × IsValue v
fits-says bytes (Repr.MembershipQuery code group) small whole says =
    (tt, (omega (arith, says.code_is, small 1), address_is bytes group small whole says.group_is))
fits-says bytes (Repr.MembershipQueryV3 code group suppress qrv qqic sources) small whole says =
    let low : qrv < 8 = omega (arith, says.robustness) in (
      low,
      (
        omega (arith, says.code_is, small 1),
        address_is bytes group small whole says.group_is,
        low,
        omega (arith, says.interval, small 9),
        omega (arith, says.number, be16-small bytes 10 small),
      ),
    )
fits-says bytes (Repr.MembershipReport group version) small whole says = (tt, address_is bytes group small whole says.group_is)
fits-says bytes (Repr.LeaveGroup group) small whole says = (tt, address_is bytes group small whole says.group_is)
fits-says bytes (Repr.MembershipReportV3 records) small whole says = (tt, omega (arith, says.number, be16-small bytes 6 small))

pub fits : (bytes : List ℕ) (v : IgmpRepr) → IsBytes bytes → IsIgmp bytes v → Fits v × IsValue v
fits bytes v small is = fits-says bytes v small is.whole is.says

-- addresses of the same bytes
same-address : (a b : Ipv4Address) → a.0 ≡ b.0 → a ≡ b
same-address a b e = λ i. record { 0 = e i }

same-query : (c d : ℕ) (a b : Ipv4Address) → c ≡ d → a ≡ b → Repr.MembershipQuery c a ≡ Repr.MembershipQuery d b
same-query c d a b e f = cc

-- the type of a report lies between those of a query and a leave
report_between : (v : IgmpVersion) → (17 < report_number v) × (report_number v < 23)
report_between Version.Version1 = (omega arith, omega arith)
report_between Version.Version2 = (omega arith, omega arith)

-- bytes say one thing at most
pub Says-one : (bytes : List ℕ) (v w : IgmpRepr) → Says bytes v → Says bytes w → v ≡ w
Says-one bytes (Repr.MembershipQuery c a) (Repr.MembershipQuery d b) p q =
    same-query c d a b (p.code_is ∙ sym q.code_is) (same-address a b (p.group_is ∙ sym q.group_is))
Says-one bytes (Repr.MembershipQuery c a) (Repr.MembershipQueryV3 d b t k l m) p q = absurd (omega (arith, p.exact, q.header))
Says-one bytes (Repr.MembershipQueryV3 d b t k l m) (Repr.MembershipQuery c a) p q = absurd (omega (arith, q.exact, p.header))
Says-one bytes (Repr.MembershipQueryV3 c a s f g h) (Repr.MembershipQueryV3 d b t k l m) p q =
    let code : c ≡ d = p.code_is ∙ sym q.code_is in
    let group : a ≡ b = same-address a b (p.group_is ∙ sym q.group_is) in
    let flag : s ≡ t = p.suppress_is ∙ sym q.suppress_is in
    let qrv : f ≡ k = p.robustness ∙ sym q.robustness in
    let qqic : g ≡ l = p.interval ∙ sym q.interval in
    let sources : h ≡ m = p.number ∙ sym q.number in cc
Says-one bytes (Repr.MembershipReport a Version.Version1) (Repr.MembershipReport b Version.Version1) p q =
    ap (λ g. Repr.MembershipReport g Version.Version1) (same-address a b (p.group_is ∙ sym q.group_is))
Says-one bytes (Repr.MembershipReport a Version.Version2) (Repr.MembershipReport b Version.Version2) p q =
    ap (λ g. Repr.MembershipReport g Version.Version2) (same-address a b (p.group_is ∙ sym q.group_is))
Says-one bytes (Repr.LeaveGroup a) (Repr.LeaveGroup b) p q = ap Repr.LeaveGroup (same-address a b (p.group_is ∙ sym q.group_is))
Says-one bytes (Repr.MembershipReportV3 n) (Repr.MembershipReportV3 m) p q = ap Repr.MembershipReportV3 (p.number ∙ sym q.number)
Says-one bytes (Repr.MembershipReport a v) w p q =
    absurd (omega (arith, kind_is bytes (Repr.MembershipReport a v) p, kind_is bytes w q, (report_between v).0, (report_between v).1))
Says-one bytes w (Repr.MembershipReport a v) p q =
    absurd (omega (arith, kind_is bytes (Repr.MembershipReport a v) q, kind_is bytes w p, (report_between v).0, (report_between v).1))
Says-one bytes v w p q = absurd (omega (arith, kind_is bytes v p, kind_is bytes w q))

pub IsIgmp-one : (bytes : List ℕ) (v w : IgmpRepr) → IsIgmp bytes v → IsIgmp bytes w → v ≡ w
IsIgmp-one bytes v w p q = Says-one bytes v w p.says q.says
