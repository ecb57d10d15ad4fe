-- A message that is read.
use Rattle.std.proofs.Common.{◌≡◌, ◌≢◌, ℕ, ◌+◌, ◌*◌, ◌/◌, ◌%◌, ◌<◌, ◌^◌, ◌≤◌, zero, suc, Bool, List, [], ◌∷◌, ◌++◌, length, take, drop, refl, sym, ◌∙◌, ap, subst, arith, inl, inr}
use Rattle.std.specs.Prelude.{slice_index, slice_range, if◌then◌else◌, ◌==◌}
use Rattle.std.specs.Int.{w16, to_be_bytes}
use Rattle.std.proofs.lemmas.Bool.Decides.{eqb_tells}
use Rattle.std.proofs.lemmas.List.{get_or-drop}
use Rattle.wire_address.proofs.Peel.{peel8, peel16, peel_to, length-slice_range}
use Rattle.wire_address.specs.Address.{IsIpv6Address}
use Rattle.wire_address.specs.Fields.{be16, IsBytes}
use Rattle.wire_address.specs.declared.ipv6.Ipv6Address.{Ipv6Address}
use Rattle.wire_mld.specs.Mld.{IsMld, Says, Fits, IsValue, carried_in, front, free_fields, spelling}
use Rattle.wire_mld.specs.declared.repr.MldRepr.{MldRepr}
use Rattle.wire_mld.specs.declared.repr.MldRepr.TheVariants as Repr

-- the type of a message
abbrev pub kind_of : MldRepr → ℕ
kind_of (Repr.QueryV1 code group) = 130
kind_of (Repr.Query code group suppress qrv qqic sources) = 130
kind_of (Repr.ReportV1 group) = 131
kind_of (Repr.Done group) = 132
kind_of (Repr.Report records) = 143

pub kind_is : (bytes : List ℕ) (v : MldRepr) → Says bytes v → slice_index bytes 0 ≡ kind_of v
kind_is bytes (Repr.QueryV1 code group) says = says.kind
kind_is bytes (Repr.Query code group suppress qrv qqic sources) says = says.kind
kind_is bytes (Repr.ReportV1 group) says = says.kind_is
kind_is bytes (Repr.Done group) says = says.kind_is
kind_is bytes (Repr.Report records) says = says.kind

-- the front of a message that names a group
front_is : (bytes : List ℕ) (kind delay : ℕ) (group : Ipv6Address) → IsBytes bytes → 24 ≤ length bytes → kind ≡ slice_index bytes 0 → delay ≡ be16 bytes 4 →
    group.0 ≡ slice_range bytes 8 24
    → bytes ≡ front kind delay (free_fields bytes) group (drop 24 bytes)
front_is bytes kind delay group small whole k d g =
    peel8 bytes 0 kind _ (omega (arith, whole)) k (
    peel8 bytes 1 (slice_index bytes 1) _ (omega (arith, whole)) refl (
    peel16 bytes 2 (be16 bytes 2) _ small (omega (arith, whole)) refl (
    peel16 bytes 4 delay _ small (omega (arith, whole)) d (
    peel16 bytes 6 (be16 bytes 6) _ small (omega (arith, whole)) refl (peel_to bytes 8 24 group.0 _ (omega arith) g refl)
    )
    )
    )
    )

-- the parts of a byte
parts_are : (n : ℕ) → 16 * (n / 16) + (if n / 8 % 2 == 1 then 8 else 0) + n % 8 ≡ n
parts_are n =
    elim (eqb_tells (n / 8 % 2) 1) [
      | inl hit ↦ rw hit.0 (let is : n / 8 % 2 ≡ 1 = hit.1 in omega arith)
      | inr miss ↦ rw miss.0 (let not : n / 8 % 2 ≢ 1 = miss.1 in omega arith)
    ]

-- a message is spelled by its value, with what a value doesn't keep, and what it carries
spelled : (bytes : List ℕ) (v : MldRepr) → IsBytes bytes → 8 ≤ length bytes → Says bytes v → bytes ≡ spelling v (free_fields bytes) (carried_in bytes v)
spelled bytes (Repr.QueryV1 code group) small whole says =
    front_is bytes 130 code group small (omega (arith, says.exact)) (sym says.kind) says.code_is says.group_is
spelled bytes (Repr.Query code group suppress qrv qqic sources) small whole says =
    let header : 28 ≤ length bytes = says.header in
    let b : ℕ = 16 * (slice_index bytes 24 / 16) + (if suppress then 8 else 0) + qrv in
    let same : b ≡ slice_index bytes 24 =
    ap (λ s. 16 * (slice_index bytes 24 / 16) + (if s then 8 else 0) + qrv) says.suppress_is ∙
    ap (λ q. 16 * (slice_index bytes 24 / 16) + (if slice_index bytes 24 / 8 % 2 == 1 then 8 else 0) + q) says.robustness ∙ parts_are (slice_index bytes 24)
    in
    let tail : drop 24 bytes ≡ b ∷ qqic ∷ (to_be_bytes w16 sources ++ drop 28 bytes) =
    peel8 bytes 24 b _ (omega arith) same (peel8 bytes 25 qqic _ (omega arith) says.interval (peel16 bytes 26 sources _ small header says.number refl))
    in
    front_is bytes 130 code group small (omega arith) (sym says.kind) says.code_is says.group_is ∙ ap (front 130 code (free_fields bytes) group) tail
spelled bytes (Repr.ReportV1 group) small whole says = front_is bytes 131 (be16 bytes 4) group small says.header (sym says.kind_is) refl says.group_is
spelled bytes (Repr.Done group) small whole says = front_is bytes 132 (be16 bytes 4) group small says.header (sym says.kind_is) refl says.group_is
spelled bytes (Repr.Report records) small whole says =
    peel8 bytes 0 143 _ (omega arith) (sym says.kind) (
    peel8 bytes 1 (slice_index bytes 1) _ (omega arith) refl (
    peel16 bytes 2 (be16 bytes 2) _ small (omega arith) refl (
    peel16 bytes 4 (be16 bytes 4) _ small (omega arith) refl (peel16 bytes 6 records _ small whole says.number refl)
    )
    )
    )

pub bytes-spelling : (source destination : Ipv6Address) (tested : Bool) (bytes : List ℕ) (v : MldRepr) → IsBytes bytes → IsMld source destination tested bytes v
    → bytes ≡ spelling v (free_fields bytes) (carried_in bytes v)
bytes-spelling source destination tested bytes v small is = spelled bytes v small is.whole is.says

-- a number of two bytes
be16-small : (bytes : List ℕ) (i : ℕ) → IsBytes bytes → be16 bytes i < 2 ^ 16
be16-small bytes i small = omega (arith, small i, small (i + 1))

-- bytes of bytes are bytes
IsBytes-take : (n : ℕ) (bytes : List ℕ) → IsBytes bytes → IsBytes (take n bytes)
IsBytes-take zero bytes small i = omega arith
IsBytes-take (suc n) [] small i = omega arith
IsBytes-take (suc n) (x ∷ xs) small zero = small 0
IsBytes-take (suc n) (x ∷ xs) small (suc i) = IsBytes-take n xs (λ j. small (suc j)) i

IsBytes-drop : (n : ℕ) (bytes : List ℕ) → IsBytes bytes → IsBytes (drop n bytes)
IsBytes-drop n bytes small i = rw (get_or-drop n bytes i 0) (small (n + i))

-- an address that is read is one
address_is : (bytes : List ℕ) (group : Ipv6Address) → IsBytes bytes → 24 ≤ length bytes → group.0 ≡ slice_range bytes 8 24 → IsIpv6Address group
address_is bytes group small whole is =
    (omega (arith, ap length is, length-slice_range bytes 8 24 (omega arith) whole), subst IsBytes (sym is) (IsBytes-take 16 _ (IsBytes-drop 8 bytes small)))

-- what bytes say can be sent
fits-says : (bytes : List ℕ) (v : MldRepr) → IsBytes bytes → 8 ≤ length bytes → Says bytes v → Fits v × IsValue v
fits-says bytes (Repr.QueryV1 code group) small whole says =
    (tt, (omega (arith, says.code_is, be16-small bytes 4 small), address_is bytes group small (omega (arith, says.exact)) says.group_is))
fits-says bytes (Repr.Query code group suppress qrv qqic sources) small whole says =
    let low : qrv < 8 = omega (arith, says.robustness) in (
      low,
      (
        omega (arith, says.code_is, be16-small bytes 4 small),
        address_is bytes group small (omega (arith, says.header)) says.group_is,
        low,
        omega (arith, says.interval, small 25),
        omega (arith, says.number, be16-small bytes 26 small),
      ),
    )
fits-says bytes (Repr.ReportV1 group) small whole says = (tt, address_is bytes group small says.header says.group_is)
fits-says bytes (Repr.Done group) small whole says = (tt, address_is bytes group small says.header says.group_is)
fits-says bytes (Repr.Report records) small whole says = (tt, omega (arith, says.number, be16-small bytes 6 small))

pub fits : (source destination : Ipv6Address) (tested : Bool) (bytes : List ℕ) (v : MldRepr) → IsBytes bytes → IsMld source destination tested bytes v →
    Fits v × IsValue v
fits source destination tested bytes v small is = fits-says bytes v small is.whole is.says

-- addresses of the same bytes
same-address : (a b : Ipv6Address) → a.0 ≡ b.0 → a ≡ b
same-address a b e = λ i. record { 0 = e i }

same-query : (c d : ℕ) (a b : Ipv6Address) → c ≡ d → a ≡ b → Repr.QueryV1 c a ≡ Repr.QueryV1 d b
same-query c d a b e f = cc

-- bytes say one thing at most
pub Says-one : (bytes : List ℕ) (v w : MldRepr) → Says bytes v → Says bytes w → v ≡ w
Says-one bytes (Repr.QueryV1 c a) (Repr.QueryV1 d b) p q = same-query c d a b (p.code_is ∙ sym q.code_is) (same-address a b (p.group_is ∙ sym q.group_is))
Says-one bytes (Repr.QueryV1 c a) (Repr.Query d b t k l m) p q = absurd (omega (arith, p.exact, q.header))
Says-one bytes (Repr.Query d b t k l m) (Repr.QueryV1 c a) p q = absurd (omega (arith, q.exact, p.header))
Says-one bytes (Repr.Query c a s f g h) (Repr.Query d b t k l m) p q =
    let code : c ≡ d = p.code_is ∙ sym q.code_is in
    let group : a ≡ b = same-address a b (p.group_is ∙ sym q.group_is) in
    let flag : s ≡ t = p.suppress_is ∙ sym q.suppress_is in
    let qrv : f ≡ k = p.robustness ∙ sym q.robustness in
    let qqic : g ≡ l = p.interval ∙ sym q.interval in
    let sources : h ≡ m = p.number ∙ sym q.number in cc
Says-one bytes (Repr.ReportV1 a) (Repr.ReportV1 b) p q = ap Repr.ReportV1 (same-address a b (p.group_is ∙ sym q.group_is))
Says-one bytes (Repr.Done a) (Repr.Done b) p q = ap Repr.Done (same-address a b (p.group_is ∙ sym q.group_is))
Says-one bytes (Repr.Report n) (Repr.Report m) p q = ap Repr.Report (p.number ∙ sym q.number)
Says-one bytes v w p q = absurd (omega (arith, kind_is bytes v p, kind_is bytes w q))

pub IsMld-one : (source destination : Ipv6Address) (tested : Bool) (bytes : List ℕ) (v w : MldRepr) → IsMld source destination tested bytes v →
    IsMld source destination tested bytes w → v ≡ w
IsMld-one source destination tested bytes v w p q = Says-one bytes v w p.says q.says
