-- The fragments that are left of a datagram, in turn.
use Rattle.std.proofs.Common.{◌≡◌, ℕ, suc, zero, ◌+◌, ◌*◌, ◌%◌, ◌<◌, ◌≤◌, Bool, true, false, cond, List, [], ◌++◌, length, drop, Option, Some, None, refl, sym}
use Rattle.std.proofs.Common.{subst, ap, ◌∙◌, arith}
use Rattle.std.specs.Prelude.{nat_lt}
use Rattle.std.specs.List.{AllByRecursion, flat_map}
use Rattle.std.proofs.lemmas.List.{drop_all}
use Rattle.std.proofs.lemmas.Bool.Decides.{nat_tests}
use Rattle.iface_tables.specs.FragmentList.{FragmentPart, IsSliceOf}
use Rattle.iface_tables.proofs.ReassembledDatagram.{IsSliceOf-fragment_at, fragment_at-then}
use Rattle.iface_egress.specs.Fragments.{LeftValue, fragment_room, next_fragment, left_after, fragments_from}

abbrev moved : ℕ → LeftValue → LeftValue
moved mtu l = record l { at = l.at + fragment_room l.header mtu }

abbrev left_by : Bool → LeftValue → Option LeftValue
left_by b l = cond b (Some l) None

lt_by : (a b : ℕ) → nat_lt a b ≡ true → a < b
lt_by a b is = grind (arith, nat_tests)

le_by : (a b : ℕ) → nat_lt a b ≡ false → b ≤ a
le_by a b is = grind (arith, nat_tests)

-- what is left lies in the payload
abbrev LiesIn : List ℕ → Option LeftValue → Type 0
LiesIn payload None = Unit {0}
LiesIn payload (Some l) = (l.payload ≡ payload) × (l.at ≤ length payload)

lies-after : (mtu : ℕ) (payload : List ℕ) (l : LeftValue) (b : Bool) → l.payload ≡ payload → nat_lt (l.at + fragment_room l.header mtu) (length l.payload) ≡ b →
    LiesIn payload (left_by b (moved mtu l))
lies-after mtu payload l true same is =
    (same, rw (sym same) (let h : l.at + fragment_room l.header mtu < length l.payload = lt_by (l.at + fragment_room l.header mtu) (length l.payload) is in omega arith))
lies-after mtu payload l false same is = tt

slices-of : (mtu n : ℕ) (payload : List ℕ) (o : Option LeftValue) → LiesIn payload o → AllByRecursion (IsSliceOf payload) (fragments_from n mtu o)
slices-of mtu n payload None lies = tt
slices-of mtu zero payload (Some l) lies = tt
slices-of mtu (suc n) payload (Some l) lies = (
  subst (λ bytes. IsSliceOf bytes (next_fragment mtu l)) lies.0 (IsSliceOf-fragment_at (fragment_room l.header mtu) l.payload l.at (rw lies.0 lies.1)),
  slices-of mtu n payload (left_after mtu l) (lies-after mtu payload l (nat_lt (l.at + fragment_room l.header mtu) (length l.payload)) lies.0 refl),
)

pub slices : (mtu n : ℕ) (l : LeftValue) → l.at ≤ length l.payload → AllByRecursion (IsSliceOf l.payload) (fragments_from n mtu (Some l))
slices mtu n l within = slices-of mtu n l.payload (Some l) (refl, within)

-- slots in units of 8 bytes
abbrev IsUnit : Option LeftValue → Type 0
IsUnit None = Unit {0}
IsUnit (Some l) = l.at % 8 ≡ 0

unit-after : (mtu : ℕ) (l : LeftValue) (b : Bool) → l.at % 8 ≡ 0 → IsUnit (left_by b (moved mtu l))
unit-after mtu l true whole = omega arith
unit-after mtu l false whole = tt

units-of : (mtu n : ℕ) (o : Option LeftValue) → IsUnit o → AllByRecursion (λ (p : FragmentPart). p.offset % 8 ≡ 0) (fragments_from n mtu o)
units-of mtu n None whole = tt
units-of mtu zero (Some l) whole = tt
units-of mtu (suc n) (Some l) whole = (whole, units-of mtu n (left_after mtu l) (unit-after mtu l (nat_lt (l.at + fragment_room l.header mtu) (length l.payload)) whole))

pub units : (mtu n : ℕ) (l : LeftValue) → l.at % 8 ≡ 0 → AllByRecursion (λ (p : FragmentPart). p.offset % 8 ≡ 0) (fragments_from n mtu (Some l))
units mtu n l whole = units-of mtu n (Some l) whole

-- the bytes that are left
abbrev bytes_left : Option LeftValue → List ℕ
bytes_left None = []
bytes_left (Some l) = drop l.at l.payload

-- so many fragments hold them
abbrev Holds : ℕ → ℕ → Option LeftValue → Type 0
Holds mtu n None = Unit {0}
Holds mtu n (Some l) = length l.payload ≤ l.at + n * fragment_room l.header mtu

holds-after : (mtu n : ℕ) (l : LeftValue) (b : Bool) → length l.payload ≤ l.at + suc n * fragment_room l.header mtu → Holds mtu n (left_by b (moved mtu l))
holds-after mtu n l true enough = omega arith
holds-after mtu n l false enough = tt

bytes-after : (mtu : ℕ) (l : LeftValue) (b : Bool) → nat_lt (l.at + fragment_room l.header mtu) (length l.payload) ≡ b →
    bytes_left (left_by b (moved mtu l)) ≡ drop (l.at + fragment_room l.header mtu) l.payload
bytes-after mtu l true is = refl
bytes-after mtu l false is = sym (drop_all (l.at + fragment_room l.header mtu) l.payload (le_by (l.at + fragment_room l.header mtu) (length l.payload) is))

turn-of : (mtu n : ℕ) (o : Option LeftValue) → Holds mtu n o → flat_map (λ (p : FragmentPart). p.bytes) (fragments_from n mtu o) ≡ bytes_left o
turn-of mtu n None enough = refl
turn-of mtu zero (Some l) enough = sym (drop_all l.at l.payload (omega arith))
turn-of mtu (suc n) (Some l) enough =
    let later : Bool = nat_lt (l.at + fragment_room l.header mtu) (length l.payload) in
    ap (λ (rest : List ℕ). (next_fragment mtu l).bytes ++ rest) (turn-of mtu n (left_after mtu l) (holds-after mtu n l later enough) ∙
    bytes-after mtu l later refl)
    ∙ fragment_at-then (fragment_room l.header mtu) l.payload l.at

pub in_turn : (mtu n : ℕ) (l : LeftValue) → length l.payload ≤ l.at + n * fragment_room l.header mtu →
    flat_map (λ (p : FragmentPart). p.bytes) (fragments_from n mtu (Some l)) ≡ drop l.at l.payload
in_turn mtu n l enough = turn-of mtu n (Some l) enough
