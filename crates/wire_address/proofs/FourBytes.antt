-- Four bytes and their number determine each other: so addresses of IPv4 may be compared as numbers.
use Rattle.std.proofs.Common.{◌≡◌, ℕ, ◌-◌, ◌^◌, ◌<◌, Bool, true, false, List, [], ◌∷◌, length, replicate, slice_index, nat_eq, refl, sym, ◌∙◌, ap, arith}
use Rattle.byteorder.specs.Endian.{big_number}
use Rattle.std.specs.Int.{w32, from_le_bytes}
use Rattle.std.specs.Bool.{Decides}
use Rattle.std.specs.Str.{bytes_eq}
use Rattle.std.proofs.lemmas.Bool.Decides.{Decides-eqb}
use Rattle.std.proofs.lemmas.Slice.Eq.{bytes_eq-Decides}
use Rattle.wire_address.specs.Address.{v4_number, IsIpv4Address, IsUnspecifiedV4, IsBroadcastV4}
use Rattle.wire_address.specs.AddressTests.{is_unspecified_v4, is_broadcast_v4}
use Rattle.wire_address.specs.Fields.{IsBytes}
use Rattle.wire_address.specs.declared.ipv4.Ipv4Address.{Ipv4Address}

same_test : (t u : Bool) → (t ≡ true → u ≡ true) → (u ≡ true → t ≡ true) → t ≡ u
same_test true true forth back = refl
same_test true false forth back = let no = forth refl in absurd (cc)
same_test false true forth back = let no = back refl in absurd (cc)
same_test false false forth back = refl

-- a test that is true exactly where two lists are the same
decided : (t : Bool) (xs ys : List ℕ) → (t ≡ true → xs ≡ ys) → (xs ≡ ys → t ≡ true) → t ≡ bytes_eq xs ys
decided t xs ys forth back = same_test t (bytes_eq xs ys) (λ e. (bytes_eq-Decides xs ys).1 (forth e)) (λ e. back ((bytes_eq-Decides xs ys).0 e))

-- a list of four is that of its four items
four : (xs : List ℕ) → length xs ≡ 4 → xs ≡ slice_index xs 0 ∷ slice_index xs 1 ∷ slice_index xs 2 ∷ slice_index xs 3 ∷ []
four (a ∷ b ∷ c ∷ d ∷ []) len = refl
four _ len = absurd (omega arith)

-- four bytes that make the same number, the least significant first, are the same
pub from_le_bytes-only : (xs ys : List ℕ) → length xs ≡ 4 → length ys ≡ 4 → IsBytes xs → IsBytes ys → from_le_bytes w32 xs ≡ from_le_bytes w32 ys → xs ≡ ys
from_le_bytes-only xs ys x y small little same =
    let a : slice_index xs 0 < 256 = small 0 in
    let b : slice_index xs 1 < 256 = small 1 in
    let c : slice_index xs 2 < 256 = small 2 in
    let e : slice_index ys 0 < 256 = little 0 in
    let f : slice_index ys 1 < 256 = little 1 in
    let g : slice_index ys 2 < 256 = little 2 in
    let first : slice_index xs 0 ≡ slice_index ys 0 = omega arith in
    let second : slice_index xs 1 ≡ slice_index ys 1 = omega arith in
    let third : slice_index xs 2 ≡ slice_index ys 2 = omega arith in
    let fourth : slice_index xs 3 ≡ slice_index ys 3 = omega arith in
    let one = four xs x in
    let other = four ys y in
    cc

-- so the comparison of the numbers is that of the bytes
pub from_le_bytes-tells : (xs ys : List ℕ) → length xs ≡ 4 → length ys ≡ 4 → IsBytes xs → IsBytes ys
    → nat_eq (from_le_bytes w32 xs) (from_le_bytes w32 ys) ≡ bytes_eq xs ys
from_le_bytes-tells xs ys x y small little =
    let tells = Decides-eqb (from_le_bytes w32 xs) (from_le_bytes w32 ys) in
    decided _ xs ys (λ e. from_le_bytes-only xs ys x y small little (tells.0 e)) (λ e. tells.1 (ap (from_le_bytes w32) e))

-- the number 0 has four bytes of 0, and no other has
unspecified : (a : Ipv4Address) → IsIpv4Address a → v4_number a ≡ 0 → IsUnspecifiedV4 a
unfolding v4_number
unspecified a is same =
    let one = four a.0 is.0 in
    let first : slice_index a.0 0 ≡ 0 = omega arith in
    let second : slice_index a.0 1 ≡ 0 = omega arith in
    let third : slice_index a.0 2 ≡ 0 = omega arith in
    let fourth : slice_index a.0 3 ≡ 0 = omega arith in
    cc

-- the greatest number has four bytes of 255, and no other has
broadcast : (a : Ipv4Address) → IsIpv4Address a → v4_number a ≡ 2 ^ 32 - 1 → IsBroadcastV4 a
unfolding v4_number
broadcast a is same =
    let one = four a.0 is.0 in
    let a' : slice_index a.0 0 < 256 = is.1 0 in
    let b' : slice_index a.0 1 < 256 = is.1 1 in
    let c' : slice_index a.0 2 < 256 = is.1 2 in
    let d' : slice_index a.0 3 < 256 = is.1 3 in
    let first : slice_index a.0 0 ≡ 255 = omega arith in
    let second : slice_index a.0 1 ≡ 255 = omega arith in
    let third : slice_index a.0 2 ≡ 255 = omega arith in
    let fourth : slice_index a.0 3 ≡ 255 = omega arith in
    cc

-- `0.0.0.0` is the address whose number is 0
pub unspecified-number : (a : Ipv4Address) (n : ℕ) → IsIpv4Address a → n ≡ v4_number a → Decides (nat_eq n 0) (IsUnspecifiedV4 a)
unfolding v4_number
unspecified-number a n is named = (
  λ e. unspecified a is (sym named ∙ (Decides-eqb n 0).0 e),
  λ e. (Decides-eqb n 0).1 (named ∙ ap (big_number 4) e),
)

-- `255.255.255.255` is the address whose number is the greatest
pub broadcast-number : (a : Ipv4Address) (n : ℕ) → IsIpv4Address a → n ≡ v4_number a → Decides (nat_eq n (2 ^ 32 - 1)) (IsBroadcastV4 a)
unfolding v4_number
broadcast-number a n is named = (
  λ e. broadcast a is (sym named ∙ (Decides-eqb n (2 ^ 32 - 1)).0 e),
  λ e. (Decides-eqb n (2 ^ 32 - 1)).1 (named ∙ ap (big_number 4) e),
)

-- so each test of the number is the test of the bytes
pub unspecified-tells : (a : Ipv4Address) (n : ℕ) → IsIpv4Address a → n ≡ v4_number a → nat_eq n 0 ≡ is_unspecified_v4 a
unspecified-tells a n is named = let tells = unspecified-number a n is named in decided _ a.0 (replicate 4 0) tells.0 tells.1

pub broadcast-tells : (a : Ipv4Address) (n : ℕ) → IsIpv4Address a → n ≡ v4_number a → nat_eq n (2 ^ 32 - 1) ≡ is_broadcast_v4 a
broadcast-tells a n is named = let tells = broadcast-number a n is named in decided _ a.0 (replicate 4 255) tells.0 tells.1
