-- The field of IPv4's flags and offset: what was put there is read back, and what was read is put back.
use Rattle.std.proofs.Common.{◌≡◌, ℕ, ◌+◌, ◌*◌, ◌/◌, ◌%◌, ◌<◌, ◌^◌, ◌==◌, Bool, true, false, if◌then◌else◌, List, get_or, refl, sym, arith, inl, inr}
use Rattle.std.proofs.lemmas.Bool.Decides.{eqb_tells}
use Rattle.std.specs.Prelude.{slice_index}
use Rattle.wire_address.specs.Fields.{be16, IsBytes}
use Rattle.wire_ip.specs.Ipv4.{flags_and_offset, fragment_of}
use Rattle.wire_ip.specs.Parts.{has_flag}

-- a set bit counts with its weight
weighs : (n weight : ℕ) → (if n % 2 == 1 then weight else 0) ≡ n % 2 * weight
weighs n weight = elim (eqb_tells (n % 2) 1) [
  | inl hit ↦ rw hit.0 (rw hit.1 (omega arith))
  | inr miss ↦ let none : n % 2 ≡ 0 = omega (arith, miss.1) in
      rw miss.0 (rw none (omega arith))
]

-- the flags and the offset that were read make the field that they were read from
pub field-read : (bytes : List ℕ) (dont_frag : Bool) → IsBytes bytes → dont_frag ≡ has_flag (slice_index bytes 6) 64
    → flags_and_offset (has_flag (slice_index bytes 6) 128) dont_frag (fragment_of bytes) ≡ be16 bytes 6
field-read bytes dont_frag small is =
    let byte : ℕ = slice_index bytes 6 in
    let high : get_or bytes 6 0 < 256 = small 6 in
    let low : get_or bytes 7 0 < 256 = small 7 in
    let reserved = weighs (byte / 128) (2 ^ 15) in
    let dont : (if dont_frag then 2 ^ 14 else 0) ≡ byte / 64 % 2 * 2 ^ 14 = rw is (weighs (byte / 64) (2 ^ 14)) in
    let more = weighs (byte / 32) (2 ^ 13) in
    omega (arith, high, low, reserved, dont, more)

-- the field as it is sent
abbrev field : Bool → Bool → ℕ → ℕ
field dont more offset = flags_and_offset false dont (record { offset = offset; more = more })

-- a truth value as a bit
one : (n : ℕ) → n ≡ 1 → true ≡ (n == 1)
one n is = rw is refl

zero_bit : (n : ℕ) → n ≡ 0 → false ≡ (n == 1)
zero_bit n is = rw is refl

-- don't-fragment is read as it was sent
pub dont_frag-sent : (dont more : Bool) (offset : ℕ) → offset < 2 ^ 16 → dont ≡ has_flag (field dont more offset / 256 % 256) 64
dont_frag-sent true true offset short = one _ (omega (arith, short))
dont_frag-sent true false offset short = one _ (omega (arith, short))
dont_frag-sent false true offset short = zero_bit _ (omega (arith, short))
dont_frag-sent false false offset short = zero_bit _ (omega (arith, short))

-- so is more-fragments
pub more-sent : (dont more : Bool) (offset : ℕ) → offset < 2 ^ 16 → has_flag (field dont more offset / 256 % 256) 32 ≡ more
more-sent true true offset short = sym (one _ (omega (arith, short)))
more-sent true false offset short = sym (zero_bit _ (omega (arith, short)))
more-sent false true offset short = sym (one _ (omega (arith, short)))
more-sent false false offset short = sym (zero_bit _ (omega (arith, short)))

-- and the offset, of a multiple of eight
pub offset-sent : (dont more : Bool) (offset : ℕ) → offset < 2 ^ 16 → offset % 8 ≡ 0
    → 8 * ((256 * (field dont more offset / 256 % 256) + field dont more offset % 256) % 2 ^ 13) ≡ offset
offset-sent true true offset short whole = omega (arith, short, whole)
offset-sent true false offset short whole = omega (arith, short, whole)
offset-sent false true offset short whole = omega (arith, short, whole)
offset-sent false false offset short whole = omega (arith, short, whole)
