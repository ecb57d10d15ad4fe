-- A fragment header and what spells it.
use Rattle.std.proofs.Common.{◌≡◌, ℕ, ◌+◌, ◌*◌, ◌%◌, ◌<◌, ◌^◌, Bool, true, false, List, ◌++◌, get_or, drop, refl, sym, ap, inl, inr, arith}
use Rattle.std.specs.Prelude.{◌==◌, ◌⊎◌, if◌then◌else◌}
use Rattle.std.proofs.lemmas.Bool.{eq-eqb, ne_eqb}
use Rattle.std.proofs.lemmas.Bool.Decides.{eqb_tells}
use Rattle.wire_address.specs.Fields.{be16, IsBytes}
use Rattle.ip_wire.specs.Fragment.{IsFragment, IsWhole, IsValue, spelling, written, normal, reserved_of}
use Rattle.ip_wire.specs.declared.ipv6_fragment.repr.Ipv6FragmentRepr.{Ipv6FragmentRepr}
use Rattle.wire_address.proofs.Peel.{peel16, peel32}

-- a flag as a number is the bit that it was read from
bit : (b : ℕ) (flag : Bool) → flag ≡ (b % 2 == 1) → (if flag then 1 else 0) ≡ b % 2
bit b flag is =
    elim (eqb_tells (b % 2) 1) [
      | inl hit ↦ rw (is, hit.0) (sym hit.1)
      | inr miss ↦ let e : 0 ≡ b % 2 = omega (arith, miss.1) in rw (is, miss.0) e
    ]

-- a fragment header is spelled by its value and its reserved bits
pub bytes-spelling : (bytes : List ℕ) (v : Ipv6FragmentRepr) → IsBytes bytes → IsFragment bytes v → bytes ≡ spelling v (reserved_of bytes) ++ drop 6 bytes
bytes-spelling bytes v small is =
    let whole : IsWhole bytes = is.whole in
    let b0 : get_or bytes 0 0 < 256 = small 0 in
    let b1 : get_or bytes 1 0 < 256 = small 1 in
    let flag : (if v.more_frags then 1 else 0) ≡ get_or bytes 1 0 % 2 = bit (get_or bytes 1 0) v.more_frags is.more in
    let first : v.frag_offset * 8 + reserved_of bytes * 2 + (if v.more_frags then 1 else 0) ≡ be16 bytes 0 = omega (arith, flag, is.offset) in
    peel16 bytes 0 _ _ small (omega (arith, whole.header)) first (
    peel32 bytes 2 v.ident (drop 6 bytes) small (omega (arith, whole.header)) is.identification refl
    )

-- a flag is set or not
flag_cases : (b : Bool) → (b ≡ true) ⊎ (b ≡ false)
flag_cases true = inl refl
flag_cases false = inr refl

-- a header that was emitted is read back in its canonical form, whatever follows
pub IsFragment-written : (v : Ipv6FragmentRepr) (rest : List ℕ) → IsValue v → IsFragment (written v ++ rest) (normal v)
IsFragment-written v rest value =
    elim (flag_cases v.more_frags) [
      | inl yes_set ↦ record {
        whole = record { header = omega arith };
        offset = rw yes_set (omega arith);
        more = rw yes_set (sym (eq-eqb _ 1 (omega arith)));
        identification = omega (arith, value.identification);
      }
      | inr unset ↦ record {
        whole = record { header = omega arith };
        offset = rw unset (omega arith);
        more = rw unset (sym (ne_eqb _ 1 (λ e. absurd (omega (arith, e)))));
        identification = omega (arith, value.identification);
      }
    ]

-- a header that was read can be written again
pub fits : (bytes : List ℕ) (v : Ipv6FragmentRepr) → IsBytes bytes → IsFragment bytes v → IsValue v
fits bytes v small is =
    let b0 : get_or bytes 0 0 < 256 = small 0 in
    let b1 : get_or bytes 1 0 < 256 = small 1 in
    let b2 : get_or bytes 2 0 < 256 = small 2 in
    let b3 : get_or bytes 3 0 < 256 = small 3 in
    let b4 : get_or bytes 4 0 < 256 = small 4 in
    let b5 : get_or bytes 5 0 < 256 = small 5 in
    record { offset = omega (arith, is.offset); identification = omega (arith, is.identification) }

-- a header that was read is in its canonical form
pub read : (bytes : List ℕ) (v : Ipv6FragmentRepr) → IsBytes bytes → IsFragment bytes v → normal v ≡ v
read bytes v small is =
    let b0 : get_or bytes 0 0 < 256 = small 0 in
    let b1 : get_or bytes 1 0 < 256 = small 1 in
    let cut : v.frag_offset % 2 ^ 13 ≡ v.frag_offset = omega (arith, is.offset) in
    ap (λ n. record v { frag_offset = n }) cut

-- the canonical form of a canonical form is itself
pub normal-again : (v : Ipv6FragmentRepr) → normal (normal v) ≡ normal v
normal-again v =
    let cut : v.frag_offset % 2 ^ 13 % 2 ^ 13 ≡ v.frag_offset % 2 ^ 13 = omega arith in
    ap (λ n. record v { frag_offset = n }) cut
