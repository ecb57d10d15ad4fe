-- Fields of what was read: they are bytes of their width, and their names are those of their numbers.
use Rattle.std.proofs.Common.{◌≡◌, ℕ, ◌+◌, ◌-◌, ◌<◌, ◌≤◌, zero, suc, List, [], ◌∷◌, length, get_or, take, drop, sym, ◌∙◌, ap, subst, arith}
use Rattle.std.proofs.lemmas.List.{get_or-drop}
use Rattle.std.specs.Prelude.{slice_index, slice_range}
use Rattle.wire_address.specs.Fields.{IsBytes}
use Rattle.wire_address.specs.Protocol.{protocol_number, protocol_of}
use Rattle.wire_address.specs.declared.ip.IpProtocol.{IpProtocol}
use Rattle.wire_address.proofs.Peel.{length-slice_range}
use Rattle.wire_address.proofs.Numbers.{protocol_number-protocol_of}

-- a part of bytes is bytes
IsBytes-take : (n : ℕ) (bytes : List ℕ) → IsBytes bytes → IsBytes (take n bytes)
IsBytes-take zero bytes small i = omega arith
IsBytes-take (suc n) [] small i = omega arith
IsBytes-take (suc n) (b ∷ bytes) small zero = small 0
IsBytes-take (suc n) (b ∷ bytes) small (suc i) = IsBytes-take n bytes (λ j. small (suc j)) i

IsBytes-part : (bytes : List ℕ) (i k : ℕ) → IsBytes bytes → IsBytes (slice_range bytes i k)
IsBytes-part bytes i k small =
    IsBytes-take (k - i) (drop i bytes) (λ j. subst (λ b. b < 256) (sym (get_or-drop i bytes j 0)) (small (i + j)))

-- the bytes between two offsets, as a field
pub part : (bytes field : List ℕ) (i k n : ℕ) → IsBytes bytes → i + n ≡ k → k ≤ length bytes → field ≡ slice_range bytes i k → (length field ≡ n) ×
    IsBytes field
part bytes field i k n small len room is =
    (omega (arith, len, room, ap length is, length-slice_range bytes i k (omega (arith, len)) room), subst IsBytes (sym is) (IsBytes-part bytes i k small))

-- a number that was read of a byte
pub numbered : (bytes : List ℕ) (i : ℕ) (p : IpProtocol) → IsBytes bytes → p ≡ protocol_of (slice_index bytes i) → protocol_number p < 256
numbered bytes i p small is =
    let b : get_or bytes i 0 < 256 = small i in
    omega (arith, ap protocol_number is, protocol_number-protocol_of (slice_index bytes i), b)

-- a name that was read is that of its number
pub named-again : {A : Type 0} (number : A → ℕ) (name : ℕ → A) → ((n : ℕ) → number (name n) ≡ n) → (p : A) (n : ℕ) → p ≡ name n → name (number p) ≡ p
named-again number name tells p n is = ap (λ x. name (number x)) is ∙ ap name (tells n) ∙ sym is
