-- A bit behind the header of an IPv4 packet.
use Rattle.std.proofs.Common.{◌≡◌, ℕ, zero, suc, ◌+◌, ◌-◌, ◌*◌, ◌%◌, ◌^◌, ◌<◌, ◌≤◌, List, [], ◌∷◌, length, take, drop, refl, sym, ap, ◌∙◌, subst, arith, ◌⊎◌, inl, inr}
use Rattle.std.specs.Prelude.{bit_xor, slice_set, slice_index_or}
use Rattle.std.proofs.lemmas.List.{take-set-le, drop-set-add, get_or-take, get_or-drop, get_or-set_other, length-drop}
use Rattle.std.proofs.Math.Seq.{take-set-lt}
use Rattle.std.proofs.Math.Nat.{mod-eq_of_lt}
use Rattle.base_wrappers.specs.Corrupt.{flipped}
use Rattle.wire_address.specs.Fields.{be16}
use Rattle.wire_ip.specs.Ipv4.{IsWhole, header_len_of, header_of, payload_of}
use Rattle.proof_wrappers.proofs.OneBit.{flipped_is, in_front, order}

-- the byte at a place with one bit other
abbrev other_at : List ℕ → ℕ → ℕ → List ℕ
other_at xs i bit = slice_set xs i (bit_xor (slice_index_or xs i 0) (2 ^ (bit % 8)))

-- a byte that is there is that of the draw
flipped_at : (i bit : ℕ) (xs : List ℕ) → i < length xs → flipped i bit xs ≡ other_at xs i bit
flipped_at i bit [] within = absurd (omega (arith, within))
flipped_at i bit (b ∷ xs) within =
    flipped_is i bit b xs ∙ ap (λ (t : ℕ). other_at (b ∷ xs) t bit) (mod-eq_of_lt {n = i} {m = length (b ∷ xs)} within)

-- of what is dropped and taken behind a place nothing is other, or the same bit
behind : (xs : List ℕ) (h n j bit : ℕ) → (n ≤ j) ⊎ (j < n) → h + j < length xs
    → (take n (drop h (other_at xs (h + j) bit)) ≡ take n (drop h xs))
    ⊎ ((m : ℕ) × (take n (drop h (other_at xs (h + j) bit)) ≡ flipped m bit (take n (drop h xs))))
behind xs h n j bit (inl less) there =
    let x : ℕ = bit_xor (slice_index_or xs (h + j) 0) (2 ^ (bit % 8)) in
    inl (ap (λ (ys : List ℕ). take n ys) (drop-set-add h xs j x) ∙ take-set-le n (drop h xs) j x less)
behind xs h n j bit (inr more) there =
    let x : ℕ = bit_xor (slice_index_or xs (h + j) 0) (2 ^ (bit % 8)) in
    let same : slice_index_or (take n (drop h xs)) j 0 ≡ slice_index_or xs (h + j) 0 = get_or-take n (drop h xs) j 0 more ∙ get_or-drop h xs j 0 in
    let long : length (drop h xs) ≡ length xs - h = length-drop h xs in
    let within : j < length (take n (drop h xs)) = in_front n (drop h xs) j more (omega (arith, long, there)) in
    inr (
      j,
      ap (λ (ys : List ℕ). take n ys) (drop-set-add h xs j x)
          ∙ (take-set-lt n (drop h xs) j x more
          ∙ (ap (λ (b : ℕ). slice_set (take n (drop h xs)) j (bit_xor b (2 ^ (bit % 8)))) (sym same) ∙ sym (flipped_at j bit (take n (drop h xs)) within))),
    )

abbrev Claim : List ℕ → ℕ → List ℕ → Type 0
Claim xs bit zs =
    (header_of zs ≡ header_of xs) × ((payload_of zs ≡ payload_of xs) ⊎ ((n : ℕ) × (payload_of zs ≡ flipped n bit (payload_of xs))))

stays : (xs : List ℕ) (i k x : ℕ) → k < i → slice_index_or (slice_set xs i x) k 0 ≡ slice_index_or xs k 0
stays xs i k x less = get_or-set_other xs i k x 0 (λ is. omega (arith, less, is))

same_payload : (xs zs : List ℕ) → header_len_of zs ≡ header_len_of xs → be16 zs 2 ≡ be16 xs 2
    → payload_of zs ≡ take (be16 xs 2 - header_len_of xs) (drop (header_len_of xs) zs)
same_payload xs zs header total =
    ap (λ (h : ℕ). take (be16 zs 2 - h) (drop h zs)) header ∙ ap (λ (n : ℕ). take (n - header_len_of xs) (drop (header_len_of xs) zs)) total

moved : (A B C : List ℕ) (bit : ℕ) → A ≡ B → (B ≡ C) ⊎ ((m : ℕ) × (B ≡ flipped m bit C)) → (A ≡ C) ⊎ ((m : ℕ) × (A ≡ flipped m bit C))
moved A B C bit is (inl same) = inl (is ∙ same)
moved A B C bit is (inr other) = inr (other.0, is ∙ other.1)

at_place : (xs : List ℕ) (j bit : ℕ) → IsWhole xs → header_len_of xs + j < length xs → Claim xs bit (other_at xs (header_len_of xs + j) bit)
at_place xs j bit whole there =
    let h : ℕ = header_len_of xs in
    let x : ℕ = bit_xor (slice_index_or xs (h + j) 0) (2 ^ (bit % 8)) in
    let zs : List ℕ = other_at xs (h + j) bit in
    let least : 20 ≤ h = whole.header in
    let header : header_len_of zs ≡ h = ap (λ (b : ℕ). 4 * (b % 16)) (stays xs (h + j) 0 x (omega (arith, least))) in
    let total : be16 zs 2 ≡ be16 xs 2 =
    ap (λ (b : ℕ). 256 * b + slice_index_or zs 3 0) (stays xs (h + j) 2 x (omega (arith, least)))
    ∙ ap (λ (b : ℕ). 256 * slice_index_or xs 2 0 + b) (stays xs (h + j) 3 x (omega (arith, least))) in (
      ap (λ (n : ℕ). take n zs) header ∙ take-set-le h xs (h + j) x (omega arith),
      moved (payload_of zs) (take (be16 xs 2 - h) (drop h zs)) (payload_of xs) bit (same_payload xs zs header total)
          (behind xs h (be16 xs 2 - h) j bit (order (be16 xs 2 - h) j) there),
    )

by_draw : (b : ℕ) (xs : List ℕ) (at bit j : ℕ) → at % length (b ∷ xs) ≡ header_len_of (b ∷ xs) + j → IsWhole (b ∷ xs)
    → header_len_of (b ∷ xs) + j < length (b ∷ xs) → Claim (b ∷ xs) bit (flipped at bit (b ∷ xs))
by_draw b xs at bit j is whole there =
    subst (λ (zs : List ℕ). Claim (b ∷ xs) bit zs) (sym (flipped_is at bit b xs ∙ ap (λ (t : ℕ). other_at (b ∷ xs) t bit) is)) (at_place (b ∷ xs) j bit whole there)

pub bit_behind : (bytes : List ℕ) (at bit : ℕ) → IsWhole bytes → header_len_of bytes ≤ at % length bytes → at % length bytes < length bytes
    → Claim bytes bit (flipped at bit bytes)
bit_behind [] at bit whole behind within = absurd (omega (arith, within))
bit_behind (b ∷ xs) at bit whole behind within =
    let j : ℕ = at % length (b ∷ xs) - header_len_of (b ∷ xs) in
    let is : at % length (b ∷ xs) ≡ header_len_of (b ∷ xs) + j = omega (arith, behind) in
    by_draw b xs at bit j is whole (subst (λ (n : ℕ). n < length (b ∷ xs)) is within)
