-- What one bit makes of a sum.
use Rattle.std.proofs.Common.{◌≡◌, ◌≢◌, ℕ, zero, suc, ◌+◌, ◌*◌, ◌%◌, ◌^◌, ◌<◌, ◌≤◌, ◌==◌, if◌then◌else◌, true, List, [], ◌∷◌, length, take, refl, sym, ap, ◌∙◌, subst, arith, ◌⊎◌, inl, inr}
use Rattle.std.specs.Prelude.{bit_and, bit_xor, slice_set, slice_index_or}
use Rattle.std.specs.Int.{bit_at}
use Rattle.std.specs.Int.Bits.{xor_add_and}
use Rattle.std.proofs.lemmas.Nat.{pow_pos}
use Rattle.std.proofs.lemmas.Nat.Bits.{and_pow}
use Rattle.std.proofs.lemmas.List.{length-set, take-set-le, get_or-take}
use Rattle.std.proofs.Math.Seq.{take-set-lt}
use Rattle.std.proofs.Math.Nat.{mod-lt}
use Rattle.base_wrappers.specs.Corrupt.{flipped}
use Rattle.wire_address.specs.Address.{version_of}
use Rattle.wire_address.specs.Fields.{be16}
use Rattle.wire_address.specs.Pseudo.{pseudo_of, covered}
use Rattle.wire_address.specs.Sum.{word_sum, ChecksumHolds}
use Rattle.wire_address.specs.declared.ip.IpAddress.{IpAddress}
use Rattle.wire_ip.specs.Ipv4 as Ipv4
use Rattle.wire_ip.specs.Udp as Udp
use Rattle.wire_tcp.specs.Tcp as Tcp
use Rattle.wire_ip.specs.declared.ipv4.repr.Ipv4Repr.{Ipv4Repr}
use Rattle.wire_ip.specs.declared.udp.repr.UdpRepr.{UdpRepr}
use Rattle.wire_tcp.specs.declared.header.TcpHeader.{TcpHeader}

-- BYTES

-- one is more than the other, by less than 256
abbrev Differs : ℕ → ℕ → Type 0
Differs old new = (d : ℕ) × (0 < d) × (d < 256) × ((new ≡ old + d) ⊎ (new + d ≡ old))

below : (k : ℕ) → k < 8 → 2 ^ k < 256
below zero small = omega arith
below (suc zero) small = omega arith
below (suc (suc zero)) small = omega arith
below (suc (suc (suc zero))) small = omega arith
below (suc (suc (suc (suc zero)))) small = omega arith
below (suc (suc (suc (suc (suc zero))))) small = omega arith
below (suc (suc (suc (suc (suc (suc zero)))))) small = omega arith
below (suc (suc (suc (suc (suc (suc (suc zero))))))) small = omega arith
below (suc (suc (suc (suc (suc (suc (suc (suc k)))))))) small = absurd (omega (arith, small))

by_bit : (old new p common bit : ℕ) → 0 < p → p < 256 → new + common * 2 ≡ old + p → common ≡ bit * p → bit < 2 → Differs old new
by_bit old new p common zero some small sum is two = (p, some, small, inl (omega (arith, sum, is)))
by_bit old new p common (suc zero) some small sum is two = (p, some, small, inr (omega (arith, sum, is)))
by_bit old new p common (suc (suc bit)) some small sum is two = absurd (omega (arith, two))

a_bit : (n k : ℕ) → bit_at n k < 2
a_bit n k = omega arith

one_other : (old k : ℕ) → k < 8 → Differs old (bit_xor old (2 ^ k))
one_other old k small =
    by_bit old (bit_xor old (2 ^ k)) (2 ^ k) (bit_and old (2 ^ k)) (bit_at old k) (pow_pos k) (below k small) (xor_add_and old (2 ^ k)) (and_pow old k) (a_bit old k)

-- SUMS

even_set : (bytes : List ℕ) (i x : ℕ) → i % 2 ≡ 0 → i < length bytes
    → word_sum (slice_set bytes i x) + 256 * slice_index_or bytes i 0 ≡ word_sum bytes + 256 * x
even_set [] i x even within = absurd (omega arith)
even_set (b ∷ []) zero x even within = omega arith
even_set (b ∷ []) (suc i) x even within = absurd (omega arith)
even_set (b ∷ c ∷ bytes) zero x even within = omega arith
even_set (b ∷ c ∷ bytes) (suc zero) x even within = absurd (omega arith)
even_set (b ∷ c ∷ bytes) (suc (suc i)) x even within =
    let rest : word_sum (slice_set bytes i x) + 256 * slice_index_or bytes i 0 ≡ word_sum bytes + 256 * x = even_set bytes i x (omega arith) (omega arith) in
    omega (arith, rest)

odd_set : (bytes : List ℕ) (i x : ℕ) → i % 2 ≡ 1 → i < length bytes
    → word_sum (slice_set bytes i x) + slice_index_or bytes i 0 ≡ word_sum bytes + x
odd_set [] i x odd within = absurd (omega arith)
odd_set (b ∷ []) zero x odd within = absurd (omega arith)
odd_set (b ∷ []) (suc i) x odd within = absurd (omega arith)
odd_set (b ∷ c ∷ bytes) zero x odd within = absurd (omega arith)
odd_set (b ∷ c ∷ bytes) (suc zero) x odd within = omega arith
odd_set (b ∷ c ∷ bytes) (suc (suc i)) x odd within =
    let rest : word_sum (slice_set bytes i x) + slice_index_or bytes i 0 ≡ word_sum bytes + x = odd_set bytes i x (omega arith) (omega arith) in
    omega (arith, rest)

-- two sums that both hold aren't less than 65535 apart
clash : (sum other e k j : ℕ) → 0 < e → e < 65535 → sum ≡ 65535 * k → other ≡ 65535 * j → (other ≡ sum + e) ⊎ (other + e ≡ sum) → ⊥
clash sum other e k j some small one two (inl more) = omega (arith, more)
clash sum other e k j some small one two (inr less) = omega (arith, less)

apart : (covered sum other weight old new : ℕ) → 0 < weight → weight ≤ 256 → other + weight * old ≡ sum + weight * new → (d : ℕ) → 0 < weight * d → weight * d < 65535
    → (new ≡ old + d) ⊎ (new + d ≡ old) → ChecksumHolds (covered + sum) → ChecksumHolds (covered + other) → ⊥
apart covered sum other weight old new some small moved d more less (inl is) one two =
    let sums : other ≡ sum + weight * d = omega (arith, moved, ap (λ x. weight * x) is) in
    clash (covered + sum) (covered + other) (weight * d) one.0 two.0 more less one.2 two.2 (inl (omega (arith, sums)))
apart covered sum other weight old new some small moved d more less (inr is) one two =
    let sums : other + weight * d ≡ sum = omega (arith, moved, ap (λ x. weight * x) is) in
    clash (covered + sum) (covered + other) (weight * d) one.0 two.0 more less one.2 two.2 (inr (omega (arith, sums)))

by_place : (covered : ℕ) (bytes : List ℕ) (i x : ℕ) → (i % 2 ≡ 0) ⊎ (i % 2 ≡ 1) → i < length bytes → Differs (slice_index_or bytes i 0) x
    → ChecksumHolds (covered + word_sum bytes) → ChecksumHolds (covered + word_sum (slice_set bytes i x)) → ⊥
by_place covered bytes i x (inl even) within other one two =
    apart covered (word_sum bytes) (word_sum (slice_set bytes i x)) 256 (slice_index_or bytes i 0) x (omega arith) (omega arith)
    (even_set bytes i x even within) other.0 (omega (arith, other.1)) (omega (arith, other.2)) other.3 one two
by_place covered bytes i x (inr odd) within other one two =
    let moved : word_sum (slice_set bytes i x) + 1 * slice_index_or bytes i 0 ≡ word_sum bytes + 1 * x = omega (arith, odd_set bytes i x odd within) in
    apart covered (word_sum bytes) (word_sum (slice_set bytes i x)) 1 (slice_index_or bytes i 0) x (omega arith) (omega arith)
    moved other.0 (omega (arith, other.1)) (omega (arith, other.2)) other.3 one two

two_more : (i : ℕ) → (i % 2 ≡ 0) ⊎ (i % 2 ≡ 1) → (suc (suc i) % 2 ≡ 0) ⊎ (suc (suc i) % 2 ≡ 1)
two_more i (inl even) = inl (omega (arith, even))
two_more i (inr odd) = inr (omega (arith, odd))

parity : (i : ℕ) → (i % 2 ≡ 0) ⊎ (i % 2 ≡ 1)
parity zero = inl refl
parity (suc zero) = inr refl
parity (suc (suc i)) = two_more i (parity i)

-- a byte that is a bit other
set_tells : (covered : ℕ) (bytes : List ℕ) (i k : ℕ) → k < 8 → i < length bytes → ChecksumHolds (covered + word_sum bytes)
    → ChecksumHolds (covered + word_sum (slice_set bytes i (bit_xor (slice_index_or bytes i 0) (2 ^ k)))) → ⊥
set_tells covered bytes i k small within one two =
    by_place covered bytes i (bit_xor (slice_index_or bytes i 0) (2 ^ k)) (parity i) within (one_other (slice_index_or bytes i 0) k small) one two

if_some : (n : ℕ) (none some : List ℕ) → (if suc n == 0 then none else some) ≡ some
if_some n none some = grind arith

pub flipped_is : (at bit b : ℕ) (bytes : List ℕ) → flipped at bit (b ∷ bytes)
    ≡ slice_set (b ∷ bytes) (at % length (b ∷ bytes)) (bit_xor (slice_index_or (b ∷ bytes) (at % length (b ∷ bytes)) 0) (2 ^ (bit % 8)))
flipped_is at bit b bytes =
    if_some (length bytes) (b ∷ bytes)
    (slice_set (b ∷ bytes) (at % length (b ∷ bytes)) (bit_xor (slice_index_or (b ∷ bytes) (at % length (b ∷ bytes)) 0) (2 ^ (bit % 8))))

pub tells : (covered at bit : ℕ) (bytes : List ℕ) → 0 < length bytes → ChecksumHolds (covered + word_sum bytes)
    → ChecksumHolds (covered + word_sum (flipped at bit bytes)) → ⊥
tells covered at bit [] some one two = absurd (omega arith)
tells covered at bit (b ∷ bytes) some one two =
    set_tells covered (b ∷ bytes) (at % length (b ∷ bytes)) (bit % 8) (mod-lt bit {m = 8} (omega arith)) (mod-lt at {m = length (b ∷ bytes)} (omega arith)) one
    (subst (λ (xs : List ℕ). ChecksumHolds (covered + word_sum xs)) (flipped_is at bit b bytes) two)

-- FRONTS

pub in_front : (n : ℕ) (bytes : List ℕ) (i : ℕ) → i < n → i < length bytes → i < length (take n bytes)
in_front zero bytes i within there = absurd (omega (arith, within))
in_front (suc n) [] i within there = absurd (omega (arith, there))
in_front (suc n) (b ∷ bytes) zero within there = omega arith
in_front (suc n) (b ∷ bytes) (suc i) within there = let rest = in_front n bytes i (omega (arith, within)) (omega (arith, there)) in omega (arith, rest)

-- the sum of a front holds for one bit other only where that is behind it
front_set : (covered n : ℕ) (bytes : List ℕ) (i k : ℕ) → (n ≤ i) ⊎ (i < n) → k < 8 → i < length bytes → ChecksumHolds (covered + word_sum (take n bytes))
    → ChecksumHolds (covered + word_sum (take n (slice_set bytes i (bit_xor (slice_index_or bytes i 0) (2 ^ k)))))
    → take n (slice_set bytes i (bit_xor (slice_index_or bytes i 0) (2 ^ k))) ≡ take n bytes
front_set covered n bytes i k (inl behind) small there one two = take-set-le n bytes i (bit_xor (slice_index_or bytes i 0) (2 ^ k)) behind
front_set covered n bytes i k (inr within) small there one two =
    let same = take-set-lt n bytes i (bit_xor (slice_index_or bytes i 0) (2 ^ k)) within in
    let changed = subst (λ (xs : List ℕ). ChecksumHolds (covered + word_sum xs)) same two in
    let named = subst (λ (b : ℕ). ChecksumHolds (covered + word_sum (slice_set (take n bytes) i (bit_xor b (2 ^ k))))) (sym (get_or-take n bytes i 0 within)) changed in
    absurd (set_tells covered (take n bytes) i k small (in_front n bytes i within there) one named)

both_more : (n i : ℕ) → (n ≤ i) ⊎ (i < n) → (suc n ≤ suc i) ⊎ (suc i < suc n)
both_more n i (inl less) = inl (omega (arith, less))
both_more n i (inr more) = inr (omega (arith, more))

pub order : (n i : ℕ) → (n ≤ i) ⊎ (i < n)
order zero i = inl (omega arith)
order (suc n) zero = inr (omega arith)
order (suc n) (suc i) = both_more n i (order n i)

pub front_tells : (covered n at bit : ℕ) (bytes : List ℕ) → ChecksumHolds (covered + word_sum (take n bytes))
    → ChecksumHolds (covered + word_sum (take n (flipped at bit bytes))) → take n (flipped at bit bytes) ≡ take n bytes
front_tells covered n at bit [] one two = refl
front_tells covered n at bit (b ∷ bytes) one two =
    ap (λ (xs : List ℕ). take n xs) (flipped_is at bit b bytes)
    ∙ front_set covered n (b ∷ bytes) (at % length (b ∷ bytes)) (bit % 8) (order n (at % length (b ∷ bytes))) (mod-lt bit {m = 8} (omega arith))
    (mod-lt at {m = length (b ∷ bytes)} (omega arith)) one
    (subst (λ (xs : List ℕ). ChecksumHolds (covered + word_sum (take n xs))) (flipped_is at bit b bytes) two)

pub same_length : (at bit : ℕ) (bytes : List ℕ) → length (flipped at bit bytes) ≡ length bytes
same_length at bit [] = refl
same_length at bit (b ∷ bytes) =
    ap (λ (xs : List ℕ). length xs) (flipped_is at bit b bytes)
    ∙ length-set (b ∷ bytes) (at % length (b ∷ bytes)) (bit_xor (slice_index_or (b ∷ bytes) (at % length (b ∷ bytes)) 0) (2 ^ (bit % 8)))

front_length : (n : ℕ) (xs ys : List ℕ) → length xs ≡ length ys → length (take n xs) ≡ length (take n ys)
front_length zero xs ys same = refl
front_length (suc n) [] [] same = refl
front_length (suc n) [] (y ∷ ys) same = absurd (omega (arith, same))
front_length (suc n) (x ∷ xs) [] same = absurd (omega (arith, same))
front_length (suc n) (x ∷ xs) (y ∷ ys) same = ap suc (front_length n xs ys (omega (arith, same)))

-- PACKETS

pub segment_tells : (source destination : IpAddress) (bytes : List ℕ) (at bit : ℕ) (v w : TcpHeader) → Tcp.IsTcp source destination true bytes v
    → Tcp.IsTcp source destination true (flipped at bit bytes) w → ⊥
segment_tells source destination bytes at bit v w one two =
    tells (word_sum (pseudo_of source destination 6 (length bytes))) at bit bytes (let fixed = one.whole.fixed in omega (arith, fixed)) (one.checked refl)
    (subst (λ (n : ℕ). ChecksumHolds (word_sum (pseudo_of source destination 6 n) + word_sum (flipped at bit bytes))) (same_length at bit bytes) (two.checked refl))

datagram_same : (source destination : IpAddress) (bytes other : List ℕ) → length other ≡ length bytes → be16 other 4 ≡ be16 bytes 4
    → ((covered : ℕ) → ChecksumHolds (covered + word_sum (Udp.datagram_of bytes)) → ChecksumHolds (covered + word_sum (take (be16 bytes 4) other))
    → take (be16 bytes 4) other ≡ Udp.datagram_of bytes)
    → ChecksumHolds (covered source destination 17 (Udp.datagram_of bytes)) → ChecksumHolds (covered source destination 17 (Udp.datagram_of other))
    → Udp.datagram_of other ≡ Udp.datagram_of bytes
datagram_same source destination bytes other same field tell one two =
    let front : Udp.datagram_of other ≡ take (be16 bytes 4) other = ap (λ (n : ℕ). take n other) field in
    let there = subst (λ (xs : List ℕ). ChecksumHolds (covered source destination 17 xs)) front two in
    let long = front_length (be16 bytes 4) other bytes same in
    front ∙ tell (word_sum (pseudo_of source destination 17 (length (Udp.datagram_of bytes)))) one
    (subst (λ (n : ℕ). ChecksumHolds (word_sum (pseudo_of source destination 17 n) + word_sum (take (be16 bytes 4) other))) long there)

by_checks : (source destination : IpAddress) (bytes other : List ℕ) → Udp.IsChecked source destination bytes → Udp.IsChecked source destination other
    → (Udp.HasNoChecksum source bytes → ⊥)
    → (ChecksumHolds (covered source destination 17 (Udp.datagram_of bytes)) → ChecksumHolds (covered source destination 17 (Udp.datagram_of other))
    → Udp.datagram_of other ≡ Udp.datagram_of bytes)
    → (Udp.datagram_of other ≡ Udp.datagram_of bytes) ⊎ Udp.HasNoChecksum source other
by_checks source destination bytes other (inl none) there not same = absurd (not none)
by_checks source destination bytes other (inr one) (inl none) not same = inr none
by_checks source destination bytes other (inr one) (inr two) not same = inl (same one two)

pub datagram_tells : (source destination : IpAddress) (bytes : List ℕ) (at bit : ℕ) (v w : UdpRepr) → Udp.IsUdp source destination true bytes v
    → (Udp.HasNoChecksum source bytes → ⊥) → be16 (flipped at bit bytes) 4 ≡ be16 bytes 4 → Udp.IsUdp source destination true (flipped at bit bytes) w
    → (Udp.datagram_of (flipped at bit bytes) ≡ Udp.datagram_of bytes) ⊎ Udp.HasNoChecksum source (flipped at bit bytes)
datagram_tells source destination bytes at bit v w one not field two =
    by_checks source destination bytes (flipped at bit bytes) (one.checked refl) (two.checked refl) not
    (datagram_same source destination bytes (flipped at bit bytes) (same_length at bit bytes) field
    (λ covered. front_tells covered (be16 bytes 4) at bit bytes))

none_before : (n : ℕ) → ChecksumHolds n → ChecksumHolds (0 + n)
none_before n holds = let is : n ≡ 65535 * holds.0 = holds.2 in (holds.0, holds.1, omega (arith, is))

pub header_tells : (bytes : List ℕ) (at bit : ℕ) (v w : Ipv4Repr) → Ipv4.IsIpv4 true bytes v
    → Ipv4.header_len_of (flipped at bit bytes) ≡ Ipv4.header_len_of bytes → Ipv4.IsIpv4 true (flipped at bit bytes) w
    → Ipv4.header_of (flipped at bit bytes) ≡ Ipv4.header_of bytes
header_tells bytes at bit v w one same two =
    let front : Ipv4.header_of (flipped at bit bytes) ≡ take (Ipv4.header_len_of bytes) (flipped at bit bytes) = ap (λ (n : ℕ). take n (flipped at bit bytes)) same in
    front ∙ front_tells 0 (Ipv4.header_len_of bytes) at bit bytes (none_before (word_sum (Ipv4.header_of bytes)) (one.checked refl))
    (none_before (word_sum (take (Ipv4.header_len_of bytes) (flipped at bit bytes)))
    (subst (λ (xs : List ℕ). ChecksumHolds (word_sum xs)) front (two.checked refl)))
