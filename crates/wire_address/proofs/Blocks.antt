-- Numbers whose first bits agree: CIDR blocks as sets.
use Rattle.std.proofs.Common.{◌≡◌, ℕ, ◌+◌, ◌-◌, ◌*◌, ◌/◌, ◌%◌, ◌^◌, ◌<◌, ◌≤◌, [], inl, inr, zero, suc, refl, sym, ◌∙◌, ap, arith}
use Rattle.std.proofs.Math.Nat.{div-div-eq-div-mul, mul-le-mul_right, suc-mul, mul-div_cancel, add-div_right}
use Rattle.std.proofs.Math.Pow.{pow-lt}
use Rattle.std.proofs.lemmas.Bool.{cases_lt}
use Rattle.std.proofs.lemmas.List.{append-nil}
use Rattle.std.proofs.lemmas.Nat.{pow-add, pow_pos, shr_split, shr_high, div_below}
use Rattle.byteorder.specs.Endian.{big_bytes, big_number}
use Rattle.byteorder.specs.Numbers.{length-bytes_high_first, big_number-reads_back}
use Rattle.wire_address.specs.Address.{v4_number, v6_number, IsIpv4Address, IsIpv6Address}
use Rattle.wire_address.specs.Cidr.{IsInV4, IsInV6, IsWithinV4, IsWithinV6}
use Rattle.wire_address.specs.Fields.{IsBytes}
use Rattle.wire_address.specs.declared.ipv4.Ipv4Address.{Ipv4Address}
use Rattle.wire_address.specs.declared.ipv4.Ipv4Cidr.{Ipv4Cidr}
use Rattle.wire_address.specs.declared.ipv6.Ipv6Address.{Ipv6Address}
use Rattle.wire_address.specs.declared.ipv6.Ipv6Cidr.{Ipv6Cidr}

-- a multiple of 2 ^ k below 2 ^ (j + k) leaves room for 2 ^ k more
shl-room : (q j k : ℕ) → q < 2 ^ j → q * 2 ^ k + 2 ^ k ≤ 2 ^ (j + k)
shl-room q j k less =
    let more : suc q ≤ 2 ^ j = less in
    let product : suc q * 2 ^ k ≤ 2 ^ j * 2 ^ k = mul-le-mul_right (2 ^ k) more in
    let split : suc q * 2 ^ k ≡ q * 2 ^ k + 2 ^ k = suc-mul q (2 ^ k) in
    let power : 2 ^ (j + k) ≡ 2 ^ j * 2 ^ k = pow-add 2 j k in
    omega arith

-- the number with its k low bits zero leaves room for them
pub network-room : (n k width : ℕ) → k ≤ width → n < 2 ^ width → n - n % 2 ^ k + 2 ^ k ≤ 2 ^ width
network-room n k width le less =
    let cut : n / 2 ^ k * 2 ^ k + n % 2 ^ k ≡ n = shr_split n k in
    let whole : (width - k) + k ≡ width = omega arith in
    let power : 2 ^ width ≡ 2 ^ (width - k) * 2 ^ k = ap (λ w. 2 ^ w) (sym whole) ∙ pow-add 2 (width - k) k in
    let small : n / 2 ^ k < 2 ^ (width - k) = div_below n (2 ^ k) (2 ^ (width - k)) (pow_pos k) (omega arith) in
    let room : n / 2 ^ k * 2 ^ k + 2 ^ k ≤ 2 ^ ((width - k) + k) = shl-room (n / 2 ^ k) (width - k) k small in
    let same : 2 ^ ((width - k) + k) ≡ 2 ^ width = ap (λ w. 2 ^ w) whole in
    omega arith

-- numbers that agree in more bits agree in fewer
pub agree-less : (x y j k : ℕ) → k ≤ j → x / 2 ^ k ≡ y / 2 ^ k → x / 2 ^ j ≡ y / 2 ^ j
agree-less x y j k le same =
    let whole : k + (j - k) ≡ j = omega arith in
    let power : 2 ^ k * 2 ^ (j - k) ≡ 2 ^ j = sym (pow-add 2 k (j - k)) ∙ ap (λ i. 2 ^ i) whole in
    ap (λ d. x / d) (sym power) ∙ sym (div-div-eq-div-mul x (2 ^ k) (2 ^ (j - k))) ∙ ap (λ d. d / 2 ^ (j - k)) same
    ∙ div-div-eq-div-mul y (2 ^ k) (2 ^ (j - k)) ∙ ap (λ d. y / d) power

-- a block of numbers that agree above k bits is in no block of numbers that agree above fewer, j
pub agree-more : (a b j k width : ℕ) → k ≤ width → b < 2 ^ width → j < k
    → ((x : ℕ) → x < 2 ^ width → x / 2 ^ k ≡ b / 2 ^ k → x / 2 ^ j ≡ a) → ⊥
agree-more a b j k width le less below all =
    let cut : b / 2 ^ k * 2 ^ k + b % 2 ^ k ≡ b = shr_split b k in
    let step : 2 ^ j < 2 ^ k = pow-lt below in
    let some : 0 < 2 ^ j = pow_pos j in
    let room : b - b % 2 ^ k + 2 ^ k ≤ 2 ^ width = network-room b k width le less in
    let low : b / 2 ^ k * 2 ^ k < 2 ^ width = omega arith in
    let high : b / 2 ^ k * 2 ^ k + 2 ^ j < 2 ^ width = omega arith in
    let first : b / 2 ^ k * 2 ^ k / 2 ^ j ≡ a = all (b / 2 ^ k * 2 ^ k) low (mul-div_cancel (b / 2 ^ k) (pow_pos k)) in
    let second : (b / 2 ^ k * 2 ^ k + 2 ^ j) / 2 ^ j ≡ a = all (b / 2 ^ k * 2 ^ k + 2 ^ j) high (shr_high (b / 2 ^ k) k (2 ^ j) step) in
    let next : (b / 2 ^ k * 2 ^ k + 2 ^ j) / 2 ^ j ≡ b / 2 ^ k * 2 ^ k / 2 ^ j + 1 = add-div_right (b / 2 ^ k * 2 ^ k) some in
    omega arith

-- the bytes of a number are bytes
pub IsBytes-big_bytes : (n x : ℕ) → IsBytes (big_bytes n x)
IsBytes-big_bytes zero x i = omega arith
IsBytes-big_bytes (suc zero) x zero = omega arith
IsBytes-big_bytes (suc (suc n)) x zero = omega arith
IsBytes-big_bytes (suc n) x (suc i) = IsBytes-big_bytes n x i

-- a number reads back from its bytes
pub big_number-big_bytes : (n x : ℕ) → x < 256 ^ n → big_number n (big_bytes n x) ≡ x
big_number-big_bytes n x fits = ap (big_number n) (sym (append-nil (big_bytes n x))) ∙ big_number-reads_back n x [] fits

-- IPv4 blocks: the longer prefix in the shorter
pub IsWithinV4-of : (outer inner : Ipv4Cidr) → outer.prefix_len ≤ inner.prefix_len → IsInV4 outer inner.address → IsWithinV4 outer inner
IsWithinV4-of outer inner le at a is inside =
    agree-less (v4_number a) (v4_number inner.address) (32 - outer.prefix_len) (32 - inner.prefix_len) (omega arith) inside ∙ at

-- an address of IPv4 for each number
address-v4 : (x : ℕ) → x < 2 ^ 32 → (a : Ipv4Address) × IsIpv4Address a × (v4_number a ≡ x)
unfolding v4_number
address-v4 x fits =
    (record { 0 = big_bytes 4 x }, (length-bytes_high_first 4 x, IsBytes-big_bytes 4 x), big_number-big_bytes 4 x fits)

-- IPv4 blocks: a block within another has its own address there, and no shorter prefix
pub IsWithinV4-only : (outer inner : Ipv4Cidr) → v4_number inner.address < 2 ^ 32 → IsIpv4Address inner.address → IsWithinV4 outer inner →
    (outer.prefix_len ≤ inner.prefix_len) × IsInV4 outer inner.address
IsWithinV4-only outer inner fits is all =
    let own : IsInV4 outer inner.address = all inner.address is refl in
    elim (cases_lt inner.prefix_len outer.prefix_len) [
      | inl shorter ↦ absurd (agree-more (v4_number outer.address / 2 ^ (32 - outer.prefix_len)) (v4_number inner.address) (32 - outer.prefix_len)
          (32 - inner.prefix_len) 32 (omega arith) fits (let l : outer.prefix_len ≤ 32 = outer.in_range in omega arith)
          (λ x less same. let w = address-v4 x less in
          ap (λ n. n / 2 ^ (32 - outer.prefix_len)) (sym w.2) ∙ all w.0 w.1 (ap (λ n. n / 2 ^ (32 - inner.prefix_len)) w.2 ∙ same)))
      | inr le ↦ (le, own)
    ]

-- IPv6 blocks: the longer prefix in the shorter
pub IsWithinV6-of : (outer inner : Ipv6Cidr) → outer.prefix_len ≤ inner.prefix_len → IsInV6 outer inner.address → IsWithinV6 outer inner
IsWithinV6-of outer inner le at a is inside =
    agree-less (v6_number a) (v6_number inner.address) (128 - outer.prefix_len) (128 - inner.prefix_len) (omega arith) inside ∙ at

-- an address of IPv6 for each number
address-v6 : (x : ℕ) → x < 2 ^ 128 → (a : Ipv6Address) × IsIpv6Address a × (v6_number a ≡ x)
unfolding v6_number
address-v6 x fits =
    (record { 0 = big_bytes 16 x }, (length-bytes_high_first 16 x, IsBytes-big_bytes 16 x), big_number-big_bytes 16 x fits)

-- IPv6 blocks: a block within another has its own address there, and no shorter prefix
pub IsWithinV6-only : (outer inner : Ipv6Cidr) → v6_number inner.address < 2 ^ 128 → IsIpv6Address inner.address → IsWithinV6 outer inner →
    (outer.prefix_len ≤ inner.prefix_len) × IsInV6 outer inner.address
IsWithinV6-only outer inner fits is all =
    let own : IsInV6 outer inner.address = all inner.address is refl in
    elim (cases_lt inner.prefix_len outer.prefix_len) [
      | inl shorter ↦ absurd (agree-more (v6_number outer.address / 2 ^ (128 - outer.prefix_len)) (v6_number inner.address) (128 - outer.prefix_len)
          (128 - inner.prefix_len) 128 (omega arith) fits (let l : outer.prefix_len ≤ 128 = outer.in_range in omega arith)
          (λ x less same. let w = address-v6 x less in
          ap (λ n. n / 2 ^ (128 - outer.prefix_len)) (sym w.2) ∙ all w.0 w.1 (ap (λ n. n / 2 ^ (128 - inner.prefix_len)) w.2 ∙ same)))
      | inr le ↦ (le, own)
    ]
