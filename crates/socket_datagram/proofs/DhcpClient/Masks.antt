-- Masks: a mask is of one length, and a block is its address and that length.
use Rattle.std.proofs.Common.{◌≡◌, ℕ, ◌-◌, ◌^◌, ◌<◌, ◌≤◌, sym, ap, ◌∙◌, arith}
use mathlib.Core.HLevel.{is_prop→PathP}
use native.Mathlib.Bridge.{le_prop}
use Rattle.std.specs.Int.{w32, leading_ones}
use Rattle.std.specs.Int.Count.{count_leading_zeros, leading_unique}
use Rattle.std.proofs.Math.Pow.{pow_mono}
use Rattle.std.proofs.lemmas.Nat.{pow_pos}
use Rattle.ip_wire.specs.Address.{IsMaskV4}
use Rattle.ip_wire.specs.Ipv4Address.{Ipv4Address}
use Rattle.ip_wire.specs.Ipv4Cidr.{Ipv4Cidr}

pub one_cidr : (a b : Ipv4Cidr) → a.address ≡ b.address → a.prefix_len ≡ b.prefix_len → a ≡ b
one_cidr a b addresses lens = λ k. record {
  address = addresses k;
  prefix_len = lens k;
  in_range = is_prop→PathP (λ j. lens j ≤ 32) (λ j. le_prop) a.in_range b.in_range k;
}

-- what is left of a power of two below a mask of n ones has its length
leading_zeros-low : (width n : ℕ) → n ≤ width → n ≡ count_leading_zeros width (2 ^ width - 1 - (2 ^ width - 2 ^ (width - n)))
leading_zeros-low width n le =
    let pos : 0 < 2 ^ (width - n) = pow_pos (width - n) in
    let less : width - n ≤ width = omega arith in
    let within : 2 ^ (width - n) ≤ 2 ^ width = pow_mono less in
    let low : 2 ^ width - 1 - (2 ^ width - 2 ^ (width - n)) ≡ 2 ^ (width - n) - 1 = omega arith in
    rw low (leading_unique width (2 ^ (width - n) - 1) n (width - n) (omega arith) (omega arith) (omega arith))

leading_ones-mask_32 : (n : ℕ) → n ≤ 32 → leading_ones w32 (2 ^ 32 - 2 ^ (32 - n)) ≡ n
leading_ones-mask_32 n le = sym (leading_zeros-low 32 n le)

pub one_mask : (mask : Ipv4Address) (m n : ℕ) → IsMaskV4 mask m → IsMaskV4 mask n → m ≡ n
one_mask mask m n one other =
    sym (leading_ones-mask_32 m one.0) ∙ ap (λ (number : ℕ). leading_ones w32 number) (sym one.1 ∙ other.1) ∙ leading_ones-mask_32 n other.0
