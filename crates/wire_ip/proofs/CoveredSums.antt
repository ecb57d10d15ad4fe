-- The checksum of a datagram, which is never sent as 0.
use Rattle.std.proofs.Common.{◌≡◌, ℕ, ◌+◌, ◌*◌, ◌<◌, zero, suc, arith, inl, inr, lit<}
use Rattle.std.proofs.lemmas.Bool.Decides.{eqb_tells}
use Rattle.wire_address.proofs.Sums.{ChecksumHolds-folded, ChecksumHolds-complement}
use Rattle.wire_address.specs.Sum.{folded, ChecksumHolds, complement}
use Rattle.wire_ip.specs.Udp.{nonzero_complement}

-- a complement of 0 is that of all ones
ones-complement : (n : ℕ) → complement n ≡ 0 → folded n ≡ 65535
ones-complement zero none = absurd (omega arith)
ones-complement (suc n) none = omega arith

-- with the complement that is not 0 a checksum holds
pub ChecksumHolds-nonzero_complement : (n : ℕ) → ChecksumHolds (n + nonzero_complement n)
ChecksumHolds-nonzero_complement n =
    elim (eqb_tells (complement n) 0) [
      | inl zero_sum ↦
          let ones : folded n ≡ 65535 = ones-complement n zero_sum.1 in
          let multiple : ChecksumHolds n = (ChecksumHolds-folded n).0 ones in
          let same : n + 65535 ≡ 65535 * (multiple.0 + 1) = let e : n ≡ 65535 * multiple.0 = multiple.2 in omega (arith, e) in
          rw zero_sum.0 (multiple.0 + 1, omega arith, same)
      | inr other ↦ rw other.0 (ChecksumHolds-complement n)
    ]

-- what sealing writes
pub nonzero_complement-small : (n : ℕ) → nonzero_complement n < 65536
nonzero_complement-small n =
    elim (eqb_tells (complement n) 0) [ inl zero_sum ↦ rw zero_sum.0 (lit< tt) | inr other ↦ rw other.0 (omega arith) ]
