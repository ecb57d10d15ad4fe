-- Checksums over a pseudo header and a packet.
use Rattle.std.proofs.Common.{◌≡◌, ℕ, ◌+◌, ◌↔◌, IsTrue, List, sym, ◌∙◌, ap, length, arith}
use Rattle.std.specs.Prelude.{◌==◌}
use Rattle.std.proofs.lemmas.Bool.{eqb-true, eq-eqb}
use Rattle.wire_address.proofs.Sums.{folded-folded, ChecksumHolds-folded}
use Rattle.wire_address.specs.Pseudo.{pseudo_of, covered}
use Rattle.wire_address.specs.Sum.{word_sum, folded, ChecksumHolds}
use Rattle.wire_address.specs.declared.ip.IpAddress.{IpAddress}

-- the combination of two sums
pub folded-combined : (a b : ℕ) → folded (folded a + folded b) ≡ folded (a + b)
folded-combined a b =
    let turned : a + folded b ≡ folded b + a = omega arith in
    let back : b + a ≡ a + b = omega arith in
    folded-folded a (folded b) ∙ ap folded turned ∙ folded-folded b a ∙ ap folded back

-- the sum of the pseudo header combined with that of the packet
pub folded-covered : (source destination : IpAddress) (protocol : ℕ) (packet : List ℕ)
    → folded (folded (word_sum (pseudo_of source destination protocol (length packet))) + folded (word_sum packet)) ≡
    folded (covered source destination protocol packet)
folded-covered source destination protocol packet =
    folded-combined (word_sum (pseudo_of source destination protocol (length packet))) (word_sum packet)

-- a sum is all ones exactly where the checksum holds
pub all_ones-holds : (sum total : ℕ) → sum ≡ folded total → IsTrue (sum == 65535) ↔ ChecksumHolds total
all_ones-holds sum total is =
    let both : (folded total ≡ 65535) ↔ ChecksumHolds total = ChecksumHolds-folded total in
    (λ yes. both.0 (sym is ∙ eqb-true sum 65535 yes), λ holds. eq-eqb sum 65535 (is ∙ both.1 holds))
