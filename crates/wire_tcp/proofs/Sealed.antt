-- A damaged segment.
use Rattle.std.proofs.Common.{◌≡◌, ◌≢◌, ℕ, ◌+◌, ◌%◌, ◌≤◌, ◌<◌, true, List, length, refl, subst}
use Rattle.std.proofs.Math.ListN.{length-set}
use Rattle.wire_address.proofs.Sums.{ChecksumHolds-put16}
use Rattle.wire_address.specs.Fields.{be16, put16}
use Rattle.wire_address.specs.Sum.{word_sum, ChecksumHolds}
use Rattle.wire_address.specs.Pseudo.{pseudo_of}
use Rattle.wire_address.specs.declared.ip.IpAddress.{IpAddress}
use Rattle.wire_tcp.specs.Tcp.{IsChecked, IsTcp}
use Rattle.wire_tcp.specs.declared.header.TcpHeader.{TcpHeader}

-- a segment whose checksum holds isn't read once one aligned word is changed to a number of another class
pub IsTcp-put16 : (source destination : IpAddress) (bytes : List ℕ) (i n : ℕ) (v : TcpHeader) → IsChecked source destination bytes → i % 2 ≡ 0 →
    i + 2 ≤ length bytes → n < 65536
    → be16 bytes i % 65535 ≢ n % 65535 → IsTcp source destination true (put16 bytes i n) v → ⊥
IsTcp-put16 source destination bytes i n v checked even within small other is =
    let len : length (put16 bytes i n) ≡ length bytes = simp length-set in
    let header : ℕ → ℕ = λ k. word_sum (pseudo_of source destination 6 k) in
    ChecksumHolds-put16 (header (length bytes)) bytes i n even within small other checked (
    subst (λ k. ChecksumHolds (header k + word_sum (put16 bytes i n))) len (is.checked refl)
    )
