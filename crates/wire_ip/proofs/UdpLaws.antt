-- A datagram and what spells it.
use Rattle.std.proofs.Common.{◌≡◌, ◌≤◌, ℕ, ◌+◌, ◌-◌, ◌<◌, ◌^◌, Bool, true, false, IsTrue, List, ◌++◌, length, get_or, drop, refl, sym, ◌∙◌, subst, inr, arith}
use Rattle.std.proofs.Common.{length-append}
use Rattle.std.proofs.lemmas.List.{take_at}
use Rattle.wire_address.specs.Address.{version_of}
use Rattle.wire_address.specs.Fields.{be16, IsBytes}
use Rattle.wire_address.specs.Sum.{word_sum, ChecksumHolds}
use Rattle.wire_address.specs.declared.ip.IpAddress.{IpAddress}
use Rattle.wire_address.specs.Pseudo.{covered}
use Rattle.wire_ip.specs.Udp.{IsUdp, IsWhole, IsAccepted, Fits, spelling, written, payload_of, datagram_of, nonzero_complement}
use Rattle.wire_ip.specs.declared.udp.repr.UdpRepr.{UdpRepr}
use Rattle.wire_ip.proofs.CoveredSums.{ChecksumHolds-nonzero_complement, nonzero_complement-small}
use Rattle.wire_address.proofs.Peel.{peel16, peel_to, length-slice_range}

-- a datagram is spelled by its header and payload, and then comes padding
pub bytes-spelling : (source destination : IpAddress) (tested : Bool) (bytes : List ℕ) (v : UdpRepr) → IsBytes bytes → IsUdp source destination tested bytes v
    → bytes ≡ spelling v (payload_of bytes) (be16 bytes 6) ++ drop (be16 bytes 4) bytes
bytes-spelling source destination tested bytes v small is =
    let whole : IsWhole bytes = is.whole in
    let len : 8 + length (payload_of bytes) ≡ be16 bytes 4 = length-slice_range bytes 8 (be16 bytes 4) whole.least whole.within in
    peel16 bytes 0 v.src_port _ small (omega arith) is.source_port (
    peel16 bytes 2 v.dst_port _ small (omega arith) is.destination_port (
    peel16 bytes 4 (8 + length (payload_of bytes)) _ small (omega arith) len (
    peel16 bytes 6 (be16 bytes 6) _ small (omega arith) refl (
    peel_to bytes 8 (be16 bytes 4) (payload_of bytes) (drop (be16 bytes 4) bytes) whole.least refl refl
    )
    )
    )
    )

-- a number in the checksum field adds itself to the word sum
word_sum-check : (v : UdpRepr) (payload : List ℕ) (check : ℕ) → check < 65536 → word_sum (spelling v payload check) ≡ word_sum (spelling v payload 0) + check
word_sum-check v payload check small = omega arith

-- a datagram whose checksum was written holds it
ChecksumHolds-written : (source destination : IpAddress) (v : UdpRepr) (payload : List ℕ)
    → ChecksumHolds (covered source destination 17 (written source destination true v payload))
ChecksumHolds-written source destination v payload =
    let total : ℕ = covered source destination 17 (spelling v payload 0) in
    let sums : word_sum (spelling v payload (nonzero_complement total)) ≡ word_sum (spelling v payload 0) + nonzero_complement total =
    word_sum-check v payload (nonzero_complement total) (nonzero_complement-small total)
    in
    let same : covered source destination 17 (written source destination true v payload) ≡ total + nonzero_complement total = omega (arith, sums) in
    subst ChecksumHolds (sym same) (ChecksumHolds-nonzero_complement total)

-- a datagram's length field gives back the datagram, whatever follows it
datagram_of-spelling : (v : UdpRepr) (payload rest : List ℕ) (check : ℕ) → 8 + length payload < 2 ^ 16 →
    datagram_of (spelling v payload check ++ rest) ≡ spelling v payload check
datagram_of-spelling v payload rest check fits =
    take_at (spelling v payload check) rest (be16 (spelling v payload check ++ rest) 4) (omega arith)

-- a datagram that was emitted is read back, whatever follows it
pub IsUdp-written : (source destination : IpAddress) (tested sealed : Bool) (v : UdpRepr) (payload rest : List ℕ) → Fits source destination payload →
    IsAccepted v → (IsTrue tested → IsTrue sealed)
    → IsUdp source destination tested (written source destination sealed v payload ++ rest) v
IsUdp-written source destination tested false v payload rest fits accepted both = record {
  whole = record { header = omega arith; least = omega (arith, fits.len); within = omega (arith, fits.len, length-append payload rest) };
  checked = λ t. absurd (cc (both t));
  source_port = omega (arith, accepted.source_port);
  destination_port = omega (arith, accepted.destination_port);
  accepted = λ none. accepted.nonzero (omega (arith, accepted.destination_port));
}
IsUdp-written source destination tested true v payload rest fits accepted both = record {
  whole = record { header = omega arith; least = omega (arith, fits.len); within = omega (arith, fits.len, length-append payload rest) };
  checked = λ _. inr (
      subst (λ xs. ChecksumHolds (covered source destination 17 xs)) (sym (datagram_of-spelling v payload rest _ fits.len))
      (ChecksumHolds-written source destination v payload)
      );
  source_port = omega (arith, accepted.source_port);
  destination_port = omega (arith, accepted.destination_port);
  accepted = λ none. accepted.nonzero (omega (arith, accepted.destination_port));
}

-- a datagram and its header take no more room than the bytes that they were read from
pub within : (source destination : IpAddress) (tested : Bool) (bytes : List ℕ) (v : UdpRepr) → IsUdp source destination tested bytes v →
    8 + length (payload_of bytes) ≤ length bytes
within source destination tested bytes v is =
    let whole : IsWhole bytes = is.whole in
    omega (arith, whole.within, length-slice_range bytes 8 (be16 bytes 4) whole.least whole.within)

-- a datagram that was read can be written again
pub fits : (source destination : IpAddress) (tested : Bool) (bytes : List ℕ) (v : UdpRepr) → version_of source ≡ version_of destination → IsBytes bytes →
    IsUdp source destination tested bytes v
    → Fits source destination (payload_of bytes) × IsAccepted v
fits source destination tested bytes v family small is =
    let whole : IsWhole bytes = is.whole in
    let b0 : get_or bytes 0 0 < 256 = small 0 in
    let b1 : get_or bytes 1 0 < 256 = small 1 in
    let b2 : get_or bytes 2 0 < 256 = small 2 in
    let b3 : get_or bytes 3 0 < 256 = small 3 in
    let b4 : get_or bytes 4 0 < 256 = small 4 in
    let b5 : get_or bytes 5 0 < 256 = small 5 in (
      record { len = omega (arith, length-slice_range bytes 8 (be16 bytes 4) whole.least whole.within); family = family },
      record {
        source_port = omega (arith, is.source_port);
        destination_port = omega (arith, is.destination_port);
        nonzero = λ none. is.accepted (sym is.destination_port ∙ none);
      },
    )

-- and so is its payload
pub payload_of-written : (source destination : IpAddress) (sealed : Bool) (v : UdpRepr) (payload rest : List ℕ) → Fits source destination payload →
    payload_of (written source destination sealed v payload ++ rest) ≡ payload
payload_of-written source destination sealed v payload rest fits =
    take_at payload rest (be16 (written source destination sealed v payload ++ rest) 4 - 8) (omega (arith, fits.len))
