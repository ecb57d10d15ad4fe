-- A message that is sent, and read back.
use Rattle.std.proofs.Common.{◌≡◌, ℕ, ◌+◌, ◌<◌, Bool, true, false, IsTrue, List, [], ◌++◌, drop, refl, sym, subst, arith, length-append}
use Rattle.std.proofs.lemmas.List.{drop_at}
use Rattle.wire_address.proofs.Sums.{ChecksumHolds-complement}
use Rattle.wire_address.specs.Sum.{word_sum, ChecksumHolds, complement}
use Rattle.wire_ip.specs.Ipv4 as Ipv4
use Rattle.wire_ip.specs.declared.ipv4.repr.Ipv4Repr.{Ipv4Repr}
use Rattle.wire_ip.proofs.QuotedLaws.{IsQuoted-v4}
use Rattle.wire_icmpv4.specs.declared.header.Icmpv4Header.{Icmpv4Header}
use Rattle.wire_icmpv4.specs.declared.header.Icmpv4Header.TheVariants as Header
use Rattle.wire_icmpv4.specs.Icmpv4.{IsIcmpv4, IsWhole, Says, IsValue, Fits, spelling, sent_fields, written, normal}

-- a number in the checksum field adds itself to the word sum
word_sum-check : (sealed : Bool) (v : Icmpv4Header) (payload : List ℕ) (check : ℕ) → check < 65536
    → word_sum (spelling v (sent_fields sealed v check) payload) ≡ word_sum (spelling v (sent_fields sealed v 0) payload) + check
word_sum-check sealed v payload check small = omega arith

-- a message whose checksum was written holds it
ChecksumHolds-written : (sealed : Bool) (v : Icmpv4Header) (payload : List ℕ) → ChecksumHolds (word_sum (written sealed true v payload))
ChecksumHolds-written sealed v payload =
    let total : ℕ = word_sum (spelling v (sent_fields sealed v 0) payload) in
    subst ChecksumHolds (sym (word_sum-check sealed v payload (complement total) (omega arith))) (ChecksumHolds-complement total)

-- its header is there
whole-spelling : (sealed : Bool) (v : Icmpv4Header) (payload : List ℕ) (check : ℕ) → IsWhole (spelling v (sent_fields sealed v check) payload)
whole-spelling sealed (Header.EchoRequest ident seq_no) payload check = omega arith
whole-spelling sealed (Header.EchoReply ident seq_no) payload check = omega arith
whole-spelling sealed (Header.DstUnreachable reason header) payload check = omega arith
whole-spelling sealed (Header.TimeExceeded reason header) payload check = omega arith

-- the data stands after the addresses of a quoted header
payload-quoted : (header : Ipv4Repr) (payload : List ℕ) → Ipv4.IsValue header → payload ≡ drop 8 (header.src_addr.0 ++ (header.dst_addr.0 ++ []) ++ payload)
payload-quoted header payload value =
    sym (drop_at (header.src_addr.0 ++
    (header.dst_addr.0 ++ [])) payload 8 (omega (
      arith,
      value.source.0,
      value.destination.0,
      length-append header.src_addr.0 (header.dst_addr.0 ++ []),
      length-append header.dst_addr.0 [],
    )))

-- what a message says that was sent, whatever its checksum
Says-spelling : (sealed : Bool) (v : Icmpv4Header) (payload : List ℕ) (check : ℕ) → IsValue v → Fits v →
    Says (spelling v (sent_fields sealed v check) payload) (normal v) payload
Says-spelling sealed (Header.EchoRequest ident seq_no) payload check value fits =
    record { kind_is = refl; code = refl; identifier = omega (arith, value.0); sequence = omega (arith, value.1); payload_is = refl }
Says-spelling sealed (Header.EchoReply ident seq_no) payload check value fits =
    record { kind_is = refl; code = refl; identifier = omega (arith, value.0); sequence = omega (arith, value.1); payload_is = refl }
Says-spelling sealed (Header.DstUnreachable reason header) payload check value fits =
    (refl, record { kind_is = refl; quoted = IsQuoted-v4 sealed header payload fits value.1; payload_is = payload-quoted header payload value.1 })
Says-spelling sealed (Header.TimeExceeded reason header) payload check value fits =
    (refl, record { kind_is = refl; quoted = IsQuoted-v4 sealed header payload fits value.1; payload_is = payload-quoted header payload value.1 })

-- a message that was sent is read back in its canonical form, with its data
pub IsIcmpv4-written : (tested quote_sealed sealed : Bool) (v : Icmpv4Header) (payload : List ℕ) → IsValue v → Fits v → (IsTrue tested → IsTrue sealed)
    → IsIcmpv4 tested (written quote_sealed sealed v payload) (normal v) payload
IsIcmpv4-written tested quote_sealed false v payload value fits both = record {
  whole = whole-spelling quote_sealed v payload 0;
  checked = λ t. absurd (cc (both t));
  says = Says-spelling quote_sealed v payload 0 value fits;
}
IsIcmpv4-written tested quote_sealed true v payload value fits both = record {
  whole = whole-spelling quote_sealed v payload (complement (word_sum (spelling v (sent_fields quote_sealed v 0) payload)));
  checked = λ _. ChecksumHolds-written quote_sealed v payload;
  says = Says-spelling quote_sealed v payload _ value fits;
}
