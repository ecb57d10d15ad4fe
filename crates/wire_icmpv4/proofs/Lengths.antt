-- How many bytes are sent.
use Rattle.std.proofs.Common.{◌≡◌, ℕ, ◌+◌, Bool, List, [], ◌++◌, length, arith, length-append}
use Rattle.wire_ip.specs.Ipv4 as Ipv4
use Rattle.wire_ip.specs.declared.ipv4.repr.Ipv4Repr.{Ipv4Repr}
use Rattle.wire_icmpv4.specs.Icmpv4.{IsValue, header_len, written}
use Rattle.wire_icmpv4.specs.declared.header.Icmpv4Header.{Icmpv4Header}
use Rattle.wire_icmpv4.specs.declared.header.Icmpv4Header.TheVariants as Header

-- a quoted header and the data after it
following : (sealed : Bool) (header : Ipv4Repr) (payload : List ℕ) → Ipv4.IsValue header → length (Ipv4.written sealed header ++ payload) ≡ 20 + length payload
following sealed header payload value =
    let addresses : List ℕ = header.src_addr.0 ++ (header.dst_addr.0 ++ []) in
    omega (
      arith,
      value.source.0,
      value.destination.0,
      length-append header.src_addr.0 (header.dst_addr.0 ++ []),
      length-append header.dst_addr.0 [],
      length-append addresses payload,
    )

pub length-message : (quote_sealed sealed : Bool) (v : Icmpv4Header) (payload : List ℕ) → IsValue v →
    length (written quote_sealed sealed v payload) ≡ header_len v + length payload
length-message quote_sealed sealed (Header.EchoRequest ident seq_no) payload value = omega arith
length-message quote_sealed sealed (Header.EchoReply ident seq_no) payload value = omega arith
length-message quote_sealed sealed (Header.DstUnreachable reason header) payload value = omega (arith, following quote_sealed header payload value.1)
length-message quote_sealed sealed (Header.TimeExceeded reason header) payload value = omega (arith, following quote_sealed header payload value.1)
