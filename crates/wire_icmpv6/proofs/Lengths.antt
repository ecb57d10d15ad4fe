-- How many bytes are sent.
use Rattle.std.proofs.Common.{◌≡◌, ℕ, ◌+◌, Bool, List, ◌++◌, length, ap, arith, length-append}
use Rattle.std.specs.Prelude.{if◌then◌else◌}
use Rattle.wire_address.specs.declared.ipv6.Ipv6Address.{Ipv6Address}
use Rattle.wire_ip.specs.Ipv6 as Ipv6
use Rattle.wire_ip.specs.declared.ipv6.repr.Ipv6Repr.{Ipv6Repr}
use Rattle.wire_icmpv6.specs.Icmpv6.{MessageValue, DstUnreachable, PktTooBig, TimeExceeded, ParamProblem, EchoRequest, EchoReply, Ndisc, IsValue, CanCarry}
use Rattle.wire_icmpv6.specs.Icmpv6.{header_len, written}
use Rattle.wire_icmpv6.specs.Ndisc as Neighbor
use Rattle.wire_icmpv6.specs.Packet.{checksum_of}
use Rattle.wire_icmpv6.proofs.NdiscLaws.{length-spelling}

-- a quoted header and the bytes after it
following : (header : Ipv6Repr) (carried : List ℕ) → Ipv6.IsValue header → length (Ipv6.written header ++ carried) ≡ 40 + length carried
following header carried value =
    omega (
      arith,
      value.source.0,
      value.destination.0,
      length-append header.src_addr.0 header.dst_addr.0,
      length-append (header.src_addr.0 ++ header.dst_addr.0) carried,
    )

pub length-message : (source destination : Ipv6Address) (sealed : Bool) (v : MessageValue) (carried : List ℕ) → IsValue v → CanCarry v carried
    → length (written source destination sealed v carried) ≡ header_len v + length carried
length-message source destination sealed (DstUnreachable reason header) carried value can = omega (arith, following header carried value.1)
length-message source destination sealed (PktTooBig mtu header) carried value can = omega (arith, following header carried value.1)
length-message source destination sealed (TimeExceeded reason header) carried value can = omega (arith, following header carried value.1)
length-message source destination sealed (ParamProblem reason pointer header) carried value can = omega (arith, following header carried value.2)
length-message source destination sealed (EchoRequest ident seq_no) carried value can = omega arith
length-message source destination sealed (EchoReply ident seq_no) carried value can = omega arith
length-message source destination sealed (Ndisc neighbor) carried value can =
    let check : ℕ = if sealed then checksum_of source destination (Neighbor.spelling neighbor 0) else 0 in
    omega (arith, length-spelling neighbor check value, ap length can)
