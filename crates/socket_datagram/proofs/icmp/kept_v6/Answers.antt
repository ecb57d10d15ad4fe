use Rattle.std.proofs.Common.{◌≡◌, ◌<◌, ◌^◌, length, false, Some, sym, ap, subst, ◌∙◌, arith}
use Rattle.net_base.specs.Capabilities.{verifies}
use Rattle.wire_icmpv6.specs.Icmpv6 as V6
use Rattle.wire_icmpv6.specs.Packet.{bytes_of}
use Rattle.wire_icmpv6.proofs.Spelled.{no_longer}
use Rattle.wire_address.specs.declared.ip.IpAddress.TheVariants as Address
use Rattle.wire_address.specs.declared.ip.IpProtocol.TheVariants as Protocol
use Rattle.socket_datagram.specs.Header.{header_between}
use Rattle.socket_datagram.proofs.Messages.{keeps_v6}
use Rattle.socket_datagram.proofs.icmp.kept_v6.Goals as goal

pub overflow_sub-result : goal.overflow_sub-result
overflow_sub-result c =
    let v = V6.value_of (V6.header_of c.in-Ok.message) in
    let longest = no_longer c.args.source c.args.remote (verifies c.ignored-unchecked.result.icmpv6) (bytes_of c.new_unchecked-packet.result) v
    c.in-Ok.ensures.found in
    omega (arith, longest, ap length c.in-Ok.ensures.bytes, ap length c.bytes.ensures, ap length c.new_unchecked-packet.ensures)

pub returns : goal.returns
returns c =
    let m = V6.header_of c.in-Ok.message in
    let ignored = subst (λ caps. V6.IsIcmpv6 c.args.source c.args.remote (verifies caps.icmpv6) (bytes_of c.new_unchecked-packet.result) (V6.value_of m))
    c.ignored-unchecked.ensures c.in-Ok.ensures.found in
    let found = subst (λ xs. V6.IsIcmpv6 c.args.source c.args.remote false xs (V6.value_of m)) c.new_unchecked-packet.ensures ignored in
    let carried = c.in-Ok.ensures.bytes ∙ ap (λ xs. V6.carried_in xs (V6.value_of m)) c.new_unchecked-packet.ensures in
    let short : length c.args.bytes.now < 2 ^ 32 = omega (arith, c.if-bytes-gt-LONGEST_MESSAGE.false) in
    let same = λ (m' : V6.MessageValue) (is : V6.IsIcmpv6 c.args.source c.args.remote false c.args.bytes.now m').
    let read = subst (λ xs. V6.IsIcmpv6 c.args.source c.args.remote false xs m') (sym c.new_unchecked-packet.ensures) is in
    let tested = subst (λ caps. V6.IsIcmpv6 c.args.source c.args.remote (verifies caps.icmpv6) (bytes_of c.new_unchecked-packet.result) m')
    (sym c.ignored-unchecked.ensures) read in
    (c.in-Ok.ensures.only m' tested).1
    in
    let between = subst (λ n. header_between (Address.Ipv6 c.args.source) (Address.Ipv6 c.args.remote) Protocol.Icmpv6 n c.args.hop_limit ≡
    Some c.in_ok-header.header) c.buffer_len.ensures (sym c.header_between.ensures ∙ c.in_ok-header.was) in
    rw (c.header.ensures, c.bytes.ensures)
    (keeps_v6 c.args.source c.args.remote c.args.bytes.now c.args.hop_limit m (V6.carried_by c.in-Ok.message) c.in_ok-header.header
    (λ i. (c.type_inv.bytes i).fits) short found carried same between)
