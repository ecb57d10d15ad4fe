use Rattle.std.proofs.Common.{◌≡◌, ℕ, List, false, Some, sym, subst, ◌∙◌}
use Rattle.net_base.specs.Capabilities.{verifies}
use Rattle.wire_icmpv4.specs.Icmpv4 as V4
use Rattle.wire_icmpv4.specs.declared.header.Icmpv4Header.{Icmpv4Header}
use Rattle.wire_address.specs.declared.ip.IpAddress.TheVariants as Address
use Rattle.wire_address.specs.declared.ip.IpProtocol.TheVariants as Protocol
use Rattle.socket_datagram.specs.Header.{header_between}
use Rattle.socket_datagram.proofs.Messages.{keeps_v4}
use Rattle.socket_datagram.proofs.icmp.kept_v4.Goals as goal

pub returns : goal.returns
returns c =
    let m = V4.header_of c.in-Ok.message in
    let payload = V4.payload_of c.in-Ok.message in
    let ignored = subst (λ caps. V4.IsIcmpv4 (verifies caps.icmpv4) (V4.bytes_of c.new_unchecked-packet.result) m payload) c.ignored.ensures
    c.in-Ok.ensures.found in
    let found = subst (λ xs. V4.IsIcmpv4 false xs m payload) c.new_unchecked-packet.ensures ignored in
    let same = λ (m' : Icmpv4Header) (payload' : List ℕ) (is : V4.IsIcmpv4 false c.args.bytes.now m' payload').
    let read = subst (λ xs. V4.IsIcmpv4 false xs m' payload') (sym c.new_unchecked-packet.ensures) is in
    let tested = subst (λ caps. V4.IsIcmpv4 (verifies caps.icmpv4) (V4.bytes_of c.new_unchecked-packet.result) m' payload') (sym c.ignored.ensures) read in
    (c.in-Ok.ensures.only m' payload' tested).1
    in
    let between = subst (λ n. header_between (Address.Ipv4 c.args.source) (Address.Ipv4 c.args.remote) Protocol.Icmp n c.args.hop_limit ≡
    Some c.in_ok-header.header) c.buffer_len.ensures (sym c.header_between.ensures ∙ c.in_ok-header.was) in
    rw (c.header.ensures, c.bytes.ensures)
    (keeps_v4 c.args.source c.args.remote c.args.bytes.now c.args.hop_limit m payload c.in_ok-header.header (λ i. (c.type_inv.bytes i).fits) found
    same between)
