use Rattle.std.proofs.Common.{Option, Some, sym, subst}
use Rattle.std.specs.Prelude.{IfSome}
use Rattle.wire_ip.specs.declared.ip.repr.IpRepr.{IpRepr}
use Rattle.socket_context.specs.Packet.{PacketValue, IsSendable}
use Rattle.socket_datagram.specs.Offers.{IsFound}
use Rattle.socket_datagram.specs.Udp.{offered_in, TakesAtOnce}
use Rattle.socket_datagram.proofs.AtOnce.{at_once, sendable_of}
use Rattle.socket_datagram.proofs.udp.Socket.packet_at_once.Goals as goal

pub returns-clause-packet : goal.returns-clause-packet
returns-clause-packet g c =
    let cx = g.C.Context.context c.args.cx.now in
    let v = c.args.self.now in
    let metadata = c.args.metadata.now in
    let bytes = c.args.bytes.now in
    subst (IsFound (TakesAtOnce cx v (metadata, bytes))) (sym c.packet_after_header.ensures)
    (subst (λ (h : Option IpRepr). IsFound (TakesAtOnce cx v (metadata, bytes)) (offered_in v.settings.endpoint h (Some (metadata, bytes))))
    (sym c.header_at_once.ensures) (at_once cx v metadata bytes))

pub returns-clause-sendable : goal.returns-clause-sendable
returns-clause-sendable g c =
    let cx = g.C.Context.context c.args.cx.now in
    let v = c.args.self.now in
    let metadata = c.args.metadata.now in
    let bytes = c.args.bytes.now in
    subst (λ (o : Option PacketValue). IfSome o IsSendable) (sym c.packet_after_header.ensures)
    (subst (λ (h : Option IpRepr). IfSome (offered_in v.settings.endpoint h (Some (metadata, bytes))) IsSendable)
    (sym c.header_at_once.ensures)
    (sendable_of (TakesAtOnce cx v (metadata, bytes)) _ (at_once cx v metadata bytes)))
