use Rattle.std.proofs.Common.{None, sym, ◌∙◌}
use Rattle.socket_datagram.specs.DnsClient.Value.{DnsValue}
use Rattle.socket_datagram.proofs.DnsClient.Sent.{sendable}
use Rattle.socket_datagram.proofs.dns.socket.Socket.offer.Goals as goal

pub returns-in-Send-clause-sendable : goal.returns-in-Send-clause-sendable
returns-in-Send-clause-sendable g c =
    let i = c.self.inside in
    let v : DnsValue = record { servers = i.servers; hop_limit = i.hop_limit; host_requirements = i.host_requirements; state = i.state; message = i.message.items; offered = None } in
    sendable (g.C.Context.context c.args.cx.now) v i.state c.in-Send.sending (sym c.turn_at.ensures.turn ∙ c.in-Send.is) c.turn_at.ensures.short
