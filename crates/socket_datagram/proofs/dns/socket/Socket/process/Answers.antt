use Rattle.std.proofs.Common.{ℤ, None, sym, ap, ◌∙◌, subst}
use Rattle.socket_datagram.specs.DnsClient.Processed.{Processed}
use Rattle.socket_datagram.specs.DnsClient.Value.{DnsValue, unoffered}
use Rattle.socket_datagram.proofs.DnsClient.Taken.{taken}
use Rattle.socket_datagram.proofs.dns.socket.Socket.process.Goals as goal

pub returns : goal.returns
returns g c =
    let i = c.self.inside in
    let w : DnsValue = record { servers = i.servers; hop_limit = i.hop_limit; host_requirements = i.host_requirements; state = i.state; message = i.message.items; offered = None } in
    subst (λ (now : ℤ). Processed now c.args.self.now c.args.ip_repr.now c.args.repr.now c.args.payload.now c.judge.new.self) c.now.ensures.value
    (taken c.now.result c.args.self.now w c.judge.new.self c.args.ip_repr.now c.args.repr.now c.args.payload.now c.verdict_in-verdict.result
    (ap unoffered c.self.view_is) (sym c.accepts.ensures ∙ c.if-not-accepts.false) c.verdict_in-verdict.ensures c.judge.ensures)
