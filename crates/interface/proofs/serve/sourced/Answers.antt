use Rattle.std.proofs.Common.{rules, ◌≡◌, sym, subst}
use Rattle.iface_ingress.specs.Packet.{packet_value, IsSendable}
use Rattle.interface.specs.Serve.{sourced}
use Rattle.interface.proofs.Sourced.{sourced_sendable}
use Rattle.interface.proofs.serve.sourced.Goals as goal

pub returns-clause-fits : goal.returns-clause-fits
returns-clause-fits c =
    let p = packet_value c.args.packet.now in
    let same : packet_value c.new.result ≡ sourced c.args.inner.now p = search rules in
    subst IsSendable (sym same) (sourced_sendable c.args.inner.now p c.requires)
