use Rattle.std.proofs.Common.{false, subst}
use Rattle.iface_egress.specs.Set.{slots}
use Rattle.interface.specs.Host.{HostValue}
use Rattle.interface.specs.State.{state}
use Rattle.interface.specs.Ingress.{IngressStep}
use Rattle.interface.specs.Polls.{Repeats}
use Rattle.interface.proofs.host.Interface.poll_all.Goals as goal

pub returns-clause-steps : goal.returns-clause-steps
returns-clause-steps g c =
    let mid = state c.ingress_all-changed.new.device c.ingress_all-changed.new.self (slots c.ingress_all-changed.new.sockets) in (
      mid,
      c.ingress_all-changed.result,
      subst (λ (h : HostValue). Repeats (IngressStep g.D.Device.moves c.args.timestamp) c.args.budget (state c.args.device.now h (slots c.args.sockets.now))
          false mid c.ingress_all-changed.result)
          c.poll_maintenance.ensures c.ingress_all-changed.ensures.steps,
      c.egress_all.ensures.steps,
    )
