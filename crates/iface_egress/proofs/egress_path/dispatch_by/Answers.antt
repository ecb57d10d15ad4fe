use Rattle.std.proofs.Common.{ℕ, ◌≤◌, is_some, sym, subst}
use Rattle.socket_context.specs.Packet.{packet_value}
use Rattle.iface_egress.specs.Plan.{CanBeCarried}
use Rattle.iface_egress.specs.declared.plan.Plan.{Plan}
use Rattle.iface_egress.proofs.Planned.{planned_can_be_carried}
use Rattle.iface_egress.proofs.egress_path.dispatch_by.Goals as goal

pub carry-requires-clause-fits : goal.carry-requires-clause-fits
carry-requires-clause-fits g c =
    let i = c.args.inner.now in
    let left = c.args.fragmenter.now in
    let p = packet_value c.args.packet.now in
    let short : i.mtu ≤ 65535 = subst (λ (n : ℕ). n ≤ 65535) c.mtu-mtu.ensures.value c.mtu-mtu.ensures.high in
    subst (λ (plan : Plan). CanBeCarried i left p plan) (sym c.requires.plan) (planned_can_be_carried i left p short c.requires.packet)
