use Rattle.std.proofs.Common.{◌≡◌, Bool, is_some, ap, ◌∙◌}
use Rattle.ip_wire.specs.IpRepr.{IpRepr}
use Rattle.socket_context.specs.Packet.{packet_value}
use Rattle.iface_egress.specs.Plan.{plan_of}
use Rattle.iface_egress.proofs.egress_path.dispatch.Goals as goal

pub dispatch_by-requires-clause-plan : goal.dispatch_by-requires-clause-plan
dispatch_by-requires-clause-plan g c =
    let i = c.args.inner.now in
    c.plan_for-plan.ensures.value
    ∙ ap (λ (busy : Bool). plan_of i busy c.ip_repr.result) c.is_waiting.ensures
    ∙ ap (λ (h : IpRepr). plan_of i (is_some c.args.fragmenter.now) h) c.ip_repr.ensures
