use Rattle.std.proofs.Common.{◌≡◌, Bool, true, false, ◌&&◌, is_some, inl, refl, sym, ap, ◌∙◌}
use Rattle.ip_wire.specs.IpRepr.{IpRepr}
use Rattle.iface_ingress.specs.Packet.{packet_value}
use Rattle.iface_egress.specs.Plan.{plan_of}
use Rattle.iface_egress.specs.declared.plan.Plan.{Plan}
use Rattle.interface.specs.Awaited.{turn_of}
use Rattle.interface.specs.Host.{sender}
use Rattle.interface.specs.Ingress.{is_solicitation, would_solicit}
use Rattle.interface.proofs.Replied.{planned_replied, planned_same, swapped}
use Rattle.interface.proofs.Settings.{keeps_out}
use Rattle.interface.proofs.arrival.answer_planned.Goals as goal

-- a socket waits, and goes first
pub returns-then-is_kept_back-clause-replied : goal.returns-then-is_kept_back-clause-replied
returns-then-is_kept_back-clause-replied g c =
    let i = c.args.inner.now in
    let left = c.args.fragmenter.now in
    let p = packet_value c.args.packet.now in
    let s = sender c.args.device.now i left in
    let awaited = is_some (turn_of i c.args.slots.now) in
    let same : c.plan_for-plan.result ≡ plan_of i (is_some left) p.header =
    c.plan_for-plan.ensures.value
    ∙ ap (λ (busy : Bool). plan_of i busy c.ip_repr.result) c.is_waiting.ensures
    ∙ ap (λ (h : IpRepr). plan_of i (is_some left) h) c.ip_repr.ensures
    in
    let kept : c.is_kept_back.result ≡ (would_solicit s p && awaited) = c.is_kept_back.ensures ∙ ap (λ (w : Plan). is_solicitation w && awaited) same in
    inl (refl {a = s}, swapped awaited (would_solicit s p) true (sym kept ∙ c.if-is_kept_back.true))

pub returns-clause-replied : goal.returns-clause-replied
returns-clause-replied g c =
    let i = c.args.inner.now in
    let left = c.args.fragmenter.now in
    let p = packet_value c.args.packet.now in
    let s = sender c.args.device.now i left in
    let awaited = is_some (turn_of i c.args.slots.now) in
    let same : c.plan_for-plan.result ≡ plan_of i (is_some left) p.header =
    c.plan_for-plan.ensures.value
    ∙ ap (λ (busy : Bool). plan_of i busy c.ip_repr.result) c.is_waiting.ensures
    ∙ ap (λ (h : IpRepr). plan_of i (is_some left) h) c.ip_repr.ensures
    in
    let kept : c.is_kept_back.result ≡ (would_solicit s p && awaited) = c.is_kept_back.ensures ∙ ap (λ (w : Plan). is_solicitation w && awaited) same in
    let mid = sender c.dispatch_by-sent.new.device c.dispatch_by-sent.new.inner c.dispatch_by-sent.new.fragmenter in
    planned_replied g.D.Device.moves awaited s p c.plan_for-plan.result c.dispatch_by-sent.result mid c.park_if_searched.new.inner same
    c.dispatch_by-sent.ensures.out c.park_if_searched.ensures.after c.requires.formed
    (swapped awaited (would_solicit s p) false (sym kept ∙ c.if-is_kept_back.false))

pub returns-clause-settings : goal.returns-clause-settings
returns-clause-settings g c =
    let i = c.args.inner.now in
    let left = c.args.fragmenter.now in
    let p = packet_value c.args.packet.now in
    let s = sender c.args.device.now i left in
    let same : c.plan_for-plan.result ≡ plan_of i (is_some left) p.header =
    c.plan_for-plan.ensures.value
    ∙ ap (λ (busy : Bool). plan_of i busy c.ip_repr.result) c.is_waiting.ensures
    ∙ ap (λ (h : IpRepr). plan_of i (is_some left) h) c.ip_repr.ensures
    in
    let mid = sender c.dispatch_by-sent.new.device c.dispatch_by-sent.new.inner c.dispatch_by-sent.new.fragmenter in
    keeps_out i c.park_if_searched.new.inner
    (planned_same g.D.Device.moves false s p c.plan_for-plan.result c.dispatch_by-sent.result mid c.park_if_searched.new.inner same
    c.dispatch_by-sent.ensures.out c.park_if_searched.ensures.after c.requires.formed)
