use Rattle.std.proofs.Common.{rules, ◌≡◌, ap, ◌∙◌}
use Rattle.ip_wire.specs.Ip.{destination_of}
use Rattle.iface_ingress.specs.Packet.{packet_value}
use Rattle.iface_tables.specs.Inner.{InnerValue}
use Rattle.iface_egress.specs.Parked.{inner_after, outcome_of, parks, sender_after}
use Rattle.iface_egress.specs.declared.plan.Plan.{Plan}
use Rattle.interface.specs.Host.{sender}
use Rattle.interface.specs.Serve.{marked, plan_at, waits_until}
use Rattle.interface.proofs.Alone.{leaves_or_parks}
use Rattle.interface.proofs.serve.transmit_as_is.Goals as goal

pub returns-clause-left : goal.returns-clause-left
returns-clause-left g c =
    let i = c.args.inner.now in
    let p = packet_value c.args.leaving.now in
    let s = sender c.args.device.now i c.args.fragmenter.now in
    let came = c.send_packet-sent.result in
    let mid = sender c.send_packet-sent.new.device c.send_packet-sent.new.inner c.send_packet-sent.new.fragmenter in
    let sent = c.park_if_searched-sent.result in
    let j = c.park_if_searched-sent.new.inner in
    let same : c.plan_from-plan.result ≡ plan_at s p = search rules in
    let outcome : sent ≡ outcome_of (parks mid.inner p (plan_at s p) came) came =
    c.park_if_searched-sent.ensures.sent ∙ ap (λ (w : Plan). outcome_of (parks mid.inner p w came) came) same in
    let after : sender mid.device j mid.left ≡ sender_after (parks mid.inner p (plan_at s p) came) p mid =
    ap (λ (k : InnerValue). sender mid.device k mid.left)
    (c.park_if_searched-sent.ensures.after ∙ ap (λ (w : Plan). inner_after (parks mid.inner p w came) mid.inner p) same) in
    let marks : c.mark.new.meta ≡ marked sent i.instant (waits_until (plan_at s p) j) (destination_of p.header) c.args.meta.now = search rules in (
      leaves_or_parks g.D.Device.moves c.args.turn.now s c.args.meta.now p came sent mid (sender mid.device j mid.left) c.send_packet-sent.ensures.leaves outcome
          after,
      c.requires.formed,
      marks,
    )
