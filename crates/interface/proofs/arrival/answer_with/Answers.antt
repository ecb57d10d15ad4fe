use Rattle.std.proofs.Common.{rules, ◌≡◌, Some, is_some, sym, subst}
use Rattle.ip_wire.specs.IpRepr.TheVariants as Ip
use Rattle.iface_ingress.specs.Packet.{PacketValue, packet_of, packet_value, payload_value}
use Rattle.iface_ingress.specs.WellFormed.{IsWellFormed}
use Rattle.iface_ingress.specs.Arrives.{Answers}
use Rattle.iface_egress.specs.Plan.{GoesDirect}
use Rattle.interface.specs.Awaited.{turn_of}
use Rattle.interface.specs.Host.{sender}
use Rattle.interface.specs.Ingress.{Replied}
use Rattle.interface.proofs.Replied.{direct_replied}
use Rattle.interface.proofs.Runs.{replied_same}
use Rattle.interface.proofs.Settings.{keeps_out}
use Rattle.interface.proofs.arrival.answer_with.Goals as goal

pub returns-in-Some-clause-replied : goal.returns-in-Some-clause-replied
returns-in-Some-clause-replied g c =
    let i = c.args.inner.now in
    let p = packet_value c.args.packet.now in
    let s = sender c.args.device.now i c.args.fragmenter.now in
    let s' = sender c.transmit_direct.new.device c.transmit_direct.new.inner c.args.fragmenter.now in
    let awaited = is_some (turn_of i c.args.slots.now) in
    let lent = c.in-Some.direct in
    let q = packet_of (Ip.Ipv4 lent.header.now) (payload_value lent.carried.now) in
    let is : q ≡ p = search rules in
    let goes : GoesDirect i q.header lent.to = search rules in
    let formed : IsWellFormed p = search rules in
    subst (λ (x : PacketValue). Replied g.D.Device.moves awaited (Some (Answers x)) s s') is
    (direct_replied g.D.Device.moves awaited s q lent.to c.transmit_direct.result c.transmit_direct.new.device c.transmit_direct.new.inner goes
    (subst IsWellFormed (sym is) formed) c.transmit_direct.ensures.out)

pub returns-in-Some-clause-settings : goal.returns-in-Some-clause-settings
returns-in-Some-clause-settings g c =
    let i = c.args.inner.now in
    let p = packet_value c.args.packet.now in
    let s = sender c.args.device.now i c.args.fragmenter.now in
    let s' = sender c.transmit_direct.new.device c.transmit_direct.new.inner c.args.fragmenter.now in
    let awaited = is_some (turn_of i c.args.slots.now) in
    let lent = c.in-Some.direct in
    let q = packet_of (Ip.Ipv4 lent.header.now) (payload_value lent.carried.now) in
    let is : q ≡ p = search rules in
    let goes : GoesDirect i q.header lent.to = search rules in
    let formed : IsWellFormed p = search rules in
    keeps_out i c.transmit_direct.new.inner
    (replied_same g.D.Device.moves awaited (Some (Answers q)) s s'
    (direct_replied g.D.Device.moves awaited s q lent.to c.transmit_direct.result c.transmit_direct.new.device c.transmit_direct.new.inner goes
    (subst IsWellFormed (sym is) formed) c.transmit_direct.ensures.out))
