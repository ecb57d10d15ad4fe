use Rattle.std.proofs.Common.{rules, ◌≡◌, Option, Some, refl, sym, subst, inl}
use Rattle.iface_ingress.specs.Context.{ContextValue}
use Rattle.iface_ingress.specs.LentPacket.{Packet}
use Rattle.iface_ingress.specs.Offers.{IsFound}
use Rattle.iface_ingress.specs.Packet.{packet_value, option_value}
use Rattle.iface_ingress.specs.Socket.TheVariants as Kind
use Rattle.iface_ingress.specs.Udp.{TakesAtOnce}
use Rattle.iface_tables.specs.Looks.{look_context}
use Rattle.interface.specs.Host.{sender}
use Rattle.interface.specs.Remote.{context_for}
use Rattle.interface.specs.SendTo.{DatagramToSend}
use Rattle.interface.proofs.AtOnce.{may_leave, leaves_if_it_may}
use Rattle.interface.proofs.send_to.transmit_now.Goals as goal

pub returns-then-is_held-clause-leaves : goal.returns-then-is_held-clause-leaves
returns-then-is_held-clause-leaves g c = (refl, refl, inl refl)

pub returns-in-None-clause-leaves : goal.returns-in-None-clause-leaves
returns-in-None-clause-leaves g c = (refl, refl, inl refl)

pub returns-in-Some-clause-leaves : goal.returns-in-Some-clause-leaves
returns-in-Some-clause-leaves g c =
    let i = c.args.inner.now in
    let s = sender c.args.device.now i c.args.fragmenter.now in
    let v = c.args.socket.now in
    let q : DatagramToSend = (c.args.to.now, c.args.bytes.now) in
    let packet = c.in-Some.packet in
    let p = packet_value packet in
    let first : c.packet_at_once.result ≡ Some packet = search rules in
    let seen : look_context c.towards.result ≡ context_for i (Kind.Udp v) = search rules in
    let found : IsFound (TakesAtOnce (look_context c.towards.result) v q) (Some p) =
    subst (λ (o : Option Packet). IsFound (TakesAtOnce (look_context c.towards.result) v q) (option_value o)) first c.packet_at_once.ensures.packet in
    let as_seen : IsFound (TakesAtOnce (context_for i (Kind.Udp v)) v q) (Some p) =
    subst (λ (cx : ContextValue). IsFound (TakesAtOnce cx v q) (Some p)) seen found in
    let may = may_leave s c.args.meta.now v q p (sym c.if-is_held.ensures) as_seen in
    leaves_if_it_may g.D.Device.moves s c.args.meta.now c.transmit_if_known.new.meta v q p c.transmit_if_known.new.device c.transmit_if_known.new.inner
    c.transmit_if_known.result may c.transmit_if_known.ensures.leaves
