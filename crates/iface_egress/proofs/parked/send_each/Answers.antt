use Rattle.std.proofs.Common.{◌≡◌, ℕ, ◌+◌, ◌<◌, ◌≤◌, false, List, length, take, drop, refl, ap, subst, ◌∙◌, arith}
use Rattle.std.specs.Prelude.{remove}
use Rattle.std.proofs.lemmas.List.Edits.{length-remove}
use Rattle.std.proofs.lemmas.Option.{slice_get_within}
use Rattle.socket_context.specs.Packet.{PacketValue}
use Rattle.iface_tables.specs.Parking.{ParkedValue, ParkingValue}
use Rattle.iface_egress.specs.Parked.{Leaves, ServesEach, packet_in}
use Rattle.iface_egress.specs.Sender.{Sender, sender}
use Rattle.iface_egress.proofs.Served.{walk_on, walk_past, walk_refused}
use Rattle.iface_egress.proofs.parked.send_each.Goals as goal

pub loop-at-preserved-in-Gone : goal.loop-at-preserved-in-Gone
loop-at-preserved-in-Gone g c =
    let ps : List ParkedValue = c.loop-at.parking.packets in
    let at : ℕ = c.loop-at.at in
    let k : ParkedValue = record { hop = c.packet.result.0.hop; header = c.packet.result.0.header; payload = c.packet.result.1.now } in
    let x : Sender _ = sender c.loop-at.device c.loop-at.inner c.loop-at.fragmenter in
    let mid : Sender _ = sender c.send_one.new.device c.send_one.new.inner c.send_one.new.fragmenter in
    let leaves : Leaves g.D.Device.moves x (packet_in k) c.send_one.result mid =
    subst (λ (p : PacketValue). Leaves g.D.Device.moves x p c.send_one.result mid) c.new-packet.ensures c.send_one.ensures.leaves in
    let left_is : c.remove.new.self.packets ≡ remove ps at = ap (λ (k : ParkingValue). k.packets) c.remove.ensures in
    let inside : at < length ps = slice_get_within ps at k c.packet.ensures.packet in
    record {
      within = omega (arith, ap (λ (qs : List ParkedValue). length qs) left_is, length-remove ps at inside, inside);
      room = ap (λ (k : ParkingValue). k.room) c.remove.ensures ∙ c.loop-at.invariant.room;
      serves = λ all x' left rest. c.loop-at.invariant.serves all x' left
          (walk_on ps at k c.packet.ensures.packet g.D.Device.moves x mid c.send_one.result leaves all x' left c.in-Gone.is
          (subst (λ (qs : List ParkedValue). ServesEach g.D.Device.moves (drop at qs) (take at qs) mid all x' left) left_is rest));
      capabilities = c.send_one.ensures.capabilities ∙ c.loop-at.invariant.capabilities;
    }

pub loop-at-preserved : goal.loop-at-preserved
loop-at-preserved g c =
    let ps : List ParkedValue = c.loop-at.parking.packets in
    let at : ℕ = c.loop-at.at in
    let k : ParkedValue = record { hop = c.packet.result.0.hop; header = c.packet.result.0.header; payload = c.packet.result.1.now } in
    let x : Sender _ = sender c.loop-at.device c.loop-at.inner c.loop-at.fragmenter in
    let mid : Sender _ = sender c.send_one.new.device c.send_one.new.inner c.send_one.new.fragmenter in
    let leaves : Leaves g.D.Device.moves x (packet_in k) c.send_one.result mid =
    subst (λ (p : PacketValue). Leaves g.D.Device.moves x p c.send_one.result mid) c.new-packet.ensures c.send_one.ensures.leaves in
    let inside : at < length ps = slice_get_within ps at k c.packet.ensures.packet in
    record {
      within = omega (arith, inside);
      room = c.loop-at.invariant.room;
      serves = λ all x' left rest. c.loop-at.invariant.serves all x' left
          (walk_past ps at k c.packet.ensures.packet g.D.Device.moves x mid c.send_one.result leaves all x' left c.in-Waits.is rest);
      capabilities = c.send_one.ensures.capabilities ∙ c.loop-at.invariant.capabilities;
    }

pub returns-in-Refused-clause-serves : goal.returns-in-Refused-clause-serves
returns-in-Refused-clause-serves g c =
    let ps : List ParkedValue = c.loop-at.parking.packets in
    let at : ℕ = c.loop-at.at in
    let k : ParkedValue = record { hop = c.packet.result.0.hop; header = c.packet.result.0.header; payload = c.packet.result.1.now } in
    let x : Sender _ = sender c.loop-at.device c.loop-at.inner c.loop-at.fragmenter in
    let mid : Sender _ = sender c.send_one.new.device c.send_one.new.inner c.send_one.new.fragmenter in
    let leaves : Leaves g.D.Device.moves x (packet_in k) c.send_one.result mid =
    subst (λ (p : PacketValue). Leaves g.D.Device.moves x p c.send_one.result mid) c.new-packet.ensures c.send_one.ensures.leaves in
    c.loop-at.invariant.serves false mid ps
    (walk_refused ps at k c.packet.ensures.packet g.D.Device.moves x mid c.send_one.result leaves false mid ps c.in-Refused.is refl refl refl)
