use Rattle.std.proofs.Common.{◌≡◌, ℕ, Bool, true, List, [], sym, ap, subst, ◌∙◌}
use Rattle.iface_tables.specs.Inner.{InnerValue}
use Rattle.iface_tables.specs.Parking.{ParkedValue, ParkingValue}
use Rattle.iface_egress.specs.Parked.{ServesEach, ServesIfMany, lent, put_back}
use Rattle.iface_egress.specs.Sender.{Sender, sender}
use Rattle.iface_egress.proofs.parked.send_parked.Goals as goal

pub returns-clause-serves : goal.returns-clause-serves
returns-clause-serves g c =
    let i : InnerValue = c.args.inner.now in
    let x : Sender _ = sender c.args.device.now i c.args.fragmenter.now in
    let mid : Sender _ = sender c.send_each-all.new.device c.send_each-all.new.inner c.send_each-all.new.fragmenter in
    let x' : Sender _ = sender c.send_each-all.new.device c.set_parking.new.self c.send_each-all.new.fragmenter in
    let left : List ParkedValue = c.send_each-all.new.parking.packets in
    let all : Bool = c.send_each-all.result in
    let many : i.host_requirements ≡ true = sym c.host_requirements.ensures ∙ c.if-not-host_requirements.false in
    let of_inner : ServesEach g.D.Device.moves c.lend_parking-parking.result.packets [] (lent g.D.Device.moves x) all mid left =
    subst (λ (j : InnerValue). ServesEach g.D.Device.moves c.lend_parking-parking.result.packets [] (sender c.args.device.now j c.args.fragmenter.now) all mid left)
    c.lend_parking-parking.ensures.after c.send_each-all.ensures.serves in
    let each : ServesEach g.D.Device.moves i.parking.packets [] (lent g.D.Device.moves x) all mid left =
    subst (λ (k : ParkingValue). ServesEach g.D.Device.moves k.packets [] (lent g.D.Device.moves x) all mid left) c.lend_parking-parking.ensures.parking of_inner in
    let room : c.send_each-all.new.parking.room ≡ i.parking.room =
    c.send_each-all.ensures.room ∙ ap (λ (k : ParkingValue). k.room) c.lend_parking-parking.ensures.parking in
    let stands : x' ≡ put_back g.D.Device.moves i.parking.room left mid =
    ap (λ (j : InnerValue). sender c.send_each-all.new.device j c.send_each-all.new.fragmenter) c.set_parking.ensures
    ∙ ap (λ (n : ℕ). put_back g.D.Device.moves n left mid) room in
    subst (λ (b : Bool). ServesIfMany g.D.Device.moves b x all x') (sym many) (mid, left, each, stands)
