use Rattle.std.proofs.Common.{Option, true, false, [], inl, inr, refl, subst}
use Rattle.ip_wire.specs.IpAddress.{IpAddress}
use Rattle.interface.specs.Host.{sender}
use Rattle.interface.specs.Pass.{Pass, passed}
use Rattle.interface.proofs.Cleared.{cleared, stopped}
use Rattle.interface.proofs.step.send_turns.Goals as goal

pub returns-then-not-send_waiting-clause-egress : goal.returns-then-not-send_waiting-clause-egress
returns-then-not-send_waiting-clause-egress g c =
    let s = sender c.args.device.now c.args.inner.now c.args.fragmenter.now in
    let mid = sender c.send_waiting.new.device c.args.inner.now c.send_waiting.new.fragmenter in
    inl (mid, stopped g.D.Device.moves s mid c.if-not-send_waiting.ensures.clears, refl)

pub returns-then-not-send_parked-clause-egress : goal.returns-then-not-send_parked-clause-egress
returns-then-not-send_parked-clause-egress g c =
    let s = sender c.args.device.now c.args.inner.now c.args.fragmenter.now in
    let mid = sender c.send_waiting.new.device c.args.inner.now c.send_waiting.new.fragmenter in
    let served = sender c.send_parked.new.device c.send_parked.new.inner c.send_parked.new.fragmenter in
    inl (served, cleared g.D.Device.moves s mid served false c.if-not-send_waiting.ensures.clears refl c.if-not-send_parked.ensures.serves, refl)

pub returns-clause-egress : goal.returns-clause-egress
returns-clause-egress g c =
    let s = sender c.args.device.now c.args.inner.now c.args.fragmenter.now in
    let mid = sender c.send_waiting.new.device c.args.inner.now c.send_waiting.new.fragmenter in
    let served = sender c.send_parked.new.device c.send_parked.new.inner c.send_parked.new.fragmenter in
    let was_sent = passed (sender c.pass.new.device c.pass.new.inner c.pass.new.fragmenter) c.pass.new.slots c.pass.result in
    inr (
      served,
      cleared g.D.Device.moves s mid served true c.if-not-send_waiting.ensures.clears refl c.if-not-send_parked.ensures.serves,
      subst (λ (o : Option IpAddress). Pass g.D.Device.moves o served [] false c.args.slots.now was_sent) c.turn_if_any-turn.ensures c.pass.ensures.pass,
    )
