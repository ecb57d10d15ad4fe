use Rattle.std.proofs.Common.{rules, arith, ◌≡◌, ◌+◌, ◌<◌, ◌∷◌, length, suc, sym, ap, ◌∙◌}
use Rattle.iface_egress.specs.Used.{used_left}
use Rattle.iface_egress.proofs.Used.{used_take}
use Rattle.iface_egress.proofs.socket_set.IterIterator.next.Goals as goal

pub returns-in-Some-clause-steps : goal.returns-in-Some-clause-steps
returns-in-Some-clause-steps g c =
    let within : c.loop-self.self.at < length c.loop-self.self.slots.now = omega (arith, c.loop-self-test.true) in
    sym c.loop-self.invariant ∙ used_take c.loop-self.self.at c.loop-self.self.slots.now c.in-Some.socket.now within (sym c.in-Some.ensures)

pub returns-in-Some-clause-goes : goal.returns-in-Some-clause-goes
returns-in-Some-clause-goes g c =
    let long : length (used_left c.args.self.now) ≡ suc (length (used_left (record { slots = c.loop-self.self.slots; at = c.loop-self.self.at + 1 }))) =
    ap length (returns-in-Some-clause-steps g c) in
    record { on = λ f. (search rules, search rules, omega (arith, long)); keeps = search rules; rests = λ f. search rules }
