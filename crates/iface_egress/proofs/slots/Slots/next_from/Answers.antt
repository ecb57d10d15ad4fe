use Rattle.std.proofs.Common.{rules, arith, ◌≡◌, ◌+◌, ◌<◌, ◌^◌, ℕ, length, subst, Option}
use Rattle.std.specs.Option.{ForSome}
use Rattle.iface_egress.specs.IdleSlots.{IsNextBusy, first_of}
use Rattle.iface_egress.proofs.Resting.{next_busy_of, next_fits}
use Rattle.iface_egress.proofs.slots.Slots.next_from.Goals as goal

pub returns-clause-next : goal.returns-clause-next
returns-clause-next g c =
    let found : IsNextBusy g.T.Idle.idle c.args.from c.self.inside.storage.items c.first_of.result =
    subst (λ (r : Option ℕ). IsNextBusy g.T.Idle.idle c.args.from c.self.inside.storage.items r) {y = c.first_of.result} (cc)
    (next_busy_of g.T.Idle.idle c.self.inside.agenda c.self.inside.storage.items c.self.invariant.0 c.args.from c.next.result c.next.ensures) in
    rw (← c.self.view_is) found

pub returns-clause-fits : goal.returns-clause-fits
returns-clause-fits g c =
    let found : IsNextBusy g.T.Idle.idle c.args.from c.self.inside.storage.items c.first_of.result =
    subst (λ (r : Option ℕ). IsNextBusy g.T.Idle.idle c.args.from c.self.inside.storage.items r) {y = c.first_of.result} (cc)
    (next_busy_of g.T.Idle.idle c.self.inside.agenda c.self.inside.storage.items c.self.invariant.0 c.args.from c.next.result c.next.ensures) in
    next_fits g.T.Idle.idle c.self.inside.storage.items c.args.from c.len-2.result c.first_of.result found
    (omega (arith, c.len-2.ensures, c.self.inside.storage.ok)) c.len-2.type_inv
