use Rattle.std.proofs.Common.{◌∷◌, take, ◌∙◌, ap, sym, subst}
use Rattle.std.specs.Vec.Iter.{into_iter_items}
use Rattle.lan.specs.Worlds.AtLink.Refusals.{MayRefuse}
use Rattle.lan.specs.Worlds.AtLink.Kinds.{kind_of}
use Rattle.lan.specs.Worlds.AtLink.Runs.{WorldValue, tables_in}
use Rattle.lan.proofs.Worlds.Running.{HasRun}
use Rattle.lan.proofs.Worlds.Running.{next_is, one_more, starts_stay}
use Rattle.lan.proofs.world.World.step_all.Goals as goal
use Rattle.lan.proofs.world.World.step_all.Goals.{In-Some}

-- the loop's invariant, now that the next event is known
found : (c : In-Some) → HasRun c.args.self.now c.args.events.items c.loop-event.slot (c.in-Some.event ∷ into_iter_items c.next.new.self) c.loop-event.self
found c = rw c.in-Some.ensures.steps.0 at c.loop-event.invariant

pub returns-in-Err-clause-refused : goal.returns-in-Err-clause-refused
returns-in-Err-clause-refused c =
    rw (next_is c.args.self.now c.args.events.items c.loop-event.slot c.in-Some.event (into_iter_items c.next.new.self) c.loop-event.self
    (found (goal.at.returns-in-Err-clause-refused c).In-Some))
    (subst (λ (w : WorldValue). MayRefuse w.hosts (tables_in w.history w.hosts) (kind_of c.in-Some.event) c.in-Err.refused) (sym c.in-Err.ensures.unchanged)
    c.in-Err.ensures.memory)

pub returns-in-Err-clause-starts : goal.returns-in-Err-clause-starts
returns-in-Err-clause-starts c =
    ap (λ (w : WorldValue). w.starts) c.in-Err.ensures.unchanged ∙
    starts_stay c.args.self.now c.loop-event.self (take c.loop-event.slot c.args.events.items) c.loop-event.invariant.steps

pub loop-event-preserved : goal.loop-event-preserved
loop-event-preserved c =
    one_more c.args.self.now c.args.events.items c.loop-event.slot c.in-Some.event (into_iter_items c.next.new.self) c.loop-event.self
    (found (goal.at.loop-event-preserved c).In-Some)
    c.in_default.field-0 c.step.new.self c.in_default.ensures.step

pub returns-clause-starts : goal.returns-clause-starts
returns-clause-starts c = starts_stay c.args.self.now c.loop-event.self (take c.loop-event.slot c.args.events.items) c.loop-event.invariant.steps
