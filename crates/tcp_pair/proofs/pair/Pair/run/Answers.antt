use Rattle.std.proofs.Common.{◌∷◌, take, sym, subst}
use Rattle.std.specs.Vec.Iter.{into_iter_items}
use Rattle.tcp_refinement.proofs.PairLaws.{kept_is_safe}
use Rattle.tcp_liveness.proofs.Kept.{reached_by}
use Rattle.tcp_pair.specs.Invariant.{HasRun, MayRefuse}
use Rattle.tcp_pair.specs.States.{PairState, hosted}
use Rattle.tcp_pair.proofs.Running.{next_is, one_more}
use Rattle.tcp_pair.proofs.pair.Pair.run.Goals as goal
use Rattle.tcp_pair.proofs.pair.Pair.run.Goals.{In-Some}

-- the loop's invariant, now that the next event is known
found : (c : In-Some) →
    HasRun (hosted c.args.self.now) c.args.events.items c.loop-event.offset (c.in-Some.event ∷ into_iter_items c.next.new.self) (hosted c.loop-event.self)
found c = rw c.in-Some.ensures.steps.0 at c.loop-event.invariant

pub returns-in-Err-clause-refused : goal.returns-in-Err-clause-refused
returns-in-Err-clause-refused c =
    rw (next_is (hosted c.args.self.now) c.args.events.items c.loop-event.offset c.in-Some.event (into_iter_items c.next.new.self) (hosted c.loop-event.self)
    (found (goal.at.returns-in-Err-clause-refused c).In-Some))
    (subst (λ (p : PairState). MayRefuse (hosted p) c.in-Some.event c.in-Err.refused) (sym c.in-Err.ensures.unchanged) c.in-Err.ensures.memory)

pub loop-event-preserved : goal.loop-event-preserved
loop-event-preserved c =
    one_more (hosted c.args.self.now) c.args.events.items c.loop-event.offset c.in-Some.event (into_iter_items c.next.new.self) (hosted c.loop-event.self)
    (found (goal.at.loop-event-preserved c).In-Some)
    c.in_default.field-0 (hosted c.step.new.self) c.in_default.ensures.taken c.in_default.ensures.step c.step.ensures.kept

pub returns-clause-safe : goal.returns-clause-safe
returns-clause-safe c = kept_is_safe (hosted c.loop-event.self) c.loop-event.invariant.kept

pub returns-in-Err-clause-reached : goal.returns-in-Err-clause-reached
returns-in-Err-clause-reached c = λ r.
    c.in-Err.ensures.reached
    (reached_by (hosted c.args.self.now) (hosted c.loop-event.self) (take c.loop-event.offset c.args.events.items) r c.loop-event.invariant.steps)

pub returns-clause-reached : goal.returns-clause-reached
returns-clause-reached c = λ r.
    reached_by (hosted c.args.self.now) (hosted c.loop-event.self) (take c.loop-event.offset c.args.events.items) r c.loop-event.invariant.steps
