use Rattle.std.proofs.Common.{sym}
use Rattle.tcp_refinement.proofs.PairLaws.{kept_is_safe}
use Rattle.tcp_pair.specs.States.{hosted}
use Rattle.tcp_pair.proofs.Led.{on_hosted, step_reached}
use Rattle.tcp_pair.proofs.pair.Pair.step.Goals as goal

pub returns-in-Some-clause-safe : goal.returns-in-Some-clause-safe
returns-in-Some-clause-safe c = kept_is_safe (hosted c.args.self.now) c.refusal.ensures.kept

pub returns-in-None-clause-safe : goal.returns-in-None-clause-safe
returns-in-None-clause-safe c = kept_is_safe (hosted c.take.new.self) c.take.ensures.kept

pub returns-in-None-clause-reached : goal.returns-in-None-clause-reached
returns-in-None-clause-reached c =
    step_reached (hosted c.args.self.now) (hosted c.take.new.self) c.args.event c.take.result (sym c.in-None.ensures.value) c.take.ensures.step
    (on_hosted c.take.result c.args.self.now c.take.new.self c.take.ensures.unchanged)
