use Rattle.tcp_pair.specs.States.{hosted}
use Rattle.tcp_pair.proofs.Led.{led_by, on_hosted}
use Rattle.tcp_pair.proofs.Turning.{stops}
use Rattle.tcp_pair.proofs.pair.Pair.take_on.Goals as goal
use Rattle.tcp_pair.proofs.pair.Pair.take_on.Goals.{in-Ok, in-Err}

pub returns-clause-refused : goal.returns-clause-refused
returns-clause-refused c =
    elim c.match-step.branch [
      | in-Ok w ↦ rw w.result-is tt
      | in-Err w ↦ rw w.result-is (stops (hosted c.args.self.now) c.args.event w.in-Err.refused c.requires w.in-Err.ensures.memory)
    ]

pub returns-clause-leads : goal.returns-clause-leads
returns-clause-leads c =
    led_by (hosted c.args.self.now) (hosted c.step.new.self) c.args.event c.step.result c.requires c.step.ensures.taken c.step.ensures.step
    (on_hosted c.step.result c.args.self.now c.step.new.self c.step.ensures.unchanged)
