use Rattle.tcp_pair.specs.States.{hosted}
use Rattle.tcp_pair.proofs.Led.{onward}
use Rattle.tcp_pair.proofs.Turning.{round_or_memory, rounded}
use Rattle.tcp_pair.proofs.pair.Pair.round.Goals as goal

pub returns-clause-round : goal.returns-clause-round
returns-clause-round c =
    rounded c.turn-2.result (hosted c.args.self.now) (hosted c.turn.new.self) (hosted c.turn-2.new.self) c.in_ok-turn.ensures.turn c.turn-2.ensures.turn

pub returns-clause-memory : goal.returns-clause-memory
returns-clause-memory c =
    round_or_memory c.turn-2.result (hosted c.args.self.now) (hosted c.turn.new.self) c.turn.ensures.leads c.in_ok-turn.ensures.turn c.turn-2.ensures.memory

pub returns-clause-leads : goal.returns-clause-leads
returns-clause-leads c = onward (hosted c.args.self.now) (hosted c.turn.new.self) (hosted c.turn-2.new.self) c.turn.ensures.leads c.turn-2.ensures.leads
