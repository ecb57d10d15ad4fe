use Rattle.tcp_pair.specs.States.{hosted}
use Rattle.tcp_pair.proofs.Turning.{answered}
use Rattle.tcp_pair.proofs.pair.Pair.answer.Goals as goal

pub returns-then-k-sent-clause-comes : goal.returns-then-k-sent-clause-comes
returns-then-k-sent-clause-comes c =
    answered c.take_on.result (hosted c.args.self.now) (hosted c.take_on.new.self) c.args.side c.other.result c.other-then-k-sent.result c.args.k c.sent.result.now
    c.other.ensures c.sent.ensures c.other-then-k-sent.ensures c.requires.one c.if-k-sent.true c.take_on.ensures.taken
