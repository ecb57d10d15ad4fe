use Rattle.tcp_pair.specs.States.{hosted}
use Rattle.tcp_pair.proofs.Led.{onward}
use Rattle.tcp_pair.proofs.Turning.{exchanged, one_left}
use Rattle.tcp_pair.proofs.pair.Pair.exchange.Goals as goal

pub answer-requires-clause-one : goal.answer-requires-clause-one
answer-requires-clause-one c =
    one_left (hosted c.args.self.now) (hosted c.send.new.self) c.args.side c.other.result c.args.instant c.sent-answer.result.now c.in_ok-send.ensures.sent c.other.ensures
    c.sent-answer.ensures

pub returns-clause-exchanged : goal.returns-clause-exchanged
returns-clause-exchanged c =
    exchanged c.answer.result (hosted c.args.self.now) (hosted c.send.new.self) (hosted c.answer.new.self) c.args.side c.other.result c.args.instant c.sent-answer.result.now
    c.in_ok-send.ensures.sent c.other.ensures c.sent-answer.ensures c.answer.ensures.comes

pub returns-clause-leads : goal.returns-clause-leads
returns-clause-leads c = onward (hosted c.args.self.now) (hosted c.send.new.self) (hosted c.answer.new.self) c.send.ensures.leads c.answer.ensures.leads
