use Rattle.tcp_pair.specs.States.{hosted}
use Rattle.tcp_pair.proofs.Led.{onward}
use Rattle.tcp_pair.proofs.Turning.{sent_by, sent_or_memory}
use Rattle.tcp_pair.proofs.pair.Pair.send.Goals as goal

pub returns-clause-sent : goal.returns-clause-sent
returns-clause-sent c =
    sent_by c.take_on-2.result (hosted c.args.self.now) (hosted c.take_on.new.self) (hosted c.take_on-2.new.self) c.args.side c.args.instant c.sent-next.result.now
    c.in_ok-take_on.ensures.taken c.sent-next.ensures c.take_on-2.ensures.taken

pub returns-clause-memory : goal.returns-clause-memory
returns-clause-memory c =
    sent_or_memory c.take_on-2.result (hosted c.args.self.now) (hosted c.take_on.new.self) c.args.side c.args.instant c.sent-next.result.now
    c.in_ok-take_on.ensures.taken c.sent-next.ensures c.take_on-2.ensures.memory

pub returns-clause-leads : goal.returns-clause-leads
returns-clause-leads c = onward (hosted c.args.self.now) (hosted c.take_on.new.self) (hosted c.take_on-2.new.self) c.take_on.ensures.leads c.take_on-2.ensures.leads
