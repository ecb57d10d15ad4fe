use Rattle.tcp_pair.specs.States.{hosted}
use Rattle.tcp_pair.proofs.Led.{onward}
use Rattle.tcp_pair.proofs.Turning.{roused}
use Rattle.tcp_pair.proofs.pair.Pair.rouse.Goals as goal

pub returns-clause-roused : goal.returns-clause-roused
returns-clause-roused c =
    roused c.take_on.result (hosted c.args.self.now) (hosted c.read.new.self) (hosted c.take_on.new.self) c.args.side c.restart_by-instant.result c.instant.result
    c.retransmit_at.result c.socket.result.now c.restart_by-instant.ensures c.instant.ensures c.retransmit_at.ensures c.socket.ensures
    c.in_ok-read.ensures.read c.take_on.ensures.taken

pub returns-clause-leads : goal.returns-clause-leads
returns-clause-leads c = onward (hosted c.args.self.now) (hosted c.read.new.self) (hosted c.take_on.new.self) c.read.ensures.leads c.take_on.ensures.leads
