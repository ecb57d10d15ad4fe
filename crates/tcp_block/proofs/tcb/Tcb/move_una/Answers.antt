use Rattle.tcp_block.proofs.Una.{kept, lowered}
use Rattle.tcp_block.proofs.tcb.Tcb.move_una.Goals as goal

pub returns-then-by-eq0 : goal.returns-then-by-eq0
returns-then-by-eq0 c = kept c.args.self.now c.keep_una.new.self c.args.by c.args.queued c.args.now c.if-by-eq0.true c.keep_una.ensures

pub returns : goal.returns
returns c =
    lowered c.args.self.now c.raise_una.new.self c.lower_loss.new.self c.is_partial-partial.result c.args.by c.args.queued c.args.now
    c.is_partial-partial.ensures c.raise_una.ensures c.lower_loss.ensures
