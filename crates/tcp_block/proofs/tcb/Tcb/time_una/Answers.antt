use Rattle.std.proofs.Common.{◌∙◌, sym}
use Rattle.tcp_block.proofs.Una.{timed_first, timed_in_recovery, timed_grown}
use Rattle.tcp_block.proofs.tcb.Tcb.time_una.Goals as goal

pub returns-then-acks_local_syn : goal.returns-then-acks_local_syn
returns-then-acks_local_syn c =
    timed_first c.args.self.now c.begin.new.self c.advance.new.self c.args.by c.args.queued c.args.now
    (sym c.acks_local_syn.ensures ∙ c.if-acks_local_syn.true) c.advance.ensures c.begin.ensures

pub returns-then-acks_in_recovery : goal.returns-then-acks_in_recovery
returns-then-acks_in_recovery c =
    timed_in_recovery c.args.self.now c.recover_una.new.self c.advance.new.self c.args.by c.args.queued c.args.now
    (sym c.acks_local_syn.ensures ∙ c.if-acks_local_syn.false) (sym c.acks_in_recovery.ensures ∙ c.if-acks_in_recovery.true) c.advance.ensures
    c.recover_una.ensures

pub returns-else-acks_in_recovery : goal.returns-else-acks_in_recovery
returns-else-acks_in_recovery c =
    timed_grown c.args.self.now c.grow_if_used.new.self c.advance.new.self c.args.by c.args.queued c.freed_by-freed.result c.args.now
    (sym c.acks_local_syn.ensures ∙ c.if-acks_local_syn.false) (sym c.acks_in_recovery.ensures ∙ c.if-acks_in_recovery.false) c.advance.ensures
    c.freed_by-freed.ensures.value c.grow_if_used.ensures
