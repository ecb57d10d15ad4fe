use Rattle.tcp_block.proofs.tcb.initial.+scale_for.Given as goal

abbrev pub decreases-scale_for : goal.decreases-scale_for
decreases-scale_for l = l.most
