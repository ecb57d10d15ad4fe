use Rattle.base_wrappers.proofs.dropper.+receive_within.Given as goal

abbrev pub decreases-receive_within : goal.decreases-receive_within
decreases-receive_within g l = l.most
