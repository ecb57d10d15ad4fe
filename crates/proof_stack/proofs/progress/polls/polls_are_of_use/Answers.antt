use Rattle.proof_stack.proofs.Polls.Polled.{of_use, acts, acts_or_drops}
use Rattle.proof_stack.proofs.progress.polls.polls_are_of_use.Goals as goal

pub returns-clause-rests : goal.returns-clause-rests
returns-clause-rests g c t budget s s' some patient polls = of_use g.D.Device.moves t budget s s' some patient polls

pub returns-clause-acts : goal.returns-clause-acts
returns-clause-acts g c t budget s s' alone some patient due polls = acts g.D.Device.moves t budget s s' alone some patient due polls

pub returns-clause-drops : goal.returns-clause-drops
returns-clause-drops g c t budget s s' some patient due polls = acts_or_drops g.D.Device.moves t budget s s' some patient due polls
