use Rattle.proof_stack.proofs.Polls.SegmentPolls.{comes_when_next, comes_where_it_waits}
use Rattle.proof_stack.proofs.progress.segments.a_segment_that_waits_comes.Goals as goal

pub returns-clause-connected : goal.returns-clause-connected
returns-clause-connected g c = comes_where_it_waits g.E.Device.moves

pub returns-clause-awaited : goal.returns-clause-awaited
returns-clause-awaited g c = comes_when_next g.E.Device.moves
