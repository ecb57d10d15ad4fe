use Rattle.proof_stack.proofs.Polls.SegmentPolls.{arrives_in_a_poll}
use Rattle.proof_stack.proofs.progress.segments.a_segment_arrives_while_there_is_leave.Goals as goal

pub returns : goal.returns
returns g c = arrives_in_a_poll g.D.Device.moves g.E.Device.moves
