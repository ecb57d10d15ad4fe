use Rattle.proof_stack.proofs.Polls.Segments.{arrives_then, settles}
use Rattle.proof_stack.proofs.progress.segments.a_segment_arrives.Goals as goal

pub returns-clause-goes : goal.returns-clause-goes
returns-clause-goes g c = settles g.D.Device.moves

pub returns-clause-comes : goal.returns-clause-comes
returns-clause-comes g c = arrives_then g.D.Device.moves g.E.Device.moves
