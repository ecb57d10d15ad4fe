use Rattle.proof_stack.proofs.Polls.Segments.{goes, proceeds_the_way}
use Rattle.proof_stack.proofs.progress.segments.offered_segments_go.Goals as goal

pub returns-clause-at_once : goal.returns-clause-at_once
returns-clause-at_once g c = goes g.D.Device.moves

pub returns-clause-egress : goal.returns-clause-egress
returns-clause-egress g c = proceeds_the_way g.D.Device.moves
