use Rattle.proof_stack.proofs.Polls.BetweenPorts.{segment_between}
use Rattle.proof_stack.proofs.progress.segments.a_segment_arrives_between_ports.Goals as goal

pub returns : goal.returns
returns c = segment_between
