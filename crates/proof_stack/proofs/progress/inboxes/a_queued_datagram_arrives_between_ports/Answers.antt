use Rattle.proof_stack.proofs.Polls.BetweenPorts.{arrives_between}
use Rattle.proof_stack.proofs.progress.inboxes.a_queued_datagram_arrives_between_ports.Goals as goal

pub returns : goal.returns
returns c = arrives_between
