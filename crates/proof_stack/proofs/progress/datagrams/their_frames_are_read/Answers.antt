use Rattle.proof_stack.proofs.Polls.Readers.{is_read, finds}
use Rattle.proof_stack.proofs.progress.datagrams.their_frames_are_read.Goals as goal

pub returns-clause-packet : goal.returns-clause-packet
returns-clause-packet c = is_read

pub returns-clause-datagram : goal.returns-clause-datagram
returns-clause-datagram c = finds
