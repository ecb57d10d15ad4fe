use Rattle.proof_stack.proofs.TurnPackets.{frame_in, frame_out}
use Rattle.proof_stack.proofs.peer_turns.frames_are_the_packet.Goals as goal

pub returns-clause-in_the_first : goal.returns-clause-in_the_first
returns-clause-in_the_first c = λ old new instant packet next turn ip payload b. frame_in old new instant packet next turn ip payload b

pub returns-clause-in_the_second : goal.returns-clause-in_the_second
returns-clause-in_the_second c = λ old new instant packet next turn ip payload b. frame_out old new instant packet next turn ip payload b
