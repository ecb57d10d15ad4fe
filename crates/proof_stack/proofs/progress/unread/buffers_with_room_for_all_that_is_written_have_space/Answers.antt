use Rattle.proof_stack.proofs.EventRoomy.{space_throughout}
use Rattle.proof_stack.proofs.progress.unread.buffers_with_room_for_all_that_is_written_have_space.Goals as goal

pub returns : goal.returns
returns c = λ starts past more hosts still slots side initial typed peer_sides room.
    space_throughout starts initial slots side past more hosts still typed peer_sides room
