use Rattle.proof_stack.proofs.Settled.{arrived}
use Rattle.proof_stack.proofs.progress.settled.what_waits_for_nothing_has_arrived.Goals as goal

pub returns : goal.returns
returns c = λ starts history hosts slots news side v w mtu initial typed still new keys text peer_sides here there connected none.
    arrived starts history hosts slots news initial typed still new keys text peer_sides side v w mtu here there connected none
