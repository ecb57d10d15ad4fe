use Rattle.lan.proofs.Worlds.StillOnward.{ran}
use Rattle.proof_stack.proofs.progress.settled.what_has_settled_has_arrived.Goals as goal

pub returns : goal.returns
returns c = λ starts history hosts slots news side v w instant initial typed still new keys text peer_sides here there connected rest.
    let (mtu, none) = c.sockets_of_hosts_idle_want_nothing.ensures starts history hosts instant side (slots side) v (ran starts history hosts still) rest here in
    c.what_waits_for_nothing_has_arrived.ensures starts history hosts slots news side v w mtu initial typed still new keys text peer_sides here there connected none
