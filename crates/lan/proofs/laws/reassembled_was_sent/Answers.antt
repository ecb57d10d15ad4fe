use Rattle.lan.proofs.Worlds.Reassembling.{reassembled_by_turns}
use Rattle.lan.proofs.laws.reassembled_was_sent.Goals as goal

pub returns : goal.returns
returns c = λ starts history hosts initial typed ran a b. reassembled_by_turns starts initial history hosts typed ran a b
