use Rattle.lan.proofs.Worlds.Reassembling.{reassembled_made}
use Rattle.lan.proofs.laws.reassembled_was_made.Goals as goal

pub returns : goal.returns
returns c = λ starts history hosts initial typed ran. reassembled_made starts initial history hosts typed ran
