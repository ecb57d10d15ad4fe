use Rattle.lan.proofs.Worlds.Reassembling.{damage_harmless}
use Rattle.lan.proofs.laws.damage_was_harmless.Goals as goal

pub returns : goal.returns
returns c = λ starts history hosts initial typed ran. damage_harmless starts initial history hosts typed ran
