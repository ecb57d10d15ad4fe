use Rattle.lan.proofs.Worlds.Runs.{runs_safe}
use Rattle.lan.proofs.laws.worlds_are_safe.Goals as goal

pub returns : goal.returns
returns c = λ starts history hosts initial typed ran. runs_safe starts initial history hosts typed ran
