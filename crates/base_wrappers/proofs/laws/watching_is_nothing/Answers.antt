use Rattle.base_wrappers.proofs.Captures.{folds_on}
use Rattle.base_wrappers.proofs.laws.watching_is_nothing.Goals as goal

pub returns : goal.returns
returns g c moves old new run = folds_on _ g.D.Device.moves (λ w. w.inner) (λ a m b met. met.0) moves old new run
