use Rattle.std.proofs.Common.{ap, ◌∙◌, ◌==◌, length}
use Rattle.sim_link.proofs.WordLemmas.{none_left}
use Rattle.sim_link.proofs.words.Words.is_empty.Goals as goal

pub returns : goal.returns
returns c = none_left _ _ _ c.is_none.ensures ∙ ap (λ words. length words == 0) c.self.view_is
