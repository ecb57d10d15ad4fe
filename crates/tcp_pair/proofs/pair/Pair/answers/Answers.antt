use Rattle.std.proofs.Common.{◌∙◌, ap}
use Rattle.tcp_refinement.specs.Pair.History.{answers_of}
use Rattle.tcp_pair.specs.States.{PairState}
use Rattle.tcp_pair.proofs.Histories.{answers_kept}
use Rattle.tcp_pair.proofs.pair.Pair.answers.Goals as goal

pub returns : goal.returns
returns c =
    c.as_slice.ensures.value ∙ answers_kept c.self.inside.taken.items c.self.inside.answers.items c.self.invariant.as_many
    ∙ ap (λ (p : PairState). answers_of p.history) c.self.view_is
