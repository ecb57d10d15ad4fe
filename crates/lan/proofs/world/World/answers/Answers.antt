use Rattle.std.proofs.Common.{◌∙◌, ap}
use Rattle.lan.specs.Worlds.AtLink.Runs.{WorldValue, answers_of}
use Rattle.lan.proofs.world.World.answers.Goals as goal

pub returns : goal.returns
returns c = c.answers.ensures ∙ ap (λ (w : WorldValue). answers_of w.history) c.self.view_is
