use Rattle.std.proofs.Common.{◌∙◌, ap}
use Rattle.lan.specs.Worlds.AtLink.Runs.{answers_of}
use Rattle.lan.specs.Worlds.EventHistory.{PastValue}
use Rattle.lan.proofs.Worlds.Pasts.{answers_kept}
use Rattle.lan.proofs.history.History.answers.Goals as goal

pub returns : goal.returns
returns c =
    c.as_slice.ensures.value ∙ answers_kept c.self.inside.events.items c.self.inside.notes.items c.self.inside.answers.items c.self.invariant
    ∙ ap (λ (p : PastValue). answers_of p.entries) c.self.view_is
