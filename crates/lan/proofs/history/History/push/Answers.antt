use Rattle.std.proofs.Common.{◌∷◌, ◌∙◌, ap}
use Rattle.lan.specs.Worlds.EventHistory.{PastValue, entry}
use Rattle.lan.proofs.Worlds.Pasts.{pushed}
use Rattle.lan.proofs.history.History.push.Goals as goal

pub returns : goal.returns
returns c =
    rw (c.push_reserved.ensures.items, c.push_reserved-2.ensures.items, c.push_reserved-3.ensures.items) (
    pushed c.args.event c.args.note c.args.answer c.self.inside.events.items c.self.inside.notes.items c.self.inside.answers.items c.self.invariant
    ∙ ap (λ (p : PastValue). entry c.args.event c.args.note c.args.answer ∷ p.entries) c.self.view_is
    )
