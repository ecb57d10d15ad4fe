use Rattle.std.proofs.Common.{◌∙◌}
use Rattle.lan.proofs.Worlds.Goings.{agrees}
use Rattle.lan.proofs.world.World.refusal.Goals as goal

pub returns : goal.returns
returns c =
    c.refusal_of.ensures
    ∙ agrees c.self.inside.start_a.value c.self.inside.start_b.value c.self.inside.a c.self.inside.b c.self.inside.records_a c.self.inside.records_b
    c.self.inside.history.entries
    c.args.event.now c.args.self.now c.self.invariant c.self.view_is
