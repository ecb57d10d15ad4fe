use Rattle.std.proofs.Common.{subst}
use Rattle.lan.specs.Worlds.Promises.{IsSafeWorld}
use Rattle.lan.proofs.Worlds.Promises.{well_run}
use Rattle.lan.proofs.world.World.well_run.Goals as goal

pub returns : goal.returns
returns c =
    subst IsSafeWorld c.self.view_is
    (well_run c.self.inside.start_a.value c.self.inside.start_b.value c.self.inside.a c.self.inside.b c.self.inside.records_a c.self.inside.records_b
    c.self.inside.history.entries c.hosts_run.ensures c.requests_are_apart.ensures c.polls_are_quiet.ensures c.worlds_are_safe.ensures
    c.reassembled_was_made.ensures c.reassembled_was_sent.ensures c.damage_was_harmless.ensures c.frames_are_apart.ensures c.self.invariant)
