use Rattle.std.specs.Vec.Iter.{into_iter_items}
use Rattle.lan.proofs.Worlds.Running.{HasRun}
use Rattle.lan.proofs.world.World.step_all.Given as goal

abbrev pub invariant-loop-event : goal.invariant-loop-event
invariant-loop-event l = HasRun l.initial.self l.fn.events.items l.slot (into_iter_items l.event-iterator) l.self
