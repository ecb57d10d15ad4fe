use Rattle.std.specs.Vec.Iter.{into_iter_items}
use Rattle.tcp_pair.specs.Invariant.{HasRun}
use Rattle.tcp_pair.specs.States.{hosted}
use Rattle.tcp_pair.proofs.pair.Pair.run.Given as goal

abbrev pub invariant-loop-event : goal.invariant-loop-event
invariant-loop-event l = HasRun (hosted l.initial.self) l.fn.events.items l.offset (into_iter_items l.event-iterator) (hosted l.self)
