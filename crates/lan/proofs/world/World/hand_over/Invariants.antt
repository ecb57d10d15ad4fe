use Rattle.std.specs.Prelude.{◌-◌, ◌≤◌}
use Rattle.lan.specs.Worlds.AtLink.Runs.{Steps}
use Rattle.lan.specs.Worlds.Settling.{Goes, deliveries}
use Rattle.lan.proofs.world.World.hand_over.Given as goal

abbrev pub invariant-loop-frame : goal.invariant-loop-frame
invariant-loop-frame l = record {
  goes : Goes l.initial.self l.self;
  handed : Steps l.initial.self (deliveries l.fn.side l.fn.from (l.frame - l.fn.from)) l.self;
  within : l.frame - l.fn.from ≤ l.fn.to - l.fn.from;
}
