use Rattle.std.proofs.Common.{◌≡◌, ◌-◌, false, [], drop, length, take}
use Rattle.interface.specs.Host.{sender}
use Rattle.interface.specs.Pass.{Pass, Passed}
use Rattle.interface.proofs.round.pass.Given as goal

abbrev pub invariant-loop-at : goal.invariant-loop-at
invariant-loop-at g l = record {
  pass : (e : Passed _) → Pass g.D.Device.moves l.turn (sender l.device l.inner l.fragmenter) (take l.from l.slots) l.changed (drop l.from l.slots) e
      → Pass g.D.Device.moves l.turn (sender l.initial.device l.initial.inner l.initial.fragmenter) [] false l.initial.slots e;
  capabilities : g.D.Device.described l.device ≡ g.D.Device.described l.initial.device;
}

abbrev pub decreases-loop-at : goal.decreases-loop-at
decreases-loop-at g l = length l.slots - l.from
