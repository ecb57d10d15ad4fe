use Rattle.std.proofs.Common.{◌≡◌, ◌-◌, drop, length}
use Rattle.std.specs.List.{fold}
use Rattle.interface.specs.BlackHoles.{paths_after, paths_of_all, with_paths}
use Rattle.interface.proofs.black_holes.check_busy.Given as goal

-- nothing but what is known of paths changed, and those from here on are left
abbrev pub invariant-loop-at : goal.invariant-loop-at
invariant-loop-at l = record {
  host : l.inner ≡ with_paths l.initial.inner l.inner.paths;
  left : paths_of_all l.initial.inner l.slots ≡ fold (paths_after l.initial.inner) l.inner.paths (drop l.from l.slots);
}

abbrev pub decreases-loop-at : goal.decreases-loop-at
decreases-loop-at l = length l.slots - l.from
