use Rattle.std.proofs.Common.{◌≡◌, ◌≤◌, ◌+◌, ◌-◌, ◌*◌, ◌^◌}
use Rattle.tcp_state.specs.Cubic.{rooted, cube_root}
use Rattle.tcp_state.proofs.cubic.cube_root.Given as goal

-- the steps that are left find of the root what all of them find of none
abbrev pub invariant-loop-at : goal.invariant-loop-at
invariant-loop-at l = (rooted (21 - l.at) l.step l.n l.root ≡ cube_root l.n) × (l.root + 2 * l.step ≤ 2 ^ 21)
