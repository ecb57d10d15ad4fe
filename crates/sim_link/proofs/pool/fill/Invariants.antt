use Rattle.std.proofs.Common.{◌≡◌, ◌+◌, ◌-◌, ◌≤◌, vec_len, vec_capacity}
use Rattle.sim_link.specs.Pool.{Pool}
use Rattle.sim_link.proofs.pool.fill.Given as goal

-- the offsets and the table of ready buffers were reserved before the loop
abbrev pub invariant-loop-ready : goal.invariant-loop-ready
invariant-loop-ready l = record {
  pool : Pool l.sent l.ready l.size;
  frames : l.sent.items ≡ l.initial.sent.items;
  offsets : vec_len l.sent + l.count ≤ vec_capacity l.sent;
  table : l.count ≤ vec_capacity l.ready;
  more : vec_len l.initial.ready ≤ vec_len l.ready;
  within : vec_len l.ready ≤ l.count;
}

abbrev pub decreases-loop-ready : goal.decreases-loop-ready
decreases-loop-ready l = l.count - vec_len l.ready
