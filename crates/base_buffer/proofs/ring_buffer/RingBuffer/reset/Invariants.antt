use Rattle.std.proofs.Common.{◌≡◌, ◌++◌, take, drop}
use Rattle.std.specs.Prelude.{map}
use Rattle.base_buffer.proofs.ring_buffer.RingBuffer.reset.Given as goal

abbrev pub invariant-loop-position : goal.invariant-loop-position
invariant-loop-position g l = record {
  done : l.self-inside.storage.items ≡ map g.T.Resettable.reset_to (take l.position l.initial.self-inside.storage.items) ++
      drop l.position l.initial.self-inside.storage.items;
  start : l.self-inside.read_at ≡ 0;
  count : l.self-inside.length ≡ 0;
}
