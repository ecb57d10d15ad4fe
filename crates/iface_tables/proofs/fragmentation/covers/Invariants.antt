use Rattle.std.proofs.Common.{◌≡◌}
use Rattle.iface_tables.specs.Reassembly.{covers}
use Rattle.iface_tables.proofs.fragmentation.covers.Given as goal

-- it is one of the runs to come
abbrev pub invariant-loop-first : goal.invariant-loop-first
invariant-loop-first g l =
    (goal.iterator-loop-first g).can_next l.first-iterator ×
    (goal.iterator-loop-first g).is_finite l.first-iterator ×
    (covers l.held l.start l.end ≡ covers l.first-iterator l.start l.end)
