use Rattle.std.proofs.Common.{◌≡◌, ◌≤◌, take}
use Rattle.std.specs.List.{count_by}
use Rattle.interface.specs.Used.{is_used}
use Rattle.lan.proofs.at_link.event.socket_count.Given as goal

abbrev pub invariant-loop-slot : goal.invariant-loop-slot
invariant-loop-slot l = (l.count ≡ count_by is_used (take l.slot-index l.slots)) × (l.count ≤ l.slot-index)
