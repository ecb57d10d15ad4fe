use Rattle.std.proofs.Common.{◌≡◌, ◌≤◌, ℕ, take}
use Rattle.std.specs.List.{count_by}
use Rattle.std.specs.Global.{Vec}
use Rattle.lan.specs.Worlds.AtLink.Origins.{begins_datagram}
use Rattle.lan.proofs.at_link.records.datagrams.Given as goal

abbrev pub invariant-loop-frame : goal.invariant-loop-frame
invariant-loop-frame l = (l.count ≡ count_by (λ (x : Vec ℕ). begins_datagram l.medium x.items) (take l.frame-index l.frames)) × (l.count ≤ l.frame-index)
