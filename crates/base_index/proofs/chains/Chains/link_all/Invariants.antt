use Rattle.std.proofs.Common.{◌≡◌, ◌≤◌, length}
use Rattle.base_index.specs.Links.{AreLinkedFrom, buckets}
use Rattle.base_index.proofs.chains.Chains.link_all.Given as goal

abbrev pub invariant-loop-from : goal.invariant-loop-from
invariant-loop-from l =
    AreLinkedFrom l.from (buckets (length l.self.first.items) l.keys) l.self.first.items l.self.links.items
    × (length l.self.first.items ≡ length l.fn.self.first.items) × (l.from ≤ length l.keys)

abbrev pub decreases-loop-from : goal.decreases-loop-from
decreases-loop-from l = l.from
