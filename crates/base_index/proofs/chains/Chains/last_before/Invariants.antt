use Rattle.std.proofs.Common.{length}
use Rattle.base_index.specs.Links.{buckets}
use Rattle.base_index.proofs.Walks.{IsReached, left_to_go}
use Rattle.base_index.proofs.chains.Chains.last_before.Given as goal

abbrev pub invariant-loop-link : goal.invariant-loop-link
invariant-loop-link l = IsReached (buckets (length l.self.first.items) l.keys) l.bucket l.at l.last l.link

abbrev pub decreases-loop-link : goal.decreases-loop-link
decreases-loop-link l = left_to_go (length l.keys) l.link
