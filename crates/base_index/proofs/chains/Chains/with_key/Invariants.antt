use Rattle.std.proofs.Common.{length}
use Rattle.base_index.specs.Links.{bucket_of, buckets}
use Rattle.base_index.proofs.Walks.{IsSought, left_to_go}
use Rattle.base_index.proofs.chains.Chains.with_key.Given as goal

abbrev pub invariant-loop-link : goal.invariant-loop-link
invariant-loop-link l =
    IsSought l.keys (buckets (length l.self.first.items) l.keys) (bucket_of (length l.self.first.items) l.key) l.key l.fn.begin l.link

abbrev pub decreases-loop-link : goal.decreases-loop-link
decreases-loop-link l = left_to_go (length l.keys) l.link
