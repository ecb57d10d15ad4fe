use Rattle.tcp_refinement.proofs.PairLaws.{kept_after, new_is_kept}
use Rattle.tcp_refinement.proofs.pair.laws.pairs_keep_the_invariant.Goals as goal

pub returns : goal.returns
returns c = record { new = new_is_kept; step = kept_after }
