use Rattle.tcp_refinement.proofs.PairLaws.{kept_is_safe}
use Rattle.tcp_refinement.proofs.pair.laws.kept_pairs_are_safe.Goals as goal

pub returns : goal.returns
returns c = record { safe = kept_is_safe }
