use Rattle.iface_groups.proofs.Queriers.{first_counts, second_counts, none_counts}
use Rattle.iface_groups.proofs.laws.an_older_querier_counts_for_a_while.Goals as goal

pub returns : goal.returns
returns c = record { first = first_counts; second = second_counts; over = none_counts }
