use Rattle.tcp_invariants.proofs.BeginRules.{patience_empty, patience_outside}
use Rattle.tcp_invariants.proofs.reordering.patience_rises_only_where_something_was_held.Goals as goal

pub returns : goal.returns
returns c = record { empty = patience_empty; outside = patience_outside }
