use Rattle.iface_tables.proofs.PathMtu.{counts, forgotten, never_up, nothing_else}
use Rattle.iface_tables.proofs.path_laws.news_counts_ten_minutes.Goals as goal

pub returns-clause-counts : goal.returns-clause-counts
returns-clause-counts c = counts

pub returns-clause-forgotten : goal.returns-clause-forgotten
returns-clause-forgotten c = forgotten

pub returns-clause-never_up : goal.returns-clause-never_up
returns-clause-never_up c = never_up

pub returns-clause-nothing_else : goal.returns-clause-nothing_else
returns-clause-nothing_else c = nothing_else
