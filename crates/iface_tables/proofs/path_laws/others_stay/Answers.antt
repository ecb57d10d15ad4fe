use Rattle.iface_tables.proofs.PathMtu.{others, known, lowered_few}
use Rattle.iface_tables.proofs.path_laws.others_stay.Goals as goal

pub returns-clause-others : goal.returns-clause-others
returns-clause-others c = others

pub returns-clause-known : goal.returns-clause-known
returns-clause-known c = known

pub returns-clause-few : goal.returns-clause-few
returns-clause-few c = lowered_few
