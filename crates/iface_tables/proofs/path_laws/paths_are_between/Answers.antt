use Rattle.iface_tables.proofs.PathMtu.{mtu_least, mtu_within}
use Rattle.iface_tables.proofs.path_laws.paths_are_between.Goals as goal

pub returns-clause-least : goal.returns-clause-least
returns-clause-least c = mtu_least

pub returns-clause-whole : goal.returns-clause-whole
returns-clause-whole c = mtu_within
