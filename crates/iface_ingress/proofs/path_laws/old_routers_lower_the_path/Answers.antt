use Rattle.std.proofs.Common.{refl}
use Rattle.iface_ingress.proofs.PathTold.{plateau_lower}
use Rattle.iface_ingress.proofs.path_laws.old_routers_lower_the_path.Goals as goal

pub returns-clause-lower : goal.returns-clause-lower
returns-clause-lower c = plateau_lower

pub returns-clause-ethernet : goal.returns-clause-ethernet
returns-clause-ethernet c = refl

pub returns-clause-again : goal.returns-clause-again
returns-clause-again c = refl

pub returns-clause-lowest : goal.returns-clause-lowest
returns-clause-lowest c = refl
