use Rattle.iface_tables.proofs.ErrorLimit.{sixteen_again, never_seventeen}
use Rattle.iface_tables.proofs.error_laws.quiet_refills.Goals as goal

pub returns-clause-sixteen : goal.returns-clause-sixteen
returns-clause-sixteen c = sixteen_again

pub returns-clause-seventeen : goal.returns-clause-seventeen
returns-clause-seventeen c = never_seventeen
