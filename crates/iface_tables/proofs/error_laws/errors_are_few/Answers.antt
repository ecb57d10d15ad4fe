use Rattle.iface_tables.proofs.ErrorLimit.{few_within, few_in_a_second}
use Rattle.iface_tables.proofs.error_laws.errors_are_few.Goals as goal

pub returns-clause-within : goal.returns-clause-within
returns-clause-within c = few_within

pub returns-clause-second : goal.returns-clause-second
returns-clause-second c = few_in_a_second
