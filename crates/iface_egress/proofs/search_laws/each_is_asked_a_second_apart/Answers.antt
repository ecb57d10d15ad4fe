use Rattle.iface_egress.proofs.Requested.{silent_after_request}
use Rattle.iface_egress.proofs.Stepping.{asked_late_for}
use Rattle.iface_egress.proofs.search_laws.each_is_asked_a_second_apart.Goals as goal

pub returns-clause-asked : goal.returns-clause-asked
returns-clause-asked c = asked_late_for

pub returns-clause-silence : goal.returns-clause-silence
returns-clause-silence c = silent_after_request
