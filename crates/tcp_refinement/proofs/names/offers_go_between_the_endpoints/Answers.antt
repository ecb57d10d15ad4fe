use Rattle.tcp_refinement.proofs.NameLaws.{offer_between_ends}
use Rattle.tcp_refinement.proofs.names.offers_go_between_the_endpoints.Goals as goal

pub returns-clause-offered : goal.returns-clause-offered
returns-clause-offered c = offer_between_ends
