use Rattle.lan.proofs.Worlds.Hosts.Outcomes.{polls_once}
use Rattle.lan.proofs.host_laws.polls_have_one_end.Goals as goal

pub returns : goal.returns
returns c = polls_once c.one_offer.ensures
