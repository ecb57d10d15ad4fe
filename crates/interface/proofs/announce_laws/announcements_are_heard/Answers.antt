use Rattle.interface.proofs.Told.{heard_v4, heard_v6}
use Rattle.interface.proofs.announce_laws.announcements_are_heard.Goals as goal

pub returns-clause-ipv4 : goal.returns-clause-ipv4
returns-clause-ipv4 c = heard_v4

pub returns-clause-ipv6 : goal.returns-clause-ipv6
returns-clause-ipv6 c = heard_v6
