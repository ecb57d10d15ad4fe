use Rattle.lan.proofs.Worlds.Hosts.Harmless.{harmless, damage_stays}
use Rattle.lan.proofs.host_laws.damage_is_harmless.Goals as goal

pub returns-clause-frame : goal.returns-clause-frame
returns-clause-frame c = harmless

pub returns-clause-history : goal.returns-clause-history
returns-clause-history c = damage_stays
