use Rattle.iface_ingress.specs.Arrives.{Answers}
use Rattle.lan.proofs.Worlds.Moves.Offering.{some_so}
use Rattle.lan.proofs.Worlds.Moves.Wide.{CanBeWide, brings_wide, offered_wide}
use Rattle.lan.proofs.move_laws.packets_can_be_read.Goals as goal

pub returns-clause-offered : goal.returns-clause-offered
returns-clause-offered c = offered_wide

pub returns-clause-answered : goal.returns-clause-answered
returns-clause-answered c i slots content a p brings is = some_so a.reply CanBeWide (Answers p) is (brings_wide i slots content a brings)
