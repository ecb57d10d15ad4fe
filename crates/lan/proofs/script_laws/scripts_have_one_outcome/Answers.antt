use Rattle.lan.specs.declared.session.Session.TheVariants.{Begun}
use Rattle.lan.specs.Events.{lines_of}
use Rattle.lan.proofs.Outcomes.{replays_once}
use Rattle.lan.proofs.script_laws.scripts_have_one_outcome.Goals as goal

pub returns : goal.returns
returns c script output other status last = replays_once c.one_outcome.ensures 1 Begun (lines_of script) output other status last
