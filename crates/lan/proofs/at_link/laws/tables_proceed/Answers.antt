use Rattle.lan.proofs.Worlds.AtLink.Growing.{tables_proceed}
use Rattle.lan.proofs.at_link.laws.tables_proceed.Goals as goal

pub returns : goal.returns
returns c = tables_proceed
