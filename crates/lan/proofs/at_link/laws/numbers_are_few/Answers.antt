use Rattle.lan.proofs.Worlds.AtLink.Growing.{numbers_few}
use Rattle.lan.proofs.at_link.laws.numbers_are_few.Goals as goal

pub returns : goal.returns
returns c = numbers_few
