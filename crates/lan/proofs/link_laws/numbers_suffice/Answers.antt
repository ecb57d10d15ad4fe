use Rattle.lan.proofs.Worlds.Link.Sufficient.{numbers_grow, polled_few}
use Rattle.lan.proofs.link_laws.numbers_suffice.Goals as goal

pub returns-clause-polled : goal.returns-clause-polled
returns-clause-polled c =
    λ past e old new side t budget out out' leads is few most tied. polled_few past e old new side leads t budget is out out' few most tied

pub returns-clause-grows : goal.returns-clause-grows
returns-clause-grows c = numbers_grow
