use Rattle.lan.proofs.Worlds.Settles.{proceeds}
use Rattle.lan.proofs.world.World.next_round.Goals as goal

pub returns-in_err-b-clause-goes : goal.returns-in_err-b-clause-goes
returns-in_err-b-clause-goes c = proceeds c.args.self.now c.ask.new.self c.ask-2.new.self c.ask.ensures.goes c.ask-2.ensures.goes

pub returns-clause-goes : goal.returns-clause-goes
returns-clause-goes c = proceeds c.args.self.now c.ask.new.self c.ask-2.new.self c.ask.ensures.goes c.ask-2.ensures.goes
