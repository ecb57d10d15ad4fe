use Rattle.lan.proofs.Worlds.Settles.{proceeds}
use Rattle.lan.proofs.world.World.serve.Goals as goal

pub returns-in_err-hand_over-clause-goes : goal.returns-in_err-hand_over-clause-goes
returns-in_err-hand_over-clause-goes c =
    proceeds c.args.self.now c.serve_by.new.self c.hand_over.new.self c.serve_by.ensures.goes c.hand_over.ensures.goes

pub returns-clause-goes : goal.returns-clause-goes
returns-clause-goes c = proceeds c.args.self.now c.serve_by.new.self c.hand_over.new.self c.serve_by.ensures.goes c.hand_over.ensures.goes
