use Rattle.lan.proofs.Worlds.Settles.{served_or_not, stops}
use Rattle.lan.proofs.world.World.serve_by.Goals as goal

pub returns-clause-goes : goal.returns-clause-goes
returns-clause-goes c = served_or_not c.args.self.now c.step.new.self c.args.event c.step.result c.requires c.step.ensures.step c.step.ensures.unchanged

pub returns-clause-refused : goal.returns-clause-refused
returns-clause-refused c = stops c.args.self.now c.step.new.self c.args.event c.step.result c.step.ensures.unchanged c.step.ensures.memory
