use Rattle.base_buffer.proofs.Kept.{inserted}
use Rattle.base_buffer.proofs.assembler.insert.Goals as goal

pub returns : goal.returns
returns c =
    inserted c.args.ranges.now c.rotate_right.new.self c.args.position c.args.range c.requires c.rotate_right.ensures.after
