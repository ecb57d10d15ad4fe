use Rattle.std.proofs.Common.{◌∙◌, arith}
use Rattle.lan.proofs.Worlds.Settles.{proceeds, handed_on}
use Rattle.lan.proofs.world.World.hand_over.Goals as goal

pub returns-in_err-serve_by-clause-goes : goal.returns-in_err-serve_by-clause-goes
returns-in_err-serve_by-clause-goes c =
    proceeds c.args.self.now c.loop-frame.self c.serve_by.new.self c.loop-frame.invariant.goes c.serve_by.ensures.goes

pub loop-frame-preserved : goal.loop-frame-preserved
loop-frame-preserved c = record {
  goes = proceeds c.args.self.now c.loop-frame.self c.serve_by.new.self c.loop-frame.invariant.goes c.serve_by.ensures.goes;
  handed = handed_on c.args.self.now c.loop-frame.self c.serve_by.new.self c.args.side c.args.from c.loop-frame.frame c.from_vec-padding.result
      c.in_ok-serve_by.field-0 c.loop-frame.auto.frame (c.from_vec-padding.ensures ∙ c.new.ensures.items) c.loop-frame.invariant.handed
      c.in_ok-serve_by.ensures.step;
  within = omega arith;
}
