use Rattle.std.proofs.Common.{rules, arith, refl, ◌+◌, ◌%◌}
use Rattle.std.proofs.lemmas.Grind.{common_steps}
use Rattle.app_tun_services.proofs.Megabyte.{pattern_more}
use Rattle.app_tun_services.proofs.site.fill.Goals as goal

-- a byte more
pub loop-i-preserved : goal.loop-i-preserved
loop-i-preserved c = (
  first_of (search rules, grind (arith, common_steps)),
  pattern_more c.args.from c.loop-i.i (33 + (c.args.from + c.loop-i.i) % 94) c.loop-i.piece (omega arith) c.loop-i.invariant.1 refl,
)
