use Rattle.std.proofs.Common.{List, ℕ, subst, sym, arith}
use Rattle.iface_tables.proofs.ByPrefix.{AreFrom, one_more_length, no_more_lengths}
use Rattle.iface_tables.proofs.prefixes.lengths_of.Goals as goal

pub loop-longest-preserved : goal.loop-longest-preserved
loop-longest-preserved c = (
  subst (λ (xs : List ℕ). AreFrom c.in-Some.longest c.args.routes.now xs) (sym c.push.ensures.items)
      (one_more_length c.args.routes.now c.loop-longest.bound c.loop-longest.lengths.items c.loop-longest.invariant.0 c.in-Some.longest c.longest_below.result
      c.in-Some.is c.longest_below.ensures),
  omega (arith, c.push.ensures.len, c.loop-longest.invariant.1, c.in-Some.ensures.0),
)

pub returns : goal.returns
returns c =
    no_more_lengths c.args.routes.now c.loop-longest.bound c.loop-longest.lengths.items c.loop-longest.invariant.0 c.longest_below.result c.in_default.is
    c.longest_below.ensures
