use Rattle.std.proofs.Common.{◌∙◌, sym, arith, get_or}
use Rattle.std.proofs.lemmas.Option.{slice_get-get_or}
use Rattle.iface_tables.proofs.ByPrefix.{found_by, none_by, none_at_all}
use Rattle.iface_tables.proofs.prefixes.best_by_prefix.Goals as goal

pub returns-then-is_some : goal.returns-then-is_some
returns-then-is_some c =
    found_by c.args.routes.now c.args.lengths.now c.args.address.now c.args.timestamp c.requires.lengths c.loop-i.i (get_or c.args.lengths.now c.loop-i.i 0)
    c.loop-i.invariant (slice_get-get_or c.args.lengths.now c.loop-i.i 0 c.loop-i-test.true) c.last_by-found.result
    (sym c.is_some.ensures ∙ c.if-is_some.true) c.last_by-found.ensures

pub loop-i-preserved : goal.loop-i-preserved
loop-i-preserved c =
    none_by c.args.routes.now c.args.lengths.now c.args.address.now c.args.timestamp c.requires.lengths c.loop-i.i (get_or c.args.lengths.now c.loop-i.i 0)
    c.loop-i.invariant (slice_get-get_or c.args.lengths.now c.loop-i.i 0 c.loop-i-test.true) c.last_by-found.result
    (sym c.is_some.ensures ∙ c.if-is_some.false) c.last_by-found.ensures

pub returns : goal.returns
returns c =
    none_at_all c.args.routes.now c.args.lengths.now c.args.address.now c.args.timestamp c.requires.lengths c.loop-i.i (omega (arith, c.loop-i-test.false))
    c.loop-i.invariant
