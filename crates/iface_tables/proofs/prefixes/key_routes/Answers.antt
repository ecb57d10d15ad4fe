use Rattle.std.proofs.Common.{◌≤◌, ◌∙◌, length, arith}
use Rattle.iface_tables.proofs.ByPrefix.{as_long, one_more_key}
use Rattle.iface_tables.proofs.prefixes.key_routes.Goals as goal

pub loop-at-preserved : goal.loop-at-preserved
loop-at-preserved c =
    let room : length c.args.routes.now ≤ length c.loop-at.keys = omega (arith, c.requires, c.loop-at.invariant.1) in (
      one_more_key c.args.routes.now c.loop-at.keys c.note.new.self c.loop-at.at c.route_key.result c.index-routes-at.result c.note.result c.loop-at.invariant.0
          room c.loop-at-test.true c.index-routes-at.is c.route_key.ensures c.note.ensures.value c.note.ensures.within,
      as_long c.args.routes.now c.loop-at.keys c.note.new.self c.loop-at.at c.route_key.result c.index-routes-at.result c.note.result c.loop-at.invariant.0
          room c.loop-at-test.true c.index-routes-at.is c.route_key.ensures c.note.ensures.value c.note.ensures.within ∙ c.loop-at.invariant.1,
    )
