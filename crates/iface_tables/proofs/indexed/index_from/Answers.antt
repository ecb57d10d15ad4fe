use Rattle.std.proofs.Common.{◌≤◌, ◌∙◌, length, arith}
use Rattle.iface_tables.proofs.Places.{as_long, one_more_key}
use Rattle.iface_tables.proofs.indexed.index_from.Goals as goal

pub loop-at-preserved : goal.loop-at-preserved
loop-at-preserved c =
    let room : length c.args.entries.now ≤ length c.loop-at.keys = omega (arith, c.requires.room, c.loop-at.invariant.1) in (
      one_more_key c.args.entries.now c.loop-at.keys c.note.new.self c.loop-at.at c.key_of.result c.index-entries-at.result c.note.result c.loop-at.invariant.0
          room c.loop-at-test.true c.index-entries-at.is c.key_of.ensures c.note.ensures.value c.note.ensures.within,
      as_long c.args.entries.now c.loop-at.keys c.note.new.self c.loop-at.at c.key_of.result c.index-entries-at.result c.note.result c.loop-at.invariant.0
          room c.loop-at-test.true c.index-entries-at.is c.key_of.ensures c.note.ensures.value c.note.ensures.within ∙ c.loop-at.invariant.1,
    )
