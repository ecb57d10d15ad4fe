use Rattle.iface_tables.proofs.Places.{one_more}
use Rattle.iface_tables.proofs.indexed.index_for.Goals as goal

pub loop-at-preserved : goal.loop-at-preserved
loop-at-preserved c =
    one_more c.note.result c.loop-at.keys c.note.new.self c.loop-at.at c.loop-at.at c.note.ensures.value c.if-not-note.false c.loop-at.invariant
