use Rattle.std.proofs.Common.{rules, arith, ◌<◌, ◌≡◌, length, slice_index_or}
use Rattle.std.proofs.lemmas.Grind.{common_steps}
use Rattle.interface.proofs.Backlog.Seen.{noted_step}
use Rattle.interface.proofs.listener.noting.note_all.Goals as goal

pub loop-i-preserved : goal.loop-i-preserved
loop-i-preserved c =
    let within : c.loop-i.i < length c.loop-i.entries.items = first_of (search rules, grind (arith, common_steps)) in
    let read : c.index_mut.result.now ≡ slice_index_or c.loop-i.entries.items c.loop-i.i c.index_mut.result.now =
    first_of (search rules, grind (arith, common_steps)) in
    noted_step c.loop-i.i c.args.endpoint c.args.now c.args.slots.now c.args.entries.now.items c.loop-i.slots c.loop-i.entries.items
    c.loop-i.invariant within c.note.new.slots c.note.new.entry c.index_mut.result.now read c.note.ensures
