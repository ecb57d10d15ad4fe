use Rattle.std.proofs.Common.{rules, arith, ◌<◌, ◌≡◌, length, slice_index_or}
use Rattle.std.proofs.lemmas.Grind.{common_steps}
use Rattle.interface.specs.Backlog.Calls.{given_back}
use Rattle.interface.proofs.Backlog.Back.{back_step}
use Rattle.interface.proofs.listener.give_back_all.Goals as goal

pub loop-i-preserved : goal.loop-i-preserved
loop-i-preserved c =
    let within : c.loop-i.i < length c.args.entries.now.items = first_of (search rules, grind (arith, common_steps)) in
    let read : c.index_mut.result.now ≡ slice_index_or c.loop-i.entries.items c.loop-i.i c.index_mut.result.now =
    first_of (search rules, grind (arith, common_steps)) in
    back_step (given_back c.args.handle) c.args.entries.now.items c.loop-i.entries.items c.loop-i.i c.index_mut.result.now c.give_back_entry.new.entry within
    c.loop-i.invariant read c.give_back_entry.ensures
