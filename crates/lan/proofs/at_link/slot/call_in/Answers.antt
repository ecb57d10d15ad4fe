use Rattle.std.proofs.Common.{◌≡◌, None}
use Rattle.lan.specs.Worlds.AtLink.Kinds.{kind_of}
use Rattle.lan.proofs.Worlds.AtLink.Called.{calls_none, keeps_slots}
use Rattle.lan.proofs.at_link.slot.call_in.Goals as goal

pub returns-in-None-clause-done : goal.returns-in-None-clause-done
returns-in-None-clause-done c =
    let is : c.slot_mut.result.now.inner ≡ None = cc in
    calls_none c.args.interface.now c.args.slots.now c.args.slot (kind_of c.args.event.now) c.slot_mut.result.now c.slot_mut.ensures.value is

pub returns-in-Some-clause-slots : goal.returns-in-Some-clause-slots
returns-in-Some-clause-slots c =
    keeps_slots c.call.result c.args.slots.now c.args.slot c.slot_mut.result.now c.in-Some.item c.call.new.socket c.slot_mut.ensures.value c.in-Some.is
    c.call.ensures.unchanged
