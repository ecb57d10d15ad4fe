use Rattle.std.proofs.Common.{rules, ◌≡◌, ◌<◌, length, None, Some, refl}
use Rattle.std.specs.Fn.{FnOnceReturnsAtMut}
use Rattle.iface_egress.proofs.Updated.{updates-some, updates-none}
use Rattle.iface_egress.proofs.socket_set.update_in.Goals as goal

pub returns-in-Some : goal.returns-in-Some
returns-in-Some g c =
    let is : c.slot_mut.result.now.inner ≡ Some c.in-Some.item = cc in
    let called : FnOnceReturnsAtMut g.F.FnOnce c.args.f c.in-Some.item.socket c.f.result c.f.new.arg2 = search rules in
    updates-some (FnOnceReturnsAtMut g.F.FnOnce c.args.f) c.args.slots.now c.args.at c.slot_mut.result.now c.in-Some.item c.f.result c.f.new.arg2
    c.slot_mut.ensures.value is called

pub returns-in-None : goal.returns-in-None
returns-in-None g c =
    let is : c.slot_mut.result.now.inner ≡ None = cc in
    updates-none (FnOnceReturnsAtMut g.F.FnOnce c.args.f) c.args.slots.now c.args.at c.slot_mut.result.now c.slot_mut.ensures.value is
