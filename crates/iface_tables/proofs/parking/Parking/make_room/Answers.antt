use Rattle.std.proofs.Common.{◌≡◌, ℕ, ◌+◌, ◌<◌, true, false, length, sym, ap, ◌∙◌, arith}
use Rattle.iface_tables.specs.Parking.{ParkingValue, has_room, is_holdable, with_room_for}
use Rattle.iface_tables.proofs.Parked.{oldest_goes, room_there, same_parking}
use Rattle.iface_tables.proofs.parking.Parking.make_room.Goals as goal

pub loop-self-preserved : goal.loop-self-preserved
loop-self-preserved c =
    let k : ParkingValue = c.loop-self.self in
    let holds : is_holdable k.room c.args.len ≡ true = ap (λ (n : ℕ). is_holdable n c.args.len) c.loop-self.invariant.room ∙ c.requires in
    let none : has_room k.room c.args.len k.packets ≡ false = sym c.has_room.ensures ∙ c.loop-self-test.true in
    let goes = oldest_goes k.room c.args.len k.packets holds none in
    record {
      room = ap (λ (k : ParkingValue). k.room) c.remove.ensures ∙ c.loop-self.invariant.room;
      after = ap (λ (k : ParkingValue). with_room_for k.room c.args.len k.packets) c.remove.ensures ∙ goes.same ∙ c.loop-self.invariant.after;
    }

pub loop-self-smaller : goal.loop-self-smaller
loop-self-smaller c =
    let k : ParkingValue = c.loop-self.self in
    let holds : is_holdable k.room c.args.len ≡ true = ap (λ (n : ℕ). is_holdable n c.args.len) c.loop-self.invariant.room ∙ c.requires in
    let none : has_room k.room c.args.len k.packets ≡ false = sym c.has_room.ensures ∙ c.loop-self-test.true in
    let goes = oldest_goes k.room c.args.len k.packets holds none in
    let left : length c.remove.new.self.packets + 1 ≡ length k.packets = ap (λ (k : ParkingValue). length k.packets + 1) c.remove.ensures ∙ goes.fewer in
    let less : length c.remove.new.self.packets < length k.packets = omega (arith, left) in
    less

pub remove-requires : goal.remove-requires
remove-requires c =
    let k : ParkingValue = c.loop-self.self in
    let holds : is_holdable k.room c.args.len ≡ true = ap (λ (n : ℕ). is_holdable n c.args.len) c.loop-self.invariant.room ∙ c.requires in
    let none : has_room k.room c.args.len k.packets ≡ false = sym c.has_room.ensures ∙ c.loop-self-test.true in
    (oldest_goes k.room c.args.len k.packets holds none).some

pub returns-clause-after : goal.returns-clause-after
returns-clause-after c =
    let k : ParkingValue = c.loop-self.self in
    let old : ParkingValue = c.args.self.now in
    let has : has_room k.room c.args.len k.packets ≡ true = sym c.has_room.ensures ∙ c.loop-self-test.false in
    same_parking k (record old { packets = with_room_for old.room c.args.len old.packets })
    (sym (room_there k.room c.args.len k.packets has) ∙ c.loop-self.invariant.after) c.loop-self.invariant.room
