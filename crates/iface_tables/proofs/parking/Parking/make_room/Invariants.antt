use Rattle.std.proofs.Common.{◌≡◌, length}
use Rattle.iface_tables.specs.Parking.{with_room_for}
use Rattle.iface_tables.proofs.parking.Parking.make_room.Given as goal

abbrev pub invariant-loop-self : goal.invariant-loop-self
invariant-loop-self l = record {
  room : l.self.room ≡ l.initial.self.room;
  after : with_room_for l.self.room l.len l.self.packets ≡ with_room_for l.initial.self.room l.len l.initial.self.packets;
}

abbrev pub decreases-loop-self : goal.decreases-loop-self
decreases-loop-self l = length l.self.packets
