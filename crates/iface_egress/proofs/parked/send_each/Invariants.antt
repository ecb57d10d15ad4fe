use Rattle.std.proofs.Common.{◌≡◌, ◌-◌, ◌≤◌, Bool, List, [], length, take, drop}
use Rattle.iface_tables.specs.Parking.{ParkedValue}
use Rattle.iface_egress.specs.Parked.{ServesEach}
use Rattle.iface_egress.specs.Sender.{Sender, sender}
use Rattle.iface_egress.proofs.parked.send_each.Given as goal

-- what becomes of those from here on is what becomes of all
abbrev pub invariant-loop-at : goal.invariant-loop-at
invariant-loop-at g l = record {
  within : l.at ≤ length l.parking.packets;
  room : l.parking.room ≡ l.initial.parking.room;
  serves : (all : Bool) (x : Sender _) (left : List ParkedValue)
      → ServesEach g.D.Device.moves (drop l.at l.parking.packets) (take l.at l.parking.packets) (sender l.device l.inner l.fragmenter) all x left
      → ServesEach g.D.Device.moves l.initial.parking.packets [] (sender l.initial.device l.initial.inner l.initial.fragmenter) all x left;
  capabilities : g.D.Device.described l.device ≡ g.D.Device.described l.initial.device;
}

abbrev pub decreases-loop-at : goal.decreases-loop-at
decreases-loop-at g l = length l.parking.packets - l.at
