use Rattle.std.proofs.Common.{◌≡◌, ℕ, ◌-◌, Bool, List, length, ap, ◌∙◌}
use Rattle.std.specs.Prelude.{◌&&◌, nat_le, nat_lt}
use Rattle.iface_tables.specs.Parking.{has_room, total_len}
use Rattle.iface_tables.specs.declared.parking.ParkedHeader.{ParkedHeader}
use Rattle.iface_tables.proofs.Parked.{room_by, room_of_few, room_other}
use Rattle.iface_tables.proofs.parking.Parking.has_room.Goals as goal

pub returns-then-headers-lt-PARKING_PLACES : goal.returns-then-headers-lt-PARKING_PLACES
returns-then-headers-lt-PARKING_PLACES c =
    let s = c.self.inside in
    let n : ℕ = length c.as_slice-headers.result.now in
    let count : n ≡ length s.headers.items = ap (λ (hs : List ParkedHeader). length hs) c.as_slice-headers.ensures.value in
    let total : c.used-total.result ≡ total_len s.headers.items = c.used-total.ensures ∙ ap total_len c.as_slice-headers.ensures.value in
    let left : ℕ = length c.as_slice.result.now - c.args.len in
    let room : left ≡ length s.bytes.items - c.args.len = ap (λ (bs : List ℕ). length bs - c.args.len) c.as_slice.ensures.value in
    room_of_few n (nat_le c.used-total.result left) (has_room c.args.self.now.room c.args.len c.args.self.now.packets)
    (room_by s.headers.items s.bytes.items c.args.self.now n c.used-total.result left c.args.len c.self.view_is c.self.invariant.0 count total room
    c.requires) c.if-headers-lt-PARKING_PLACES.true

pub returns-else-headers-lt-PARKING_PLACES : goal.returns-else-headers-lt-PARKING_PLACES
returns-else-headers-lt-PARKING_PLACES c =
    let s = c.self.inside in
    let n : ℕ = length c.as_slice-headers.result.now in
    let count : n ≡ length s.headers.items = ap (λ (hs : List ParkedHeader). length hs) c.as_slice-headers.ensures.value in
    let total : c.used-total.result ≡ total_len s.headers.items = c.used-total.ensures ∙ ap total_len c.as_slice-headers.ensures.value in
    let left : ℕ = length c.as_slice.result.now - c.args.len in
    let room : left ≡ length s.bytes.items - c.args.len = ap (λ (bs : List ℕ). length bs - c.args.len) c.as_slice.ensures.value in
    room_other n (nat_le c.used-total.result left) (has_room c.args.self.now.room c.args.len c.args.self.now.packets)
    (room_by s.headers.items s.bytes.items c.args.self.now n c.used-total.result left c.args.len c.self.view_is c.self.invariant.0 count total room
    c.requires) c.if-headers-lt-PARKING_PLACES.false
