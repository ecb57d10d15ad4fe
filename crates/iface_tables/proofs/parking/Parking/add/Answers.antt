use Rattle.std.proofs.Common.{◌≡◌, ℕ, ◌+◌, ◌<◌, ◌≤◌, List, ◌∷◌, ◌++◌, [], length, take, drop, refl, sym, ap, subst, ◌∙◌, arith}
use Rattle.std.specs.Prelude.{All}
use Rattle.ip_wire.specs.Ip as Ips
use Rattle.ip_wire.specs.IpRepr.{IpRepr}
use Rattle.socket_context.specs.Packet.{packet_value, payload_written}
use Rattle.iface_tables.specs.Parking.{IsMeasured, ParkedValue, ParkingValue, parked_as, parked_values, total_len}
use Rattle.iface_tables.specs.declared.parking.ParkedHeader.{ParkedHeader}
use Rattle.iface_tables.proofs.Changed.{front_is}
use Rattle.iface_tables.proofs.Parked.{added_len, all_more, as_stands, put_last, room_left}
use Rattle.iface_tables.proofs.parking.Parking.add.Goals as goal

pub write_at-requires-clause-room : goal.write_at-requires-clause-room
write_at-requires-clause-room c =
    let s = c.self.inside in
    let total : c.used-start.result ≡ total_len s.headers.items = c.used-start.ensures ∙ ap total_len c.as_slice.ensures.value in
    let left = room_left s.headers.items s.bytes.items c.args.self.now c.args.len c.self.view_is c.self.invariant.0 c.requires.room in
    rw c.as_mut_slice.ensures.value (omega (arith, total, left.bytes_left, c.requires.len))

pub push_reserved-requires : goal.push_reserved-requires
push_reserved-requires c =
    let s = c.self.inside in
    let left = room_left s.headers.items s.bytes.items c.args.self.now c.args.len c.self.view_is c.self.invariant.0 c.requires.room in
    let some : 0 < length s.bytes.items = subst (λ (k : ParkingValue). 0 < k.room) (sym c.self.view_is) c.requires.some in
    omega (arith, left.places, c.self.invariant.1 some, s.headers.ok.0)

pub invariant_of-self : goal.invariant_of-self
invariant_of-self c =
    let s = c.self.inside in
    let h : ParkedHeader = record { hop = c.args.hop; header = c.ip_repr.result; len = c.args.len } in
    let left = room_left s.headers.items s.bytes.items c.args.self.now c.args.len c.self.view_is c.self.invariant.0 c.requires.room in
    let more : total_len c.push_reserved.new.self.items ≡ total_len s.headers.items + c.args.len =
    added_len s.headers.items c.push_reserved.new.self.items h c.push_reserved.ensures.items in
    let as_long : length c.write_at.new.bytes ≡ length s.bytes.items =
    c.write_at.ensures.len ∙ ap (λ (bs : List ℕ). length bs) c.as_mut_slice.ensures.value in
    rw (front_is c.write_at.new.bytes (drop (length c.write_at.new.bytes) s.bytes.items) s.bytes.len (c.write_at.ensures.len ∙ c.as_mut_slice.ensures.len)) (
      omega (arith, more, left.bytes_left, as_long),
      λ some. omega (arith, c.self.invariant.1 (omega (arith, as_long, some)), c.push_reserved.ensures.capacity),
      subst (All IsMeasured) (sym c.push_reserved.ensures.items)
          (all_more IsMeasured s.headers.items h c.self.invariant.2 (ap (λ (r : IpRepr). Ips.payload_len_of r) c.ip_repr.ensures ∙ c.requires.measured ∙ sym c.requires.len)),
      omega (arith, as_long, c.self.invariant.3),
    )

pub returns : goal.returns
returns c =
    let s = c.self.inside in
    let h : ParkedHeader = record { hop = c.args.hop; header = c.ip_repr.result; len = c.args.len } in
    let p : ParkedValue = parked_as c.args.checksums.now c.args.hop (packet_value c.args.packet.now) in
    let total : c.used-start.result ≡ total_len s.headers.items = c.used-start.ensures ∙ ap total_len c.as_slice.ensures.value in
    let as_long : length c.write_at.new.bytes ≡ length s.bytes.items =
    c.write_at.ensures.len ∙ ap (λ (bs : List ℕ). length bs) c.as_mut_slice.ensures.value in
    let before : take (total_len s.headers.items) c.write_at.new.bytes ≡ take (total_len s.headers.items) s.bytes.items =
    rw c.as_mut_slice.ensures.value at (rw total at c.write_at.ensures.before) in
    let written : take c.args.len (drop (total_len s.headers.items) c.write_at.new.bytes) ≡ p.payload =
    ap (λ (n : ℕ). take n (drop (total_len s.headers.items) c.write_at.new.bytes)) c.requires.len ∙ rw total at c.write_at.ensures.written in
    ap (λ (bs : List ℕ). as_stands c.push_reserved.new.self.items bs)
    (front_is c.write_at.new.bytes (drop (length c.write_at.new.bytes) s.bytes.items) s.bytes.len (c.write_at.ensures.len ∙ c.as_mut_slice.ensures.len))
    ∙ put_last s.headers.items c.push_reserved.new.self.items s.bytes.items c.write_at.new.bytes c.args.self.now p h c.self.view_is
    c.push_reserved.ensures.items before refl c.ip_repr.ensures written as_long
