-- Packets that wait for their next hops have the bytes that their headers say.
use Rattle.std.proofs.Common.{ℕ, zero, suc, Bool, true, false, if◌then◌else◌, inl, inr, List, [], ◌∷◌, ◌++◌, drop, take, Option, Some, None, sym, subst}
use Rattle.std.specs.Prelude.{remove}
use Rattle.net_base.specs.Device.{Move}
use Rattle.ip_wire.specs.Ip.{destination_of, payload_len_of}
use Rattle.ip_wire.specs.IpAddress.{IpAddress}
use Rattle.socket_context.specs.Packet.{PacketValue, PayloadValue, ControlV4, ControlV6, Bytes, Datagram, Segment}
use Rattle.socket_context.specs.WellFormed.{HasWidths, IsWellFormed}
use Rattle.socket_context.specs.Widths.{IsPayload}
use Rattle.iface_tables.specs.Inner.{InnerValue, next_hop, parked_by}
use Rattle.iface_tables.specs.Parking.{ParkedValue, ParkingValue, has_room, is_holdable, parked_as, place_to_go, with_parked, with_place_for, with_room_for, without_at}
use Rattle.iface_egress.specs.Parked.{IsPartOf, ServesParked, inner_after, lent}
use Rattle.iface_egress.proofs.KeptOrder.{in_order}
use Rattle.interface.specs.Host.{Sender}
use Rattle.interface.proofs.Arrives.{length-written}
use Rattle.proof_stack.specs.Progress.Parked.{AreWhole, IsWhole, WaitWhole}

-- ONE THAT IS PARKED

widths : (x : PayloadValue) → HasWidths x → IsPayload x
widths (ControlV4 message bytes) is = is
widths (ControlV6 message bytes) is = is
widths (Bytes bytes) is = tt
widths (Datagram header bytes) is = tt
widths (Segment header bytes) is = tt

packet_whole : (i : InnerValue) (hop : IpAddress) (p : PacketValue) → IsWellFormed p → IsWhole (parked_as i.checksums hop p)
packet_whole i hop p formed =
    length-written i.checksums p (record { sendable = formed.sendable; header = formed.header; payload = widths p.payload formed.payload })

-- SOME OF THEM

both_whole : (xs ys : List ParkedValue) → AreWhole xs → AreWhole ys → AreWhole (xs ++ ys)
both_whole [] ys first second = second
both_whole (x ∷ xs) ys first second = (first.0, both_whole xs ys first.1 second)

taken_whole : (n : ℕ) (xs : List ParkedValue) → AreWhole xs → AreWhole (take n xs)
taken_whole zero [] all = tt
taken_whole zero (x ∷ xs) all = tt
taken_whole (suc n) [] all = tt
taken_whole (suc n) (x ∷ xs) all = (all.0, taken_whole n xs all.1)

left_whole : (n : ℕ) (xs : List ParkedValue) → AreWhole xs → AreWhole (drop n xs)
left_whole zero [] all = tt
left_whole zero (x ∷ xs) all = all
left_whole (suc n) [] all = tt
left_whole (suc n) (x ∷ xs) all = left_whole n xs all.1

removed_whole : (at : ℕ) (xs : List ParkedValue) → AreWhole xs → AreWhole (remove xs at)
removed_whole at xs all = both_whole (take at xs) (drop (suc at) xs) (taken_whole at xs all) (left_whole (suc at) xs all)

without_whole : (o : Option ℕ) (xs : List ParkedValue) → AreWhole xs → AreWhole (without_at o xs)
without_whole None xs all = all
without_whole (Some at) xs all = removed_whole at xs all

room_whole : (room len : ℕ) (xs : List ParkedValue) → AreWhole xs → AreWhole (with_room_for room len xs)
room_whole room len [] all = tt
room_whole room len (x ∷ xs) all = by (has_room room len (x ∷ xs)) (room_whole room len xs all.1) where
  by : (b : Bool) → AreWhole (with_room_for room len xs) → AreWhole (if b then x ∷ xs else with_room_for room len xs)
  by true rest = all
  by false rest = rest

part_whole : (part xs : List ParkedValue) → IsPartOf part xs → AreWhole xs → AreWhole part
part_whole [] xs is all = tt
part_whole (k ∷ part) [] is all = absurd is
part_whole (k ∷ part) (x ∷ xs) (inl here) all = (subst IsWhole (sym here.0) all.0, part_whole part xs here.1 all.1)
part_whole (k ∷ part) (x ∷ xs) (inr later) all = part_whole (k ∷ part) xs later all.1

-- ONE MORE

one_more : (q : ParkedValue) (k : ParkingValue) → IsWhole q → AreWhole k.packets → AreWhole (with_parked q k).packets
one_more q k this all = by (is_holdable k.room (payload_len_of q.header)) where
  rest : List ParkedValue
  rest = with_room_for k.room (payload_len_of q.header) (with_place_for q.hop k.packets)

  by : (b : Bool) → AreWhole (if b then record k { packets = rest ++ q ∷ [] } else k).packets
  by true =
      both_whole rest (q ∷ []) (room_whole k.room (payload_len_of q.header) (with_place_for q.hop k.packets)
      (without_whole (place_to_go q.hop k.packets) k.packets all)) (this, tt)
  by false = all

by_hop : (o : Option IpAddress) (i : InnerValue) (p : PacketValue) → IsWellFormed p → AreWhole i.parking.packets → AreWhole (parked_by o i p).packets
by_hop None i p formed all = all
by_hop (Some hop) i p formed all = one_more (parked_as i.checksums hop p) i.parking (packet_whole i hop p formed) all

pub parked_whole : (b : Bool) (i : InnerValue) (p : PacketValue) → IsWellFormed p → WaitWhole i → WaitWhole (inner_after b i p)
parked_whole true i p formed all = λ many. by_hop (next_hop i (destination_of p.header)) i p formed (all many)
parked_whole false i p formed all = all

-- THOSE THAT WAIT ON

pub served_whole : {D : Type 0} (moves : D → Move → D → Type 0) (x x' : Sender D) (all : Bool) → AreWhole x.inner.parking.packets → ServesParked moves x all x'
    → AreWhole x'.inner.parking.packets
served_whole {D} moves x x' all whole serves =
    subst (λ (y : Sender D). AreWhole y.inner.parking.packets) (sym serves.3)
    (part_whole serves.1 x.inner.parking.packets (in_order moves x.inner.parking.packets [] (lent moves x) all serves.0 serves.1 serves.2) whole)
