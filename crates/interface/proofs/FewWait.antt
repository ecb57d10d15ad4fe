-- How many packets wait for their next hops while a host polls.
use Rattle.std.proofs.Common.{◌≡◌, ℕ, ◌+◌, ◌<◌, ◌≤◌, arith, ℤ, Bool, true, false, ◌&&◌, List, [], ◌∷◌, ◌++◌, length, Option, Some, None, refl, sym, ap, ◌∙◌, subst}
use Rattle.std.specs.Prelude.{if◌then◌else◌, nat_le, nat_lt}
use Rattle.std.proofs.lemmas.Bool.Decides.{nat_tests}
use Rattle.std.proofs.lemmas.List.{length-append}
use Rattle.std.proofs.Math.Nat.{le-max_left, le-max_right}
use Rattle.net_base.specs.Device.{Move}
use Rattle.ip_wire.specs.IpAddress.{IpAddress}
use Rattle.ip_wire.specs.IpRepr.{IpRepr}
use Rattle.ip_wire.specs.Ip.{destination_of, payload_len_of}
use Rattle.iface_ingress.specs.Packet.{PacketValue}
use Rattle.iface_tables.specs.Inner.{InnerValue, at_instant, next_hop, parked_by, with_packet_parked}
use Rattle.iface_tables.specs.Parking.{ParkedValue, ParkingValue, has_room, is_holdable, parked_as, parking_places}
use Rattle.iface_tables.specs.Parking.{with_parked, with_place_for, with_room_for}
use Rattle.iface_egress.specs.Departing.{host_after}
use Rattle.iface_egress.specs.Parked.{ServesParked}
use Rattle.iface_egress.specs.declared.plan.Plan.{Plan}
use Rattle.iface_egress.specs.declared.plan.Plan.TheVariants as Way
use Rattle.iface_egress.specs.declared.egress_path.Sent.{Sent}
use Rattle.iface_egress.specs.declared.egress_path.Sent.TheVariants as Outcome
use Rattle.iface_egress.specs.declared.socket_set.Item.{Item}
use Rattle.iface_ingress.specs.Socket.{Socket}
use Rattle.interface.specs.Host.{Sender}
use Rattle.interface.specs.Ingress.{Takes}
use Rattle.interface.specs.Serve.{ItemTurns}
use Rattle.interface.specs.State.{State}
use Rattle.interface.specs.Used.{most_if, most_parked}
use Rattle.interface.specs.declared.serve.Served.{Served}
use Rattle.interface.proofs.HostCounts.{IsHostCount, takes_count, turns_count}
use Rattle.interface.proofs.Parked.{fewer_wait}

-- with host requirements no more than so many wait, and as many may as there are places
abbrev pub WaitFew : ℕ → InnerValue → Type 0
WaitFew most i = i.host_requirements ≡ true → (length i.parking.packets ≤ most) × (parking_places ≤ most)

-- ONE MORE IS PARKED

in_room : (room len : ℕ) (ps : List ParkedValue) → has_room room len ps ≡ true → length ps < 16
in_room room len ps has = by (nat_lt (length ps) 16) refl has where
  by : (b : Bool) → nat_lt (length ps) 16 ≡ b → (b && nat_le (Rattle.iface_tables.specs.Parking.bytes_of ps + len) room) ≡ true → length ps < 16
  by true is has = grind (arith, nat_tests)
  by false is has = absurd cc

room_made : (room len : ℕ) (ps : List ParkedValue) → length (with_room_for room len ps) < 16
room_made room len [] = omega arith
room_made room len (p ∷ ps) = by (has_room room len (p ∷ ps)) refl (room_made room len ps) where
  by : (b : Bool) → has_room room len (p ∷ ps) ≡ b → length (with_room_for room len ps) < 16
      → length (if b then p ∷ ps else with_room_for room len ps) < 16
  by true is rest = in_room room len (p ∷ ps) is
  by false is rest = rest

one_parked : (q : ParkedValue) (k : ParkingValue) (most : ℕ) → length k.packets ≤ most → 16 ≤ most → length (with_parked q k).packets ≤ most
one_parked q k most few places = by (is_holdable k.room (payload_len_of q.header)) where
  rest : List ParkedValue
  rest = with_room_for k.room (payload_len_of q.header) (with_place_for q.hop k.packets)

  by : (b : Bool) → length (if b then record k { packets = rest ++ q ∷ [] } else k).packets ≤ most
  by true =
      let parts = length-append rest (q ∷ []) in
      let made = room_made k.room (payload_len_of q.header) (with_place_for q.hop k.packets) in
      omega (arith, parts, made, places)
  by false = few

hop_parked : (o : Option IpAddress) (i : InnerValue) (p : PacketValue) (most : ℕ) → length i.parking.packets ≤ most → 16 ≤ most →
    length (parked_by o i p).packets ≤ most
hop_parked None i p most few places = few
hop_parked (Some hop) i p most few places = one_parked (parked_as i.checksums hop p) i.parking most few places

-- WHAT A POLL DOES

parking_after : (plan : Plan) (sent : Sent) (h : IpRepr) (i : InnerValue) → (host_after plan sent h i).parking ≡ i.parking
parking_after (Way.Ask query) Outcome.Waits h i = refl
parking_after (Way.Ask query) Outcome.Gone h i = refl
parking_after (Way.Ask query) Outcome.Dropped h i = refl
parking_after (Way.Ask query) Outcome.Busy h i = refl
parking_after (Way.Ask query) Outcome.Refused h i = refl
parking_after Way.Drop sent h i = refl
parking_after Way.NoRoute sent h i = refl
parking_after Way.Wait sent h i = refl
parking_after Way.Busy sent h i = refl
parking_after (Way.Go to) sent h i = refl
parking_after (Way.Cut to) sent h i = refl

flag_after : (plan : Plan) (sent : Sent) (h : IpRepr) (i : InnerValue) → (host_after plan sent h i).host_requirements ≡ i.host_requirements
flag_after (Way.Ask query) Outcome.Waits h i = refl
flag_after (Way.Ask query) Outcome.Gone h i = refl
flag_after (Way.Ask query) Outcome.Dropped h i = refl
flag_after (Way.Ask query) Outcome.Busy h i = refl
flag_after (Way.Ask query) Outcome.Refused h i = refl
flag_after Way.Drop sent h i = refl
flag_after Way.NoRoute sent h i = refl
flag_after Way.Wait sent h i = refl
flag_after Way.Busy sent h i = refl
flag_after (Way.Go to) sent h i = refl
flag_after (Way.Cut to) sent h i = refl

few_where : (most : ℕ) (i i' : InnerValue) → i'.host_requirements ≡ i.host_requirements → i'.parking ≡ i.parking → WaitFew most i → WaitFew most i'
few_where most i i' flag parking few = λ many.
    let was = few (sym flag ∙ many) in
    let same = ap (λ (k : ParkingValue). length k.packets) parking in
    (omega (arith, was.0, same), was.1)

few_parked : (most : ℕ) (i : InnerValue) (p : PacketValue) → WaitFew most i → WaitFew most (with_packet_parked i p)
few_parked most i p few = λ many. (hop_parked (next_hop i (destination_of p.header)) i p most (few many).0 (few many).1, (few many).1)

few_counted : (t : ℤ) (most : ℕ) → IsHostCount t (λ (n : ℕ) (i : InnerValue). WaitFew most i)
few_counted t most = record {
  more = λ n m i up few. few;
  begins = λ n i few. few;
  arrives = λ n i i' same few. few_where most i i' same.host_requirements same.parking few;
  goes = λ n i i' plan sent h is few. subst (WaitFew most) (sym is)
      (few_where most i (host_after plan sent h i) (flag_after plan sent h i) (parking_after plan sent h i) few);
  parks = λ n i p many few. few_parked most i p few;
}

pub few_begin : (t : ℤ) (most : ℕ) (i : InnerValue) → WaitFew most i → WaitFew most (at_instant t i)
few_begin t most i few = few

pub few_keep : (i : InnerValue) → WaitFew (most_parked i) i
few_keep i = by i.host_requirements where
  by : (b : Bool) → b ≡ true → (length i.parking.packets ≤ most_if b (length i.parking.packets))
      × (parking_places ≤ most_if b (length i.parking.packets))
  by true many = (le-max_left (length i.parking.packets) parking_places, le-max_right (length i.parking.packets) parking_places)
  by false many = absurd cc

module _ {D : Type 0} (moves : D → Move → D → Type 0) where
  pub few_take : (t : ℤ) (most : ℕ) (s s' : State D) (answer : Option Bool) → Takes moves s answer s' → WaitFew most s.host.inner →
      WaitFew most s'.host.inner
  few_take t most s s' answer takes few =
      takes_count moves t (λ (n : ℕ) (i : InnerValue). WaitFew most i) (few_counted t most) 0 s s' answer few takes

  pub few_turn : (t : ℤ) (most : ℕ) (turn : Option IpAddress) (x x' : Sender D) (o o' : Option (Item Socket)) (turned : Served) →
      ItemTurns moves turn o x turned x' o' → WaitFew most x.inner → WaitFew most x'.inner
  few_turn t most turn x x' o o' turned turns few =
      turns_count moves t (λ (n : ℕ) (i : InnerValue). WaitFew most i) (few_counted t most) 0 turn x x' few o o' turned turns

  pub few_served : (most : ℕ) (x x' : Sender D) (all : Bool) → x.inner.host_requirements ≡ true → ServesParked moves x all x' → WaitFew most x.inner →
      WaitFew most x'.inner
  few_served most x x' all many serves few = λ now.
      let was = few many in
      let left = fewer_wait moves x.inner.parking.packets [] (Rattle.iface_egress.specs.Parked.lent moves x) all serves.0 serves.1 serves.2 in
      let same = ap (λ (y : Sender D). length y.inner.parking.packets) serves.3 in
      (omega (arith, was.0, left, same), was.1)
