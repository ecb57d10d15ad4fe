-- With host requirements a datagram whose next hop is searched for waits beside the search, the last of those that do.
use Rattle.std.proofs.Common.{◌≡◌, Bool, true, false, not, ◌&&◌, if◌then◌else◌, ◌⊎◌, inl, inr, List, [], ◌∷◌, ◌++◌, Option, Some, None, is_some, refl, sym, ap, ◌∙◌, subst}
use Rattle.std.specs.Prelude.{ℕ, nat_lt, length}
use Rattle.net_base.specs.ChecksumCapabilities.{ChecksumCapabilities}
use Rattle.net_base.specs.Device.{Move}
use Rattle.net_base.specs.Packets.{contents}
use Rattle.ip_wire.specs.Ip.{destination_of, payload_len_of}
use Rattle.ip_wire.specs.IpAddress.{IpAddress}
use Rattle.socket_datagram.specs.Udp.{UdpValue, TakesDatagram}
use Rattle.socket_datagram.specs.declared.udp.UdpMetadata.{UdpMetadata}
use Rattle.iface_ingress.specs.Packet.{PacketValue}
use Rattle.iface_ingress.specs.Socket.{Socket}
use Rattle.iface_ingress.specs.Socket.TheVariants as Kind
use Rattle.iface_tables.specs.Inner.{InnerValue, context_of, is_crowded, next_hop, parked_by, with_packet_parked}
use Rattle.iface_tables.specs.Parking.{ParkedValue, ParkingValue, is_holdable, parked_as, with_parked, with_place_for, with_room_for}
use Rattle.iface_egress.specs.Departing.{host_after}
use Rattle.iface_egress.specs.IsTransmitted.{Asked, IsTransmitted}
use Rattle.iface_egress.specs.Meta.{has_waited}
use Rattle.iface_egress.specs.Parked.{is_searched, is_segment, outcome_of, parks, sender_after, waits}
use Rattle.iface_egress.specs.Plan.{never_leaves, plan_of}
use Rattle.iface_egress.specs.declared.egress_path.Sent.{Sent}
use Rattle.iface_egress.specs.declared.egress_path.Sent.TheVariants as Outcome
use Rattle.iface_egress.specs.declared.frame.NeighborQuery.{NeighborQuery}
use Rattle.iface_egress.specs.declared.plan.Plan.{Plan}
use Rattle.iface_egress.specs.declared.plan.Plan.TheVariants as Way
use Rattle.iface_egress.specs.declared.socket_meta.Meta.{Meta}
use Rattle.iface_egress.specs.declared.socket_set.SocketStorage.{SocketStorage}
use Rattle.iface_egress.proofs.Changes.{changes}
use Rattle.interface.specs.Host.{Sender}
use Rattle.interface.specs.Serve.{Leaves, LeavesIf, LeavesOrParks, ServesSlot, crowded_time, held, is_waiting, outcome_by, plan_at, turned_by}
use Rattle.interface.specs.declared.serve.Served.{Served}
use Rattle.interface.specs.declared.serve.Served.TheVariants as Turn
use Rattle.interface.proofs.SameHost.{leaves_same, same_flag}
use Rattle.proof_stack.specs.Progress.Parked.{IsParkedLast}
use Rattle.proof_stack.proofs.Polls.LeavesQueue.{Offered, item_turns, no_segment}
use Rattle.proof_stack.proofs.Polls.OurLeave.{offering_with, offers_it}

clash : {X : Type 0} → true ≡ false → X
clash {X} e = absurd cc

abbrev no_one : Option Sent
no_one = None

-- what of the host counts for what is parked
record IsLike (i j : InnerValue) (to : IpAddress) : Type 0 where
  parking : j.parking ≡ i.parking
  hop_is : next_hop j to ≡ next_hop i to
  checksums : j.checksums ≡ i.checksums

module _ (i : InnerValue) (to : IpAddress) where
  like_where : (j : InnerValue) → j ≡ i → IsLike i j to
  like_where j is = record {
    parking = ap (λ (k : InnerValue). k.parking) is;
    hop_is = ap (λ (k : InnerValue). next_hop k to) is;
    checksums = ap (λ (k : InnerValue). k.checksums) is;
  }

  like_after : (j : InnerValue) (plan : Plan) (sent : Sent) (p : PacketValue) → j ≡ host_after plan sent p.header i → IsLike i j to
  like_after j plan sent p is = record {
    parking = ap (λ (k : InnerValue). k.parking) is;
    hop_is = ap (λ (k : InnerValue). next_hop k to) is;
    checksums = ap (λ (k : InnerValue). k.checksums) is;
  }

module _ {D : Type 0} (moves : D → Move → D → Type 0) (x : Sender D) (p : PacketValue) (hop : IpAddress) (many : x.inner.host_requirements ≡ true)
    (bytes : is_segment p.payload ≡ false) (sought : is_searched (plan_at x p) ≡ true) (next : next_hop x.inner (destination_of p.header) ≡ Some hop)
    (holdable : is_holdable x.inner.parking.room (payload_len_of p.header) ≡ true) where
  abbrev to : IpAddress
  to = destination_of p.header

  -- it waits, or the device refused
  record Comes (came : Sent) (j : InnerValue) : Type 0 where
    what : (came ≡ Outcome.Refused) ⊎ (came ≡ Outcome.Waits)
    like : IsLike x.inner j to

  crowded_not : is_crowded x.inner ≡ false
  crowded_not = ap (λ (b : Bool). not b && not (nat_lt (length x.inner.neighbors.searches) x.inner.neighbors.search_room)) many

  held_none : (m : Meta) (plan : Plan) → is_searched plan ≡ true → held None m x.inner to plan ≡ None
  held_none m Way.Wait is =
      ap (λ (b : Bool). if b && has_waited m to crowded_time x.inner.instant then Some Outcome.Dropped
      else no_one) crowded_not
  held_none m (Way.Ask q) is =
      ap (λ (b : Bool). if b && has_waited m to crowded_time x.inner.instant then Some Outcome.Dropped
      else no_one) crowded_not
  held_none m Way.Drop is = clash (sym is)
  held_none m Way.NoRoute is = clash (sym is)
  held_none m Way.Busy is = clash (sym is)
  held_none m (Way.Go at) is = clash (sym is)
  held_none m (Way.Cut at) is = clash (sym is)

  asked : (mid : D) (q : NeighborQuery) (y : Sender D) (came : Sent) → Asked moves mid x.inner q came y.device y.inner
      → (came ≡ Outcome.Refused) ⊎ (came ≡ Outcome.Waits)
  asked mid q y Outcome.Waits goes = inr refl
  asked mid q y Outcome.Refused goes = inl refl
  asked mid q y Outcome.Gone goes = absurd goes
  asked mid q y Outcome.Dropped goes = absurd goes
  asked mid q y Outcome.Busy goes = absurd goes

  waits_or_refused : (plan : Plan) (mid : D) (y : Sender D) (came : Sent) → is_searched plan ≡ true
      → IsTransmitted moves mid x.inner x.left p plan came y.device y.inner y.left → (came ≡ Outcome.Refused) ⊎ (came ≡ Outcome.Waits)
  waits_or_refused Way.Wait mid y came is goes = inr goes.0
  waits_or_refused (Way.Ask q) mid y came is goes = asked mid q y came goes.0
  waits_or_refused Way.Drop mid y came is goes = clash (sym is)
  waits_or_refused Way.NoRoute mid y came is goes = clash (sym is)
  waits_or_refused Way.Busy mid y came is goes = clash (sym is)
  waits_or_refused (Way.Go at) mid y came is goes = clash (sym is)
  waits_or_refused (Way.Cut at) mid y came is goes = clash (sym is)

  refused_only : (m : Meta) (given : Bool) (came : Sent) → outcome_by given (held None m x.inner to (plan_at x p)) ≡ Some came → came ≡ Outcome.Refused
  refused_only m false came is = let both : Some Outcome.Refused ≡ Some came = is in sym cc
  refused_only m true came is = absurd (let never : no_one ≡ Some came = sym (held_none m (plan_at x p) sought) ∙ is in cc)

  comes : (m : Meta) (y : Sender D) (came : Sent) → Leaves moves None x m p came y → Comes came y.inner
  comes m y came (inl rests) = record { what = inl (refused_only m rests.0 came rests.4); like = like_where x.inner to y.inner rests.2 }
  comes m y came (inr goes) = record {
    what = waits_or_refused (plan_at x p) goes.0 y came sought goes.2;
    like = like_after x.inner to y.inner (plan_at x p) came p
        (changes moves goes.0 y.device x.inner y.inner x.left y.left p (is_some x.left) came goes.2).1;
  }

  -- the newest comes last
  abbrev k : ParkedValue
  k = parked_as x.inner.checksums hop p

  last_of : (b : Bool) → b ≡ true → (parking : ParkingValue) (rest : List ParkedValue)
      → (if b then record parking { packets = rest ++ k ∷ [] } else parking).packets ≡ rest ++ k ∷ []
  last_of true is parking rest = refl
  last_of false is parking rest = clash (sym is)

  abbrev rest : List ParkedValue
  rest = with_room_for x.inner.parking.room (payload_len_of p.header) (with_place_for hop x.inner.parking.packets)

  parked_last : (j : InnerValue) → IsLike x.inner j to → (with_packet_parked j p).parking.packets ≡ rest ++ k ∷ []
  parked_last j like =
      ap (λ (o : Option IpAddress). (parked_by o j p).packets) (like.hop_is ∙ next)
      ∙ ap (λ (caps : ChecksumCapabilities). (with_parked (parked_as caps hop p) j.parking).packets) like.checksums
      ∙ ap (λ (parking : ParkingValue). (with_parked k parking).packets) like.parking
      ∙ last_of (is_holdable x.inner.parking.room (payload_len_of p.header)) holdable x.inner.parking rest

  abbrev Ends : Served → InnerValue → Type 0
  Ends turned j = ((b : Bool) × (turned ≡ Turn.Stop b)) ⊎ IsParkedLast x.inner hop p turned j

  module _ (turned : Served) (changed : Bool) (sent came : Sent) (y mid : Sender D) (said : turned ≡ turned_by sent changed)
      (outcome : sent ≡ outcome_of (parks mid.inner p (plan_at x p) came) came) (after : y ≡ sender_after (parks mid.inner p (plan_at x p) came) p mid)
      (flag : mid.inner.host_requirements ≡ true) (like : IsLike x.inner mid.inner to) where
    none_parked : came ≡ Outcome.Refused → parks mid.inner p (plan_at x p) came ≡ false
    none_parked is =
        ap (λ (s : Sent). mid.inner.host_requirements && (waits s && (is_searched (plan_at x p) && not (is_segment p.payload)))) is
        ∙ ap (λ (b : Bool). b && false) flag

    is_parked : came ≡ Outcome.Waits → parks mid.inner p (plan_at x p) came ≡ true
    is_parked is =
        ap (λ (s : Sent). mid.inner.host_requirements && (waits s && (is_searched (plan_at x p) && not (is_segment p.payload)))) is
        ∙ ap (λ (b : Bool). b && (is_searched (plan_at x p) && not (is_segment p.payload))) flag
        ∙ ap (λ (b : Bool). b && not (is_segment p.payload)) sought ∙ ap not bytes

    ends : (came ≡ Outcome.Refused) ⊎ (came ≡ Outcome.Waits) → Ends turned y.inner
    ends (inl is) =
        let refused : sent ≡ Outcome.Refused = outcome ∙ ap (λ (b : Bool). outcome_of b came) (none_parked is) ∙ is in
        inl (changed, said ∙ ap (λ (s : Sent). turned_by s changed) refused)
    ends (inr is) =
        let gone : sent ≡ Outcome.Gone = outcome ∙ ap (λ (b : Bool). outcome_of b came) (is_parked is) in
        let y_is : y ≡ sender_after true p mid = after ∙ ap (λ (b : Bool). sender_after b p mid) (is_parked is) in
        inr (record {
          next = said ∙ ap (λ (s : Sent). turned_by s changed) gone;
          before = rest;
          last = ap (λ (z : Sender D). z.inner.parking.packets) y_is ∙ parked_last mid.inner like;
        })

  leaves_parked : (turned : Served) (changed : Bool) (m : Meta) (sent : Sent) (y : Sender D) → turned ≡ turned_by sent changed
      → LeavesOrParks moves None x m p sent y → Ends turned y.inner
  leaves_parked turned changed m sent y said goes = by (subst (λ (b : Bool). LeavesIf moves None b x m p sent y) many goes) where
    by : LeavesIf moves None true x m p sent y → Ends turned y.inner
    by (came, mid, leaves, outcome, after) =
        let it : Comes came mid.inner = comes m mid came leaves in
        ends turned changed sent came y mid said outcome after
        (same_flag x.inner mid.inner (leaves_same moves None x mid m p came leaves) ∙ many) it.like it.what

pub turn_parks : {D : Type 0} (moves : D → Move → D → Type 0) (x x' : Sender D) (slot : SocketStorage Socket) (turned : Served) (meta : Meta) (v : UdpValue)
    (d : UdpMetadata × List ℕ) (more : List (UdpMetadata × List ℕ)) (hop : IpAddress) (p : PacketValue) → x.inner.host_requirements ≡ true
    → is_waiting x.inner meta ≡ false → contents v.queued ≡ d ∷ more → TakesDatagram (context_of x.inner) v.settings d p
    → never_leaves x.inner p.header ≡ false → is_searched (plan_of x.inner (is_some x.left) p.header) ≡ true
    → next_hop x.inner (destination_of p.header) ≡ Some hop → is_holdable x.inner.parking.room (payload_len_of p.header) ≡ true
    → ServesSlot moves None x (record { inner = Some (record { meta = meta; socket = Kind.Udp v }) }) turned x' slot
    → ((b : Bool) × (turned ≡ Turn.Stop b)) ⊎ IsParkedLast x.inner hop p turned x'.inner
turn_parks {D} moves x x' slot turned meta v d more hop p many ready queued takes may sought next holdable goes =
    let offered : Offered moves None x x' (offering_with p v) p turned slot.inner =
    item_turns moves None x x' (offering_with p v) p (Kind.Udp v) false (offers_it x.inner v d p takes more queued) may meta slot.inner turned ready goes in
    leaves_parked moves x p hop many (no_segment (context_of x.inner) v d p takes) sought next holdable turned offered.changed offered.meta offered.sent x'
    offered.next offered.leaves
