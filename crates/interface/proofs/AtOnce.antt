-- A datagram that leaves at once leaves as in a turn of its socket, had it been queued.
use Rattle.std.proofs.Common.{◌≡◌, ℕ, ◌+◌, ◌%◌, ◌==◌, Bool, true, false, ◌||◌, ◌⊎◌, inl, inr, List, [], ◌∷◌, ◌++◌, length, Option, None, Some, is_some}
use Rattle.std.proofs.Common.{refl, sym, ap, ◌∙◌, subst}
use Rattle.std.specs.Prelude.{if◌then◌else◌, Result, Ok}
use Rattle.net_base.specs.Device.{Move, Allowed}
use Rattle.net_base.specs.Packets.{QueuedPacket, Packets, packet, packets_in, contents, padding_for, start_of, unpadded, first_by, without_first}
use Rattle.ip_wire.specs.HardwareAddress.{HardwareAddress}
use Rattle.ip_wire.specs.Ip.{destination_of}
use Rattle.ip_wire.specs.IpAddress.{IpAddress}
use Rattle.ip_wire.specs.IpRepr.{IpRepr}
use Rattle.ip_wire.specs.IpRepr.TheVariants as Ip
use Rattle.iface_ingress.specs.Context.{ContextValue}
use Rattle.iface_ingress.specs.Offer as Answer
use Rattle.iface_ingress.specs.Offer.TheVariants as Offer
use Rattle.iface_ingress.specs.Offers.{IsFound, IsOnly, IsSameButForSlots, OffersFirst, answer_with, left_with}
use Rattle.iface_ingress.specs.Packet.{PacketValue}
use Rattle.iface_ingress.specs.SendError.{SendError}
use Rattle.iface_ingress.specs.Socket.{Socket}
use Rattle.iface_ingress.specs.Socket.TheVariants as Kind
use Rattle.iface_ingress.specs.SocketValue as Datagrams
use Rattle.iface_ingress.specs.Sockets.{Offers, settled}
use Rattle.iface_ingress.specs.Udp.{UdpValue, TakesAtOnce, TakesDatagram, send_answer, send_after}
use Rattle.iface_ingress.specs.UdpMetadata.{UdpMetadata}
use Rattle.iface_ingress.specs.WellFormed.{IsWellFormed}
use Rattle.iface_tables.specs.Inner.{InnerValue}
use Rattle.iface_egress.specs.Departure.{Departure, Whole}
use Rattle.iface_egress.specs.IsTransmitted.{IsTransmitted, WasSent, after_header, numbered}
use Rattle.iface_egress.specs.Meta.{freed, unmarked}
use Rattle.iface_egress.specs.Plan.{GoesDirect, comes_from_here}
use Rattle.iface_egress.specs.declared.plan.Plan.{Plan}
use Rattle.iface_egress.specs.declared.plan.Plan.TheVariants as Way
use Rattle.iface_egress.specs.declared.socket_meta.Meta.{Meta}
use Rattle.iface_egress.specs.declared.socket_set.Item.{Item}
use Rattle.iface_egress.specs.declared.egress_path.Sent.{Sent}
use Rattle.iface_egress.specs.declared.egress_path.Sent.TheVariants as Outcome
use Rattle.interface.specs.Host.{Sender, sender}
use Rattle.interface.specs.Remote.{context_for}
use Rattle.interface.specs.SameHost.{IsSameHost}
use Rattle.interface.specs.SendTo.{DatagramToSend, udp_item, MayLeave, LeavesDirectly, LeavesIfKnown, LeavesAtOnce, LeavesIfItMay, LeavesInTurn}
use Rattle.interface.specs.Serve.{passes_filter, is_waiting, let_through, held, is_done, turned_by, is_raw, plan_at, outcome_by, LeavesDirect, Leaves, HasLeft}
use Rattle.interface.specs.Serve.{SendsAs, SendsBy, Sends, Answers, TurnsIf, Turns}
use Rattle.interface.specs.declared.serve.Served.{Served}
use Rattle.interface.specs.declared.serve.Served.TheVariants as Turn
use Rattle.interface.proofs.SameHost.{same_but, same_made, same_where}
use Rattle.interface.proofs.Sourced.{sends_from, sourced_stays}
use Rattle.iface_egress.specs.Parked.{is_searched}
use Rattle.interface.proofs.Alone.{leaves_unsearched}
use Rattle.interface.proofs.Direct.{direct_left}

-- WHETHER IT MAY LEAVE

neither : (a b : Bool) → (a || b) ≡ false → (a ≡ false) × (b ≡ false)
neither false b is = (refl, is)
neither true b is = absurd cc

none_of : {A : Type 0} (o : Option A) → is_some o ≡ false → o ≡ None
none_of None is = refl
none_of (Some x) is = absurd cc

pub may_leave : {D : Type 0} (s : Sender D) (m : Meta) (v : UdpValue) (q : DatagramToSend) (p : PacketValue) →
    (is_some s.left || is_waiting s.inner m) ≡ false → IsOnly (TakesAtOnce (context_for s.inner (Kind.Udp v)) v q) p → MayLeave s m v q p
may_leave s m v q p calm only =
    let both = neither (is_some s.left) (is_waiting s.inner m) calm in
    record { packet = only; awake = both.1; clear = none_of s.left both.0 }

-- WHAT LEAVES, OR STAYS

dropped_apart : Outcome.Dropped ≡ Outcome.Refused → ⊥
dropped_apart is = cc

waits_apart : Outcome.Waits ≡ Outcome.Refused → ⊥
waits_apart is = cc

busy_apart : Outcome.Busy ≡ Outcome.Refused → ⊥
busy_apart is = cc

gone_apart : Outcome.Gone ≡ Outcome.Refused → ⊥
gone_apart is = cc

header_same : (h : IpRepr) (i : InnerValue) → IsSameHost i (after_header h i)
header_same h i = same_made i (after_header h i) (by h) where
  by : (h : IpRepr) → after_header h i ≡ same_but i (after_header h i) i.parking
  by (Ip.Ipv4 v) = refl
  by (Ip.Ipv6 v) = refl

module _ {D : Type 0} (moves : D → Move → D → Type 0) where
  was_sent_same : (old new : D) (i i' : InnerValue) (h : IpRepr) (d : Departure) (sent : Sent) → WasSent moves old i h d sent new i' → IsSameHost i i'
  was_sent_same old new i i' h d Outcome.Gone was_sent = subst (λ (x : InnerValue). IsSameHost i x) (sym was_sent.1) (header_same h i)
  was_sent_same old new i i' h d Outcome.Refused was_sent = same_where i i' was_sent.1
  was_sent_same old new i i' h d Outcome.Dropped was_sent = absurd was_sent
  was_sent_same old new i i' h d Outcome.Waits was_sent = absurd was_sent
  was_sent_same old new i i' h d Outcome.Busy was_sent = absurd was_sent

  module _ (to : HardwareAddress) (p : PacketValue) (old new : D) (i i' : InnerValue) (m m' : Meta) where
    pub direct_same : (sent : Sent) → LeavesDirect moves to p old i m sent new i' m' → IsSameHost i i'
    direct_same sent (inl back) = same_where i i' back.1
    direct_same sent (inr out) = was_sent_same out.0 new i i' p.header (Whole to (numbered i p)) sent out.2

    -- the mark is that of a socket which waits for nobody, or stays
    mark_by : (sent : Sent) → LeavesDirect moves to p old i m sent new i' m' → m' ≡ (if is_done sent then unmarked else m)
    mark_by sent (inl back) = back.3 ∙ sym (ap (λ (o : Sent). if is_done o then unmarked else m) back.2)
    mark_by sent (inr out) = out.3

    -- a socket's other mark changes nothing else of it
    from_mark : (n : Meta) (sent : Sent) → LeavesDirect moves to p old i m sent new i' m' →
        LeavesDirect moves to p old i n sent new i' (if is_done sent then unmarked else n)
    from_mark n sent (inl back) = inl (back.0, back.1, back.2, ap (λ (o : Sent). if is_done o then unmarked else n) back.2)
    from_mark n sent (inr out) = inr (out.0, out.1, out.2, refl)

    refused_stays : LeavesDirect moves to p old i m Outcome.Refused new i' m' →
        (i' ≡ i) × (m' ≡ m) × LeavesDirect moves to p old i m Outcome.Refused new i m
    refused_stays (inl back) = (back.1, back.3, inl (back.0, refl, refl, refl))
    refused_stays (inr out) = (out.2.1, out.3, inr (out.0, out.1, (out.2.0, refl), refl))

    not_else : (sent : Sent) → (sent ≡ Outcome.Refused → ⊥) → ((mid : D) → WasSent moves mid i p.header (Whole to (numbered i p)) sent new i' → ⊥) →
        LeavesDirect moves to p old i m sent new i' m' → ⊥
    not_else sent apart never (inl back) = apart back.2
    not_else sent apart never (inr out) = never out.0 out.2

    pub leaves_if_known : (sent : Sent) → IsWellFormed p → GoesDirect i p.header to → LeavesDirect moves to p old i m sent new i' m' →
        LeavesIfKnown moves p old i m (is_done sent) new i' m'
    leaves_if_known Outcome.Gone formed direct leaves = (to, direct, leaves, formed)
    leaves_if_known Outcome.Refused formed direct leaves =
        let stays = refused_stays leaves in (stays.0, stays.1, inr (to, direct, stays.2, formed))
    leaves_if_known Outcome.Dropped formed direct leaves = absurd (not_else Outcome.Dropped dropped_apart (λ mid was_sent. was_sent) leaves)
    leaves_if_known Outcome.Waits formed direct leaves = absurd (not_else Outcome.Waits waits_apart (λ mid was_sent. was_sent) leaves)
    leaves_if_known Outcome.Busy formed direct leaves = absurd (not_else Outcome.Busy busy_apart (λ mid was_sent. was_sent) leaves)

  module _ (s : Sender D) (m m' : Meta) (v : UdpValue) (q : DatagramToSend) (p : PacketValue) (new : D) (i' : InnerValue) where
    refused_at_once : MayLeave s m v q p
        → (new ≡ s.device) ⊎ LeavesDirectly moves p s.device s.inner m Outcome.Refused new s.inner m
        → (new ≡ s.device) ⊎ LeavesAtOnce moves s m v q Outcome.Refused new s.inner m
    refused_at_once may (inl same) = inl same
    refused_at_once may (inr refused) = inr (p, may, refused)

    pub leaves_if_it_may : (left : Bool) → MayLeave s m v q p → LeavesIfKnown moves p s.device s.inner m left new i' m' →
        LeavesIfItMay moves s m v q left new i' m'
    leaves_if_it_may true may known = (p, may, known)
    leaves_if_it_may false may known = (known.0, known.1, refused_at_once may known.2)

-- THE QUEUE WITH THIS DATAGRAM ALONE

-- a queue with one packet, and what is left of it without that
record HoldsOne {H : Type 0} (x : QueuedPacket H) (slots room : ℕ) (q : Packets H) : Type 0 where
  held : contents q ≡ (x.header, x.bytes) ∷ []
  of_slots : q.positions ≡ slots
  of_room : q.room ≡ room
  rest : contents (without_first q) ≡ []
  slots_left : (without_first q).positions ≡ slots
  room_left : (without_first q).room ≡ room

module _ {H : Type 0} where
  none_held : (ps : List (QueuedPacket H)) (start slots room : ℕ) → first_by ps ≡ None → contents (packets_in ps start slots room) ≡ []
  none_held [] start slots room is = refl
  none_held (p ∷ ps) start slots room is = absurd cc

  first_in : (ps : List (QueuedPacket H)) (x : QueuedPacket H) → first_by ps ≡ None → first_by (ps ++ x ∷ []) ≡ Some (x.header, x.bytes)
  first_in [] x is = refl
  first_in (p ∷ ps) x is = absurd cc

  held_in : (ps : List (QueuedPacket H)) (x : QueuedPacket H) (start slots room : ℕ) → first_by ps ≡ None →
      contents (packets_in (ps ++ x ∷ []) start slots room) ≡ (x.header, x.bytes) ∷ []
  held_in [] x start slots room is = refl
  held_in (p ∷ ps) x start slots room is = absurd cc

  one_if : (b : Bool) (x : QueuedPacket H) (start at slots room : ℕ) →
      HoldsOne x slots room (if b then packets_in (x ∷ []) start slots room else packets_in (packet 0 x.header x.bytes ∷ []) at slots room)
  one_if true x start at slots room =
      record { held = refl; of_slots = refl; of_room = refl; rest = refl; slots_left = refl; room_left = refl }
  one_if false x start at slots room =
      record { held = refl; of_slots = refl; of_room = refl; rest = refl; slots_left = refl; room_left = refl }

  one_unpadded : (ps : List (QueuedPacket H)) (x : QueuedPacket H) (start slots room : ℕ) → first_by ps ≡ None →
      HoldsOne x slots room (unpadded (packets_in (ps ++ x ∷ []) start slots room))
  one_unpadded [] x start slots room is = one_if (x.padding == 0) x start ((start + x.padding) % room) slots room
  one_unpadded (p ∷ ps) x start slots room is = absurd cc

-- THE TURN

-- the socket with the datagram queued, and as it offers that in this packet
abbrev queued : UdpValue → DatagramToSend → UdpValue
queued v q = Datagrams.with_queued v q.0 (length q.1) q.1

abbrev offering : UdpValue → DatagramToSend → PacketValue → UdpValue
offering v q p = left_with (Some p) (queued v q)

abbrev entry : UdpValue → DatagramToSend → QueuedPacket UdpMetadata
entry v q = packet (padding_for v.queued (length q.1)) q.0 q.1

queued_is : (v : UdpValue) (q : DatagramToSend) → send_answer v q.0 (length q.1) ≡ Ok tt → send_after v q.0 q.1 ≡ queued v q
queued_is v q taken = ap (λ (a : Result (Unit {0}) SendError). Datagrams.sent_after a v q.0 q.1) taken

module _ {D : Type 0} (s : Sender D) (m : Meta) (v : UdpValue) (q : DatagramToSend) (p : PacketValue) (may : MayLeave s m v q p) where
  abbrev cx : ContextValue
  cx = context_for s.inner (Kind.Udp v)

  alone : first_by v.queued.packets ≡ None
  alone = may.packet.takes.alone

  taken_is : send_after v q.0 q.1 ≡ queued v q
  taken_is = queued_is v q may.packet.takes.taken

  only : IsOnly (TakesDatagram cx v.settings q) p
  only = record {
    takes = may.packet.takes.takes;
    only = λ other takes. may.packet.only other (record { alone = may.packet.takes.alone; taken = may.packet.takes.taken; takes = takes });
    sendable = may.packet.sendable;
  }

  first_is : first_by (queued v q).queued.packets ≡ Some q
  first_is = first_in v.queued.packets (entry v q) alone

  offers : Offers cx (Kind.Udp (queued v q)) (Offer.Packet false) (Kind.Udp (offering v q p))
  offers =
      subst (λ (f : Option (UdpMetadata × List ℕ)). OffersFirst (TakesDatagram cx) (queued v q) f (Offer.Packet false) (offering v q p)) (sym first_is)
      (only, refl, refl)

  one : HoldsOne (entry v q) v.queued.positions v.queued.room (offering v q p).queued
  one = one_unpadded v.queued.packets (entry v q) (start_of v.queued) v.queued.positions v.queued.room alone

  same_gone : IsSameButForSlots v (Datagrams.settled true (offering v q p))
  same_gone = record {
    received = refl;
    settings = refl;
    queued =
        one.rest ∙ sym (none_held v.queued.packets v.queued.start v.queued.positions v.queued.room alone);
    positions = one.slots_left;
    room = one.room_left;
  }

  same_refused : IsSameButForSlots (send_after v q.0 q.1) (Datagrams.settled false (offering v q p))
  same_refused = subst (λ (w : UdpValue). IsSameButForSlots w (Datagrams.settled false (offering v q p))) (sym taken_is) (record {
    received = refl;
    settings = refl;
    queued =
        one.held ∙ sym (held_in v.queued.packets (entry v q) (start_of v.queued) v.queued.positions v.queued.room alone);
    positions = one.of_slots;
    room = one.of_room;
  })

module _ {D : Type 0} (moves : D → Move → D → Type 0) (turn : Option IpAddress) (s : Sender D) (m m' : Meta) (v : UdpValue) (q : DatagramToSend)
    (new : D) (i' : InnerValue) where
  abbrev heard : Meta
  heard = freed m (passes_filter s.inner m)

  module _ (p : PacketValue) (may : MayLeave s m v q p) where
    abbrev offered_item : Item Socket
    offered_item = udp_item heard (offering v q p)

    -- what a turn makes of the item
    abbrev left_item : Sent → Item Socket
    left_item sent = record { meta = if is_done sent then unmarked else heard; socket = settled (is_done sent) (Kind.Udp (offering v q p)) }

    turns_so : (sent : Sent) → LeavesDirectly moves p s.device s.inner m sent new i' m' →
        Turns moves turn s (udp_item m (queued v q)) (turned_by sent false) (sender new i' s.left) (left_item sent)
    turns_so sent direct =
        subst (λ (b : Bool). TurnsIf moves turn b s (let_through s.inner (udp_item m (queued v q))) (turned_by sent false) (sender new i' s.left)
        (left_item sent)) (sym may.awake) (Offer.Packet false, Kind.Udp (offering v q p), offers s m v q p may, sends) where
          leaves : HasLeft moves turn s heard p sent (sender new i' s.left) (if is_done sent then unmarked else heard)
          leaves =
              direct_left moves turn s heard (if is_done sent then unmarked else heard) p direct.0 sent new i' direct.1 direct.3
              (from_mark moves direct.0 p s.device new s.inner i' m m' heard sent direct.2)

          sends : Sends moves turn s offered_item false (turned_by sent false) (sender new i' s.left) (left_item sent)
          sends =
              sends_from moves turn s (sender new i' s.left) p offered_item (left_item sent) false (turned_by sent false) sent
              (if is_done sent then unmarked else heard) direct.3 leaves refl refl

  pub left_turns : LeavesAtOnce moves s m v q Outcome.Gone new i' m'
      → (v' : UdpValue) × Turns moves turn s (udp_item m (send_after v q.0 q.1)) (Turn.Next true) (sender new i' s.left) (udp_item m' v')
      × IsSameButForSlots v v'
  left_turns left =
      let p = left.0 in
      let may = left.1 in
      let direct = left.2 in
      let v' = Datagrams.settled true (offering v q p) in
      let mark : m' ≡ unmarked = mark_by moves direct.0 p s.device new s.inner i' m m' Outcome.Gone direct.2 in (
        v',
        subst (λ (w : UdpValue). Turns moves turn s (udp_item m w) (Turn.Next true) (sender new i' s.left) (udp_item m' v'))
            (sym (taken_is s m v q p may))
            (subst (λ (n : Meta). Turns moves turn s (udp_item m (queued v q)) (Turn.Next true) (sender new i' s.left) (udp_item n v')) (sym mark)
            (turns_so p may Outcome.Gone direct)),
        same_gone s m v q p may,
      )

  pub refused_turns : LeavesAtOnce moves s m v q Outcome.Refused new i' m'
      → (v' : UdpValue)
      × Turns moves turn s (udp_item m (send_after v q.0 q.1)) (Turn.Stop false) (sender new i' s.left) (udp_item heard v')
      × IsSameButForSlots (send_after v q.0 q.1) v'
  refused_turns left =
      let p = left.0 in
      let may = left.1 in
      let v' = Datagrams.settled false (offering v q p) in (
        v',
        subst (λ (w : UdpValue). Turns moves turn s (udp_item m w) (Turn.Stop false) (sender new i' s.left) (udp_item heard v'))
            (sym (taken_is s m v q p may)) (turns_so p may Outcome.Refused left.2),
        same_refused s m v q p may,
      )

-- BACK: such a turn lets the packet leave so

or_true : (a b : Bool) → b ≡ true → (a || b) ≡ true
or_true true b is = refl
or_true false b is = is

none_some : {A : Type 0} (x : A) → None ≡ Some x → ⊥
none_some x is = cc

some_same : {A : Type 0} (x y : A) → Some x ≡ Some y → x ≡ y
some_same x y is = cc

module _ {D : Type 0} (moves : D → Move → D → Type 0) (turn : Option IpAddress) (s s' : Sender D) (m : Meta) (v : UdpValue) (q : DatagramToSend)
    (p : PacketValue) (to : HardwareAddress) (turned : Served) (item' : Item Socket) (may : MayLeave s m v q p)
    (direct : GoesDirect s.inner p.header to) where
  abbrev freed_mark : Meta
  freed_mark = freed m (passes_filter s.inner m)

  abbrev mark_after : Sent → Meta
  mark_after sent = if is_done sent then unmarked else m

  abbrev LeftSo : Sent → Type 0
  LeftSo sent = LeavesDirect moves to p s.device s.inner m sent s'.device s'.inner (mark_after sent)

  held_none : held turn freed_mark s.inner (destination_of p.header) (plan_at s p) ≡ None
  held_none = ap (held turn freed_mark s.inner (destination_of p.header)) (direct.plan (is_some s.left))

  rests_back : (sent : Sent) (given : Bool) → moves s.device (Allowed s.inner.instant given) s'.device → s'.inner ≡ s.inner → s'.left ≡ s.left →
      outcome_by given (held turn freed_mark s.inner (destination_of p.header) (plan_at s p)) ≡ Some sent → LeftSo sent × (s'.left ≡ s.left)
  rests_back sent true moved inner left is = absurd (none_some sent (sym held_none ∙ is))
  rests_back sent false moved inner left is =
      let refused : sent ≡ Outcome.Refused = sym (some_same Outcome.Refused sent is) in
      (inl (moved, inner, refused, ap mark_after refused), left)

  leaves_back : (sent : Sent) → Leaves moves turn s freed_mark p sent s' → LeftSo sent × (s'.left ≡ s.left)
  leaves_back sent (inl rests) = rests_back sent rests.0 rests.1 rests.2 rests.3 rests.4
  leaves_back sent (inr admits) =
      let was_sent : IsTransmitted moves admits.0 s.inner s.left p (Way.Go to) sent s'.device s'.inner s'.left =
      subst (λ (plan : Plan). IsTransmitted moves admits.0 s.inner s.left p plan sent s'.device s'.inner s'.left) (direct.plan (is_some s.left)) admits.2 in
      (inr (admits.0, admits.1, was_sent.0, refl), was_sent.1)

  by_done : (done : Bool) → IsSameButForSlots (if done then v else send_after v q.0 q.1) (Datagrams.settled done (offering v q p))
  by_done true = same_gone s m v q p may
  by_done false = same_refused s m v q p may

  sends_back : SendsBy moves turn (Some p) s (udp_item freed_mark (offering v q p)) false turned s' item' →
      LeavesInTurn moves s m v q p to turned s' item'
  sends_back sends =
      let same : sends.0 ≡ p =
      sends.1 ∙ sourced_stays s.inner p (or_true (is_raw p.payload) (comes_from_here s.inner p.header) direct.here) in
      let so : SendsAs moves turn p s (udp_item freed_mark (offering v q p)) false turned s' item' =
      subst (λ (l : PacketValue). SendsAs moves turn l s (udp_item freed_mark (offering v q p)) false turned s' item') same sends.3 in
      let off : is_searched (plan_at s p) ≡ false = ap is_searched (direct.plan (is_some s.left)) in
      let back = leaves_back so.0 (leaves_unsearched moves turn s freed_mark p so.0 s' off so.1) in
      record {
        sent = so.0;
        leaves = back.0;
        left = back.1;
        answer = so.2;
        socket = Datagrams.settled (is_done so.0) (offering v q p);
        is_of_udp = ap (λ (x : Item Socket). x.socket) so.3;
        same = by_done (is_done so.0);
      }

  offered_back : (w : UdpValue) (answer : Answer.Offer) (o : Option PacketValue) → IsFound (TakesDatagram (context_for s.inner (Kind.Udp v)) v.settings q) o →
      answer ≡ answer_with o → w ≡ left_with o (queued v q) → Answers moves turn answer s (udp_item freed_mark w) turned s' item' →
      LeavesInTurn moves s m v q p to turned s' item'
  offered_back w answer None none answered is answers = absurd (none p may.packet.takes.takes)
  offered_back w answer (Some x) found answered is answers =
      let same : x ≡ p =
      may.packet.only x (record { alone = may.packet.takes.alone; taken = may.packet.takes.taken; takes = found.takes }) in
      let offering_is : w ≡ offering v q p = is ∙ ap (λ (y : PacketValue). left_with (Some y) (queued v q)) same in
      let first : Answers moves turn (Offer.Packet false) s (udp_item freed_mark w) turned s' item' =
      subst (λ (a : Answer.Offer). Answers moves turn a s (udp_item freed_mark w) turned s' item') answered answers in
      sends_back (subst (λ (u : UdpValue). Answers moves turn (Offer.Packet false) s (udp_item freed_mark u) turned s' item') offering_is first)

  kind_back : (answer : Answer.Offer) (offered : Socket) → Offers (context_for s.inner (Kind.Udp v)) (Kind.Udp (queued v q)) answer offered →
      Answers moves turn answer s (record { meta = freed_mark; socket = offered }) turned s' item' → LeavesInTurn moves s m v q p to turned s' item'
  kind_back answer (Kind.Udp w) offers answers =
      let first : OffersFirst (TakesDatagram (context_for s.inner (Kind.Udp v))) (queued v q) (Some q) answer w =
      subst (λ (f : Option (UdpMetadata × List ℕ)). OffersFirst (TakesDatagram (context_for s.inner (Kind.Udp v))) (queued v q) f answer w)
      (first_is s m v q p may) offers in
      offered_back w answer w.offered first.0 first.1 first.2 answers
  kind_back answer (Kind.Raw w) offers answers = absurd offers
  kind_back answer (Kind.Icmp w) offers answers = absurd offers
  kind_back answer (Kind.Tcp w) offers answers = absurd offers
  kind_back answer (Kind.Dhcpv4 w) offers answers = absurd offers
  kind_back answer (Kind.Dns w) offers answers = absurd offers

  turns_in : Turns moves turn s (udp_item m (send_after v q.0 q.1)) turned s' item' → LeavesInTurn moves s m v q p to turned s' item'
  turns_in turns =
      let first : Turns moves turn s (udp_item m (queued v q)) turned s' item' =
      subst (λ (w : UdpValue). Turns moves turn s (udp_item m w) turned s' item') (taken_is s m v q p may) turns in
      let asks : TurnsIf moves turn false s (let_through s.inner (udp_item m (queued v q))) turned s' item' =
      subst (λ (b : Bool). TurnsIf moves turn b s (let_through s.inner (udp_item m (queued v q))) turned s' item') may.awake first in
      kind_back asks.0 asks.1 asks.2 asks.3

pub turns_back : {D : Type 0} (moves : D → Move → D → Type 0) (turn : Option IpAddress) (s s' : Sender D) (m : Meta) (v : UdpValue) (q : DatagramToSend)
    (p : PacketValue) (to : HardwareAddress) (turned : Served) (item' : Item Socket)
    → MayLeave s m v q p → GoesDirect s.inner p.header to
    → Turns moves turn s (udp_item m (send_after v q.0 q.1)) turned s' item' → LeavesInTurn moves s m v q p to turned s' item'
turns_back moves turn s s' m v q p to turned item' may direct turns = turns_in moves turn s s' m v q p to turned item' may direct turns
