-- Each thing that a poll does keeps what is said of the link.
use Rattle.std.proofs.Common.{◌≡◌, ◌⊎◌, inl, inr, ℕ, ◌+◌, ◌≤◌, ℤ, Bool, true, false, List, ◌∷◌, Option, Some, None, is_some, refl, sym, ap, subst, arith}
use Rattle.sim_link.specs.ChecksumCapabilities.{ChecksumCapabilities}
use Rattle.sim_link.specs.Device.{Took, Empty, Allowed}
use Rattle.interface.specs.Ip as Ips
use Rattle.interface.specs.Ip.{source_of, destination_of}
use Rattle.iface_ingress.specs.IpAddress.{IpAddress}
use Rattle.interface.specs.IpRepr.{IpRepr}
use Rattle.interface.specs.IpRepr.TheVariants as Ip
use Rattle.sockets.specs.Packet.{PacketValue, PayloadValue, ControlV4, ControlV6, Bytes, Datagram, Segment, payload_written}
use Rattle.iface_tables.specs.Inner.{InnerValue, at_instant}
use Rattle.iface_tables.specs.Assemblers.{without_expired}
use Rattle.iface_egress.specs.Departing.{HasSettingsOf, SendsOnce, departure_by, was_taken}
use Rattle.iface_egress.specs.Departure.{Departure, Tells}
use Rattle.iface_egress.specs.Emits.{Emits}
use Rattle.iface_egress.specs.Fragments.{LeftValue, departure_from}
use Rattle.iface_egress.specs.IsTransmitted.{Departs, IsTransmitted, FragmentIsTransmitted, frame_of, frame_len_of}
use Rattle.iface_egress.specs.Plan.{plan_of}
use Rattle.iface_egress.specs.declared.egress_path.Sent.{Sent}
use Rattle.iface_egress.specs.declared.egress_path.Sent.TheVariants as Outcome
use Rattle.iface_egress.proofs.Changes.{changes, fragment_sends, same_settings}
use Rattle.iface_ingress.specs.Arrives.{Arrived, ArrivesAs, whole_arrived}
use Rattle.iface_ingress.specs.Delivered.{Slots}
use Rattle.iface_ingress.specs.Incoming.{IncomingValue, Arp, Ip4, Ip6, IsContent}
use Rattle.iface_ingress.specs.Reassembled.{Assemblers}
use Rattle.iface_ingress.specs.Sent.{CanBeRead, normal_payload}
use Rattle.interface.specs.Polls.{begun}
use Rattle.interface.specs.Serve.{is_done}
use Rattle.iface_ingress.specs.ArpRepr.{ArpRepr}
use Rattle.iface_ingress.specs.Arrives as Replies
use Rattle.iface_ingress.proofs.Settings.{brings_same}
use Rattle.interface.specs.State.{State, state, at_device}
use Rattle.lan.specs.Worlds.AtLink.Port.{PortValue, PortMove}
use Rattle.lan.specs.Worlds.AtLink.Parties.{Party}
use Rattle.tcp_refinement.specs.Host.{made_of}
use Rattle.lan.specs.Worlds.Moves.Made as Moves
use Rattle.lan.specs.Worlds.Moves.Made.{Grows, MadeBy, IsMade, IsWide, FitsFollowing, datagram_of}
use Rattle.lan.specs.Worlds.Link.Made as Links
use Rattle.lan.specs.Worlds.Link.Made.{sealed, CarriesNone, IsGoing}
use Rattle.lan.specs.Worlds.Link.Frames.{Outgoing, medium_on}
use Rattle.lan.specs.Worlds.Link.Numbers.{IsTied}
use Rattle.lan.proofs.Worlds.Link.Begun.{tied_trans, tied_on}
use Rattle.lan.specs.Worlds.Link.Sides.{IsSender, IsReceiver, IsSound, HasSixBytes, IsNode, WasSentOut}
use Rattle.lan.proofs.Worlds.Link.Grown.{sent_grows, more_out}
use Rattle.lan.proofs.Worlds.Link.Sends.{goes_keeps, unsent_keeps, fragment_keeps, tells_keeps}
use Rattle.lan.proofs.Worlds.Link.Nodes.{arrival_keeps_sender, sender_settled}
use Rattle.lan.proofs.Worlds.Link.Taken.{taken_was_made, taken_keeps, skipped_keeps, expired_receiver, receiver_same}
use Rattle.lan.specs.Worlds.Moves.Link.{IsLink}
use Rattle.lan.specs.Worlds.Linked.{IsOther, IsLinked}
use Rattle.lan.proofs.Worlds.Told.{told_between}

-- THE PORT

pub waits_same : (d d' : PortValue) (frame : List ℕ) (len : ℕ) (gone : Bool) → Emits PortMove d frame len gone d' → d'.link.waiting ≡ d.link.waiting
waits_same d d' frame len true is = ap (λ (p : PortValue). p.link.waiting) is.0
waits_same d d' frame len false is = ap (λ (p : PortValue). p.link.waiting) is.0

pub once_waits : (d d' : PortValue) (i : InnerValue) (o : Option Departure) (gone : Bool) → SendsOnce PortMove d i o gone d' → d'.link.waiting ≡ d.link.waiting
once_waits d d' i None gone is = ap (λ (p : PortValue). p.link.waiting) is
once_waits d d' i (Some x) gone is = waits_same d d' (frame_of i x) (frame_len_of i x) gone is

pub taken_frame : (t : ℤ) (d d' : PortValue) (frame : List ℕ) → PortMove d (Took t frame) d' → d.link.waiting ≡ frame ∷ d'.link.waiting
taken_frame t d d' frame is = ap (λ (p : PortValue). p.link.waiting) is.1

taken_sent : (t : ℤ) (d d' : PortValue) (frame : List ℕ) → PortMove d (Took t frame) d' → d'.link.sent ≡ d.link.sent
taken_sent t d d' frame is = sym (ap (λ (p : PortValue). p.link.sent) is.1)

-- WHAT WAS MADE

-- what goes has the form that the link wants
going_by : (p : Party) (from to : IpAddress) (h : IpRepr) (x : PayloadValue) → FitsFollowing h x → MadeBy p from to (normal_payload x) →
    CarriesNone (Ips.normal h) (payload_written sealed h x) ⊎ (CanBeRead h x × MadeBy p from to (normal_payload x))
going_by p from to h (ControlV4 message bytes) fits made = inr (fits, tt)
going_by p from to h (ControlV6 message bytes) fits made = inr (fits, tt)
going_by p from to h (Bytes bytes) fits made = inl fits
going_by p from to h (Datagram udp bytes) fits made = inr (fits, made)
going_by p from to h (Segment header bytes) fits made = inr (fits, made)

going : (p : Party) (x : PacketValue) → IsWide x → IsMade p x → IsGoing (MadeBy p) x
going p x wide made = record { offered = wide.offered; carries = going_by p (source_of x.header) (destination_of x.header) x.header x.payload wide.fits made }

pub more_made : (p p' : Party) → Grows p p' → (from to : IpAddress) (x : PayloadValue) → MadeBy p from to x → MadeBy p' from to x
more_made p p' grows from to (ControlV4 message bytes) made = tt
more_made p p' grows from to (ControlV6 message bytes) made = tt
more_made p p' grows from to (Bytes bytes) made = tt
more_made p p' grows from to (Datagram udp bytes) made = grows.datagrams (datagram_of udp bytes) made
more_made p p' grows from to (Segment header bytes) made = record {
  written = made.written;
  among = grows.segments (made_of from to made.written bytes) made.among;
  read = made.read;
}

pub sender_grows : (p p' : Party) (first : ℕ) (i : InnerValue) (l : Option LeftValue) (sent : List (List ℕ)) (out : List Outgoing) → Grows p p' →
    IsSender (MadeBy p) first i l sent out → IsSender (MadeBy p') first i l sent out
sender_grows p p' first i l sent out grows s =
    record {
      sound = s.sound;
      are_sent = sent_grows (MadeBy p) (MadeBy p') (more_made p p' grows) first i.ident out s.are_sent;
      left_is =
          s.left_is;
      frames = s.frames;
    }

-- what a content brings, in the words of the moves
hands_so : (q : Party) (caps : ChecksumCapabilities) (ip : IpRepr) (payload : List ℕ) → caps ≡ sealed → Links.HandsMade (MadeBy q) ip payload →
    Moves.HandsMade q caps ip payload
hands_so q caps ip payload are hands = subst (λ (c : ChecksumCapabilities). Moves.HandsMade q c ip payload) (sym are) (record {
  segments = λ header bytes is. hands (Segment header bytes) is;
  datagrams = λ udp bytes is. hands (Datagram udp bytes) is;
})

pub brings_so : (q : Party) (caps : ChecksumCapabilities) (content : Option IncomingValue) → caps ≡ sealed → Links.BringsMade (MadeBy q) content →
    Moves.BringsMade q caps content
brings_so q caps None are brings = tt
brings_so q caps (Some (Arp link packet)) are brings = tt
brings_so q caps (Some (Ip4 link h fragment x)) are brings = hands_so q caps (Ip.Ipv4 h) x are brings
brings_so q caps (Some (Ip6 link h x)) are brings = hands_so q caps (Ip.Ipv6 h) x are brings

-- A HOST WITH OTHER MOMENT

pub instant_sound : (t : ℤ) (i : InnerValue) → IsSound i → IsSound (at_instant t i)
instant_sound t i s = record {
  own = s.own;
  neighbors = s.neighbors;
  routers = s.routers;
  widths = record { mtu = s.widths.mtu; ident = s.widths.ident };
  checksums = s.checksums;
}

module _ (q : Party) (others base : List Outgoing) (first : ℕ) (before : List (List ℕ)) (n : ℕ) where
  abbrev L : ℕ → State PortValue → Party → Type 0
  L m s p = IsLinked q others base first before m s p

  pub grown : (s : State PortValue) (slots : Slots) (p p' : Party) → Grows p p' → L n s p → L n (state s.device s.host slots) p'
  grown s slots p p' grows l = record {
    out = l.out;
    more = l.more;
    sender = sender_grows p p' first s.host.inner s.host.left s.device.link.sent l.out grows l.sender;
    receiver = l.receiver;
    count = l.count;
    tied = l.tied;
  }

  pub maintenance : (t : ℤ) (s : State PortValue) (p : Party) → L n s p → L n (begun t s) p
  maintenance t s p l = record {
    out = l.out;
    more = l.more;
    sender = sender_settled (MadeBy p) first l.out s.host.inner (at_instant t s.host.inner) s.host.left s.device.link.sent refl refl
        (instant_sound t s.host.inner l.sender.sound) l.sender;
    receiver = receiver_same (MadeBy q) others s.host.inner (at_instant t s.host.inner) (without_expired s.host.assemblers t) s.device.link.waiting refl refl
        (expired_receiver (MadeBy q) others s.host.inner s.host.assemblers s.device.link.waiting t l.receiver);
    count = l.count;
    tied = l.tied;
  }

  -- a device that did nothing
  same_device : (s : State PortValue) (p : Party) (d : PortValue) → d ≡ s.device → L n s p → L n (at_device s d) p
  same_device s p d same l = subst (λ (x : PortValue). L n (at_device s x) p) (sym same) l

  pub looks : (s : State PortValue) (p : Party) (d : PortValue) → PortMove s.device (Empty s.host.inner.instant) d → L n s p → L n (at_device s d) p
  looks s p d move l = same_device s p d move.0 l

  pub leave : (s : State PortValue) (p : Party) (given : Bool) (d : PortValue) → PortMove s.device (Allowed s.host.inner.instant given) d → L n s p →
      L n (at_device s d) p
  leave s p given d move l = same_device s p d move.0 l

  -- A FRAME IS TAKEN

  waits_first : (s : State PortValue) (p : Party) (frame : List ℕ) (d : PortValue) → PortMove s.device (Took s.host.inner.instant frame) d → L n s p →
      IsReceiver (MadeBy q) others s.host.inner s.host.assemblers (frame ∷ d.link.waiting)
  waits_first s p frame d move l =
      subst (λ (w : List (List ℕ)). IsReceiver (MadeBy q) others s.host.inner s.host.assemblers w) (taken_frame s.host.inner.instant s.device d frame move) l.receiver

  pub skips : (s : State PortValue) (p : Party) (frame : List ℕ) (d : PortValue) → PortMove s.device (Took s.host.inner.instant frame) d → L n s p →
      L n (at_device s d) p
  skips s p frame d move l = record {
    out = l.out;
    more = l.more;
    sender = subst (λ (w : List (List ℕ)). IsSender (MadeBy p) first s.host.inner s.host.left w l.out)
        (sym (taken_sent s.host.inner.instant s.device d frame move)) l.sender;
    receiver = skipped_keeps (MadeBy q) others s.host.inner s.host.assemblers frame d.link.waiting (waits_first s p frame d move l);
    count = l.count;
    tied = subst (λ (w : List (List ℕ)). IsTied (medium_on s.host.inner.hardware) base before l.out w)
        (sym (taken_sent s.host.inner.instant s.device d frame move)) l.tied;
  }

  module _ (start next : ℕ) (other : IsOther q start next others) where
    pub brings : (s : State PortValue) (p : Party) (frame : List ℕ) (d : PortValue) (content : Option IncomingValue) →
        PortMove s.device (Took s.host.inner.instant frame) d →
        IsContent s.host.inner.hardware s.host.inner.checksums frame content → L n s p
        → Moves.BringsMade q s.host.inner.checksums (whole_arrived s.host.inner s.host.timeout s.host.assemblers content)
    brings s p frame d content move is l =
        brings_so q s.host.inner.checksums (whole_arrived s.host.inner s.host.timeout s.host.assemblers content) l.receiver.checksums
        (taken_was_made (MadeBy q) start others next other.sent other.few s.host.inner s.host.timeout s.host.assemblers frame d.link.waiting content
        (waits_first s p frame d move l) is)

    pub takes : (s : State PortValue) (p : Party) (frame : List ℕ) (d : PortValue) (content : Option IncomingValue) (assemblers : Assemblers) (a : Arrived)
        (slots : Slots) → PortMove s.device (Took s.host.inner.instant frame) d
        → IsContent s.host.inner.hardware s.host.inner.checksums frame content →
        ArrivesAs s.host.inner s.host.timeout s.host.assemblers s.slots content assemblers a → L n s p
        → L n (state d (record s.host { inner = a.inner; assemblers = assemblers }) slots) p
    takes s p frame d content assemblers a slots move is arrives l = record {
      out = l.out;
      more = l.more;
      sender = subst (λ (w : List (List ℕ)). IsSender (MadeBy p) first a.inner s.host.left w l.out) (sym (taken_sent s.host.inner.instant s.device d frame move))
          (arrival_keeps_sender (MadeBy p) first l.out s.host.inner s.host.left s.device.link.sent s.slots
          (whole_arrived s.host.inner s.host.timeout s.host.assemblers content) a arrives.1 l.sender);
      receiver = taken_keeps (MadeBy q) start others next other.sent other.few s.host.inner s.host.timeout s.host.assemblers s.slots frame d.link.waiting content
          assemblers a (waits_first s p frame d move l) is arrives;
      count = l.count;
      tied = tied_on s.host.inner.hardware a.inner.hardware base l.out before d.link.sent
          (brings_same s.host.inner s.slots (whole_arrived s.host.inner s.host.timeout s.host.assemblers content) a arrives.1).hardware
          (subst (λ (w : List (List ℕ)). IsTied (medium_on s.host.inner.hardware) base before l.out w)
          (sym (taken_sent s.host.inner.instant s.device d frame move)) l.tied);
    }

  -- SOMETHING LEAVES

  was_sent_so : (k m : ℕ) (s : State PortValue) (p : Party) (d : PortValue) (i : InnerValue) (left : Option LeftValue) (slots : Slots) (l : L n s p) → n + k ≤ m →
      d.link.waiting ≡ s.device.link.waiting → i.checksums ≡ s.host.inner.checksums → i.hardware ≡ s.host.inner.hardware
      → WasSentOut (MadeBy p) first k l.out s.device.link.sent i left d.link.sent → L m (state d (record s.host { inner = i; left = left }) slots) p
  was_sent_so k m s p d i left slots l room waits caps hardware was_sent = record {
    out = was_sent.out_after;
    more = more_out _ _ _ l.more was_sent.grows;
    sender = was_sent.sender;
    receiver = subst (λ (w : List (List ℕ)). IsReceiver (MadeBy q) others i s.host.assemblers w) (sym waits)
        (receiver_same (MadeBy q) others s.host.inner i s.host.assemblers s.device.link.waiting caps hardware l.receiver);
    count = let a = was_sent.count in let b = l.count in omega (arith, a, b, room);
    tied = tied_trans (medium_on i.hardware) base l.out was_sent.out_after before s.device.link.sent d.link.sent
        (tied_on s.host.inner.hardware i.hardware base l.out before s.device.link.sent hardware l.tied) was_sent.tied;
  }

  made_or_not : (s : State PortValue) (p : Party) (x : PacketValue) (sent : Sent) (d : PortValue) (inner : InnerValue) (left : Option LeftValue) (l : L n s p) →
      IsWide x → (is_done sent ≡ true → IsMade p x)
      → IsTransmitted PortMove s.device s.host.inner s.host.left x (plan_of s.host.inner (is_some s.host.left) x.header) sent d inner left →
      WasSentOut (MadeBy p) first 1 l.out s.device.link.sent inner left d.link.sent
  made_or_not s p x Outcome.Gone d inner left l wide made out =
      goes_keeps (MadeBy p) first l.out s.host.inner s.host.left s.device l.sender (is_some s.host.left) x (going p x wide (made refl)) Outcome.Gone d
      inner left out
  made_or_not s p x Outcome.Dropped d inner left l wide made out =
      unsent_keeps (MadeBy p) first l.out s.host.inner s.host.left s.device l.sender (is_some s.host.left) x wide.offered.header Outcome.Dropped d inner left
      (λ e. cc) out
  made_or_not s p x Outcome.Waits d inner left l wide made out =
      unsent_keeps (MadeBy p) first l.out s.host.inner s.host.left s.device l.sender (is_some s.host.left) x wide.offered.header Outcome.Waits d inner left
      (λ e. cc) out
  made_or_not s p x Outcome.Busy d inner left l wide made out =
      unsent_keeps (MadeBy p) first l.out s.host.inner s.host.left s.device l.sender (is_some s.host.left) x wide.offered.header Outcome.Busy d inner left
      (λ e. cc) out
  made_or_not s p x Outcome.Refused d inner left l wide made out =
      unsent_keeps (MadeBy p) first l.out s.host.inner s.host.left s.device l.sender (is_some s.host.left) x wide.offered.header Outcome.Refused d inner left
      (λ e. cc) out

  pub goes : (s : State PortValue) (p : Party) (x : PacketValue) (sent : Sent) (d : PortValue) (inner : InnerValue) (left : Option LeftValue) → IsWide x →
      (is_done sent ≡ true → IsMade p x)
      → IsTransmitted PortMove s.device s.host.inner s.host.left x (plan_of s.host.inner (is_some s.host.left) x.header) sent d inner left → L n s p →
      L (n + 1) (state d (record s.host { inner = inner; left = left }) s.slots) p
  goes s p x sent d inner left wide made out l =
      let change = changes PortMove s.device d s.host.inner inner s.host.left left x (is_some s.host.left) sent out in
      let kept : HasSettingsOf s.host.inner inner =
      same_settings s.host.inner inner (plan_of s.host.inner (is_some s.host.left) x.header) sent x.header change.1 in
      let waits : d.link.waiting ≡ s.device.link.waiting =
      once_waits s.device d s.host.inner (departure_by s.host.inner x (plan_of s.host.inner (is_some s.host.left) x.header)) (was_taken sent) change.0 in
      was_sent_so 1 (n + 1) s p d inner left s.slots l (omega arith) waits kept.checksums kept.hardware (made_or_not s p x sent d inner left l wide made out)

  pub fragment : (s : State PortValue) (p : Party) (c : LeftValue) (gone : Bool) (d : PortValue) (left : Option LeftValue) → s.host.left ≡ Some c →
      FragmentIsTransmitted PortMove s.device s.host.inner c gone d left → L n s p
      → L n (state d (record s.host { left = left }) s.slots) p
  fragment s p c gone d left is is_transmitted l =
      let sender : IsSender (MadeBy p) first s.host.inner (Some c) s.device.link.sent l.out =
      subst (λ (o : Option LeftValue). IsSender (MadeBy p) first s.host.inner o s.device.link.sent l.out) is l.sender in
      let waits : d.link.waiting ≡ s.device.link.waiting =
      once_waits s.device d s.host.inner (Some (departure_from s.host.inner c)) gone
      (fragment_sends PortMove s.device d s.host.inner c left gone is_transmitted) in
      was_sent_so 0 n s p d s.host.inner left s.slots l (omega arith) waits refl refl
      (fragment_keeps (MadeBy p) first l.out s.host.inner c s.device sender gone d left is_transmitted)

  -- AN ANSWER IN ARP, from a host after an arrival

  pub tells : (s : State PortValue) (p : Party) (frame : List ℕ) (d0 : PortValue) (content : Option IncomingValue) (assemblers : Assemblers) (a : Arrived)
      (packet : ArpRepr) (gone : Bool) (d : PortValue) (slots : Slots)
      → IsContent s.host.inner.hardware s.host.inner.checksums frame content → ArrivesAs s.host.inner s.host.timeout s.host.assemblers s.slots content assemblers a →
      a.reply ≡ Some (Replies.Tells packet)
      → Departs PortMove d0 a.inner (Tells packet) gone d → L n (state d0 (record s.host { inner = a.inner; assemblers = assemblers }) slots) p →
      L n (state d (record s.host { inner = a.inner; assemblers = assemblers }) slots) p
  tells s p frame d0 content assemblers a packet gone d slots is arrives reply departs l =
      let same : a.inner.hardware ≡ s.host.inner.hardware =
      (brings_same s.host.inner s.slots (whole_arrived s.host.inner s.host.timeout s.host.assemblers content) a arrives.1).hardware in
      let long : HasSixBytes s.host.inner.hardware = subst HasSixBytes same l.sender.sound.own in
      let between = told_between s.host.inner s.host.timeout s.host.assemblers s.slots frame content a packet long is arrives.1 reply in
      let node : IsNode a.inner.hardware = subst IsNode (sym same) between.0 in
      let waits : d.link.waiting ≡ d0.link.waiting = waits_same d0 d (frame_of a.inner (Tells packet)) (frame_len_of a.inner (Tells packet)) gone departs in
      let was_sent = tells_keeps (MadeBy p) first l.out a.inner s.host.left d0 l.sender packet gone d node between.1 departs in
      record {
        out = was_sent.out_after;
        more = more_out _ _ _ l.more was_sent.grows;
        sender = was_sent.sender;
        receiver = subst (λ (w : List (List ℕ)). IsReceiver (MadeBy q) others a.inner assemblers w) (sym waits) l.receiver;
        count = let c = was_sent.count in let b = l.count in omega (arith, c, b);
        tied = tied_trans (medium_on a.inner.hardware) base l.out was_sent.out_after before d0.link.sent d.link.sent l.tied was_sent.tied;
      }

-- ALL OF IT

more_linked : (q : Party) (others base : List Outgoing) (first : ℕ) (before : List (List ℕ)) (n m : ℕ) (s : State PortValue) (p : Party) → n ≤ m →
    IsLinked q others base first before n s p → IsLinked q others base first before m s p
more_linked q others base first before n m s p up l =
    record { out = l.out; more = l.more; sender = l.sender; receiver = l.receiver; count = (let c = l.count in omega (arith, c, up)); tied = l.tied }

pub is_link : (q : Party) (others base : List Outgoing) (first : ℕ) (before : List (List ℕ)) (start next : ℕ) → IsOther q start next others →
    IsLink PortMove q (λ n s p. IsLinked q others base first before n s p)
is_link q others base first before start next other = record {
  more = more_linked q others base first before;
  grown = λ n. grown q others base first before n;
  hears = λ n s p reports l.
      record { out = l.out; more = l.more; sender = l.sender; receiver = l.receiver; count = l.count; tied = l.tied };
  maintenance = λ n. maintenance q others base first before n;
  looks = λ n. looks q others base first before n;
  skips = λ n s p frame d move unread l. skips q others base first before n s p frame d move l;
  brings = λ n s p frame d content move read is l. brings q others base first before n start next other s p frame d content move is l;
  takes = λ n s p frame d content assemblers a move read is arrives l. takes q others base first before n start next other s p frame d content assemblers a s.slots move
      is arrives l;
  leave = λ n. leave q others base first before n;
  tells = λ n s p frame d0 content assemblers a packet gone d move read is arrives reply departs l.
      tells q others base first before n s p frame d0 content assemblers a packet gone d s.slots is arrives reply departs l;
  goes = λ n. goes q others base first before n;
  fragment = λ n. fragment q others base first before n;
}
