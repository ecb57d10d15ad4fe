-- A poll of a host on Ethernet, by the frames that it sends: one that passes a test is a question's, which waits for the end of the silence.
use Rattle.std.proofs.Common.{◌≡◌, ◌≤ℤ◌, inl, inr, ℕ, ◌+◌, ◌≤◌, ℤ, Bool, true, false, cond, ◌&&◌, if◌then◌else◌, int_lt, List, [], ◌∷◌, ◌++◌, length, Option, Some}
use Rattle.std.proofs.Common.{None}
use Rattle.std.proofs.Common.{IfSome, is_some, refl, sym, ◌∙◌, ap, subst, arith, append_assoc}
use Rattle.std.specs.Prelude.{nat_lt}
use Rattle.sim_link.specs.ChecksumCapabilities.{ChecksumCapabilities}
use Rattle.iface_ingress.specs.Address.{IsIpAddress}
use Rattle.iface_ingress.specs.HardwareAddress.{HardwareAddress}
use Rattle.iface_ingress.specs.HardwareAddress.TheVariants as Hardware
use Rattle.iface_ingress.specs.IpAddress.{IpAddress}
use Rattle.interface.specs.Ip as Ips
use Rattle.interface.specs.Ip.{destination_of}
use Rattle.interface.specs.IpRepr.{IpRepr}
use Rattle.interface.specs.IpRepr.TheVariants as Ip
use Rattle.interface.specs.Delivered.{IsWritable}
use Rattle.interface.specs.TransmittedFrame.{IsOffered, IsHalfSent}
use Rattle.interface.specs.Widths.{IsPayload}
use Rattle.interface.proofs.Offered.{writes, begun_half, left_half}
use Rattle.iface_tables.specs.Inner.{InnerValue, with_next_ident, with_request}
use Rattle.iface_egress.specs.Departure.{Tells, Whole, arp_frame, packet_frame, packet_frame_len, fragment_frame, fragment_frame_len, solicitation_frame}
use Rattle.iface_egress.specs.Departure.{target_of}
use Rattle.iface_egress.specs.Fragments.{LeftValue, fragment_room, fragment_from, departure_from, cut_mtu, left_after, left_from}
use Rattle.iface_egress.specs.IsTransmitted.{IsTransmitted, Asked, WasSent, WasCut, FragmentIsTransmitted, Departs, Stays, numbered, after_header, cut_of}
use Rattle.iface_egress.specs.Plan.{plan_of}
use Rattle.iface_egress.specs.declared.frame.NeighborQuery.{NeighborQuery}
use Rattle.iface_egress.specs.declared.socket_meta.Meta.{Meta}
use Rattle.iface_egress.specs.declared.socket_set.Item.{Item}
use Rattle.iface_egress.specs.declared.egress_path.Sent.{Sent}
use Rattle.iface_egress.specs.declared.egress_path.Sent.TheVariants as Outcome
use Rattle.iface_egress.proofs.Planned.{plan_cases}
use Rattle.iface_ingress.specs.ArpRepr.{ArpRepr}
use Rattle.iface_ingress.specs.Arrives as Replies
use Rattle.iface_ingress.specs.Arrives.{Arrived, Brings, ReplyValue, whole_arrived}
use Rattle.iface_ingress.specs.Delivered.{Slots}
use Rattle.iface_ingress.specs.Incoming.{IncomingValue, IsContent}
use Rattle.iface_ingress.specs.Reassembled.{Assemblers}
use Rattle.iface_ingress.proofs.Settings.{brings_same}
use Rattle.interface.specs.Host.{Sender}
use Rattle.interface.specs.Ingress.{Takes, Replied, is_awaited, sender_of, sender_with, would_solicit}
use Rattle.interface.proofs.Alone.{answers_alone, leaves_alone}
use Rattle.interface.proofs.Kept.{IsKept, IsKeptAlone, RunsAloneAt}
use Rattle.interface.specs.State.{State, at_device}
use Rattle.interface.specs.Touches.{second_after}
use Rattle.interface.specs.Remote.{context_for}
use Rattle.interface.specs.Serve.{Leaves, SendsBy, Answers, TurnsIf, ItemTurns, is_waiting, let_through}
use Rattle.interface.specs.EgressPath.{FragmentLeaves}
use Rattle.interface.specs.declared.serve.Served.{Served}
use Rattle.interface.proofs.KeepAlone.{polls_keep_alone}
use Rattle.interface.proofs.Sourced.{as_sourced}
use Rattle.lan.specs.Worlds.AtLink.Port.{LinkEnd, PortValue, PortMove}
use Rattle.lan.specs.Worlds.AtLink.Node.{NodeValue, at_port}
use Rattle.lan.specs.Worlds.AtLink.Steps.{PollsAt}
use Rattle.sockets.specs.Context.{ContextValue}
use Rattle.sockets.specs.Offer as Answer
use Rattle.sockets.specs.Offer.TheVariants as Offer
use Rattle.sockets.specs.Packet.{PacketValue, PayloadValue, ControlV4, ControlV6, Bytes, Datagram, Segment}
use Rattle.sockets.specs.Socket.{Offers, offered_by}
use Rattle.sockets.specs.WellFormed.{HasWidths, IsWellFormed}
use Rattle.sockets.specs.declared.socket.Socket.{Socket}
use Rattle.lan.specs.Worlds.Hosts.Wire.{asked_in}
use Rattle.lan.specs.Worlds.Link.Made.{sealed}
use Rattle.lan.specs.Worlds.Link.Sides.{HasSixBytes, IsBetweenNodes, IsSameKind, IsSound, IsNode}
use Rattle.lan.specs.Worlds.Moves.Raws.{OfItem, OfEach}
use Rattle.lan.proofs.Worlds.Hosts.Asking.{AreSilent, in_a_second, itself, later, over_later, reached}
use Rattle.lan.proofs.Worlds.Hosts.WireFrames.{IsReply, IsTest, fragment_quiet, told_quiet, whole_quiet}
use Rattle.lan.proofs.Worlds.Hosts.WireReplies.{MayReply, RepliesMayGo, brings_may}
use Rattle.lan.proofs.Worlds.Keeps.{instant_sound}
use Rattle.lan.proofs.Worlds.Link.PlanKinds.{PlanKind, plan_kind}
use Rattle.lan.proofs.Worlds.Link.Nodes.{arrival_keeps_sender}
use Rattle.lan.proofs.Worlds.Moves.EachSocket.{IsOfSockets, kept, middle}
use Rattle.lan.proofs.Worlds.Told.{told_between}

-- MOMENTS OF ONE TURN, which are all the same

module _ (T : List ℕ → Bool) (t : ℤ) where
  swap : (a b : Bool) (ts : List ℤ) →
      (if b then t ∷ (if a then t ∷ ts else ts) else (if a then t ∷ ts else ts)) ≡ (if a then t ∷ (if b then t ∷ ts else ts) else (if b then t ∷ ts else ts))
  swap true true ts = refl
  swap true false ts = refl
  swap false true ts = refl
  swap false false ts = refl

  -- the last one counts as the first
  last_first : (frame : List ℕ) (frames : List (List ℕ)) → asked_in T t (frames ++ frame ∷ []) ≡ asked_in T t (frame ∷ frames)
  last_first frame [] = refl
  last_first frame (f ∷ frames) =
      ap (λ (ts : List ℤ). if T f then t ∷ ts else ts) (last_first frame frames) ∙ swap (T frame) (T f) (asked_in T t frames)

  unasked : (frame : List ℕ) (frames : List (List ℕ)) → T frame ≡ false → asked_in T t (frames ++ frame ∷ []) ≡ asked_in T t frames
  unasked frame frames is =
      last_first frame frames ∙ ap (λ (b : Bool). if b then t ∷ asked_in T t frames else asked_in T t frames) is

  asked_by : (b : Bool) (ts rest : List ℤ) (until : ℤ) → until ≤ℤ t → AreSilent (ts ++ rest) until →
      AreSilent ((if b then t ∷ ts else ts) ++ rest) (second_after t)
  asked_by true ts rest until up s =
      record {
        apart = (over_later (ts ++ rest) until t up s.over, s.apart);
        over = (itself (second_after t), over_later (ts ++ rest) until (second_after t) (later until t (second_after t) up (in_a_second t)) s.over);
      }
  asked_by false ts rest until up s =
      record { apart = s.apart; over = over_later (ts ++ rest) until (second_after t) (later until t (second_after t) up (in_a_second t)) s.over }

  -- a question that leaves when the silence is over, and begins another
  one_asked : (frame : List ℕ) (frames : List (List ℕ)) (rest : List ℤ) (until : ℤ) → until ≤ℤ t → AreSilent (asked_in T t frames ++ rest) until →
      AreSilent (asked_in T t (frames ++ frame ∷ []) ++ rest) (second_after t)
  one_asked frame frames rest until up s =
      subst (λ (ts : List ℤ). AreSilent (ts ++ rest) (second_after t)) (sym (last_first frame frames))
      (asked_by (T frame) (asked_in T t frames) rest until up s)

-- HOSTS

payload_widths : (x : PayloadValue) → HasWidths x → IsPayload x
payload_widths (ControlV4 message bytes) widths = widths
payload_widths (ControlV6 message bytes) widths = widths
payload_widths (Bytes bytes) widths = tt
payload_widths (Datagram udp bytes) widths = tt
payload_widths (Segment header bytes) widths = tt

offered : (p : PacketValue) → IsWellFormed p → IsOffered p
offered p formed = record {
  packet = record { len = formed.sendable.len; payload = λ short. formed.sendable.payload };
  header = formed.header;
  payload = payload_widths p.payload formed.payload;
}

to_address : (h : IpRepr) → Ips.IsValue h → IsIpAddress (destination_of h)
to_address (Ip.Ipv4 v) is = is.destination
to_address (Ip.Ipv6 v) is = is.destination

next_sound : (i : InnerValue) → IsSound i → IsSound (with_next_ident i)
next_sound i s = record {
  own = s.own;
  neighbors = s.neighbors;
  routers = s.routers;
  widths = record { mtu = s.widths.mtu; ident = omega arith };
  checksums = s.checksums;
}

request_sound : (i : InnerValue) (q : NeighborQuery) → IsSound i → IsSound (with_request i (target_of q))
request_sound i q s = record {
  own = s.own;
  neighbors = s.neighbors;
  routers = s.routers;
  widths = record { mtu = s.widths.mtu; ident = s.widths.ident };
  checksums = s.checksums;
}

-- what arrives leaves a sound host one
arrival_sound : (i : InnerValue) (slots : Slots) (content : Option IncomingValue) (a : Arrived) → Brings i slots content a → IsSound i → IsSound a.inner
arrival_sound i slots content a brings s =
    (arrival_keeps_sender (λ source destination x. Unit {0}) i.ident [] i None [] slots content a brings (record {
      sound = s;
      are_sent = record { packets = λ p among. absurd among; numbered = (refl, s.widths.ident) };
      left_is = tt;
      frames = tt;
    })).sound

there_by : (own to : HardwareAddress) → IsNode own → IsSameKind own to → IsNode to
there_by (Hardware.Ethernet own) (Hardware.Ethernet to) here same = tt
there_by (Hardware.Ethernet own) Hardware.Ip here same = absurd same
there_by Hardware.Ip to here same = absurd here

-- what is left to send goes to a host
pub record IsLeftSo (l : LeftValue) : Type 0 where
  pub half : IsHalfSent l
  pub there : IsNode l.to

rest_by : (mtu : ℕ) (c : LeftValue) (b : Bool) → IsNode c.to → IfSome (cond b (Some (record c { at = c.at + fragment_room c.header mtu })) None) IsHalfSent →
    IfSome (cond b (Some (record c { at = c.at + fragment_room c.header mtu })) None) IsLeftSo
rest_by mtu c true there is = record { half = is; there = there }
rest_by mtu c false there is = tt

rest_so : (mtu : ℕ) (c : LeftValue) → IsLeftSo c → IfSome (left_after mtu c) IsLeftSo
rest_so mtu c so = rest_by mtu c (nat_lt (c.at + fragment_room c.header mtu) (length c.payload)) so.there (left_half mtu c so.half)

-- A POLL

-- what a socket of its kind offers may go
abbrev pub OffersMayGo : (Socket → Type 0) → (IpRepr → PayloadValue → Type 0) → Type 0
OffersMayGo W May = (cx : ContextValue) (s s' : Socket) (answer : Answer.Offer) (p : PacketValue) → W s → Offers cx s answer s' → offered_by s' ≡ Some p →
    May p.header p.payload

module _ (T : List ℕ → Bool) (May : IpRepr → PayloadValue → Type 0) (W : Socket → Type 0) (test : IsTest T May) (law : IsOfSockets W)
    (offers : OffersMayGo W May) (replies : RepliesMayGo May) (t : ℤ) (before : List (List ℕ)) (rest : List ℤ) where
  -- so far in a poll at the instant t, after the frames `before`; `rest` are the instants of earlier turns
  pub record So (d : PortValue) (i : InnerValue) (l : Option LeftValue) : Type 0 where
    pub sound : IsSound i
    pub own : IsNode i.hardware
    pub left : IfSome l IsLeftSo
    pub more : List (List ℕ)
    pub sent : d.link.sent ≡ before ++ more
    pub silent : AreSilent (asked_in T t more ++ rest) i.neighbors.silent

  so_where : (d : PortValue) (i i' : InnerValue) (l l' : Option LeftValue) → i' ≡ i → l' ≡ l → So d i l → So d i' l'
  so_where d i i' l l' inner left so = subst (λ (x : InnerValue). So d x l') (sym inner) (subst (λ (x : Option LeftValue). So d i x) (sym left) so)

  -- a device that sent nothing
  so_device : (d d' : PortValue) (i : InnerValue) (l : Option LeftValue) → d'.link.sent ≡ d.link.sent → So d i l → So d' i l
  so_device d d' i l same so = record { sound = so.sound; own = so.own; left = so.left; more = so.more; sent = same ∙ so.sent; silent = so.silent }

  -- a host with the same hardware address and silence
  so_host : (d : PortValue) (i i' : InnerValue) (l : Option LeftValue) → IsSound i' → i'.hardware ≡ i.hardware → i'.neighbors.silent ≡ i.neighbors.silent →
      So d i l → So d i' l
  so_host d i i' l sound hardware silent so = record {
    sound = sound;
    own = subst IsNode (sym hardware) so.own;
    left = so.left;
    more = so.more;
    sent = so.sent;
    silent = subst (AreSilent (asked_in T t so.more ++ rest)) (sym silent) so.silent;
  }

  so_left : (d : PortValue) (i : InnerValue) (l l' : Option LeftValue) → IfSome l' IsLeftSo → So d i l → So d i l'
  so_left d i l l' left so = record { sound = so.sound; own = so.own; left = left; more = so.more; sent = so.sent; silent = so.silent }

  one_more : (d d' : PortValue) (more : List (List ℕ)) (frame : List ℕ) → d.link.sent ≡ before ++ more → d'.link.sent ≡ d.link.sent ++ frame ∷ [] →
      d'.link.sent ≡ before ++ (more ++ frame ∷ [])
  one_more d d' more frame was is = is ∙ ap (λ (fs : List (List ℕ)). fs ++ frame ∷ []) was ∙ append_assoc before more (frame ∷ [])

  -- a frame that doesn't pass
  so_quiet : (d d' : PortValue) (i : InnerValue) (l : Option LeftValue) (frame : List ℕ) → T frame ≡ false → d'.link.sent ≡ d.link.sent ++ frame ∷ [] →
      So d i l → So d' i l
  so_quiet d d' i l frame quiet is so = record {
    sound = so.sound;
    own = so.own;
    left = so.left;
    more = so.more ++ frame ∷ [];
    sent = one_more d d' so.more frame so.sent is;
    silent = subst (λ (ts : List ℤ). AreSilent (ts ++ rest) i.neighbors.silent) (sym (unasked T t frame so.more quiet)) so.silent;
  }

  -- A PACKET'S WAY OUT

  so_asked : (q : NeighborQuery) (sent : Sent) (d d' : PortValue) (i i' : InnerValue) (l : Option LeftValue) → i.instant ≡ t →
      int_lt i.instant i.neighbors.silent ≡ false →
      Asked PortMove d i q sent d' i' → So d i l → So d' i' l
  so_asked q Outcome.Waits d d' i i' l now may goes so =
      let frame : List ℕ = solicitation_frame i.checksums q in
      let over : i.neighbors.silent ≤ℤ t = reached t i.neighbors.silent (subst (λ (m : ℤ). int_lt m i.neighbors.silent ≡ false) now may) in
      let asked : So d' (with_request i (target_of q)) l = record {
        sound = request_sound i q so.sound;
        own = so.own;
        left = so.left;
        more = so.more ++ frame ∷ [];
        sent = one_more d d' so.more frame so.sent (ap (λ (x : PortValue). x.link.sent) goes.0.0);
        silent = subst (AreSilent (asked_in T t (so.more ++ frame ∷ []) ++ rest)) (sym (ap second_after now))
            (one_asked T t frame so.more rest i.neighbors.silent over so.silent);
      } in
      so_where d' (with_request i (target_of q)) i' l l goes.1 refl asked
  so_asked q Outcome.Refused d d' i i' l now may goes so =
      so_where d' i i' l l goes.1 refl (so_device d d' i l (ap (λ (x : PortValue). x.link.sent) goes.0.0) so)
  so_asked q Outcome.Gone d d' i i' l now may goes so = absurd goes
  so_asked q Outcome.Dropped d d' i i' l now may goes so = absurd goes
  so_asked q Outcome.Busy d d' i i' l now may goes so = absurd goes

  so_numbered : (h : IpRepr) (d : PortValue) (i : InnerValue) (l : Option LeftValue) → So d i l → So d (after_header h i) l
  so_numbered (Ip.Ipv4 v) d i l so = so_host d i (with_next_ident i) l (next_sound i so.sound) refl refl so
  so_numbered (Ip.Ipv6 v) d i l so = so

  so_was_sent : (to : HardwareAddress) (p : PacketValue) (sent : Sent) (d d' : PortValue) (i i' : InnerValue) (l : Option LeftValue) →
      IsWritable (numbered i p) → IsSameKind i.hardware to → May p.header p.payload
      → WasSent PortMove d i p.header (Whole to (numbered i p)) sent d' i' → So d i l → So d' i' l
  so_was_sent to p Outcome.Gone d d' i i' l w same may goes so =
      let caps : i.checksums ≡ sealed = so.sound.checksums in
      let len : length (packet_frame sealed i.hardware to (numbered i p)) ≡ packet_frame_len i.hardware to (numbered i p) =
      subst (λ (c : ChecksumCapabilities). length (packet_frame c i.hardware to (numbered i p)) ≡ packet_frame_len i.hardware to (numbered i p)) caps
      goes.0.1 in
      let quiet : T (packet_frame i.checksums i.hardware to (numbered i p)) ≡ false =
      subst (λ (c : ChecksumCapabilities). T (packet_frame c i.hardware to (numbered i p)) ≡ false) (sym caps)
      (whole_quiet T May test i.hardware to i p.header p.payload so.own (there_by i.hardware to so.own same) w len may) in
      so_where d' (after_header p.header i) i' l l goes.1 refl
      (so_numbered p.header d' i l
      (so_quiet d d' i l (packet_frame i.checksums i.hardware to (numbered i p)) quiet (ap (λ (x : PortValue). x.link.sent) goes.0.0) so))
  so_was_sent to p Outcome.Refused d d' i i' l w same may goes so =
      so_where d' i i' l l goes.1 refl (so_device d d' i l (ap (λ (x : PortValue). x.link.sent) goes.0.0) so)
  so_was_sent to p Outcome.Waits d d' i i' l w same may goes so = absurd goes
  so_was_sent to p Outcome.Dropped d d' i i' l w same may goes so = absurd goes
  so_was_sent to p Outcome.Busy d d' i i' l w same may goes so = absurd goes

  -- the frame of a fragment that went
  so_fragment : (c : LeftValue) (d d' : PortValue) (i : InnerValue) (l : Option LeftValue) → IsLeftSo c → Departs PortMove d i (departure_from i c) true d' →
      So d i l → So d' i l
  so_fragment c d d' i l left goes so =
      let caps : i.checksums ≡ sealed = so.sound.checksums in
      let fragment = fragment_from i c in
      let len : length (fragment_frame sealed i.hardware c.to c.header fragment) ≡ fragment_frame_len i.hardware c.to c.header fragment =
      subst (λ (k : ChecksumCapabilities). length (fragment_frame k i.hardware c.to c.header fragment) ≡ fragment_frame_len i.hardware c.to c.header fragment) caps goes.1 in
      let quiet : T (fragment_frame i.checksums i.hardware c.to c.header fragment) ≡ false =
      subst (λ (k : ChecksumCapabilities). T (fragment_frame k i.hardware c.to c.header fragment) ≡ false) (sym caps)
      (fragment_quiet T May test i.hardware c.to c.header fragment so.own left.there left.half.header_is len) in
      so_quiet d d' i l (fragment_frame i.checksums i.hardware c.to c.header fragment) quiet (ap (λ (x : PortValue). x.link.sent) goes.0) so

  so_cut : (c : LeftValue) (sent : Sent) (d d' : PortValue) (i i' : InnerValue) (l l' : Option LeftValue) → IsLeftSo c → WasCut PortMove d i l c sent d' i' l' →
      So d i l → So d' i' l'
  so_cut c Outcome.Gone d d' i i' l l' left goes so =
      so_where d' (with_next_ident i) i' (left_from i c) l' goes.1 goes.2
      (so_left d' (with_next_ident i) l (left_from i c) (rest_so (cut_mtu i c) c left)
      (so_host d' i (with_next_ident i) l (next_sound i so.sound) refl refl (so_fragment c d d' i l left goes.0 so)))
  so_cut c Outcome.Refused d d' i i' l l' left goes so =
      so_where d' i i' l l' goes.1 goes.2 (so_device d d' i l (ap (λ (x : PortValue). x.link.sent) goes.0.0) so)
  so_cut c Outcome.Waits d d' i i' l l' left goes so = absurd goes
  so_cut c Outcome.Dropped d d' i i' l l' left goes so = absurd goes
  so_cut c Outcome.Busy d d' i i' l l' left goes so = absurd goes

  so_stays : (d d' : PortValue) (i i' : InnerValue) (l l' : Option LeftValue) → Stays d i l d' i' l' → So d i l → So d' i' l'
  so_stays d d' i i' l l' is so = so_where d' i i' l l' is.1 is.2 (so_device d d' i l (ap (λ (x : PortValue). x.link.sent) is.0) so)

  so_out : (d d' : PortValue) (i i' : InnerValue) (l l' : Option LeftValue) (p : PacketValue) (sent : Sent) → i.instant ≡ t →
      i.host_requirements ≡ false → IsWellFormed p →
      May p.header p.payload
      → IsTransmitted PortMove d i l p (plan_of i (is_some l) p.header) sent d' i' l' → So d i l → So d' i' l'
  so_out d d' i i' l l' p sent now alone formed may goes so =
      let busy : Bool = is_some l in
      let off : IsOffered p = offered p formed in
      let sound : IsSound i = so.sound in
      plan_cases i busy p.header (λ plan. plan_of i busy p.header ≡ plan → PlanKind i.hardware plan → IsTransmitted PortMove d i l p plan sent d' i' l' →
      So d' i' l')
      (λ is kind out. so_stays d d' i i' l l' out.1 so) (λ is kind out. so_stays d d' i i' l l' out.1 so)
      (λ is kind out. so_stays d d' i i' l l' out.1 so) (λ is kind out. so_stays d d' i i' l l' out.1 so)
      (λ q asking from is kind out. so_where d' i' i' l l' refl out.1 (so_asked q sent d d' i i' l now (asking alone) out.0 so))
      (λ to short is kind out. let most = sound.widths.mtu in
      so_where d' i' i' l l' refl out.1
      (so_was_sent to p sent d d' i i' l (writes i p sound.widths off (omega (arith, short, most))) kind may out.0 so))
      (λ to long short bare idle is kind out.
      so_cut (cut_of i to p) sent d d' i i' l l'
      (record { half = begun_half i busy p to sound.widths off is; there = there_by i.hardware to so.own kind }) out so)
      refl (plan_kind i busy p.header sound (to_address p.header formed.header)) goes

  -- ARRIVALS

  so_told : (packet : ArpRepr) (gone : Bool) (d d' : PortValue) (i : InnerValue) (l : Option LeftValue) → IsReply packet → IsBetweenNodes packet →
      Departs PortMove d i (Tells packet) gone d' → So d i l → So d' i l
  so_told packet true d d' i l reply between goes so =
      so_quiet d d' i l (arp_frame packet) (told_quiet T May test packet between reply) (ap (λ (x : PortValue). x.link.sent) goes.0) so
  so_told packet false d d' i l reply between goes so = so_device d d' i l (ap (λ (x : PortValue). x.link.sent) goes.0) so

  abbrev IsOfAnswer : ReplyValue → Type 0
  IsOfAnswer (Replies.Tells packet) = IsBetweenNodes packet
  IsOfAnswer (Replies.Answers p) = Unit {0}

  so_replied : (awaited : Bool) (reply : Option ReplyValue) (x x' : Sender PortValue) → x.inner.instant ≡ t → x.inner.host_requirements ≡ false →
      IfSome reply (MayReply May) →
      IfSome reply IsOfAnswer
      → Replied PortMove awaited reply x x' → So x.device x.inner x.left → So x'.device x'.inner x'.left
  so_replied awaited None x x' now alone may of is so = subst (λ (y : Sender PortValue). So y.device y.inner y.left) (sym is) so
  so_replied awaited (Some (Replies.Tells packet)) x x' now alone may of is so =
      so_where x'.device x.inner x'.inner x.left x'.left is.2 is.3 (so_told packet is.0 x.device x'.device x.inner x.left may of is.1 so)
  so_replied awaited (Some (Replies.Answers p)) x x' now alone may of (inl held) so = subst (λ (y : Sender PortValue). So y.device y.inner y.left) (sym held.0) so
  so_replied awaited (Some (Replies.Answers p)) x x' now alone may of (inr answers) so =
      let goes = answers_alone PortMove p (awaited && would_solicit x p) x x' alone answers in
      so_out x.device x'.device x.inner x'.inner x.left x'.left p goes.0 now alone goes.2 may goes.1 so

  abbrev P : State PortValue → Type 0
  P s = So s.device s.host.inner s.host.left × OfEach W s.slots

  answers_of : (i : InnerValue) (timeout : ℕ) (assemblers : Assemblers) (slots : Slots) (frame : List ℕ) (content : Option IncomingValue) (a : Arrived) →
      HasSixBytes i.hardware
      → IsContent i.hardware i.checksums frame content → Brings i slots (whole_arrived i timeout assemblers content) a → (o : Option ReplyValue) →
      a.reply ≡ o → IfSome o IsOfAnswer
  answers_of i timeout assemblers slots frame content a six is brings None reply = tt
  answers_of i timeout assemblers slots frame content a six is brings (Some (Replies.Tells packet)) reply =
      (told_between i timeout assemblers slots frame content a packet six is brings reply).1
  answers_of i timeout assemblers slots frame content a six is brings (Some (Replies.Answers p)) reply = tt

  so_takes : (s s' : State PortValue) (answer : Option Bool) → RunsAloneAt t s.host.inner → So s.device s.host.inner s.host.left → Takes PortMove s answer s' →
      So s'.device s'.host.inner s'.host.left
  so_takes s s' None runs so takes =
      subst (λ (x : State PortValue). So x.device x.host.inner x.host.left) (sym takes.1)
      (so_device s.device s'.device s.host.inner s.host.left (ap (λ (x : PortValue). x.link.sent) takes.0.0) so)
  so_takes s s' (Some false) runs so takes =
      subst (λ (x : State PortValue). So x.device x.host.inner x.host.left) (sym takes.3)
      (so_device s.device s'.device s.host.inner s.host.left (sym (ap (λ (x : PortValue). x.link.sent) takes.1.1)) so)
  so_takes s s' (Some true) runs so takes =
      let mid : PortValue = takes.1 in
      let i : InnerValue = s.host.inner in
      let content : Option IncomingValue = takes.4.0 in
      let a : Arrived = takes.4.2.0 in
      let whole : Option IncomingValue = whole_arrived i s.host.timeout s.host.assemblers content in
      let brings : Brings i s.slots whole a = takes.4.2.1.1 in
      let same = brings_same i s.slots whole a brings in
      let taken : So mid i s.host.left = so_device s.device mid i s.host.left (sym (ap (λ (x : PortValue). x.link.sent) takes.2.1)) so in
      so_replied (is_awaited a) a.reply (sender_with PortMove (at_device s mid) a) (sender_of PortMove s') (same.instant ∙ runs.0) (same.host_requirements ∙ runs.2)
      (brings_may May replies i s.slots whole a brings)
      (answers_of i s.host.timeout s.host.assemblers s.slots takes.0 content a so.sound.own takes.4.1 brings a.reply refl) takes.4.2.3
      (so_host mid i a.inner s.host.left (arrival_sound i s.slots whole a brings so.sound) same.hardware same.silent taken)

  -- THE WAY OUT

  so_fragment_leaves : (c : LeftValue) (x x' : Sender PortValue) (gone : Bool) → x.left ≡ Some c → FragmentLeaves PortMove c x gone x' → x'.inner ≡ x.inner →
      So x.device x.inner x.left → So x'.device x'.inner x'.left
  so_fragment_leaves c x x' gone is (inl stays) same so =
      so_where x'.device x.inner x'.inner x.left x'.left same stays.2
      (so_device x.device x'.device x.inner x.left (ap (λ (y : PortValue). y.link.sent) stays.0.0) so)
  so_fragment_leaves c x x' gone is (inr goes) same so =
      so_where x'.device x.inner x'.inner x'.left x'.left same refl
      (by gone goes.2 (so_device x.device goes.0 x.inner x.left (ap (λ (y : PortValue). y.link.sent) goes.1.0) so)) where
        by : (gone : Bool) → FragmentIsTransmitted PortMove goes.0 x.inner c gone x'.device x'.left → So goes.0 x.inner x.left → So x'.device x.inner x'.left
        by true out so =
            let left : IsLeftSo c = subst (λ (o : Option LeftValue). IfSome o IsLeftSo) is so.left in
            so_where x'.device x.inner x.inner (left_from x.inner c) x'.left refl out.1
            (so_left x'.device x.inner x.left (left_from x.inner c) (rest_so (cut_mtu x.inner c) c left)
            (so_fragment c goes.0 x'.device x.inner x.left left out.0 so))
        by false out so =
            so_where x'.device x.inner x.inner x.left x'.left refl (out.1 ∙ sym is)
            (so_device goes.0 x'.device x.inner x.left (ap (λ (y : PortValue). y.link.sent) out.0.0) so)

  module _ (turn : Option IpAddress) (x x' : Sender PortValue) (now : x.inner.instant ≡ t) (alone : x.inner.host_requirements ≡ false)
      (so : So x.device x.inner x.left) where
    abbrev Next : Type 0
    Next = So x'.device x'.inner x'.left

    so_same : x' ≡ x → Next
    so_same is = subst (λ (y : Sender PortValue). So y.device y.inner y.left) (sym is) so

    so_leaves : (m : Meta) (p : PacketValue) (sent : Sent) → IsWellFormed p → May p.header p.payload → Leaves PortMove turn x m p sent x' → Next
    so_leaves m p sent formed may (inl rests) =
        so_where x'.device x.inner x'.inner x.left x'.left rests.2 rests.3
        (so_device x.device x'.device x.inner x.left (ap (λ (y : PortValue). y.link.sent) rests.1.0) so)
    so_leaves m p sent formed may (inr goes) =
        so_out goes.0 x'.device x.inner x'.inner x.left x'.left p sent now alone formed may goes.2
        (so_device x.device goes.0 x.inner x.left (ap (λ (y : PortValue). y.link.sent) goes.1.0) so)

    so_sent : (o : Option PacketValue) (item item' : Item Socket) (changed : Bool) (turned : Served) →
        ((p : PacketValue) → o ≡ Some p → May p.header p.payload) → SendsBy PortMove turn o x item changed turned x' item' → Next
    so_sent None item item' changed turned may sends = absurd sends
    so_sent (Some p) item item' changed turned may sends =
        so_leaves item.meta sends.0 sends.3.0 sends.3.4
        (subst (λ (q : PacketValue). May q.header q.payload) (sym sends.1) (as_sourced May test.sourced x.inner p (may p refl)))
        (leaves_alone PortMove turn x x' item.meta sends.0 sends.3.0 alone sends.3.1)

    so_answers : (answer : Answer.Offer) (item item' : Item Socket) (turned : Served) →
        ((p : PacketValue) → offered_by item.socket ≡ Some p → May p.header p.payload) → Answers PortMove turn answer x item turned x' item' → Next
    so_answers (Offer.Silent changed) item item' turned may answers = so_same answers.1
    so_answers (Offer.Packet changed) item item' turned may answers = so_sent (offered_by item.socket) item item' changed turned may answers

    so_turns : (waits : Bool) (item item' : Item Socket) (turned : Served) → W item.socket → TurnsIf PortMove turn waits x item turned x' item' → Next
    so_turns true item item' turned holds turns = so_same turns.1
    so_turns false item item' turned holds turns =
        so_answers turns.0 (record item { socket = turns.1 }) item' turned
        (λ p is. offers (context_for x.inner item.socket) item.socket turns.1 turns.0 p holds turns.2 is) turns.3

    so_item : (o o' : Option (Item Socket)) (turned : Served) → OfItem W o → ItemTurns PortMove turn o x turned x' o' → Next
    so_item None None turned holds turns = so_same turns.1
    so_item (Some item) (Some item') turned holds turns =
        so_turns (is_waiting x.inner item.meta) (let_through x.inner item) item' turned holds turns
    so_item None (Some item') turned holds turns = absurd turns
    so_item (Some item) None turned holds turns = absurd turns

  all_kept : IsKeptAlone PortMove t P
  all_kept = record {
    maintenance = λ s h. (so_host s.device s.host.inner _ s.host.left (instant_sound t s.host.inner h.0.sound) refl refl h.0, slots.maintenance s h.1);
    arrivals = λ s s' answer runs h takes. (so_takes s s' answer runs h.0 takes, slots.arrivals s s' answer (runs.0, runs.1) h.1 takes);
    fragments = λ h ps x x' l gone runs is so leaves same.
        (so_fragment_leaves l x x' gone is leaves same so.0, slots.fragments h ps x x' l gone (runs.0, runs.1) is so.1 leaves same);
    turns = λ turn h first after p p' x x' turned runs so turns. (
      so_item turn x x' runs.0 runs.2 so.0 p.inner p'.inner turned (middle W first after p so.1) turns,
      slots.turns turn h first after p p' x x' turned (runs.0, runs.1) so.1 turns,
    );
  } where
    slots : IsKept PortMove t (λ s. OfEach W s.slots)
    slots = kept W law PortMove t

  -- a host that is polled
  pub polled_so : (s s' : NodeValue) (budget : ℕ) (changed : Bool) → s.host.inner.host_requirements ≡ false → PollsAt s t budget changed s' → s.link.sent ≡ before → IsSound s.host.inner →
      IsNode s.host.inner.hardware
      → IfSome s.host.left IsLeftSo → AreSilent rest s.host.inner.neighbors.silent → OfEach W s.slots →
      (d : PortValue) × (d.link ≡ s'.link) × So d s'.host.inner s'.host.left × OfEach W s'.slots
  polled_so s s' budget changed alone at same sound own left silent all =
      let began : So at.port s.host.inner s.host.left = record {
        sound = sound;
        own = own;
        left = left;
        more = [];
        sent = ap (λ (x : LinkEnd). x.sent) at.before ∙ same ∙ sym (none_more before);
        silent = silent;
      } in
      let ended = polls_keep_alone PortMove t P all_kept budget (at_port at.port s) (at_port at.port_after s') changed alone (began, all) at.polls in
      (at.port_after, at.after, ended.0.0, ended.0.1) where
        none_more : (fs : List (List ℕ)) → fs ++ [] ≡ fs
        none_more [] = refl
        none_more (f ∷ fs) = ap (λ (gs : List (List ℕ)). f ∷ gs) (none_more fs)
