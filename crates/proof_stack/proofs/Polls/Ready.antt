-- A poll that comes to a frame which waits among others, whose socket has room whatever these bring.
use Rattle.std.proofs.Common.{◌≡◌, ◌≢◌, inl, inr, ℕ, zero, suc, ◌+◌, ◌-◌, ◌<◌, ◌≤◌, Bool, true, false, ℤ, List, [], ◌∷◌, ◌++◌, length, take, Option, Some, None, refl, sym, ap, ◌∙◌}
use Rattle.std.proofs.Common.{subst, arith}
use Rattle.std.specs.List.{AllByRecursion}
use Rattle.net_base.specs.ChecksumCapabilities.{ChecksumCapabilities}
use Rattle.net_base.specs.Device.{Move, Took}
use Rattle.net_base.specs.Packets.{contents, is_full_for}
use Rattle.wire_ip.specs.Ip.{source_of}
use Rattle.ip_wire.specs.HardwareAddress.{HardwareAddress}
use Rattle.ip_wire.specs.IpRepr.{IpRepr}
use Rattle.ip_wire.specs.UdpRepr.{UdpRepr}
use Rattle.sockets.specs.Context.{ContextValue}
use Rattle.socket_datagram.specs.Udp.{UdpValue, UdpSettings, metadata_of, process_after}
use Rattle.sockets.specs.declared.socket.Socket.{Socket}
use Rattle.sockets.specs.declared.socket.Socket.TheVariants as Kind
use Rattle.socket_datagram.specs.declared.udp.UdpMetadata.{UdpMetadata}
use Rattle.iface_ingress.specs.Datagrams.{TakesDatagram}
use Rattle.iface_ingress.specs.Delivered.{Slots, with_icmpv4, with_icmpv6, with_packet, with_segment}
use Rattle.iface_ingress.specs.Packet.{PacketValue}
use Rattle.iface_tables.specs.Inner.{InnerValue, at_instant}
use Rattle.iface_egress.specs.Set.{socket_at, socket_in}
use Rattle.iface_egress.specs.declared.socket_meta.Meta.{Meta}
use Rattle.interface.specs.Ingress.{IngressStep, Takes}
use Rattle.interface.specs.Polls.{Polls, begun}
use Rattle.interface.specs.QuietPoll.{HasNoFrame}
use Rattle.interface.specs.State.{State}
use Rattle.interface.specs.TransmittedFrame.{CanRead, HasWidths}
use Rattle.proof_stack.specs.PeerHost.Datagrams.{IsUdpAt}
use Rattle.lan.specs.Worlds.PollSteps.{Reaches}
use Rattle.proof_stack.specs.Progress.Delivered.{RefusesNothing, as_received, reader_of}
use Rattle.proof_stack.specs.Progress.Inbox.{BringsAmong, IsExpectedAt, IsInbox, WaitsAmongThem}
use Rattle.proof_stack.specs.Progress.Queued.{CanGo, HasTurn, HasWay, frame_under, ports_of}
use Rattle.proof_stack.specs.Progress.Ready.{BringsAtMost, HasRoomFollowing, HasRoomWhatever, IsExpectedThroughout, IsStillExpected}
use Rattle.proof_stack.proofs.Peers.Arrivals.{IsOfArrivals, brings_holds}
use Rattle.proof_stack.proofs.Peers.Place.{Found, HoldsAt, at_so, found_holds, holds_found}
use Rattle.proof_stack.proofs.Polls.Frames.{Waits}
use Rattle.proof_stack.proofs.Polls.Inbox.{Expects, arrives_where, same_value}
use Rattle.proof_stack.proofs.Polls.Lengths.{AreShort, brought_short, datagram_short, expired_short, takes_short}
use Rattle.proof_stack.proofs.Polls.Rooms.{HasRoom, room_following, room_less, takes}
use Rattle.proof_stack.proofs.Polls.Stays.{reads_still, still_expected}

-- A SOCKET WITH ROOM

module _ (most : ℕ) where
  -- a UDP socket with room for so many datagrams
  record IsRoomy (n : ℕ) (s : Socket) : Type 0 where
    value : UdpValue
    is : s ≡ Kind.Udp value
    room : HasRoom value.received n most

  abbrev Came : ChecksumCapabilities → IpRepr → List ℕ → Type 0
  Came caps ip payload = length payload ≤ most

  module _ (n : ℕ) where
    fewer : (s : Socket) → IsRoomy (suc n) s → IsRoomy n s
    fewer s has = record { value = has.value; is = has.is; room = room_less has.value.received n most has.room }

    same_for : (change : Socket → Socket) → ((v : UdpValue) → change (Kind.Udp v) ≡ Kind.Udp v) → (s : Socket) → IsRoomy (suc n) s → IsRoomy (suc n) (change s)
    same_for change same s has = record { value = has.value; is = ap change has.is ∙ same has.value; room = has.room }

    gets : (cx : ContextValue) (ip : IpRepr) (udp : UdpRepr) (bytes : List ℕ) (s s' : Socket) → length bytes ≤ most → TakesDatagram cx ip udp bytes s s'
        → IsRoomy (suc n) s → IsRoomy n s'
    gets cx ip udp bytes s s' short takes has = record {
      value = process_after has.value ip udp bytes;
      is = subst (λ (x : Socket). TakesDatagram cx ip udp bytes x s') has.is takes;
      room = room_following has.value.received n most (metadata_of ip udp) bytes short has.room;
    }

    arrivals : IsOfArrivals Came (IsRoomy (suc n)) (IsRoomy n)
    arrivals = record {
      same = fewer;
      packet = λ ip payload s has. same_for (with_packet ip payload) (λ v. refl) s has;
      icmpv4 = λ ip message bytes s has. fewer (with_icmpv4 ip message bytes s) (same_for (with_icmpv4 ip message bytes) (λ v. refl) s has);
      icmpv6 = λ ip message bytes s has. fewer (with_icmpv6 ip message bytes s) (same_for (with_icmpv6 ip message bytes) (λ v. refl) s has);
      datagram = λ caps cx ip payload udp bytes s s' came is accepts takes has.
          gets cx ip udp bytes s s' (datagram_short most ip payload bytes is.bytes_are came) takes has;
      segment = λ caps cx ip payload tcp bytes s came is accepts has.
          fewer (with_segment cx ip tcp bytes s) (same_for (with_segment cx ip tcp bytes) (λ v. refl) s has);
    }

  -- THE FRAMES BEFORE

  module _ {E : Type 0} (moves : E → Move → E → Type 0) (u : ℤ) (m : ℕ) where
    -- these frames can be read, and then there is room for one datagram more
    record Has (before : List (List ℕ)) (s : State E) : Type 0 where
      frames : AllByRecursion (λ (f : List ℕ). length f ≤ most) before
      assemblers : before ≢ [] → AreShort most s.host.assemblers
      room : HoldsAt (IsRoomy (suc (length before))) s.slots m

    abbrev RoomyIn : List (List ℕ) → Slots → Type 0
    RoomyIn before slots = HoldsAt (IsRoomy (suc (length before))) slots m

    took : (f : List ℕ) (before : List (List ℕ)) (s s' : State E) (answer : Option Bool) → ((other : List ℕ) (mid : E)
        → moves s.device (Took s.host.inner.instant other) mid → other ≡ f)
        → Takes moves s answer s' → Has (f ∷ before) s → RoomyIn before s'.slots
    took f before s s' None only is has =
        at_so ⊥ (IsRoomy (suc (suc (length before)))) (IsRoomy (suc (length before))) (fewer (suc (length before))) s'.slots m
        (subst (λ (x : State E). HoldsAt (IsRoomy (suc (suc (length before)))) x.slots m) (sym is.1) has.room)
    took f before s s' (Some false) only is has =
        at_so ⊥ (IsRoomy (suc (suc (length before)))) (IsRoomy (suc (length before))) (fewer (suc (length before))) s'.slots m
        (subst (λ (x : State E). HoldsAt (IsRoomy (suc (suc (length before)))) x.slots m) (sym is.3) has.room)
    took f before s s' (Some true) only (frame, mid, taken, read, (content, is, receives, hears)) has =
        let short : length frame ≤ most = subst (λ (g : List ℕ). length g ≤ most) (sym (only frame mid taken)) has.frames.0 in
        subst (λ (slots : Slots). RoomyIn before slots) (sym receives.2)
        (brings_holds Came ⊥ (IsRoomy (suc (suc (length before)))) (IsRoomy (suc (length before))) (arrivals (suc (length before))) m s.host.inner s.slots _
        receives.0
        (λ ip payload packet ours. brought_short most s frame content is short (has.assemblers (λ none. absurd (cc))) ip payload packet) receives.1.1 has.room)

    first_taken : (frames_at : E → List (List ℕ)) → IsInbox moves frames_at → (f : List ℕ) (before more : List (List ℕ)) (s s' : State E) (b : Bool)
        → Waits frames_at s.device (f ∷ more) → Has (f ∷ before) s → IngressStep moves u s (Some b) s' → Has before s'
    first_taken frames_at inbox f before more s s' b wait has step =
        let then_ : State E = begun u s in
        let has_then : Has (f ∷ before) then_ =
        record { frames = has.frames; assemblers = λ some. expired_short most u s.host.assemblers (has.assemblers some); room = has.room } in
        record {
          frames = has.frames.1;
          assemblers = λ some. takes_short most moves then_ s' (Some b) step (has_then.assemblers (λ none. absurd (cc)));
          room = took f before then_ s' (Some b) (λ other mid taken. (inbox.first s.device mid u f other more wait taken).0) step has_then;
        }

-- THE DATAGRAM

never : (f : List ℕ) (more : List (List ℕ)) → f ∷ more ≡ [] → ⊥
never f more is = cc

no_front : (front : List (List ℕ)) (count : ℕ) → length front < count → count ≡ 1 → front ≡ []
no_front [] count few one = refl
no_front (f ∷ front) count few one = absurd (omega (arith, few, one))

module _ {E : Type 0} (moves : E → Move → E → Type 0) (frames_at : E → List (List ℕ)) (inbox : IsInbox moves frames_at) (u : ℤ) (r : State E) (m : ℕ)
    (meta : Meta) (w : UdpValue) (i : InnerValue) (settings : UdpSettings) (d : UdpMetadata × List ℕ) (to : HardwareAddress) (p : PacketValue)
    (is : IsExpectedThroughout (at_instant u r.host.inner) r.slots to p.header (ports_of settings d) m meta w)
    (reads : CanRead i to (reader_of r.host.inner)) (frame : List ℕ) (front following : List (List ℕ)) where
  abbrev AtFrame : Type 1
  AtFrame = Expects moves frames_at u r m i settings d to p frame front following

  -- where the socket has room
  expects_at : (x : State E) → Reaches moves u r x → (v : UdpValue) → IsUdpAt x.slots m v → is_full_for v.received (length d.1) ≡ false
      → IsExpectedAt u x i to p.header (ports_of settings d) (length d.1) m
  expects_at x so v here room =
      let still : IsStillExpected (at_instant u x.host.inner) x.slots to p.header (ports_of settings d) m w =
      still_expected moves u r to p.header (ports_of settings d) m meta w is x so in
      let same : still.value ≡ v = same_value still.value v (sym (ap socket_in still.expected.stands) ∙ here) in
      record {
        meta = still.meta;
        value = still.value;
        expected = still.expected;
        room = ap (λ (y : UdpValue). is_full_for y.received (length d.1)) same ∙ room;
        reads = reads_still moves u r to p.header (ports_of settings d) m meta w is x so i reads;
      }

  -- no frame comes before
  expects_first : front ≡ [] → is_full_for w.received (length d.1) ≡ false → AtFrame
  expects_first none room = record {
    Holds = λ frames x. (frames ≡ []) × (x.slots ≡ r.slots);
    keeps = λ f more rest s s' b waits holds step. absurd (never f more holds.0);
    begins = (none, refl);
    expects = λ x so next holds.
        expects_at x so w (ap (λ (slots : Slots). socket_at slots m) holds.1 ∙ ap socket_in is.expected.stands) room;
  }

  module _ (count : ℕ) (few : length front < count) (wait : Waits frames_at r.device (front ++ frame ∷ following))
      (has : HasRoomWhatever (take count (frames_at r.device)) r.host.assemblers w.received count (length d.1)) where
    abbrev most : ℕ
    most = has.most

    less_by : (n extra : ℕ) → HasRoom w.received (n + extra) most → HasRoom w.received n most
    less_by n zero room = subst (λ (k : ℕ). HasRoom w.received k most) (let e : n + zero ≡ n = omega arith in e) room
    less_by n (suc extra) room =
        less_by n extra
        (room_less w.received (n + extra) most (subst (λ (k : ℕ). HasRoom w.received k most) (let e : n + suc extra ≡ suc (n + extra) = omega arith in e) room))

    room_for : HasRoom w.received (suc (length front)) most
    room_for =
        less_by (suc (length front)) (count - suc (length front))
        (subst (λ (k : ℕ). HasRoom w.received k most)
        (let e : count ≡ suc (length front) + (count - suc (length front)) = omega (arith, few) in e) (inl has.room))

    frames_short : (fs rest : List (List ℕ)) (n : ℕ) → length fs < n → AllByRecursion (BringsAtMost most r.host.assemblers) (take n (fs ++ rest))
        → AllByRecursion (λ (f : List ℕ). length f ≤ most) fs
    frames_short [] rest n less all = tt
    frames_short (f ∷ fs) rest zero less all = absurd (omega (arith, less))
    frames_short (f ∷ fs) rest (suc n) less all = (all.0.0, frames_short fs rest n (omega (arith, less)) all.1)

    assemblers_short : (fs rest : List (List ℕ)) (n : ℕ) → length fs < n → AllByRecursion (BringsAtMost most r.host.assemblers) (take n (fs ++ rest)) → fs ≢ []
        → AreShort most r.host.assemblers
    assemblers_short [] rest n less all some = absurd (some refl)
    assemblers_short (f ∷ fs) rest zero less all some = absurd (omega (arith, less))
    assemblers_short (f ∷ fs) rest (suc n) less all some = all.0.1

    all_there : AllByRecursion (BringsAtMost most r.host.assemblers) (take count (front ++ frame ∷ following))
    all_there = subst (λ (fs : List (List ℕ)). AllByRecursion (BringsAtMost most r.host.assemblers) (take count fs)) wait has.brings

    has_first : Has most moves u m front (begun u r)
    has_first = record {
      frames = frames_short front (frame ∷ following) count few all_there;
      assemblers = λ some. expired_short most u r.host.assemblers (assemblers_short front (frame ∷ following) count few all_there some);
      room = found_holds (IsRoomy most (suc (length front))) r.slots m (Kind.Udp w) (ap socket_in is.expected.stands)
          (record { value = w; is = refl; room = room_for });
    }

    expects_roomy : (x : State E) → Reaches moves u r x → Has most moves u m [] x → IsExpectedAt u x i to p.header (ports_of settings d) (length d.1) m
    expects_roomy x so then_has =
        let roomy : Found (IsRoomy most 1) x.slots m = holds_found (IsRoomy most 1) x.slots m then_has.room in
        expects_at x so roomy.holds.value (roomy.is ∙ ap (λ (s : Socket). Some s) roomy.holds.is)
        (takes roomy.holds.value.received 0 most (length d.1) has.own roomy.holds.room)

    expects_following : AtFrame
    expects_following = record {
      Holds = Has most moves u m;
      keeps = first_taken most moves u m frames_at inbox;
      begins = has_first;
      expects = λ x so next then_has. expects_roomy x so then_has;
    }

  pub expects : (count : ℕ) → length front < count → Waits frames_at r.device (front ++ frame ∷ following)
      → HasRoomFollowing (frames_at r.device) r.host.assemblers w.received count (length d.1) → AtFrame
  expects count few wait (inl first) = expects_first (no_front front count few first.0) first.1
  expects count few wait (inr has) = expects_following count few wait has

pub arrives_with_room : {D E : Type 0} (out : D → Move → D → Type 0) (moves : E → Move → E → Type 0) (frames_at : E → List (List ℕ)) (t u : ℤ)
    (budget count steps : ℕ) (s s' : State D) (r r' : State E) (changed changed' : Bool) (n m : ℕ) (meta : Meta) (v w : UdpValue)
    (before : List (UdpMetadata × List ℕ)) (d : UdpMetadata × List ℕ) (more : List (UdpMetadata × List ℕ)) (to : HardwareAddress) (p : PacketValue)
    → IsInbox moves frames_at
    → HasWidths (at_instant t s.host.inner) → HasTurn (at_instant t s.host.inner) s.slots n v → contents v.queued ≡ before ++ d ∷ more
    → length before < budget → AllByRecursion (HasWay (at_instant t s.host.inner) v.settings) before → d.0.endpoint.port ≢ 0
    → CanGo (at_instant t s.host.inner) v.settings d to p → HasNoFrame out t s.device → Polls out t budget s changed s'
    → RefusesNothing out s.device s'.device → BringsAmong out frames_at (at_instant t s.host.inner) to p s.device s'.device r.device count
    → count ≤ steps → CanRead (at_instant t s.host.inner) to (reader_of r.host.inner)
    → IsExpectedThroughout (at_instant u r.host.inner) r.slots to p.header (ports_of v.settings d) m meta w
    → HasRoomFollowing (frames_at r.device) r.host.assemblers w.received count (length d.1) → Polls moves u steps r changed' r'
    → WaitsAmongThem r'.slots m w (as_received (source_of p.header) v.settings d)
arrives_with_room {D} {E} out moves frames_at t u budget count steps s s' r r' changed changed' n m meta v w before d more to p inbox wide turn queued short ways
    some can none polls freely brings within reads is room polled =
    arrives_where out moves frames_at t u budget count steps s s' r r' changed changed' n m v w before d more to p inbox wide turn queued short ways some can none
    polls freely brings within (ap socket_in is.expected.stands)
    (λ ident padding front following few wait.
    expects moves frames_at inbox u r m meta w (at_instant t s.host.inner) v.settings d to p is reads
    (frame_under (at_instant t s.host.inner) ident to p ++ padding) front following count few wait room)
    polled
