-- A poll that comes to a frame which waits among others, and reads the datagram in it.
use Rattle.std.proofs.Common.{◌≡◌, ◌≢◌, ℕ, zero, ◌<◌, ◌≤◌, Bool, true, false, ◌⊎◌, inl, inr, ℤ, List, [], ◌∷◌, ◌++◌, length, Some}
use Rattle.std.proofs.Common.{refl, sym, ap, ◌∙◌, arith, append_assoc}
use Rattle.std.specs.List.{list_any, AllByRecursion}
use Rattle.net_base.specs.Device.{Move}
use Rattle.net_base.specs.Packets.{contents}
use Rattle.wire_ip.specs.Ip.{source_of}
use Rattle.ip_wire.specs.HardwareAddress.{HardwareAddress}
use Rattle.socket_datagram.specs.Udp.{UdpValue, UdpSettings}
use Rattle.sockets.specs.declared.socket.Socket.{Socket}
use Rattle.sockets.specs.declared.socket.Socket.TheVariants as Is
use Rattle.socket_datagram.specs.declared.udp.UdpMetadata.{UdpMetadata}
use Rattle.iface_ingress.specs.Packet.{PacketValue}
use Rattle.iface_ingress.specs.WellFormed.{IsWellFormed}
use Rattle.iface_tables.specs.Inner.{InnerValue, at_instant}
use Rattle.iface_egress.specs.Set.{socket_in}
use Rattle.interface.specs.Ingress.{IngressStep, is_read}
use Rattle.interface.specs.Polls.{Polls, begun}
use Rattle.interface.specs.QuietPoll.{HasNoFrame}
use Rattle.interface.specs.State.{State}
use Rattle.interface.specs.TransmittedFrame.{HasWidths}
use Rattle.interface.proofs.Kept.{IsKept}
use Rattle.proof_stack.specs.PeerHost.Datagrams.{IsUdpAt}
use Rattle.lan.specs.Worlds.PollSteps.{Reaches}
use Rattle.proof_stack.specs.Progress.Delivered.{RefusesNothing, WaitsFollowing, WentAs, as_received}
use Rattle.proof_stack.specs.Progress.Inbox.{BringsAmong, IsExpectedAt, IsInbox, IsReady, WaitsAmong, WaitsAmongThem}
use Rattle.proof_stack.specs.Progress.Moves.{AreMoves, is_refused}
use Rattle.proof_stack.specs.Progress.Queued.{CanGo, GoesInTurn, HasTurn, HasWay, WentOut, frame_under, ports_of, with_ident}
use Rattle.proof_stack.proofs.Peers.Place.{Found, HoldsAt, found_holds, holds_found}
use Rattle.proof_stack.proofs.Peers.Taken.{kept}
use Rattle.proof_stack.proofs.Peers.Udp.{GotMore, got_first, got_law}
use Rattle.proof_stack.proofs.Polls.Delivered.{waits}
use Rattle.proof_stack.proofs.Polls.Frames.{Comes, IsInOrder, Waits, comes, ins, one_in, outs}
use Rattle.proof_stack.proofs.Polls.InTurn.{poll_goes}

-- WHAT A POLL KEEPS OF A UDP SOCKET

module _ {E : Type 0} (moves : E → Move → E → Type 0) (u : ℤ) (from : State E) (v : UdpValue) (m : ℕ) where
  abbrev Got : State E → Type 0
  Got s = Reaches moves u from s × HoldsAt (GotMore moves u from v) s.slots m

  got_kept : IsKept moves u Got
  got_kept = kept moves u from ⊥ (GotMore moves u from v) (got_law moves u from v) m

  begins : IsUdpAt from.slots m v → Got from
  begins is = (
    record { count = zero; steps = refl },
    found_holds (GotMore moves u from v) from.slots m (Is.Udp v) is (got_first moves u from v),
  )

-- THE DATAGRAM

pub same_value : (a b : UdpValue) → Some (Is.Udp a) ≡ Some (Is.Udp b) → a ≡ b
same_value a b is = let inside : Is.Udp a ≡ Is.Udp b = cc in let at : a ≡ b = cc in at

module _ {E : Type 0} (moves : E → Move → E → Type 0) (frames_at : E → List (List ℕ)) (u : ℤ) (r : State E) (m : ℕ) (i : InnerValue)
    (settings : UdpSettings) (d : UdpMetadata × List ℕ) (to : HardwareAddress) (p : PacketValue) where
  -- What holds where the poll begins, and is kept as the frames before are read, makes the socket expect the datagram when its frame is next.
  pub record Expects (frame : List ℕ) (before following : List (List ℕ)) : Type 1 where
    pub Holds : List (List ℕ) → State E → Type 0
    pub keeps : (f : List ℕ) (more rest : List (List ℕ)) (s s' : State E) (b : Bool) → Waits frames_at s.device (f ∷ rest) → Holds (f ∷ more) s
        → IngressStep moves u s (Some b) s' → Holds more s'
    pub begins : Holds before (begun u r)
    pub expects : (x : State E) → Reaches moves u r x → Waits frames_at x.device (frame ∷ following) → Holds [] x
        → IsExpectedAt u x i to p.header (ports_of settings d) (length d.1) m

module _ {E : Type 0} (moves : E → Move → E → Type 0) (frames_at : E → List (List ℕ)) (inbox : IsInbox moves frames_at) (u : ℤ) (budget : ℕ)
    (r r' : State E) (changed : Bool) (m : ℕ) (w : UdpValue) (is_udp : IsUdpAt r.slots m w) (polls : Polls moves u budget r changed r') (i : InnerValue)
    (settings : UdpSettings) (d : UdpMetadata × List ℕ) (to : HardwareAddress) (p : PacketValue) (some : d.0.endpoint.port ≢ 0)
    (can : CanGo i settings d to p) (formed : IsWellFormed p) where
  abbrev received : UdpMetadata × List ℕ
  received = as_received (source_of p.header) settings d

  module _ (ident : ℕ) (wide : HasWidths (with_ident i ident)) (padding : List ℕ) (before following : List (List ℕ))
      (short : is_read (frame_under i ident to p ++ padding) ≡ true)
      (wait : Waits frames_at r.device (before ++ (frame_under i ident to p ++ padding) ∷ following)) (few : length before < budget)
      (e : Expects moves frames_at u r m i settings d to p (frame_under i ident to p ++ padding) before following) where
    abbrev frame : List ℕ
    frame = frame_under i ident to p ++ padding

    order : IsInOrder moves frames_at
    order = record { first = inbox.first; out = inbox.out }

    coming : Comes moves frames_at order u (Got moves u r w m) (got_kept moves u r w m) e.Holds e.keeps frame following polls.0
    coming =
        comes moves frames_at order u (Got moves u r w m) (got_kept moves u r w m) e.Holds e.keeps budget before (begun u r) polls.0 false polls.1 frame following
        short (λ s first more waiting step. inbox.found s.device polls.0.device u first more waiting step.0) wait few ((got_kept moves u r w m).maintenance r (begins moves u r w m is_udp), (refl, refl)) e.begins polls.2

    then_expected : IsExpectedAt u coming.x i to p.header (ports_of settings d) (length d.1) m
    then_expected = e.expects coming.x coming.runs.0.0 coming.wait coming.holds

    it_waits : WaitsFollowing coming.x'.slots m then_expected.meta then_expected.value received
    it_waits =
        waits moves i u coming.x coming.x' m then_expected.value then_expected.meta settings d to p some can formed then_expected.reads
        then_expected.expected then_expected.room ident wide padding
        (λ other new took. (inbox.first coming.x.device new u frame other following coming.wait took).0) coming.reads

    was : Found (GotMore moves u r w) coming.x.slots m
    was = holds_found (GotMore moves u r w) coming.x.slots m coming.runs.0.1

    was_value : then_expected.value ≡ was.holds.new
    was_value =
        same_value then_expected.value was.holds.new
        (sym (ap socket_in then_expected.expected.stands) ∙ was.is ∙ ap (λ (s : Socket). Some s) was.holds.is)

    end : Found (GotMore moves u coming.x' it_waits.new) r'.slots m
    end =
        holds_found (GotMore moves u coming.x' it_waits.new) r'.slots m
        (outs moves u (Got moves u coming.x' it_waits.new m) (got_kept moves u coming.x' it_waits.new m) budget polls.0 r' polls.1 changed
        (ins moves u (Got moves u coming.x' it_waits.new m) (got_kept moves u coming.x' it_waits.new m) coming.left coming.x' polls.0 coming.c
        coming.c' (
          begins moves u coming.x' it_waits.new m (ap socket_in it_waits.stands),
          (one_in moves u (Got moves u r w m) (got_kept moves u r w m) coming.x coming.x' (Some true) coming.runs coming.reads).1,
        ) coming.rest) polls.3).0.1

    pub there : WaitsAmongThem r'.slots m w received
    there = record {
      new = end.holds.new;
      before = was.holds.more;
      later = end.holds.more;
      stands = end.is ∙ ap (λ (s : Socket). Some s) end.holds.is;
      settings = end.holds.bound ∙ it_waits.settings ∙ ap (λ (x : UdpValue). x.settings) was_value ∙ was.holds.bound;
      following =
          end.holds.following
          ∙ ap (λ (ds : List (UdpMetadata × List ℕ)). ds ++ end.holds.more)
          (it_waits.following ∙ ap (λ (x : UdpValue). contents x.received ++ received ∷ []) was_value
          ∙ ap (λ (ds : List (UdpMetadata × List ℕ)). ds ++ received ∷ []) was.holds.following)
          ∙ append_assoc (contents w.received ++ was.holds.more) (received ∷ []) end.holds.more;
    }

-- One poll sends it,
pub sends_it : {D : Type 0} (out : D → Move → D → Type 0) (t : ℤ) (budget : ℕ) (s s' : State D) (changed : Bool) (n : ℕ) (v : UdpValue)
    (before : List (UdpMetadata × List ℕ)) (d : UdpMetadata × List ℕ) (more : List (UdpMetadata × List ℕ)) (to : HardwareAddress) (p : PacketValue)
    → HasTurn (at_instant t s.host.inner) s.slots n v → contents v.queued ≡ before ++ d ∷ more → length before < budget
    → AllByRecursion (HasWay (at_instant t s.host.inner) v.settings) before → CanGo (at_instant t s.host.inner) v.settings d to p → HasNoFrame out t s.device
    → Polls out t budget s changed s' → RefusesNothing out s.device s'.device
    → (all : List Move) × AreMoves out all s.device s'.device × WentOut (at_instant t s.host.inner) to p all
sends_it {D} out t budget s s' changed n v before d more to p turn queued short ways can none polls freely = by goes.what
  where
    goes : GoesInTurn out (at_instant t s.host.inner) to p s.device s'.device
    goes = poll_goes out t budget s s' changed n v before d more to p turn queued short ways can none polls

    by : (list_any is_refused goes.all ≡ true) ⊎ WentOut (at_instant t s.host.inner) to p goes.all
        → (all : List Move) × AreMoves out all s.device s'.device × WentOut (at_instant t s.host.inner) to p all
    by (inl refused) = absurd (let no_way : true ≡ false = sym refused ∙ freely goes.all goes.are in cc)
    by (inr went) = (goes.all, goes.are, went)

pub went_as : (i : InnerValue) (to : HardwareAddress) (p : PacketValue) (all : List Move) → HasWidths i → WentOut i to p all → WentAs i to p all
went_as i to p all wide went = record { ident = went.sent.0; wide = went.wide wide.ident; sent = went.sent.1 }

-- and one reads it where the socket expects it when its frame is next;
pub arrives_where : {D E : Type 0} (out : D → Move → D → Type 0) (moves : E → Move → E → Type 0) (frames_at : E → List (List ℕ)) (t u : ℤ)
    (budget count steps : ℕ) (s s' : State D) (r r' : State E) (changed changed' : Bool) (n m : ℕ) (v w : UdpValue)
    (before : List (UdpMetadata × List ℕ)) (d : UdpMetadata × List ℕ) (more : List (UdpMetadata × List ℕ)) (to : HardwareAddress) (p : PacketValue)
    → IsInbox moves frames_at
    → HasWidths (at_instant t s.host.inner) → HasTurn (at_instant t s.host.inner) s.slots n v → contents v.queued ≡ before ++ d ∷ more
    → length before < budget → AllByRecursion (HasWay (at_instant t s.host.inner) v.settings) before → d.0.endpoint.port ≢ 0
    → CanGo (at_instant t s.host.inner) v.settings d to p → HasNoFrame out t s.device → Polls out t budget s changed s'
    → RefusesNothing out s.device s'.device → BringsAmong out frames_at (at_instant t s.host.inner) to p s.device s'.device r.device count
    → count ≤ steps → IsUdpAt r.slots m w
    → ((ident : ℕ) (padding : List ℕ) (front following : List (List ℕ)) → length front < count
    → frames_at r.device ≡ front ++ (frame_under (at_instant t s.host.inner) ident to p ++ padding) ∷ following
    → Expects moves frames_at u r m (at_instant t s.host.inner) v.settings d to p
    (frame_under (at_instant t s.host.inner) ident to p ++ padding) front following)
    → Polls moves u steps r changed' r'
    → WaitsAmongThem r'.slots m w (as_received (source_of p.header) v.settings d)
arrives_where {D} {E} out moves frames_at t u budget count steps s s' r r' changed changed' n m v w before d more to p inbox wide turn queued short ways some can
    none polls freely brings within is_udp expects reads =
    let went = sends_it out t budget s s' changed n v before d more to p turn queued short ways can none polls freely in
    let it : WaitsAmong frames_at r.device count (at_instant t s.host.inner) to p went.0 =
    brings went.0 went.1 (went_as (at_instant t s.host.inner) to p went.0 wide went.2) in
    there moves frames_at inbox u steps r r' changed' m w is_udp reads (at_instant t s.host.inner) v.settings d to p some can went.2.formed it.went.ident
    (record { mtu = wide.mtu; ident = it.went.wide }) it.padding it.before it.following it.short it.frames (omega (arith, it.few, within))
    (expects it.went.ident it.padding it.before it.following it.few it.frames)

-- so where it is ready
pub arrives_in_a_poll : {D E : Type 0} (out : D → Move → D → Type 0) (moves : E → Move → E → Type 0) (frames_at : E → List (List ℕ)) (t u : ℤ)
    (budget steps : ℕ) (s s' : State D) (r r' : State E) (changed changed' : Bool) (n m : ℕ) (v w : UdpValue) (before : List (UdpMetadata × List ℕ))
    (d : UdpMetadata × List ℕ) (more : List (UdpMetadata × List ℕ)) (to : HardwareAddress) (p : PacketValue) → IsInbox moves frames_at
    → HasWidths (at_instant t s.host.inner) → HasTurn (at_instant t s.host.inner) s.slots n v → contents v.queued ≡ before ++ d ∷ more
    → length before < budget → AllByRecursion (HasWay (at_instant t s.host.inner) v.settings) before → d.0.endpoint.port ≢ 0
    → CanGo (at_instant t s.host.inner) v.settings d to p → HasNoFrame out t s.device → Polls out t budget s changed s'
    → RefusesNothing out s.device s'.device → BringsAmong out frames_at (at_instant t s.host.inner) to p s.device s'.device r.device steps
    → IsUdpAt r.slots m w → IsReady moves frames_at u r (at_instant t s.host.inner) to p v.settings d m → Polls moves u steps r changed' r'
    → WaitsAmongThem r'.slots m w (as_received (source_of p.header) v.settings d)
arrives_in_a_poll {D} {E} out moves frames_at t u budget steps s s' r r' changed changed' n m v w before d more to p inbox wide turn queued short ways some can
    none polls freely brings is_udp ready reads =
    arrives_where out moves frames_at t u budget steps steps s s' r r' changed changed' n m v w before d more to p inbox wide turn queued short ways some can none
    polls freely brings (omega arith) is_udp
    (λ ident padding front following few wait. record {
      Holds = λ frames x. Unit {0};
      keeps = λ f more rest x x' b waits holds step. tt;
      begins = tt;
      expects = λ x so next holds. ready x ident padding following so next;
    }) reads
