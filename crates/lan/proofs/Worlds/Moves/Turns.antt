-- A socket's turn is a move, or none.
use Rattle.std.proofs.Common.{◌≡◌, ◌⊎◌, is_some, ℕ, ℤ, Bool, true, false, inl, inr, List, [], ◌∷◌, ◌++◌, length, Option, Some, None, IfSome, refl, sym, ap, ◌∙◌, subst, arith}
use Rattle.std.proofs.Common.{append-nil, ◌+◌}
use Rattle.std.specs.Prelude.{slice_set, slice_index_or}
use Rattle.interface.specs.Ip.{source_of, destination_of}
use Rattle.iface_ingress.specs.HardwareAddress.{HardwareAddress}
use Rattle.iface_ingress.specs.IpAddress.{IpAddress}
use Rattle.iface_ingress.specs.IpAddress.TheVariants as Address
use Rattle.iface_ingress.specs.Sent.{normal_payload}
use Rattle.sim_link.specs.Device.{Move}
use Rattle.sockets.specs.Context.{ContextValue}
use Rattle.sockets.specs.Packet.{PacketValue, PayloadValue}
use Rattle.sockets.specs.WellFormed.{IsWellFormed}
use Rattle.sockets.specs.Offer as Answer
use Rattle.sockets.specs.Offer.TheVariants as Offer
use Rattle.socket_datagram.specs.Offers.{HasPacket}
use Rattle.base_buffer.specs.Packets.{first}
use Rattle.socket_datagram.specs.Header.{hop_limit_or_default}
use Rattle.socket_datagram.specs.Icmp as Icmps
use Rattle.socket_datagram.specs.Icmp.{IcmpValue}
use Rattle.socket_datagram.specs.Raw as Raws
use Rattle.socket_datagram.specs.Raw.{RawValue}
use Rattle.socket_datagram.specs.Udp as Udps
use Rattle.socket_datagram.specs.Udp.{UdpValue}
use Rattle.tcp_refinement.specs.Host.{made_of, and_offer}
use Rattle.tcp_block.specs.OpenOffer.{OpenOffer}
use Rattle.tcp_block.specs.Offers.{offer_of, payload_of, packet_with, offered_packet}
use Rattle.tcp_block.specs.Value.{TcpValue}
use Rattle.sockets.specs.DhcpValue as Dhcps
use Rattle.sockets.specs.DnsValue as Dnss
use Rattle.sockets.specs.Socket.{Offers, offered_by, settled}
use Rattle.sockets.specs.declared.socket.Socket.{Socket}
use Rattle.sockets.specs.declared.socket.Socket.TheVariants as Is
use Rattle.sockets.proofs.AnyKind.{has_packet}
use Rattle.iface_egress.specs.Meta.{unmarked}
use Rattle.iface_egress.specs.Plan.{plan_of}
use Rattle.iface_egress.specs.declared.socket_meta.Meta.{Meta}
use Rattle.iface_egress.specs.declared.socket_set.Item.{Item}
use Rattle.iface_egress.specs.declared.socket_set.SocketStorage.{SocketStorage}
use Rattle.iface_egress.specs.declared.egress_path.Sent.{Sent}
use Rattle.interface.specs.Host.{HostValue, Sender}
use Rattle.interface.specs.State.{State, state}
use Rattle.interface.specs.Remote.{context_for, remote_of}
use Rattle.interface.specs.Serve.{ServesSlot, ItemTurns, TurnsIf, Answers, SendsBy, Leaves, is_waiting, let_through, is_done, marked, plan_at, waits_until}
use Rattle.interface.specs.Serve.{SendsAs, sourced}
use Rattle.interface.specs.declared.serve.Served.{Served}
use Rattle.interface.specs.State.{sending_as}
use Rattle.lan.specs.Worlds.AtLink.Side.{Side}
use Rattle.lan.specs.Worlds.AtLink.Moves as Moves
use Rattle.lan.specs.Worlds.AtLink.Moves.{LeavesFrom}
use Rattle.lan.specs.Worlds.AtLink.Parties as Parties
use Rattle.lan.specs.Worlds.AtLink.Parties.{Party, Net, party, datagrams_of}
use Rattle.lan.specs.Worlds.AtLink.Safe.{seen}
use Rattle.lan.specs.Worlds.Moves.Follows.{seen_slot, sockets_of}
use Rattle.interface.proofs.SameHost.{slot_same}
use Rattle.interface.specs.SameHost.{IsSameHost}
use Rattle.interface.proofs.Alone.{leaves_alone}
use Rattle.iface_tables.specs.Inner.{InnerValue}
use Rattle.lan.proofs.Worlds.Moves.Devices.{leaves as device_leaves}
use Rattle.lan.proofs.Worlds.Moves.Following.{Reaches, Follows, narrowed, sent_more}
use Rattle.lan.proofs.Worlds.Moves.Frames.{Frames, IsTaking, and_gone}
use Rattle.lan.proofs.Worlds.Moves.HopLimit.{HopLimit, hop_now, hop_limit_out, knew_out}
use Rattle.lan.proofs.Worlds.Moves.Leaving.{Left, left_by}
use Rattle.lan.proofs.Worlds.Moves.Held.{IsAsAt, IsShownAt, Stays, seen_at, shows_towards, source_by, sources, stays_before}
use Rattle.lan.proofs.Worlds.Moves.Leave.{IsGiving, IsHindered, IsHindrance, leaves_so, leaving_by}
use Rattle.lan.specs.Worlds.Moves.Fit.{IsFit}
use Rattle.lan.specs.Worlds.Moves.HopLimit.{KnowsHop}
use Rattle.lan.specs.Worlds.Moves.Link.{IsLink}
use Rattle.lan.specs.Worlds.Moves.Made.{Grows, MadeBy, IsMade, IsWide}
use Rattle.lan.specs.Worlds.Moves.Raws.{OfItem}
use Rattle.lan.specs.Worlds.Moves.WasSent.{LeftFrom, WasSentBy}
use Rattle.lan.proofs.Worlds.Moves.Nets.{Moved, stays, moves_by, there, grows_to, grows_not, grows_by}
use Rattle.lan.proofs.Worlds.Moves.Sourced.{sourced_wide, leaves_from, sourced_made}
use Rattle.lan.proofs.Worlds.Moves.Offering.{IsMadeFrom, if_some, some_so, takes_one, message_made, udp_made, tcp_made}
use Rattle.lan.proofs.Worlds.Moves.Slots.{Slots, get-middle, set-middle, same-middle}
use Rattle.lan.proofs.Worlds.Moves.Wide.{offered_wide}

-- a slot with this mark and this socket
abbrev pub holding : Meta → Socket → SocketStorage Socket
holding m s = record { inner = Some (record { meta = m; socket = s }) }

-- AN OFFER

-- a packet is wide, once its fields are of their widths
abbrev CanBeWide : PacketValue → Type 0
CanBeWide x = IsWellFormed x → IsWide x

-- moves lead to these sockets, and a packet that is done with was made, as it leaves from this address
pub record Gives (names : List ℕ →
    Bool) (side : Side) (C G : Type 0) (N : IpAddress → HardwareAddress → Type 0) (F : Frames) (i0 : InnerValue) (t : ℤ) (net now : Net) (sockets : List (Option Parties.Socket)) (from : IpAddress) (sent : Bool) (packet : Option PacketValue) : Type 0 where
  pub moved : Moved names side C G N F i0 t net now sockets
  pub made : sent ≡ true → IfSome packet (IsMadeFrom (party moved.next side) from)

module _ (names : List ℕ → Bool) (side : Side) (C G : Type 0) (N : IpAddress → HardwareAddress → Type 0) (F : Frames) (i0 : InnerValue) (t : ℤ) (net now : Net) (r : Reaches names side C G N F i0 t net now) (before after : Slots) (from : IpAddress) where
  -- the party has the sockets of the slots, of which one holds this socket
  abbrev Has : Meta → Socket → Type 0
  Has m s = (party now side).sockets ≡ sockets_of (before ++ holding m s ∷ after)

  abbrev To : Meta → Socket → Bool → Option PacketValue → Type 0
  To m s sent packet = Gives names side C G N F i0 t net now (sockets_of (before ++ holding m s ∷ after)) from sent packet

  found : (m : Meta) (s : Socket) → Has m s → Parties.socket_at (party now side) (length before) ≡ seen s
  found m s has =
      ap (λ (xs : List (Option Parties.Socket)). slice_index_or xs (length before) None) has ∙ get-middle seen_slot before (holding m s) after None

  changed : (m m' : Meta) (s s' : Socket) → Has m s →
      slice_set (party now side).sockets (length before) (seen s') ≡ sockets_of (before ++ holding m' s' ∷ after)
  changed m m' s s' has =
      ap (λ (xs : List (Option Parties.Socket)). slice_set xs (length before) (seen s')) has ∙
      set-middle seen_slot before (holding m s) (holding m' s') after

  abbrev looks_same : (m m' : Meta) (s s' : Socket) → seen s' ≡ seen s → Has m s → Moved names side C G N F i0 t net now (sockets_of (before ++ holding m' s' ∷ after))
  looks_same m m' s s' same has =
      stays names side C G N F i0 t net now r (sockets_of (before ++ holding m' s' ∷ after)) (has ∙
      sym (same-middle seen_slot before (holding m s) (holding m' s') after same))

  -- a raw packet and a control message are neither segments nor datagrams
  raw_gives : (m m' : Meta) (cx : ContextValue) (v v' : RawValue) (answer : Answer.Offer) (sent : Bool) → Raws.Offers cx v answer v' → Has m (Is.Raw v) →
      To m' (settled sent (Is.Raw v')) sent v'.offered
  raw_gives m m' cx v v' answer sent offers has = record {
    moved = looks_same m m' (Is.Raw v) (settled sent (Is.Raw v')) refl has;
    made = λ done. if_some v'.offered (IsMadeFrom (party now side) from) (λ x is.
        let took = takes_one Raws.TakesPacket v (first v.queued) answer v' x offers is in
        subst (λ (y : PayloadValue). MadeBy (party now side) from (destination_of x.header) (normal_payload y))
        (sym (ap (λ (y : PacketValue). y.payload) took.1.carried)) tt);
  }

  icmp_gives : (m m' : Meta) (cx : ContextValue) (v v' : IcmpValue) (answer : Answer.Offer) (sent : Bool) → Icmps.Offers cx v answer v' → Has m (Is.Icmp v) →
      To m' (settled sent (Is.Icmp v')) sent v'.offered
  icmp_gives m m' cx v v' answer sent offers has = record {
    moved = looks_same m m' (Is.Icmp v) (settled sent (Is.Icmp v')) refl has;
    made = λ done. if_some v'.offered (IsMadeFrom (party now side) from) (λ x is.
        let took = takes_one (Icmps.TakesMessage cx) v (first v.queued) answer v' x offers is in
        message_made (party now side) from (cx.source_for took.0.0) took.0.0 took.0.1 (hop_limit_or_default v.settings.hop_limit) x took.1);
  }

  udp_gives : (m m' : Meta) (cx : ContextValue) (v v' : UdpValue) (answer : Answer.Offer) (sent : Bool) → Udps.Offers cx v answer v' → Has m (Is.Udp v) →
      To m' (settled sent (Is.Udp v')) sent v'.offered
  udp_gives m m' cx v v' answer sent offers has = record {
    moved =
        moves_by names side C G N F i0 t net now r move (sockets_of (before ++ holding m' (settled sent (Is.Udp v')) ∷ after)) (found m (Is.Udp v) has, offers) refl
        (changed m m' (Is.Udp v) (settled sent (Is.Udp v')) has)
        (grows_by (party now side) (Moves.party_after (party now side) move) [] (datagrams_of v'.offered) (sym (append-nil (party now side).segments)) refl)
        (λ c. tt) (λ c g. tt) tt (λ g. tt);
    made = λ done. there now side move (λ (y : Party). IfSome v'.offered (IsMadeFrom y from))
        (if_some v'.offered (IsMadeFrom (Moves.party_after (party now side) move) from) (λ x is.
        let took = takes_one (Udps.TakesDatagram cx) v (first v.queued) answer v' x offers is in
        udp_made (Moves.party_after (party now side) move) from (party now side).datagrams cx v.settings took.0 x
        (ap (λ (o : Option PacketValue). (party now side).datagrams ++ datagrams_of o) is) took.1));
  } where
    move : Moves.Move
    move = Moves.Gives (length before) cx v answer v' sent

  more_offered : (y : Party) (o : Option OpenOffer) (queue : List ℕ) → y.segments ≡ and_offer (party now side).segments from o queue →
      y.datagrams ≡ (party now side).datagrams → Grows (party now side) y
  more_offered y None queue s d = grows_to (party now side) y s d
  more_offered y (Some o) queue s d =
      grows_by (party now side) y (made_of from (destination_of o.header) o.segment (payload_of o o.kind queue) ∷ []) [] s
      (d ∙ sym (append-nil (party now side).datagrams))

  tcp_gives : (m m' : Meta) (cx : ContextValue) (v : TcpValue) (sent : Bool)
      → IfSome (offer_of cx v).socket.offered (λ o. LeavesFrom cx from o.header)
      → (C → IsShownAt i0 t cx × IfSome (offer_of cx v).socket.offered (λ o. from ≡ source_by i0 o.header))
      → (C → G → IfSome (offer_of cx v).socket.offered (λ o. (sent ≡ true) ⊎ IsHindered i0 t N (λ i. leaving_by i o.header)))
      → (sent ≡ true → IfSome (offered_packet (offer_of cx v).socket) (λ x. LeftFrom i0 t C N F.gone cx (Is.Tcp v) from x)) → Has m (Is.Tcp v) →
      To m' (settled sent (Is.Tcp (offer_of cx v).socket)) sent (offered_packet (offer_of cx v).socket)
  tcp_gives m m' cx v true leaves held goes left has = record {
    moved =
        moves_by names side C G N F i0 t net now r move (sockets_of (before ++ holding m' (settled true (Is.Tcp (offer_of cx v).socket)) ∷ after))
        (found m (Is.Tcp v) has, leaves) refl
        (changed m m' (Is.Tcp v) (settled true (Is.Tcp (offer_of cx v).socket)) has)
        (more_offered (Moves.party_after (party now side) move) (offer_of cx v).socket.offered (offer_of cx v).socket.queued.queue refl refl) held goes (left refl)
        (λ g. tt);
    made = λ done. there now side move (λ (y : Party). IfSome (offered_packet (offer_of cx v).socket) (IsMadeFrom y from))
        (if_some (offered_packet (offer_of cx v).socket) (IsMadeFrom (Moves.party_after (party now side) move) from) (λ x is.
        tcp_made (Moves.party_after (party now side) move) from (party now side).segments cx v x refl is));
  } where
    move : Moves.Move
    move = Moves.Offers (length before) cx v from true
  tcp_gives m m' cx v false leaves held goes left has = record {
    moved =
        moves_by names side C G N F i0 t net now r move (sockets_of (before ++ holding m' (settled false (Is.Tcp (offer_of cx v).socket)) ∷ after))
        (found m (Is.Tcp v) has, leaves) refl
        (changed m m' (Is.Tcp v) (settled false (Is.Tcp (offer_of cx v).socket)) has)
        (grows_to (party now side) (Moves.party_after (party now side) move) refl refl) held goes tt (λ g. tt);
    made = λ done. absurd (cc);
  } where
    move : Moves.Move
    move = Moves.Offers (length before) cx v from false

  offer_leaves : (cx : ContextValue) (o : Option OpenOffer) (queue : List ℕ) → IfSome (packet_with o queue) (λ x. LeavesFrom cx from x.header) →
      IfSome o (λ o. LeavesFrom cx from o.header)
  offer_leaves cx None queue leaves = tt
  offer_leaves cx (Some o) queue leaves = leaves

  -- from the source that the host gives it
  source_given : (i : InnerValue) → IsAsAt i0 t i → (o : Option OpenOffer) (queue : List ℕ) →
      IfSome (packet_with o queue) (λ x. from ≡ source_of (sourced i x).header) → IfSome o (λ o. from ≡ source_by i0 o.header)
  source_given i like None queue given = tt
  source_given i like (Some o) queue given = given ∙ sources i0 i (seen_at i0 i t like) o.header

  -- its segment goes as its packet does
  way_so : (sent : Bool) (o : Option OpenOffer) (queue : List ℕ) →
      IfSome (packet_with o queue) (λ x. (sent ≡ true) ⊎ IsHindered i0 t N (λ j. (sourced j x).header)) →
      IfSome o (λ o. (sent ≡ true) ⊎ IsHindered i0 t N (λ j. leaving_by j o.header))
  way_so sent None queue goes = tt
  way_so sent (Some o) queue goes = goes

  module _ (i : InnerValue) (like : IsAsAt i0 t i) where
    pub gives : (m m' : Meta) (cx : ContextValue) (s offered : Socket) (answer : Answer.Offer) (sent : Bool) → IsFit s → Offers cx s answer offered
        → IfSome (offered_by offered) (λ x. LeavesFrom cx from x.header)
        → (C → IsShownAt i0 t cx × IfSome (offered_by offered) (λ x. from ≡ source_of (sourced i x).header))
        → (C → G → IfSome (offered_by offered) (λ x. (sent ≡ true) ⊎ IsHindered i0 t N (λ i. (sourced i x).header)))
        → (sent ≡ true → IfSome (offered_by offered) (λ x. LeftFrom i0 t C N F.gone cx s from x)) → Has m s
        → To m' (settled sent offered) sent (offered_by offered)
    gives m m' cx (Is.Raw v) (Is.Raw v') answer sent fit offers leaves held goes left has = raw_gives m m' cx v v' answer sent offers has
    gives m m' cx (Is.Icmp v) (Is.Icmp v') answer sent fit offers leaves held goes left has = icmp_gives m m' cx v v' answer sent offers has
    gives m m' cx (Is.Udp v) (Is.Udp v') answer sent fit offers leaves held goes left has = udp_gives m m' cx v v' answer sent offers has
    gives m m' cx (Is.Tcp v) (Is.Tcp v') answer sent fit offers leaves held goes left has =
        let o = (offer_of cx v).socket.offered in
        let queue = (offer_of cx v).socket.queued.queue in
        subst (λ (w : TcpValue). To m' (settled sent (Is.Tcp w)) sent (offered_packet w)) (sym offers.1) (tcp_gives m m' cx v sent
        (offer_leaves cx o queue (subst (λ (w : TcpValue). IfSome (offered_packet w) (λ x. LeavesFrom cx from x.header)) offers.1 leaves))
        (λ c. (
          (held c).0,
          source_given i like o queue
              (subst (λ (w : TcpValue). IfSome (offered_packet w) (λ x. from ≡ source_of (sourced i x).header)) offers.1 (held c).1),
        ))
        (λ c g. way_so sent o queue (subst (λ (w : TcpValue). IfSome (offered_packet w) (λ x. (sent ≡ true) ⊎ IsHindered i0 t N (λ j. (sourced j x).header)))
        offers.1 (goes c g)))
        (λ done. subst (λ (w : TcpValue). IfSome (offered_packet w) (λ x. LeftFrom i0 t C N F.gone cx (Is.Tcp v) from x)) offers.1 (left done)) has)
    gives m m' cx (Is.Dhcpv4 v) offered answer sent fit offers leaves held goes left has = absurd fit.0
    gives m m' cx (Is.Dns v) offered answer sent fit offers leaves held goes left has = absurd fit.0
    gives m m' cx s offered answer sent fit offers leaves held goes left has = absurd offers

-- an offer that is silent leaves none open
none_open : (o : Option OpenOffer) (queue : List ℕ) → packet_with o queue ≡ None → o ≡ None
none_open None queue is = refl
none_open (Some o) queue is = absurd (cc)

none_kept : (o : Option Dhcps.Open) → Dhcps.packet_in o ≡ None → o ≡ None
none_kept None is = refl
none_kept (Some o) is = absurd (cc)

none_asked : (o : Option Dnss.Open) → Dnss.packet_in o ≡ None → o ≡ None
none_asked None is = refl
none_asked (Some o) is = absurd (cc)

none_offered : (o : Option PacketValue) (changed : Bool) → HasPacket (Offer.Silent changed) o → o ≡ None
none_offered None any has = refl
none_offered (Some p) any has = absurd has

unsettled : (s : Socket) → offered_by s ≡ None → settled false s ≡ s
unsettled (Is.Raw v) none = λ k. Is.Raw (record v { offered = sym none k })
unsettled (Is.Icmp v) none = λ k. Is.Icmp (record v { offered = sym none k })
unsettled (Is.Udp v) none = λ k. Is.Udp (record v { offered = sym none k })
unsettled (Is.Dhcpv4 v) none = let no_offer : v.offered ≡ None = none_kept v.offered none in λ k. Is.Dhcpv4 (record v { offered = sym no_offer k })
unsettled (Is.Dns v) none = let no_offer : v.offered ≡ None = none_asked v.offered none in λ k. Is.Dns (record v { offered = sym no_offer k })
unsettled (Is.Tcp v) none = let no_offer : v.offered ≡ None = none_open v.offered v.queued.queue none in λ k. Is.Tcp (record v { offered = sym no_offer k })

-- where nothing goes, it leaves from anywhere
nowhere : IpAddress
nowhere = Address.Ipv4 (record { 0 = [] })

-- THE TURN

module _ {D : Type 0} (moves : D → Move → D → Type 0) (turn_of : Option IpAddress) (names : List ℕ → Bool) (side : Side) (i0 : InnerValue) (t : ℤ) (net : Net) (q : Party) (L : ℕ →
    State D → Party → Type 0) (link : IsLink moves q L) (Since Gives : D → Type 0) (giving : IsGiving moves Since Gives)
    (Taken : Frames → D → Type 0) (taking : IsTaking moves Taken) (alone : i0.host_requirements ≡ false) (n : ℕ) (h : HostValue) (before after : Slots) where
  abbrev At : Sender D → Option (Item Socket) → State D
  At x o = sending_as h x (before ++ record { inner = o } ∷ after)

  -- before the turn, and after it
  abbrev Now : State D → Type 0
  Now s = Follows names side Gives Taken i0 t (L n) net s

  abbrev Next : State D → Type 0
  Next s = Follows names side Gives Taken i0 t (L (n + 1)) net s

  uncounted : (s : State D) → Now s → Next s
  uncounted s f = record { now = f.now; frames = f.frames; taken = f.taken; reaches = f.reaches; hop_limit = f.hop_limit; sockets = f.sockets; link = link.more n (n + 1) s (party f.now side) (omega arith) f.link }

  -- a packet goes its way, with its sockets told already
  leaves : (x x' : Sender D) (slots : Slots) (party : Party) (meta : Meta) (packet : PacketValue) (sent : Sent) → IsWide packet →
      (is_done sent ≡ true → IsMade party packet) → Leaves moves turn_of x meta packet sent x'
      → L n (sending_as h x slots) party → L (n + 1) (sending_as h x' slots) party
  leaves x x' slots party meta packet sent wide made (inl rests) holds =
      let there : state x'.device (record h { inner = x.inner; left = x.left }) slots ≡ sending_as h x' slots =
      λ k. state x'.device (record h { inner = sym rests.2 k; left = sym rests.3 k }) slots in
      link.more n (n + 1) (sending_as h x' slots) party (omega arith)
      (subst (λ (s : State D). L n s party) there (link.leave n (sending_as h x slots) party rests.0 x'.device rests.1 holds))
  leaves x x' slots party meta packet sent wide made (inr goes) holds =
      link.goes n (state goes.0 (record h { inner = x.inner; left = x.left }) slots) party packet sent x'.device x'.inner x'.left wide made goes.2
      (link.leave n (sending_as h x slots) party true goes.0 goes.1 holds)

  -- nothing goes, and the sockets look the same
  stays_put : (x x' : Sender D) (o o' : Option (Item Socket)) → x' ≡ x → seen_slot (record { inner = o' }) ≡ seen_slot (record { inner = o }) → Now (At x o) →
      Now (At x' o')
  stays_put x x' o o' is same f = subst (λ (y : Sender D). Now (At y o')) (sym is) (record {
    now = f.now;
    frames = f.frames;
    taken = f.taken;
    reaches = f.reaches;
    hop_limit = f.hop_limit;
    sockets = f.sockets ∙ sym (same-middle seen_slot before (record { inner = o }) (record { inner = o' }) after same);
    link = link.grown n (At x o) (before ++ record { inner = o' } ∷ after) (party f.now side) (party f.now side) (grows_not (party f.now side)) f.link;
  })

  -- moves lead on, while nothing goes
  abbrev moved_on : (x : Sender D) (o : Option (Item Socket)) (slots : Slots) (f : Now (At x o)) → (m : Moved names side (Stays i0 x.inner) (Gives x.device) (KnowsHop i0 t f.frames.taken x.inner) f.frames i0 t net f.now (sockets_of slots)) →
      Now (sending_as h x slots)
  moved_on x o slots f m = record {
    now = m.next;
    frames = f.frames;
    taken = f.taken;
    reaches = m.reaches;
    hop_limit = f.hop_limit;
    sockets = m.sockets_are;
    link = link.grown n (At x o) slots (party f.now side) (party m.next side) m.grows f.link;
  }

  -- what a socket is asked with, where no path is known to carry less
  abbrev Shown : Sender D → Type 0
  Shown x = IsAsAt i0 t x.inner

  silent : (x x' : Sender D) (item item' : Item Socket) (offered : Socket) (changed : Bool) (turned : Served) → Shown x → IsFit item.socket →
      Offers (context_for x.inner item.socket) item.socket (Offer.Silent changed) offered
      → Answers moves turn_of (Offer.Silent changed) x (record item { socket = offered }) turned x' item' → Now (At x (Some item)) → Now (At x' (Some item'))
  silent x x' item item' offered changed turned like fit offers answers f =
      let cx = context_for x.inner item.socket in
      let none : offered_by offered ≡ None =
      none_offered (offered_by offered) changed (has_packet item.socket offered cx (Offer.Silent changed) offers) in
      let given = gives names side (Stays i0 x.inner) (Gives x.device) (KnowsHop i0 t f.frames.taken x.inner) f.frames i0 t net f.now f.reaches before after nowhere x.inner like item.meta unmarked cx item.socket offered (Offer.Silent changed) false
      fit offers (subst (λ (o : Option PacketValue). IfSome o (λ x. LeavesFrom cx nowhere x.header)) (sym none) tt)
      (λ c. (
        shows_towards i0 x.inner t like (remote_of item.socket) c.0,
        subst (λ (o : Option PacketValue). IfSome o (λ y. nowhere ≡ source_of (sourced x.inner y).header)) (sym none) tt,
      )) (λ c g. subst (λ (o : Option PacketValue). IfSome o (λ y. (false ≡ true) ⊎ IsHindered i0 t (KnowsHop i0 t f.frames.taken x.inner) (λ j. (sourced j y).header))) (sym none) tt)
      (λ done. absurd cc) f.sockets in
      let same : settled false offered ≡ offered = unsettled offered none in
      let still : Now (At x (Some (record { meta = unmarked; socket = offered }))) =
      subst (λ (s : Socket). Now (At x (Some (record { meta = unmarked; socket = s })))) same
      (moved_on x (Some item) (before ++ holding unmarked (settled false offered) ∷ after) f given.moved) in
      subst (λ (i : Item Socket). Now (At x' (Some i))) (sym answers.2)
      (subst (λ (y : Sender D). Now (At y (Some (record { meta = unmarked; socket = offered })))) (sym answers.1) still)

  -- its packet is done with, or the host had no way for it
  or_hindered : (x : Sender D) (frames : Frames) (leaving packet : PacketValue) (done : Bool) → leaving ≡ sourced x.inner packet → Shown x → x.inner.paths ≡ []
      → HopLimit i0 t frames.taken x.inner → (done ≡ true) ⊎ IsHindrance (plan_at x leaving)
      → (done ≡ true) ⊎ IsHindered i0 t (KnowsHop i0 t frames.taken x.inner) (λ j. (sourced j packet).header)
  or_hindered x frames leaving packet done is like none hop_limit (inl so) = inl so
  or_hindered x frames leaving packet done is like none hop_limit (inr stays) = inr (record {
    i = x.inner;
    like = like;
    paths = none;
    hop_limit = λ remote to knows. hop_now x.inner t remote to like.instant (hop_limit remote to knows);
    busy = is_some x.left;
    plan = subst (λ (p : PacketValue). IsHindrance (plan_at x p)) is stays;
  })

  sends : (x x' : Sender D) (item item' : Item Socket) (offered : Socket) (changed : Bool) (turned : Served) (packet : Option PacketValue) →
      Since x.device → Shown x → IsSameHost x.inner x'.inner → packet ≡ offered_by offered → IfSome packet CanBeWide → IsFit item.socket
      → Offers (context_for x.inner item.socket) item.socket (Offer.Packet changed) offered →
      SendsBy moves turn_of packet x (record item { socket = offered }) changed turned x' item'
      → Now (At x (Some item)) → Next (At x' (Some item'))
  sends x x' item item' offered changed turned None since like same is wide fit offers goes f = absurd goes
  sends x x' item item' offered changed turned (Some packet) since like same is wide fit offers sending f =
      let leaving = sending.0 in
      let goes : SendsAs moves turn_of leaving x (record item { socket = offered }) changed turned x' item' = sending.3 in
      let sent = goes.0 in
      let went : Leaves moves turn_of x item.meta leaving sent x' =
      leaves_alone moves turn_of x x' item.meta leaving sent (like.settings.host_requirements ∙ alone) goes.1 in
      let meta = marked sent x.inner.instant (waits_until (plan_at x leaving) x'.inner) (destination_of leaving.header) item.meta in
      let slots = before ++ holding meta (settled (is_done sent) offered) ∷ after in
      let cx = context_for x.inner item.socket in
      let from = source_of (sourced x.inner packet).header in
      let from_it : LeavesFrom cx from packet.header = leaves_from x.inner packet in
      let back : Gives x'.device → Gives x.device =
      device_leaves moves (λ (d : D). Gives d → Gives x.device) (λ d d' m none moved had given. had (giving.had d d' m moved given)) turn_of x x' (λ g. g)
      item.meta leaving sent went in
      let way : Left moves Taken taking f.frames x.inner leaving (plan_at x leaving) sent x'.device =
      left_by moves Taken taking f.frames turn_of x x' item.meta leaving sent went f.taken in
      let frames : Frames = and_gone f.frames way.out.more in
      let Knows : IpAddress → HardwareAddress → Type 0 = KnowsHop i0 t f.frames.taken x.inner in
      let reaches = narrowed names side (Stays i0 x.inner) (Stays i0 x.inner) (Gives x.device) (Gives x'.device) Knows Knows frames i0 t net f.now (λ c. c) back
      (λ remote to knows. knows) (sent_more names side (Stays i0 x.inner) (Gives x.device) Knows f.frames i0 t net f.now way.out.more f.reaches) in
      let given = gives names side (Stays i0 x.inner) (Gives x'.device) Knows frames i0 t net f.now reaches before after from x.inner like item.meta meta cx item.socket
      offered (Offer.Packet changed) (is_done sent) fit offers (subst (λ (o : Option PacketValue). IfSome o (λ y. LeavesFrom cx from y.header)) is from_it)
      (λ c. (
        shows_towards i0 x.inner t like (remote_of item.socket) c.0,
        subst (λ (o : Option PacketValue). IfSome o (λ y. from ≡ source_of (sourced x.inner y).header)) is refl,
      ))
      (λ c g. subst (λ (o : Option PacketValue). IfSome o (λ y. (is_done sent ≡ true) ⊎ IsHindered i0 t Knows (λ j. (sourced j y).header))) is
      (or_hindered x f.frames leaving packet (is_done sent) sending.1 like c.0 f.hop_limit (leaves_so moves Since Gives giving turn_of x x' item.meta leaving sent went since g)))
      (λ done. subst (λ (o : Option PacketValue). IfSome o (λ y. LeftFrom i0 t (Stays i0 x.inner) Knows frames.gone cx item.socket from y)) is (record {
        i = x.inner;
        settings = like.settings;
        instant = like.instant;
        ident = like.ident;
        paths = λ c. c.0;
        hop_limit = λ remote to knows. hop_now x.inner t remote to like.instant (f.hop_limit remote to knows);
        shown = refl;
        formed = sending.2;
        wide = wide sending.2;
        source = refl;
        leaving_formed = subst IsWellFormed sending.1 goes.4;
        busy = is_some x.left;
        was_sent = subst (λ (q : PacketValue). WasSentBy frames.gone x.inner q (plan_of x.inner (is_some x.left) q.header)) sending.1 (way.was_sent done);
      }))
      f.sockets in
      let linked : L n (sending_as h x slots) (party given.moved.next side) =
      link.grown n (At x (Some item)) slots (party f.now side) (party given.moved.next side) given.moved.grows f.link in
      let told : Next (sending_as h x' slots) = record {
        now = given.moved.next;
        frames = frames;
        taken = way.out.taken;
        reaches = narrowed names side (Stays i0 x.inner) (Stays i0 x'.inner) (Gives x'.device) (Gives x'.device) Knows
            (KnowsHop i0 t f.frames.taken x'.inner) frames i0 t net given.moved.next (stays_before i0 x.inner x'.inner same) (λ g. g)
            (knew_out i0 t f.frames.taken x.inner x'.inner same) given.moved.reaches;
        hop_limit = hop_limit_out i0 t f.frames.taken x.inner x'.inner same f.hop_limit;
        sockets = given.moved.sockets_are;
        link = leaves x x' slots (party given.moved.next side) item.meta leaving sent
            (subst IsWide (sym sending.1) (sourced_wide x.inner packet (wide sending.2) (subst IsWellFormed sending.1 goes.4)))
            (λ done. subst (IsMade (party given.moved.next side)) (sym sending.1)
            (sourced_made (party given.moved.next side) x.inner packet
            (some_so (offered_by offered) (IsMadeFrom (party given.moved.next side) from) packet (sym is) (given.made done)))) went linked;
      } in
      subst (λ (i : Item Socket). Next (At x' (Some i))) (sym goes.3) told

  asks : (x x' : Sender D) (item item' : Item Socket) (answer : Answer.Offer) (offered : Socket) (turned : Served) → Since x.device → Shown x → IsSameHost x.inner x'.inner
      → IfSome (offered_by offered) CanBeWide → IsFit item.socket
      → Offers (context_for x.inner item.socket) item.socket answer offered → Answers moves turn_of answer x (record item { socket = offered }) turned x' item'
      → Now (At x (Some item)) → Next (At x' (Some item'))
  asks x x' item item' (Offer.Silent changed) offered turned since like same wide fit offers answers f =
      uncounted (At x' (Some item')) (silent x x' item item' offered changed turned like fit offers answers f)
  asks x x' item item' (Offer.Packet changed) offered turned since like same wide fit offers answers f =
      sends x x' item item' offered changed turned (offered_by offered) since like same refl wide fit offers answers f

  turns : (waits : Bool) (x x' : Sender D) (item item' : Item Socket) (turned : Served) →
      TurnsIf moves turn_of waits x (let_through x.inner item) turned x' item' → Since x.device → Shown x → IsSameHost x.inner x'.inner → IsFit item.socket
      → Now (At x (Some item)) → Next (At x' (Some item'))
  turns true x x' item item' turned waits since like same fit f =
      uncounted (At x' (Some item')) (stays_put x x' (Some item) (Some item') waits.1 (ap (λ (i : Item Socket). seen i.socket) waits.2) f)
  turns false x x' item item' turned asked since like same fit f =
      let through = let_through x.inner item in
      asks x x' through item' asked.0 asked.1 turned since like same
      (if_some (offered_by asked.1) CanBeWide
      (λ p is formed. offered_wide (context_for x.inner item.socket) item.socket asked.1 asked.0 p fit asked.2 is formed))
      fit asked.2 asked.3
      (stays_put x x (Some item) (Some through) refl refl f)

  items : (x x' : Sender D) (o o' : Option (Item Socket)) (turned : Served) → ItemTurns moves turn_of o x turned x' o' → Since x.device → Shown x → IsSameHost x.inner x'.inner → OfItem IsFit o → Now (At x o) →
      Next (At x' o')
  items x x' None None turned turn since like same fit f = uncounted (At x' None) (stays_put x x' None None turn.1 refl f)
  items x x' (Some item) (Some item') turned turn since like same fit f =
      turns (is_waiting x.inner item.meta) x x' item item' turned turn since like same fit f
  items x x' None (Some item') turned turn since like same fit f = absurd turn
  items x x' (Some item) None turned turn since like same fit f = absurd turn

  pub turn_follows : (p p' : SocketStorage Socket) (x x' : Sender D) (turned : Served) → ServesSlot moves turn_of x p turned x' p' → Since x.device → Shown x → OfItem IsFit p.inner
      → Now (sending_as h x (before ++ p ∷ after)) → Next (sending_as h x' (before ++ p' ∷ after))
  turn_follows p p' x x' turned turn since like fit f =
      items x x' p.inner p'.inner turned turn since like (slot_same moves turn_of x x' p p' turned turn) fit f
