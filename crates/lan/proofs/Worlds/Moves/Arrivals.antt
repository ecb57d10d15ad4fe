-- What arrives at the sockets is a move, or none.
use Rattle.std.proofs.Common.{◌≡◌, ℕ, ℤ, zero, suc, ◌<◌, Bool, true, false, if◌then◌else◌, List, [], ◌∷◌, ◌++◌, length, get_or, Option, Some, None, IfSome}
use Rattle.std.proofs.Common.{refl, sym, ap, ◌∙◌}
use Rattle.std.proofs.Common.{subst, append-nil}
use Rattle.std.specs.Prelude.{slice_get, slice_set, slice_index_or}
use Rattle.std.proofs.lemmas.List.Quantifiers.{position-Some}
use Rattle.std.proofs.lemmas.Option.{slice_get-get_or}
use Rattle.iface_ingress.specs.HardwareAddress.{HardwareAddress}
use Rattle.iface_ingress.specs.IpAddress.{IpAddress}
use Rattle.iface_ingress.specs.Icmpv4Header.{Icmpv4Header}
use Rattle.iface_ingress.specs.Icmpv6.{MessageValue}
use Rattle.iface_ingress.specs.IpAddress.TheVariants as Address
use Rattle.interface.specs.Ip.{source_of, destination_of}
use Rattle.interface.specs.IpRepr.{IpRepr}
use Rattle.interface.specs.Ipv4Repr.{Ipv4Repr}
use Rattle.interface.specs.Ipv6Repr.{Ipv6Repr}
use Rattle.wire_tcp.specs.declared.header.TcpHeader.{TcpHeader}
use Rattle.interface.specs.UdpRepr.{UdpRepr}
use Rattle.sockets.specs.Context.{ContextValue}
use Rattle.sockets.specs.Packet.{PacketValue}
use Rattle.socket_datagram.specs.Udp as Udps
use Rattle.tcp_refinement.specs.Host.{Made, made_by, MayCome, IsSeenAmong, and_answer}
use Rattle.tcp_refinement.proofs.HostLaws.{comes_as_made}
use Rattle.tcp_block.specs.Arrival.{arrives}
use Rattle.tcp_block.specs.Segments.{rst_reply}
use Rattle.tcp_block.specs.Reply.{Reply}
use Rattle.tcp_block.specs.Value.{TcpValue}
use Rattle.sockets.specs.Socket.{accepts_packet, accepts_icmpv4, accepts_icmpv6, accepts_datagram, accepts_segment}
use Rattle.sockets.specs.declared.socket.Socket.{Socket}
use Rattle.sockets.specs.declared.socket.Socket.TheVariants as Is
use Rattle.iface_egress.specs.declared.socket_set.Item.{Item}
use Rattle.iface_egress.specs.declared.socket_set.SocketStorage.{SocketStorage}
use Rattle.iface_ingress.specs.Delivered.{with_change, passes, given, all_given, changed_at, with_packet, packet_delivered, with_icmpv4, icmpv4_delivered}
use Rattle.iface_ingress.specs.Delivered.{with_icmpv6, icmpv6_delivered, datagram_slot, with_segment, packet_by}
use Rattle.iface_ingress.specs.Delivered.{answer_of, segment_slot, answer_in, segment_answer_at}
use Rattle.iface_ingress.specs.Datagrams.{TakesDatagram, ItemTakes, GivenIn, GivenAt, IsDelivered}
use Rattle.iface_ingress.proofs.AtSlot.{changed_here, answer_here}
use Rattle.iface_ingress.proofs.Segments.{accepted_there}
use Rattle.lan.specs.Worlds.AtLink.Side.{Side}
use Rattle.lan.specs.Worlds.AtLink.Kinds.{other}
use Rattle.lan.specs.Worlds.AtLink.Moves as Moves
use Rattle.lan.specs.Worlds.AtLink.Parties as Parties
use Rattle.lan.specs.Worlds.AtLink.Parties.{Party, Net, party, WasMade}
use Rattle.lan.specs.Worlds.AtLink.Safe.{seen}
use Rattle.lan.specs.Worlds.Moves.Answered.{AnswerLeft}
use Rattle.lan.specs.Worlds.Moves.Follows.{seen_slot, sockets_of}
use Rattle.iface_tables.specs.Inner.{InnerValue}
use Rattle.lan.proofs.Worlds.Moves.Following.{Reaches}
use Rattle.lan.proofs.Worlds.Moves.Frames.{Frames}
use Rattle.lan.proofs.Worlds.Moves.Held.{IsBetweenHosts, IsShownAt}
use Rattle.lan.specs.Worlds.Moves.Made.{Grows, IsMade, datagram_of}
use Rattle.lan.proofs.Worlds.Moves.Nets.{Moved, stays, moves_by, step_of, there, grows_to, grows_by}
use Rattle.lan.proofs.Worlds.Moves.Slots.{Slots, seen_at, seen_set, get_last}

-- SOCKETS OF WHICH NOTHING IS LOOKED AT

module _ (test : Socket → Bool) (change : Socket → Socket) (same : (s : Socket) → seen (change s) ≡ seen s) where
  given_same : (passing : Bool) (s : Socket) → seen (if passing then change s else s) ≡ seen s
  given_same true s = same s
  given_same false s = refl

  slot_same : (o : Option (Item Socket)) → seen_slot (with_change (given test change) (record { inner = o })) ≡ seen_slot (record { inner = o })
  slot_same None = refl
  slot_same (Some item) = given_same (test item.socket) item.socket

  pub all_same : (slots : Slots) → sockets_of (all_given test change slots) ≡ sockets_of slots
  all_same [] = refl
  all_same (slot ∷ slots) =
      λ k. slot_same slot.inner k ∷ all_same slots k

packet_same : (ip : IpRepr) (payload : List ℕ) (s : Socket) → seen (with_packet ip payload s) ≡ seen s
packet_same ip payload (Is.Raw v) = refl
packet_same ip payload (Is.Icmp v) = refl
packet_same ip payload (Is.Udp v) = refl
packet_same ip payload (Is.Tcp v) = refl
packet_same ip payload (Is.Dhcpv4 v) = refl
packet_same ip payload (Is.Dns v) = refl

pub packet_delivered_same : (ip : IpRepr) (payload : List ℕ) (slots : Slots) → sockets_of (packet_delivered ip payload slots) ≡ sockets_of slots
packet_delivered_same ip payload slots = all_same (λ s. accepts_packet s ip) (with_packet ip payload) (packet_same ip payload) slots

icmpv4_same : (ip : Ipv4Repr) (message : Icmpv4Header) (bytes : List ℕ) (s : Socket) → seen (with_icmpv4 ip message bytes s) ≡ seen s
icmpv4_same ip message bytes (Is.Raw v) = refl
icmpv4_same ip message bytes (Is.Icmp v) = refl
icmpv4_same ip message bytes (Is.Udp v) = refl
icmpv4_same ip message bytes (Is.Tcp v) = refl
icmpv4_same ip message bytes (Is.Dhcpv4 v) = refl
icmpv4_same ip message bytes (Is.Dns v) = refl

pub icmpv4_delivered_same : (ip : Ipv4Repr) (message : Icmpv4Header) (bytes : List ℕ) (slots : Slots) →
    sockets_of (icmpv4_delivered ip message bytes slots) ≡ sockets_of slots
icmpv4_delivered_same ip message bytes slots =
    all_same (λ s. accepts_icmpv4 s (Address.Ipv4 ip.dst_addr) message bytes) (with_icmpv4 ip message bytes) (icmpv4_same ip message bytes) slots

icmpv6_same : (ip : Ipv6Repr) (message : MessageValue) (bytes : List ℕ) (s : Socket) → seen (with_icmpv6 ip message bytes s) ≡ seen s
icmpv6_same ip message bytes (Is.Raw v) = refl
icmpv6_same ip message bytes (Is.Icmp v) = refl
icmpv6_same ip message bytes (Is.Udp v) = refl
icmpv6_same ip message bytes (Is.Tcp v) = refl
icmpv6_same ip message bytes (Is.Dhcpv4 v) = refl
icmpv6_same ip message bytes (Is.Dns v) = refl

pub icmpv6_delivered_same : (ip : Ipv6Repr) (message : MessageValue) (bytes : List ℕ) (slots : Slots) →
    sockets_of (icmpv6_delivered ip message bytes slots) ≡ sockets_of slots
icmpv6_delivered_same ip message bytes slots =
    all_same (λ s. accepts_icmpv6 s (Address.Ipv6 ip.dst_addr) message bytes) (with_icmpv6 ip message bytes) (icmpv6_same ip message bytes) slots

-- ONE SOCKET

-- a place of which nothing is looked at stays one
set_none : (xs : List (Option Parties.Socket)) (at : ℕ) → slice_index_or xs at None ≡ None → slice_set xs at None ≡ xs
set_none [] zero is = refl
set_none [] (suc at) is = refl
set_none (x ∷ xs) zero is = ap (λ (o : Option Parties.Socket). o ∷ xs) (sym is)
set_none (x ∷ xs) (suc at) is = ap (λ (os : List (Option Parties.Socket)). x ∷ os) (set_none xs at is)

free : SocketStorage Socket
free = record { inner = None }

-- moves lead to these sockets, and a packet that answers was made
pub record Answered (names : List ℕ → Bool) (side : Side) (C G : Type 0) (N : IpAddress → HardwareAddress → Type 0) (F : Frames) (i0 : InnerValue) (t : ℤ) (net now : Net) (sockets : List (Option Parties.Socket)) (reply : Option PacketValue) : Type 0 where
  pub moved : Moved names side C G N F i0 t net now sockets
  pub made : IfSome reply (IsMade (party moved.next side))

reply_made : (p : Party) (before : List Made) (a : Option Reply) → p.segments ≡ and_answer before a → IfSome (packet_by a) (IsMade p)
reply_made p before None is = tt
reply_made p before (Some reply) is =
    let last = get_last before (made_by reply) [] in
    record { written = reply.segment; among = (last.0, ap (λ (xs : List Made). slice_get xs last.0) is ∙ last.1); read = refl }

module _ (names : List ℕ → Bool) (side : Side) (C G : Type 0) (N : IpAddress → HardwareAddress → Type 0) (F : Frames) (i0 : InnerValue) (t : ℤ) (net now : Net) (r : Reaches names side C G N F i0 t net now) (slots : Slots) (has : (party now side).sockets ≡
    sockets_of slots) where
  abbrev Ends : List (Option Parties.Socket) → Option PacketValue → Type 0
  Ends sockets reply = Answered names side C G N F i0 t net now sockets reply

  abbrev holds_at : ℕ → Option (Item Socket) → Type 0
  holds_at at o = (at < length slots) × (get_or slots at free ≡ record { inner = o })

  found : (at : ℕ) (item : Item Socket) → holds_at at (Some item) → Parties.socket_at (party now side) at ≡ seen item.socket
  found at item here =
      ap (λ (xs : List (Option Parties.Socket)). slice_index_or xs at None) has ∙ seen_at slots at free here.0 ∙ ap seen_slot here.1

  set_there : (at : ℕ) (slot : SocketStorage Socket) → slice_set (party now side).sockets at (seen_slot slot) ≡ sockets_of (slice_set slots at slot)
  set_there at slot = ap (λ (xs : List (Option Parties.Socket)). slice_set xs at (seen_slot slot)) has ∙ sym (seen_set slots at slot)

  pub nothing : Ends (sockets_of slots) None
  nothing = record { moved = stays names side C G N F i0 t net now r (sockets_of slots) has; made = tt }

  -- A DATAGRAM

  module _ (cx : ContextValue) (ip : IpRepr) (udp : UdpRepr) (bytes : List ℕ) (made : WasMade (party now (other side)) (datagram_of udp bytes)) where
    abbrev Given : Slots → Type 0
    Given qs = Moved names side C G N F i0 t net now (sockets_of qs)

    -- of a client nothing is looked at
    unseen : (at : ℕ) (item : Item Socket) (s s' : Socket) → seen s ≡ None → seen s' ≡ None → holds_at at (Some (record item { socket = s })) →
        Given (slice_set slots at (record { inner = Some (record item { socket = s' }) }))
    unseen at item s s' was becomes here =
        let next : SocketStorage Socket = record { inner = Some (record item { socket = s' }) } in
        let none : slice_index_or (sockets_of slots) at None ≡ None = seen_at slots at free here.0 ∙ ap seen_slot here.1 ∙ was in
        let same : slice_set (sockets_of slots) at None ≡ sockets_of slots = set_none (sockets_of slots) at none in
        stays names side C G N F i0 t net now r (sockets_of (slice_set slots at next))
        (has ∙ sym same ∙ ap (λ (o : Option Parties.Socket). slice_set (sockets_of slots) at o) (sym becomes) ∙ sym (seen_set slots at next))

    socket_given : (at : ℕ) (item : Item Socket) (s s' : Socket) → TakesDatagram cx ip udp bytes s s' → holds_at at (Some (record item { socket = s })) →
        accepts_datagram cx s ip udp ≡ true → Given (slice_set slots at (record { inner = Some (record item { socket = s' }) }))
    socket_given at item (Is.Udp v) s' takes here accepts =
        subst (λ (x : Socket). Given (slice_set slots at (record { inner = Some (record item { socket = x }) }))) (sym takes)
        (moves_by names side C G N F i0 t net now r move _ (found at (record item { socket = Is.Udp v }) here, accepts, made) refl
        (set_there at (record { inner = Some (record item { socket = Is.Udp (Udps.process_after v ip udp bytes) }) }))
        (grows_to (party now side) (Moves.party_after (party now side) move) refl refl) (λ c. tt) (λ c g. tt) tt (λ g. tt))
      where
        move : Moves.Move
        move = Moves.Receives at cx v ip udp bytes
    socket_given at item (Is.Dhcpv4 v) s' takes here accepts = unseen at item (Is.Dhcpv4 v) s' refl (ap seen takes.1) here
    socket_given at item (Is.Dns v) s' takes here accepts = unseen at item (Is.Dns v) s' refl (ap seen takes.1) here
    socket_given at item (Is.Raw v) s' takes here accepts = absurd (cc)
    socket_given at item (Is.Icmp v) s' takes here accepts = absurd (cc)
    socket_given at item (Is.Tcp v) s' takes here accepts = absurd (cc)

    item_given : (at : ℕ) (o o' : Option (Item Socket)) → ItemTakes cx ip udp bytes o o' → holds_at at o →
        passes (λ s. accepts_datagram cx s ip udp) (record { inner = o }) ≡ true → Given (slice_set slots at (record { inner = o' }))
    item_given at None o' takes here passing = absurd (cc)
    item_given at (Some item) o' takes here passing =
        subst (λ (x : Option (Item Socket)). Given (slice_set slots at (record { inner = x }))) (sym takes.2)
        (socket_given at item item.socket takes.0 takes.1 here passing)

    first_given : (o : Option ℕ) → datagram_slot cx ip udp slots ≡ o → (qs : Slots) → GivenAt cx ip udp bytes o slots qs → Given qs
    first_given None is qs given = subst Given (sym given) (stays names side C G N F i0 t net now r (sockets_of slots) has)
    first_given (Some at) is qs given =
        let first = position-Some (passes (λ s. accepts_datagram cx s ip udp)) slots at free is in
        let slot = get_or slots at free in
        let by : GivenIn cx ip udp bytes at (Some slot) slots qs =
        subst (λ (o : Option (SocketStorage Socket)). GivenIn cx ip udp bytes at o slots qs) (slice_get-get_or slots at free first.0) given in
        subst Given (sym by.2) (item_given at slot.inner by.0.inner by.1 (first.0, refl) first.1)

    pub datagram_given : (qs : Slots) → IsDelivered cx ip udp bytes slots qs → Given qs
    datagram_given qs given = first_given (datagram_slot cx ip udp slots) refl qs given

  -- A SEGMENT

  module _ (cx : ContextValue) (ip : IpRepr) (header : TcpHeader) (bytes : List ℕ)
      (made : MayCome (party now (other side)).segments (source_of ip) (destination_of ip) header bytes) (shown : IsShownAt i0 t cx)
      (between : IsBetweenHosts i0 ip) where
    -- it came to the socket of a slot by one move
    pub record CameBy (at : ℕ) (sockets : List (Option Parties.Socket)) (reply : Option PacketValue) : Type 0 where
      pub ends : Ends sockets reply
      pub v : TcpValue
      pub are : ends.moved.reaches.steps ≡ r.steps ++ step_of side (Moves.Takes at cx v ip header bytes) ∷ []

    -- what answers it goes, where the device gives leave
    abbrev pub IsLeft : Option PacketValue → Type 0
    IsLeft reply = G → IfSome reply (AnswerLeft i0 N F.gone)

    abbrev Taken : ℕ → SocketStorage Socket → Type 0
    Taken at slot = CameBy at (sockets_of (slice_set slots at (with_change (with_segment cx ip header bytes) slot)))
        (answer_in (answer_of cx ip header bytes) slot.inner)

    came : IsSeenAmong (party now (other side)).segments header bytes
    came = comes_as_made (party now (other side)).segments (source_of ip) (destination_of ip) header bytes made

    grown : (v : Party) (a : Option Reply) → v.segments ≡ and_answer (party now side).segments a → v.datagrams ≡ (party now side).datagrams →
        Grows (party now side) v
    grown v None s d = grows_to (party now side) v s d
    grown v (Some reply) s d =
        grows_by (party now side) v (made_by reply ∷ []) [] s (d ∙ sym (append-nil (party now side).datagrams))

    socket_takes : (at : ℕ) (item : Item Socket) (s : Socket) → holds_at at (Some (record item { socket = s })) → accepts_segment s ip header ≡ true →
        IsLeft (answer_in (answer_of cx ip header bytes) (Some (record item { socket = s }))) → Taken at (record { inner = Some (record item { socket = s }) })
    socket_takes at item (Is.Tcp v) here accepts left = record {
      ends = record {
        moved =
            moves_by names side C G N F i0 t net now r move _ (found at (record item { socket = Is.Tcp v }) here, accepts, came) refl
            (set_there at (with_change (with_segment cx ip header bytes) (record { inner = Some (record item { socket = Is.Tcp v }) })))
            (grown (Moves.party_after (party now side) move) (arrives cx v ip header bytes).answer refl refl) (λ c. (shown, made, between)) (λ c g. tt) tt left;
        made = there now side move (λ (y : Party). IfSome (packet_by (arrives cx v ip header bytes).answer) (IsMade y))
            (reply_made (Moves.party_after (party now side) move) (party now side).segments (arrives cx v ip header bytes).answer refl);
      };
      v = v;
      are = refl;
    } where
      move : Moves.Move
      move = Moves.Takes at cx v ip header bytes
    socket_takes at item (Is.Raw v) here accepts left = absurd (cc)
    socket_takes at item (Is.Icmp v) here accepts left = absurd (cc)
    socket_takes at item (Is.Udp v) here accepts left = absurd (cc)
    socket_takes at item (Is.Dhcpv4 v) here accepts left = absurd (cc)
    socket_takes at item (Is.Dns v) here accepts left = absurd (cc)

    slot_takes : (at : ℕ) (o : Option (Item Socket)) → holds_at at o → passes (λ s. accepts_segment s ip header) (record { inner = o }) ≡ true →
        IsLeft (answer_in (answer_of cx ip header bytes) o) → Taken at (record { inner = o })
    slot_takes at None here passing left = absurd (cc)
    slot_takes at (Some item) here passing left = socket_takes at item item.socket here passing left

    -- nobody accepts it, and it is reset
    pub reset : (C → ⊥) → Ends (sockets_of slots) (packet_by (Some (rst_reply ip header (length bytes))))
    reset none = record {
      moved =
          moves_by names side C G N F i0 t net now r move (sockets_of slots) refl refl has
          (grows_by (party now side) (Moves.party_after (party now side) move) (x ∷ []) [] refl (sym (append-nil (party now side).datagrams))) none (λ c g. tt) tt (λ g. tt);
      made = there now side move (λ (y : Party). IfSome (packet_by (Some (rst_reply ip header (length bytes)))) (IsMade y))
          (reply_made (Moves.party_after (party now side) move) (party now side).segments (Some (rst_reply ip header (length bytes))) refl);
    } where
      x : Made
      x = made_by (rst_reply ip header (length bytes))

      move : Moves.Move
      move = Moves.Resets x

    -- one accepts it
    pub segment_taken : (taken : Bool) (at : ℕ) → segment_slot ip header slots ≡ Some at → IsLeft (segment_answer_at (Some at) cx ip header bytes taken slots)
        → CameBy at (sockets_of (changed_at (with_segment cx ip header bytes) (Some at) slots)) (segment_answer_at (Some at) cx ip header bytes taken slots)
    segment_taken taken at is left =
        let first = accepted_there ip header slots at free is in
        let slot = get_or slots at free in
        subst (λ (o : Option PacketValue). CameBy at (sockets_of (changed_at (with_segment cx ip header bytes) (Some at) slots)) o)
        (sym (answer_here (answer_of cx ip header bytes) slots at slot (slice_get-get_or slots at free first.0)))
        (subst (λ (qs : Slots). CameBy at (sockets_of qs) (answer_in (answer_of cx ip header bytes) slot.inner))
        (sym (changed_here (with_segment cx ip header bytes) slots at slot (slice_get-get_or slots at free first.0)))
        (slot_takes at slot.inner (first.0, refl) first.1
        (subst IsLeft (answer_here (answer_of cx ip header bytes) slots at slot (slice_get-get_or slots at free first.0)) left)))
