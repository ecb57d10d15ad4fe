-- A poll that takes a frame which waits brings the segment in it to its socket by one of its moves.
use Rattle.std.proofs.Common.{◌≡◌, ℕ, zero, suc, ◌+◌, ◌<◌, ◌≤◌, Bool, true, false, if◌then◌else◌, ℤ, List, [], ◌∷◌, ◌++◌, length, get_or, Option, Some, None, IsTrue}
use Rattle.std.proofs.Common.{refl, sym, ap, ◌∙◌, subst, arith, length-append}
use Rattle.std.specs.Prelude.{slice_index_or}
use Rattle.net_base.specs.Device.{Move, Took, Empty, Allowed, Emitted, Denied}
use Rattle.wire_address.specs.declared.ip.IpProtocol.TheVariants as Protocol
use Rattle.wire_ip.specs.Ip.{destination_of, source_of}
use Rattle.wire_ip.specs.declared.ip.repr.IpRepr.{IpRepr}
use Rattle.wire_ip.specs.declared.ip.repr.IpRepr.TheVariants as Ip
use Rattle.ip_wire.specs.HardwareAddress.{HardwareAddress}
use Rattle.ip_wire.specs.Tcp.{normal}
use Rattle.ip_wire.specs.TcpHeader.{TcpHeader}
use Rattle.ip_wire.specs.declared.ethernet.repr.EthernetRepr.{EthernetRepr}
use Rattle.tcp_block.specs.Value.{TcpValue}
use Rattle.sockets.specs.Socket.{accepts_segment}
use Rattle.iface_ingress.specs.Arrives.{whole_after, whole_arrived}
use Rattle.iface_ingress.specs.Delivered.{Slots, first_slot, is_connected, passes, passes_in, segment_slot}
use Rattle.iface_ingress.specs.Processed.{names_no_endpoint}
use Rattle.iface_ingress.specs.Incoming.{IncomingValue, Ip6, IsContent}
use Rattle.iface_ingress.specs.Packet.{PacketValue, PayloadValue, Segment, packet_of, payload_written}
use Rattle.iface_ingress.specs.Reassembled.{Assemblers, bytes_at, kept, slot_in, reassembled_v6, with_room}
use Rattle.iface_ingress.specs.Sent.{CanBeRead, ether_for, uncut}
use Rattle.iface_ingress.specs.Socket.{Socket}
use Rattle.iface_ingress.specs.Socket.TheVariants as Kind
use Rattle.iface_ingress.specs.Upper.{IsBrought, upper_header, upper_payload}
use Rattle.iface_ingress.specs.WellFormed.{IsWellFormed}
use Rattle.iface_ingress.proofs.OneContent.{one-carried-content, one-content}
use Rattle.iface_tables.specs.Inner.{InnerValue, is_for_us}
use Rattle.iface_tables.specs.Reassembly.{or_else}
use Rattle.iface_egress.specs.IsTransmitted.{numbered}
use Rattle.iface_egress.specs.Set.{free}
use Rattle.iface_egress.specs.declared.socket_set.Item.{Item}
use Rattle.iface_egress.specs.declared.socket_set.SocketStorage.{SocketStorage}
use Rattle.interface.specs.Delivered.{link_of}
use Rattle.interface.specs.Ingress.{IngressStep, is_read}
use Rattle.interface.specs.Polls.{Polls as IsPoll, begun}
use Rattle.interface.specs.State.{State}
use Rattle.interface.specs.TransmittedFrame.{CanRead, HasWidths, Reader}
use Rattle.interface.proofs.Kept.{IsKept, RunsAt}
use Rattle.lan.specs.declared.at_link.history.event.Side.{Side}
use Rattle.lan.specs.Worlds.AtLink.History.{Entry}
use Rattle.lan.specs.Worlds.AtLink.Kinds.{Kind, kind_of}
use Rattle.lan.specs.Worlds.AtLink.Kinds.Act.{Polls}
use Rattle.lan.specs.Worlds.AtLink.Kinds.Kind.{OfHost}
use Rattle.lan.specs.Worlds.AtLink.Moves.{Step, run}
use Rattle.lan.specs.Worlds.AtLink.Parties as Parties
use Rattle.lan.specs.Worlds.AtLink.Parties.{Net, Party, party, socket_at}
use Rattle.lan.specs.Worlds.AtLink.Port.{LinkEnd}
use Rattle.lan.specs.Worlds.AtLink.Runs.{Leads, Starts}
use Rattle.lan.specs.Worlds.AtLink.Safe.{seen}
use Rattle.lan.specs.Worlds.AtLink.Node.{Nodes, at_port, node}
use Rattle.lan.specs.Worlds.AtLink.Steps.{Happens, PollsAt}
use Rattle.lan.specs.Worlds.Moves.Follows.{seen_slot, sockets_of}
use Rattle.lan.specs.Worlds.Moves.ReceivedFrames.{AreMoved, BringsIn, ComesIn, ArrivesNext, HandsIn, IfSegment, IsMoved}
use Rattle.lan.proofs.Worlds.Moves.Slots.{seen_at}
use Rattle.sim_link.specs.Port.{PortValue, PortMove, has_tx_token}
use Rattle.proof_stack.specs.Progress.Delivered.{reader_of}
use Rattle.proof_stack.specs.Progress.Events.{AreTaken, HappensBy}
use Rattle.proof_stack.specs.Progress.Leave.{LiesAmong}
use Rattle.proof_stack.specs.Progress.Queued.{frame_under, with_ident}
use Rattle.proof_stack.specs.Progress.Segments.{CanTransmit}
use Rattle.proof_stack.specs.Progress.Takings.{ComesBy, IsForHost}
use Rattle.proof_stack.proofs.Peers.Devices.{device_kept}
use Rattle.proof_stack.proofs.Polls.Connected.{Has}
use Rattle.proof_stack.proofs.Polls.Delivered as Delivered
use Rattle.proof_stack.proofs.Polls.Delivered.{as_read, same_destination, same_source}
use Rattle.proof_stack.proofs.Polls.Frames.{Comes, IsInOrder, Waits, comes, ins, one_in, outs, takes}
use Rattle.proof_stack.proofs.Polls.Inboxes.{Frames, leave, ports, waiting}
use Rattle.proof_stack.proofs.Polls.Reached.{IsNoFragment, no_fragment}
use Rattle.proof_stack.proofs.Polls.Readers.{brings, packet_read}
use Rattle.proof_stack.proofs.Polls.Segments.{named_same, slot_same}
use Rattle.proof_stack.proofs.Polls.Stays.{astray, for_us, framed, heard, position_is, sender}

clash : {X : Type 0} → true ≡ false → X
clash {X} e = absurd cc

-- THE PLACE OF A SEGMENT

-- A segment with this header between these addresses is for the TCP socket at a slot: that has its connection, and none before it has.
pub record IsForSlot (p : Party) (slot : ℕ) (ip : IpRepr) (header : TcpHeader) : Type 0 where
  pub v : TcpValue
  pub stands : socket_at p slot ≡ Some (Parties.Tcp v)
  pub has : is_connected (Kind.Tcp v) ip header ≡ true
  pub first : (k : ℕ) (w : TcpValue) → k < slot → socket_at p k ≡ Some (Parties.Tcp w) → is_connected (Kind.Tcp w) ip header ≡ false

-- so it is wherever these moves have led
abbrev pub IsForSlotThroughout : Side → ℕ → IpRepr → TcpHeader → Net → List Step → Type 0
IsForSlotThroughout side slot ip header net steps =
    (before following : List Step) → steps ≡ before ++ following → IsForSlot (party (run net before) side) slot ip header

module _ (ip : IpRepr) (header : TcpHeader) where
  abbrev Ours : SocketStorage Socket → Bool
  Ours = passes (Has ip header)

  by_socket : (s : Socket) (v : TcpValue) → seen s ≡ Some (Parties.Tcp v) → Has ip header s ≡ Has ip header (Kind.Tcp v)
  by_socket (Kind.Tcp w) v is =
      let same : Parties.Tcp w ≡ Parties.Tcp v = cc in
      let one : w ≡ v = cc in
      ap (λ (x : TcpValue). Has ip header (Kind.Tcp x)) one
  by_socket (Kind.Raw w) v is = absurd (cc)
  by_socket (Kind.Icmp w) v is = absurd (cc)
  by_socket (Kind.Udp w) v is = absurd (cc)
  by_socket (Kind.Dhcpv4 w) v is = absurd (cc)
  by_socket (Kind.Dns w) v is = absurd (cc)

  by_item : (o : Option (Item Socket)) (v : TcpValue) → seen_slot (record { inner = o }) ≡ Some (Parties.Tcp v) →
      passes_in (Has ip header) o ≡ Has ip header (Kind.Tcp v)
  by_item None v is = absurd (cc)
  by_item (Some item) v is = by_socket item.socket v is

  none_by : (s : Socket) → ((w : TcpValue) → seen s ≡ Some (Parties.Tcp w) → Has ip header (Kind.Tcp w) ≡ false) → Has ip header s ≡ false
  none_by (Kind.Tcp w) none = none w refl
  none_by (Kind.Raw w) none = refl
  none_by (Kind.Icmp w) none = refl
  none_by (Kind.Udp w) none = refl
  none_by (Kind.Dhcpv4 w) none = refl
  none_by (Kind.Dns w) none = refl

  none_in : (o : Option (Item Socket)) → ((w : TcpValue) → seen_slot (record { inner = o }) ≡ Some (Parties.Tcp w) → Has ip header (Kind.Tcp w) ≡ false) →
      passes_in (Has ip header) o ≡ false
  none_in None none = refl
  none_in (Some item) none = none_by item.socket none

  within : (slots : Slots) (at : ℕ) (v : TcpValue) → slice_index_or (sockets_of slots) at None ≡ Some (Parties.Tcp v) → at < length slots
  within [] zero v is = absurd (cc)
  within [] (suc at) v is = absurd (cc)
  within (p ∷ ps) zero v is = omega arith
  within (p ∷ ps) (suc at) v is = let rest = within ps at v is in omega (arith, rest)

  module _ (p : Party) (slots : Slots) (sockets : p.sockets ≡ sockets_of slots) (slot : ℕ) (is : IsForSlot p slot ip header) where
    here : slice_index_or (sockets_of slots) slot None ≡ Some (Parties.Tcp is.v)
    here = ap (λ (xs : List (Option Parties.Socket)). slice_index_or xs slot None) (sym sockets) ∙ is.stands

    short : slot < length slots
    short = within slots slot is.v here

    seen_there : (k : ℕ) → k < length slots → seen_slot (get_or slots k free) ≡ socket_at p k
    seen_there k less = sym (seen_at slots k free less) ∙ ap (λ (xs : List (Option Parties.Socket)). slice_index_or xs k None) (sym sockets)

    its : Ours (get_or slots slot free) ≡ true
    its = by_item (get_or slots slot free).inner is.v (seen_there slot short ∙ is.stands) ∙ is.has

    none : (k : ℕ) → k < slot → Ours (get_or slots k free) ≡ false
    none k less =
        none_in (get_or slots k free).inner
        (λ w there. is.first k w less (sym (seen_there k (omega (arith, less, short))) ∙ there))

    pub found : segment_slot ip header slots ≡ Some slot
    found =
        ap (λ (o : Option ℕ). or_else o (first_slot (λ s. accepts_segment s ip header) slots)) (position_is Ours free slots slot short its none)

-- WHAT A FRAME THAT WAS TAKEN BRINGS

module _ (side : Side) (i0 : InnerValue) (t : ℤ) (net : Net) (steps : List Step) where
  -- a whole packet
  whole_brings : (i : InnerValue) (timeout : ℕ) (assemblers : Assemblers) (link : Option EthernetRepr) (ip : IpRepr) (payload : List ℕ) → IsNoFragment ip payload →
      is_for_us i (destination_of ip) ≡ true
      → BringsIn side i0 t net i (whole_after i timeout assemblers (Some (uncut link ip payload))) steps → HandsIn side i0 t net ip payload steps
  whole_brings i timeout assemblers link (Ip.Ipv4 h) payload whole ours goes = goes ours
  whole_brings i timeout assemblers link (Ip.Ipv6 h) payload whole ours goes =
      let content : Option IncomingValue = Some (Ip6 link h payload) in
      let brings : BringsIn side i0 t net i content steps =
      subst (λ (fragment : Bool). BringsIn side i0 t net i
      (if fragment then reassembled_v6 link h (bytes_at (slot_in assemblers content) (kept i timeout assemblers content)) else content) steps)
      whole goes in
      brings ours

  -- the one that is taken in, among others
  moved_there : (before : Frames) (frame : List ℕ) (rest : Frames) → AreMoved side i0 t net (before ++ frame ∷ rest) steps → is_read frame ≡ true →
      IsMoved side i0 t net frame steps
  moved_there [] frame rest all short = all.0 short
  moved_there (f ∷ before) frame rest all short = moved_there before frame rest all.1 short

  -- the move that comes next, among all
  comes_then : (slot : ℕ) (ip read : IpRepr) (header : TcpHeader) (bytes : List ℕ) (before following : List Step) → steps ≡ before ++ following →
      source_of read ≡ source_of ip → destination_of read ≡ destination_of ip → ArrivesNext side i0 t net slot read header bytes following →
      ComesBy side slot t ip header bytes steps
  comes_then slot ip read header bytes before following are source destination next = record {
    before = before;
    cx = next.cx;
    v = next.v;
    read = read;
    following = next.more;
    are = are ∙ ap (λ (xs : List Step). before ++ xs) next.are;
    instant = next.instant;
    source = source;
    destination = destination;
  }

  module _ (i : InnerValue) (ident : ℕ) (ip : IpRepr) (header : TcpHeader) (bytes : List ℕ) (to : HardwareAddress) (wide : HasWidths (with_ident i ident))
      (written : normal header ≡ header) (readable : CanBeRead ip (Segment header bytes)) (can : CanTransmit i to (packet_of ip (Segment header bytes)))
      (formed : IsWellFormed (packet_of ip (Segment header bytes))) (reads : CanRead i to (reader_of i0)) (for_host : IsForHost i0 to ip) (padding : List ℕ)
      (moved : IsMoved side i0 t net (frame_under i ident to (packet_of ip (Segment header bytes)) ++ padding) steps) where
    abbrev p : PacketValue
    p = packet_of ip (Segment header bytes)

    abbrev then_host : InnerValue
    then_host = with_ident i ident

    abbrev read : IpRepr
    read = as_read then_host ip

    abbrev payload : List ℕ
    payload = payload_written i.checksums (numbered then_host p).header p.payload

    abbrev link : Option EthernetRepr
    link = link_of i.hardware to (ether_for (numbered then_host p).header)

    abbrev content : Option IncomingValue
    content = Some (uncut link read payload)

    carries : IsBrought i0.checksums read payload (Some (Segment header bytes))
    carries =
        subst (λ (h : TcpHeader). IsBrought i0.checksums read payload (Some (Segment h bytes))) written
        (brings i ident to p (reader_of i0) wide can formed reads readable)

    content_is : moved.content ≡ content
    content_is =
        one-content moved.i.hardware moved.i.checksums (frame_under i ident to p ++ padding) moved.content content moved.is
        (subst (λ (r : Reader). IsContent r.hardware r.checksums (frame_under i ident to p ++ padding) content)
        (λ k. record { hardware = sym moved.settings.hardware k; checksums = sym moved.settings.checksums k })
        (packet_read i ident to p (reader_of i0) wide can formed reads padding))

    listens : Rattle.iface_ingress.specs.Reassembled.is_taken_in moved.i (uncut link read payload) ≡ true
    listens =
        Delivered.taken_in then_host moved.i i.hardware to ip payload (heard i0 moved.i moved.settings to ∙ for_host.heard)
        (framed i0 moved.i moved.settings to (destination_of ip) ∙ for_host.framed) (sender i0 moved.i moved.settings (source_of ip) ∙ for_host.sender)
        (astray i0 moved.i moved.settings (source_of ip) (destination_of ip) ∙ for_host.here)

    ours : is_for_us moved.i (destination_of read) ≡ true
    ours =
        ap (λ a. is_for_us moved.i a) (same_destination then_host ip) ∙ for_us i0 moved.i moved.settings (destination_of ip) ∙ for_host.ours

    handed : HandsIn side i0 t net read payload steps
    handed =
        let all : BringsIn side i0 t net moved.i (whole_arrived moved.i moved.timeout moved.assemblers content) steps =
        subst (λ (c : Option IncomingValue). BringsIn side i0 t net moved.i (whole_arrived moved.i moved.timeout moved.assemblers c) steps) content_is
        moved.brings in
        let room : Option IncomingValue → Assemblers = λ o. with_room moved.i moved.assemblers o in
        let it : BringsIn side i0 t net moved.i (whole_after moved.i moved.timeout (room content) content) steps =
        subst (λ (b : Bool). BringsIn side i0 t net moved.i
        (whole_after moved.i moved.timeout (room (if b then content else None)) (if b then content else None)) steps) listens all in
        whole_brings moved.i moved.timeout (room content) link read payload (no_fragment read payload Protocol.Tcp carries.protocol (λ same. cc)) ours it

    comes_in : ComesIn side i0 t net read header bytes steps
    comes_in =
        let same : handed.0 ≡ Some (Segment header bytes) =
        one-carried-content i0.checksums (upper_header read payload) (upper_payload read payload) handed.0 (Some (Segment header bytes)) handed.1 carries in
        subst (λ (c : Option PayloadValue). IfSegment side i0 t net read c steps) same handed.2

    pub comes_by : (slot : ℕ) → IsForSlotThroughout side slot ip header net steps → ComesBy side slot t ip header bytes steps
    comes_by slot throughout =
        let c = comes_in in
        let is : IsForSlot (party (run net c.before) side) slot ip header = throughout c.before c.following c.are in
        let there : segment_slot read header c.slots ≡ Some slot =
        slot_same read ip (same_source then_host ip) (same_destination then_host ip) header c.slots
        ∙ found ip header (party (run net c.before) side) c.slots c.sockets slot is in
        let named : names_no_endpoint i0 read ≡ false =
        named_same read ip (same_source then_host ip) (same_destination then_host ip) header i0 ∙ for_host.named in
        comes_then slot ip read header bytes c.before c.following c.are (same_source then_host ip) (same_destination then_host ip) (c.comes slot named there)

-- THE FRAME IS TAKEN

-- a frame of those that waited was taken, where no more wait than waited after it
among : (frames new before : Frames) (f : List ℕ) (following : Frames) → frames ++ new ≡ before ++ f ∷ following → length new ≤ length following →
    (rest : Frames) × (frames ≡ before ++ f ∷ rest)
among [] new before f following is few =
    let same : length new ≡ length before + length (f ∷ following) = ap (λ (xs : Frames). length xs) is ∙ length-append before (f ∷ following) in
    absurd (omega (arith, same, few))
among (x ∷ xs) new [] f following is few = let one : x ≡ f = cc in (xs, ap (λ (y : List ℕ). y ∷ xs) one)
among (x ∷ xs) new (b ∷ bs) f following is few =
    let one : x ≡ b = cc in
    let more : xs ++ new ≡ bs ++ f ∷ following = cc in
    let rest = among xs new bs f following more few in
    (rest.0, λ k. one k ∷ rest.1 k)

module _ (u : ℤ) (steps : ℕ) (r r' : State PortValue) (changed : Bool) (polls : IsPoll PortMove u steps r changed r') (given : IsTrue (leave r'.device)) where
  -- no more wait than so many
  abbrev FewWait : ℕ → PortValue → Type 0
  FewWait n p = length (waiting p) ≤ n

  fewer : (n : ℕ) (old new : PortValue) (m : Move) → PortMove old m new → FewWait n old → FewWait n new
  fewer n old new (Took t frame) goes few =
      let same : length (waiting old) ≡ suc (length (waiting new)) = ap (λ (p : PortValue). length (waiting p)) goes.1 in omega (arith, same, few)
  fewer n old new (Empty t) goes few = subst (λ (p : PortValue). FewWait n p) (sym goes.0) few
  fewer n old new (Allowed t gives) goes few = subst (λ (p : PortValue). FewWait n p) (sym goes.0) few
  fewer n old new (Emitted frame) goes few = subst (λ (p : PortValue). FewWait n p) (sym goes) few
  fewer n old new (Denied len) goes few = subst (λ (p : PortValue). FewWait n p) (sym goes.0) few

  few_kept : (n : ℕ) → IsKept PortMove u (λ (s : State PortValue). FewWait n s.device)
  few_kept n = device_kept PortMove (FewWait n) (fewer n) u

  abbrev Any : State PortValue → Type 0
  Any s = Unit {0}

  any_kept : IsKept PortMove u Any
  any_kept = device_kept PortMove (λ d. Unit {0}) (λ old new m goes any. tt) u

  order : IsInOrder PortMove waiting
  order = record { first = ports.first; out = ports.out }

  denied : (old new : PortValue) (m : Move) → PortMove old m new → leave old ≡ false → leave new ≡ false
  denied old new m goes none = by (leave new) refl where
    by : (gives : Bool) → leave new ≡ gives → gives ≡ false
    by false is = refl
    by true is = clash (sym (ports.had old new m goes is) ∙ none)

  runs_mid : RunsAt u polls.0.host.inner
  runs_mid = (ins PortMove u Any any_kept steps (begun u r) polls.0 false polls.1 (tt, (refl, refl)) polls.2).1

  leave_mid : leave polls.0.device ≡ true
  leave_mid = by (leave polls.0.device) refl where
    by : (gives : Bool) → leave polls.0.device ≡ gives → gives ≡ true
    by true is = refl
    by false is =
        clash (sym given
        ∙ (outs PortMove u (λ (s : State PortValue). leave s.device ≡ false) (device_kept PortMove (λ (d : PortValue). leave d ≡ false) denied u) steps
        polls.0 r' polls.1 changed (is, runs_mid) polls.3).0)

  proceeds : (s : State PortValue) (frame : List ℕ) (more : Frames) → Waits waiting s.device (frame ∷ more) → IngressStep PortMove u s None polls.0 → ⊥
  proceeds s frame more wait step =
      ports.found s.device polls.0.device u frame more (ports.had s.device polls.0.device (Empty u) step.0 leave_mid) wait step.0

  abbrev Anyhow : Frames → State PortValue → Type 0
  Anyhow fs s = Unit {0}

  module _ (before : Frames) (frame : List ℕ) (following : Frames) (short : is_read frame ≡ true) (wait : Waits waiting r.device (before ++ frame ∷ following))
      (few : length before < steps) where
    coming : Comes PortMove waiting order u Any any_kept Anyhow (λ f front more s s' b waits holds step. tt) frame following polls.0
    coming =
        comes PortMove waiting order u Any any_kept Anyhow (λ f front more s s' b waits holds step. tt) steps before (begun u r) polls.0 false polls.1 frame
        following short proceeds wait few (tt, (refl, refl)) tt polls.2

    then_wait : Waits waiting coming.x'.device following
    then_wait = takes PortMove waiting order u coming.x coming.x' true frame following coming.wait coming.reads

    runs_then : RunsAt u coming.x'.host.inner
    runs_then = (one_in PortMove u Any any_kept coming.x coming.x' (Some true) coming.runs coming.reads).1

    pub no_more_wait : length (waiting r'.device) ≤ length following
    no_more_wait =
        let n = length following in
        let start : FewWait n coming.x'.device = (let same = ap (λ (fs : Frames). length fs) then_wait in omega (arith, same)) in
        let mid = ins PortMove u (λ s. FewWait n s.device) (few_kept n) coming.left coming.x' polls.0 coming.c coming.c' (start, runs_then) coming.rest in
        (outs PortMove u (λ s. FewWait n s.device) (few_kept n) steps polls.0 r' polls.1 changed mid polls.3).0

-- SO IN A WORLD

module _ (old new : Nodes) (side : Side) (t : ℤ) (budget : ℕ) (changed : Bool) (polls : PollsAt (node old side) t budget changed (node new side))
    (given : IsTrue (has_tx_token (node new side).link)) (before : Frames) (frame : List ℕ) (following : Frames) (short : is_read frame ≡ true)
    (wait : (node old side).link.waiting ≡ before ++ frame ∷ following) (few : length before < budget) where
  fewer_wait : length (node new side).link.waiting ≤ length following
  fewer_wait =
      subst (λ (l : LinkEnd). length l.waiting ≤ length following) polls.after
      (no_more_wait t budget (at_port polls.port (node old side)) (at_port polls.port_after (node new side)) changed polls.polls
      (subst (λ (l : LinkEnd). IsTrue (has_tx_token l)) (sym polls.after) given) before frame following short
      (ap (λ (l : LinkEnd). l.waiting) polls.before ∙ wait) few)

  pub was_taken : (frames : Frames) → (node old side).link.waiting ≡ frames ++ (node new side).link.waiting → (rest : Frames) ×
      (frames ≡ before ++ frame ∷ rest)
  was_taken frames waited = among frames (node new side).link.waiting before frame following (sym waited ∙ wait) fewer_wait

pub comes_in_a_poll : (starts : Starts) (past : List Entry) (old new : Nodes) (e : Entry) (net : Net) (steps : List Step) (side : Side) (t : ℤ)
    (budget slot : ℕ) (i : InnerValue) (ident : ℕ) (ip : IpRepr) (header : TcpHeader) (bytes : List ℕ) (to : HardwareAddress)
    → HappensBy starts past e old new net steps → Leads past old e new → kind_of e.event ≡ OfHost side (Polls t budget)
    → IsTrue (has_tx_token (node new side).link) → HasWidths (with_ident i ident) → normal header ≡ header → CanBeRead ip (Segment header bytes)
    → CanTransmit i to (packet_of ip (Segment header bytes)) → IsWellFormed (packet_of ip (Segment header bytes))
    → LiesAmong (node old side).link.waiting budget (frame_under i ident to (packet_of ip (Segment header bytes)))
    → CanRead i to (reader_of (node old side).host.inner) → IsForHost (node old side).host.inner to ip
    → IsForSlotThroughout side slot ip header net steps → ComesBy side slot t ip header bytes steps
comes_in_a_poll starts past old new e net steps side t budget slot i ident ip header bytes to by leads is given wide written readable can formed lies reads
    for_host throughout =
    let acts = (subst (λ (k : Kind). Happens old k e.answer e.found new) is leads.happens).acts in
    let taken : AreTaken (OfHost side (Polls t budget)) old new net steps = subst (λ (k : Kind). AreTaken k old new net steps) is by.taken in
    let frame : List ℕ = frame_under i ident to (packet_of ip (Segment header bytes)) ++ lies.padding in
    let rest = was_taken old new side t budget acts.0 acts.1 given lies.before frame lies.following lies.short lies.frames lies.few taken.0 taken.1 in
    let moved : IsMoved side (node old side).host.inner t net frame steps =
    moved_there side (node old side).host.inner t net steps lies.before frame rest.0
    (subst (λ (fs : Frames). AreMoved side (node old side).host.inner t net fs steps) rest.1 taken.2) lies.short in
    comes_by side (node old side).host.inner t net steps i ident ip header bytes to wide written readable can formed reads for_host lies.padding moved slot
    throughout
