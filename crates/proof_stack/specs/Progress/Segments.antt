-- A segment that a TCP socket offers, and that comes to the socket of another host that it is for.
use Rattle.std.specs.Prelude.{◌≡◌, ◌≢◌, ◌⊎◌, ℕ, zero, suc, ◌^◌, ◌<◌, ◌≤◌, ℤ, Bool, true, false, List, ◌∷◌, ◌++◌, slice_get, Option, Some}
use Rattle.std.specs.List.{list_any}
use Rattle.net_base.specs.Device.{Move}
use Rattle.wire_ip.specs.Ip.{destination_of, source_of}
use Rattle.wire_ip.specs.declared.ip.repr.IpRepr.{IpRepr}
use Rattle.ip_wire.specs.HardwareAddress.{HardwareAddress}
use Rattle.ip_wire.specs.TcpHeader.{TcpHeader}
use Rattle.tcp_block.specs.Arrival.{arrives}
use Rattle.tcp_block.specs.Offers.{offer_of, offered_packet}
use Rattle.tcp_block.specs.Value.{TcpValue}
use Rattle.tcp_liveness.specs.Arrivals.{is_synchronized}
use Rattle.iface_ingress.specs.Context.{ContextValue}
use Rattle.iface_ingress.specs.Delivered.{segment_slot}
use Rattle.iface_ingress.specs.Processed.{names_no_endpoint}
use Rattle.iface_ingress.specs.Packet.{PacketValue, Segment, packet_of}
use Rattle.iface_ingress.specs.Reassembled.{is_astray}
use Rattle.iface_ingress.specs.Socket.{Socket}
use Rattle.iface_ingress.specs.Socket.TheVariants as Kind
use Rattle.iface_ingress.specs.Sockets.{settled}
use Rattle.iface_ingress.specs.WellFormed.{IsWellFormed}
use Rattle.iface_tables.specs.Inner.{InnerValue, at_instant, context_of, is_for_us, link_address, mtu_to}
use Rattle.iface_tables.specs.declared.link.LinkAddress.TheVariants as Link
use Rattle.iface_egress.specs.Plan.{never_leaves, total_len}
use Rattle.iface_egress.specs.Set.{unmarked}
use Rattle.iface_egress.specs.declared.socket_meta.Meta.{Meta}
use Rattle.iface_egress.specs.declared.socket_set.SocketStorage.{SocketStorage}
use Rattle.interface.specs.Ingress.{IngressStep}
use Rattle.interface.specs.Polls.{begun}
use Rattle.interface.specs.Remote.{context_for}
use Rattle.interface.specs.State.{State}
use Rattle.interface.specs.TransmittedFrame.{CanRead}
use Rattle.interface.specs.Serve.{is_waiting}
use Rattle.proof_stack.specs.PeerHost.SocketRun.{Event}
use Rattle.proof_stack.specs.PeerHost.ReachedSocket.{after_all}
use Rattle.proof_stack.specs.PeerHost.Streams.{AreOfPoll, IsTcpAt}
use Rattle.proof_stack.specs.Progress.Delivered.{hears, is_misframed_to, may_be_sender, reader_of}
use Rattle.proof_stack.specs.Progress.Moves.{AreMoves, is_refused}
use Rattle.proof_stack.specs.Progress.Queued.{SendsPacket, frame_under}

-- THE SENDER

-- This packet may leave the host, which knows that the frame goes to this hardware address; and it fits one frame, and the path to its destination.
pub record CanTransmit (i : InnerValue) (to : HardwareAddress) (p : PacketValue) : Type 0 where
  pub may : never_leaves i p.header ≡ false
  pub known : link_address i (destination_of p.header) ≡ Link.Known to
  pub short : total_len p.header ≤ mtu_to i (destination_of p.header)

-- the socket at a slot, which waits for no neighbour at the host's instant
pub record IsItsTurn (i : InnerValue) (slots : List (SocketStorage Socket)) (n : ℕ) (s : Socket) : Type 0 where
  pub meta : Meta
  pub stands : slice_get slots n ≡ Some (record { inner = Some (record { meta = meta; socket = s }) })
  pub ready : is_waiting i meta ≡ false

-- the TCP socket as it is asked by its host
abbrev pub asked_by : InnerValue → TcpValue → TcpValue
asked_by i v = (offer_of (context_for i (Kind.Tcp v)) v).socket

-- Asked by its host, the TCP socket offers this segment after this IP header. A reader takes no segment from or to port 0.
pub record OffersSegment (i : InnerValue) (v : TcpValue) (ip : IpRepr) (header : TcpHeader) (bytes : List ℕ) : Type 0 where
  pub offers : offered_packet (asked_by i v) ≡ Some (packet_of ip (Segment header bytes))
  pub source_port : header.src_port ≢ 0
  pub destination_port : header.dst_port ≢ 0

-- The packet went, under an identification of 16 bits where the host had one; the socket that offered it so is told, and waits for nobody; and the step
-- says that something changed.
pub record WentBy (i : InnerValue) (n : ℕ) (offering : Socket) (to : HardwareAddress) (p : PacketValue) (all : List Move) (answer : Option Bool)
    (slots : List (SocketStorage Socket)) : Type 0 where
  pub sent : SendsPacket i to p all
  pub wide : i.ident < 2 ^ 16 → sent.0 < 2 ^ 16
  pub formed : IsWellFormed p
  pub stands : slice_get slots n ≡ Some (unmarked (settled true offering))
  pub told : answer ≡ Some true

-- of a step of the egress path: it went, or the device refused
pub record LeavesAtOnce {D : Type 0} (moves : D → Move → D → Type 0) (i : InnerValue) (n : ℕ) (offering : Socket) (to : HardwareAddress) (p : PacketValue)
    (old new : D) (answer : Option Bool) (slots : List (SocketStorage Socket)) : Type 0 where
  pub all : List Move
  pub are : AreMoves moves all old new
  pub what : (list_any is_refused all ≡ true) ⊎ WentBy i n offering to p all answer slots

-- THE RECEIVER

-- a slot with a TCP socket
abbrev pub tcp_slot : Meta → TcpValue → SocketStorage Socket
tcp_slot meta v = record { inner = Some (record { meta = meta; socket = Kind.Tcp v }) }

-- A segment with this header between the addresses of this IP header, in a frame for this hardware address: the host takes it in, for it is for this
-- host and from one host; it is for this host, and names two hosts; and the socket of its connection, or else the first listener that accepts it, is
-- the TCP socket at this slot.
pub record IsAwaited (i : InnerValue) (slots : List (SocketStorage Socket)) (to : HardwareAddress) (ip : IpRepr) (header : TcpHeader) (m : ℕ)
    (meta : Meta) (w : TcpValue) : Type 0 where
  pub heard : hears i to ≡ true
  pub framed : is_misframed_to i to (destination_of ip) ≡ false
  pub sender : may_be_sender i (source_of ip) ≡ true
  pub here : is_astray i (source_of ip) (destination_of ip) ≡ false
  pub ours : is_for_us i (destination_of ip) ≡ true
  pub named : names_no_endpoint i ip ≡ false
  pub slot : segment_slot ip header slots ≡ Some m
  pub stands : slice_get slots m ≡ Some (tcp_slot meta w)

-- the segment came to the TCP socket at a slot, after an IP header between the same addresses
pub record HasComeTo (i : InnerValue) (slots : List (SocketStorage Socket)) (ip : IpRepr) (header : TcpHeader) (bytes : List ℕ) (m : ℕ) (meta : Meta)
    (w : TcpValue) : Type 0 where
  pub read : IpRepr
  pub source : source_of read ≡ source_of ip
  pub destination : destination_of read ≡ destination_of ip
  pub stands : slice_get slots m ≡ Some (tcp_slot meta (arrives (context_of i) w read header bytes).socket)

-- WITHIN A POLL

-- so it is for a socket with its connection: both SYNs were acknowledged, and it isn't closed
pub record IsAwaitedThroughout (i : InnerValue) (slots : List (SocketStorage Socket)) (to : HardwareAddress) (ip : IpRepr) (header : TcpHeader) (m : ℕ)
    (meta : Meta) (w : TcpValue) : Type 0 where
  pub awaited : IsAwaited i slots to ip header m meta w
  pub connection : is_synchronized w.tcb.state ≡ true

-- the TCP socket at a slot has its connection
pub record HasConnection (slots : List (SocketStorage Socket)) (m : ℕ) : Type 0 where
  pub value : TcpValue
  pub stands : IsTcpAt slots m value
  pub state : is_synchronized value.tcb.state ≡ true

-- in this state the TCP socket at a slot awaits the segment, and its host reads what the other one sends
pub record IsAwaitedAt {E : Type 0} (u : ℤ) (x : State E) (i : InnerValue) (to : HardwareAddress) (ip : IpRepr) (header : TcpHeader) (m : ℕ) : Type 0 where
  pub meta : Meta
  pub value : TcpValue
  pub awaited : IsAwaited (at_instant u x.host.inner) x.slots to ip header m meta value
  pub reads : CanRead i to (reader_of x.host.inner)

-- where a poll of this instant that began here has come as it has read so many frames
abbrev pub HasRead : {E : Type 0} → (E → Move → E → Type 0) → ℤ → State E → ℕ → State E → Type 0
HasRead {E} moves u r zero x = x ≡ begun u r
HasRead {E} moves u r (suc n) x = (mid : State E) × (b : Bool) × HasRead moves u r n mid × IngressStep moves u mid (Some b) x

-- so it is wherever such a poll has come when a frame of the segment is next, after fewer than so many others
abbrev pub IsAwaitedWhenNext : {E : Type 0} → (E → Move → E → Type 0) → (E → List (List ℕ)) → ℤ → State E → ℕ → InnerValue → HardwareAddress → IpRepr
    → TcpHeader → List ℕ → ℕ → Type 0
IsAwaitedWhenNext {E} moves frames_at u r count i to ip header bytes m =
    (n : ℕ) (x : State E) (ident : ℕ) (padding : List ℕ) (more : List (List ℕ)) → n < count → HasRead moves u r n x
    → frames_at x.device ≡ (frame_under i ident to (packet_of ip (Segment header bytes)) ++ padding) ∷ more → IsAwaitedAt u x i to ip header m

-- The segment came to the TCP socket at a slot in a poll of this instant, after an IP header between the same addresses: events of the poll led the
-- socket to where it came, and on from there.
pub record ComesAmong {E : Type 0} (moves : E → Move → E → Type 0) (u : ℤ) (r r' : State E) (ip : IpRepr) (header : TcpHeader) (bytes : List ℕ) (m : ℕ)
    (w : TcpValue) : Type 0 where
  pub before : List Event
  pub led : AreOfPoll moves u r w before
  pub cx : ContextValue
  pub now : cx.instant ≡ u
  pub read : IpRepr
  pub source : source_of read ≡ source_of ip
  pub destination : destination_of read ≡ destination_of ip
  pub later : List Event
  pub leads : AreOfPoll moves u r (arrives cx (after_all w before) read header bytes).socket later
  pub stands : IsTcpAt r'.slots m (after_all (arrives cx (after_all w before) read header bytes).socket later)
