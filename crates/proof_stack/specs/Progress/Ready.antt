-- A UDP socket that expects a datagram as a poll begins, and still does when the frame with it is next.
use Rattle.std.specs.Prelude.{◌≡◌, ◌⊎◌, ℕ, suc, ◌+◌, ◌*◌, ◌≤◌, ◌==◌, ◌&&◌, ℤ, Bool, false, List, [], ◌∷◌, ◌++◌, length, take}
use Rattle.std.specs.List.{list_any, AllByRecursion}
use Rattle.net_base.specs.Device.{Move}
use Rattle.net_base.specs.Packets.{Packets, contents, is_full_for, used_offsets, used_room}
use Rattle.wire_ip.specs.declared.ip.repr.IpRepr.{IpRepr}
use Rattle.wire_ip.specs.declared.udp.repr.UdpRepr.{UdpRepr}
use Rattle.ip_wire.specs.HardwareAddress.{HardwareAddress}
use Rattle.socket_datagram.specs.Udp.{UdpValue}
use Rattle.socket_datagram.specs.declared.udp.UdpMetadata.{UdpMetadata}
use Rattle.socket_datagram.specs.declared.dns.state.State.{State as QueryState}
use Rattle.socket_datagram.specs.declared.dns.state.State.TheVariants as Dns
use Rattle.iface_ingress.specs.Delivered.{passes}
use Rattle.iface_ingress.specs.Packet.{PacketValue}
use Rattle.iface_ingress.specs.Reassembled.{Assemblers}
use Rattle.iface_ingress.specs.Socket.{Socket}
use Rattle.iface_ingress.specs.Socket.TheVariants as Kind
use Rattle.iface_tables.specs.Inner.{InnerValue}
use Rattle.iface_egress.specs.declared.socket_meta.Meta.{Meta}
use Rattle.iface_egress.specs.declared.socket_set.SocketStorage.{SocketStorage}
use Rattle.interface.specs.State.{State}
use Rattle.proof_stack.specs.PeerHost.Datagrams.{IsUdpAt}
use Rattle.lan.specs.Worlds.PollSteps.{Reaches}
use Rattle.proof_stack.specs.Progress.Delivered.{IsExpected}
use Rattle.proof_stack.specs.Progress.Queued.{frame_under}

-- THE SOCKET

-- a query waits for an answer, and a datagram between these ports can be one: it goes from the port of servers to that of the query
abbrev pub may_answer : UdpRepr → QueryState → Bool
may_answer ports Dns.Idle = false
may_answer ports (Dns.Pending q) = (ports.src_port == 53) && (ports.dst_port == q.port)
may_answer ports (Dns.Completed found) = false
may_answer ports Dns.Failed = false
may_answer ports Dns.Unanswered = false

-- the socket is a DNS client with such a query
abbrev pub waits_for : UdpRepr → Socket → Bool
waits_for ports (Kind.Dns v) = may_answer ports v.state
waits_for ports s = false

-- The datagram is for the UDP socket at this slot, and can answer no query of a DNS client of the host.
pub record IsExpectedThroughout (i : InnerValue) (slots : List (SocketStorage Socket)) (to : HardwareAddress) (header : IpRepr) (ports : UdpRepr)
    (m : ℕ) (meta : Meta) (w : UdpValue) : Type 0 where
  pub expected : IsExpected i slots to header ports m meta w
  pub no_answer : list_any (passes (waits_for ports)) slots ≡ false

-- it is for the UDP socket at this slot, which is bound as this one
pub record IsStillExpected (i : InnerValue) (slots : List (SocketStorage Socket)) (to : HardwareAddress) (header : IpRepr) (ports : UdpRepr)
    (m : ℕ) (w : UdpValue) : Type 0 where
  pub meta : Meta
  pub value : UdpValue
  pub expected : IsExpected i slots to header ports m meta value
  pub settings : value.settings ≡ w.settings

-- ITS ROOM

-- wherever a poll of this instant that began here has come when a frame of the packet is next, the UDP socket at a slot has room for so many bytes
abbrev pub HasRoomThroughout : {E : Type 0} → (E → Move → E → Type 0) → (E → List (List ℕ)) → ℤ → State E → InnerValue → HardwareAddress
    → PacketValue → ℕ → ℕ → Type 0
HasRoomThroughout {E} moves frames_at u r i to p size m =
    (x : State E) (ident : ℕ) (padding : List ℕ) (more : List (List ℕ)) (v : UdpValue) → Reaches moves u r x
    → frames_at x.device ≡ (frame_under i ident to p ++ padding) ∷ more → IsUdpAt x.slots m v → is_full_for v.received size ≡ false

-- after the datagrams that waited at the one socket there is one more at most at the other
abbrev pub AddsAtMostOne : UdpValue → UdpValue → Type 0
AddsAtMostOne w new =
    (contents new.received ≡ contents w.received) ⊎ ((d : UdpMetadata × List ℕ) × (contents new.received ≡ contents w.received ++ d ∷ []))

-- the UDP socket at a slot is bound as this one, and has one datagram more at most
pub record HasOneMoreAtMost (slots : List (SocketStorage Socket)) (m : ℕ) (w : UdpValue) : Type 0 where
  pub new : UdpValue
  pub stands : IsUdpAt slots m new
  pub settings : new.settings ≡ w.settings
  pub received : AddsAtMostOne w new

-- a frame brings no datagram of more bytes, neither whole nor as its last fragment: it has no more, and no slot for fragments has
abbrev pub BringsAtMost : ℕ → Assemblers → List ℕ → Type 0
BringsAtMost most assemblers frame = (length frame ≤ most) × AllByRecursion (λ s. length s.bytes ≤ most) assemblers

-- A queue has entries and bytes for so many datagrams of at most so many bytes each, and for one more: as a datagram lies unbroken, bytes at the
-- end of the storage may have to be passed over, once, by an entry of their own.
pub record HasRoomFor (q : Packets UdpMetadata) (count most : ℕ) : Type 0 where
  pub entries : used_offsets q.packets + suc count ≤ q.positions
  pub bytes : used_room q.packets + suc count * most ≤ q.room

-- There is room for `count` datagrams, each as long as whatever these frames bring, and as a datagram of so many bytes.
pub record HasRoomWhatever (frames : List (List ℕ)) (assemblers : Assemblers) (q : Packets UdpMetadata) (count size : ℕ) : Type 0 where
  pub most : ℕ
  pub own : size ≤ most
  pub brings : AllByRecursion (BringsAtMost most assemblers) frames
  pub room : HasRoomFor q count most

-- There is room for a datagram of so many bytes after fewer than `count` of the frames that wait: no frame comes before it, and there is room for it
-- as the queue is; or there is, whatever the frames bring.
abbrev pub HasRoomFollowing : List (List ℕ) → Assemblers → Packets UdpMetadata → ℕ → ℕ → Type 0
HasRoomFollowing frames assemblers q count size =
    ((count ≡ 1) × (is_full_for q size ≡ false)) ⊎ HasRoomWhatever (take count frames) assemblers q count size
