-- Frames that wait at a device in order, and a poll that reads them.
use Rattle.std.specs.Prelude.{◌≡◌, ℕ, ◌<◌, ℤ, true, false, List, ◌∷◌, ◌++◌, length}
use Rattle.net_base.specs.Device.{Move, Took, Empty}
use Rattle.net_base.specs.Packets.{contents, is_full_for}
use Rattle.wire_ip.specs.declared.ip.repr.IpRepr.{IpRepr}
use Rattle.wire_ip.specs.declared.udp.repr.UdpRepr.{UdpRepr}
use Rattle.ip_wire.specs.HardwareAddress.{HardwareAddress}
use Rattle.socket_datagram.specs.Udp.{UdpValue, UdpSettings}
use Rattle.socket_datagram.specs.declared.udp.UdpMetadata.{UdpMetadata}
use Rattle.iface_ingress.specs.Packet.{PacketValue}
use Rattle.iface_ingress.specs.Socket.{Socket}
use Rattle.iface_tables.specs.Inner.{InnerValue, at_instant}
use Rattle.iface_egress.specs.declared.socket_meta.Meta.{Meta}
use Rattle.iface_egress.specs.declared.socket_set.SocketStorage.{SocketStorage}
use Rattle.interface.specs.Ingress.{is_read}
use Rattle.interface.specs.State.{State}
use Rattle.interface.specs.TransmittedFrame.{CanRead}
use Rattle.proof_stack.specs.PeerHost.Datagrams.{IsUdpAt}
use Rattle.lan.specs.Worlds.PollSteps.{Reaches}
use Rattle.proof_stack.specs.Progress.Delivered.{IsExpected, WentAs, reader_of}
use Rattle.proof_stack.specs.Progress.Moves.{AreMoves, is_transmitted}
use Rattle.proof_stack.specs.Progress.Queued.{frame_under, ports_of}

-- The frames that wait at a device in each of its states, in order: a look finds the first of them, and takes that alone; and what is transmitted leaves
-- them.
pub record IsInbox {E : Type 0} (moves : E → Move → E → Type 0) (frames_at : E → List (List ℕ)) : Type 0 where
  pub first : (old new : E) (t : ℤ) (frame other : List ℕ) (more : List (List ℕ)) → frames_at old ≡ frame ∷ more → moves old (Took t other) new
      → (other ≡ frame) × (frames_at new ≡ more)
  pub found : (old new : E) (t : ℤ) (frame : List ℕ) (more : List (List ℕ)) → frames_at old ≡ frame ∷ more → moves old (Empty t) new → ⊥
  pub out : (old new : E) (m : Move) → is_transmitted m ≡ true → moves old m new → frames_at new ≡ frames_at old

-- a frame in which the packet went waits at a device, with whatever padding, after fewer others than a poll has steps; and it isn't too long to be
-- read
pub record WaitsAmong {E : Type 0} (frames_at : E → List (List ℕ)) (device : E) (budget : ℕ) (i : InnerValue) (to : HardwareAddress)
    (p : PacketValue) (all : List Move) : Type 0 where
  pub went : WentAs i to p all
  pub padding : List ℕ
  pub before : List (List ℕ)
  pub following : List (List ℕ)
  pub frames : frames_at device ≡ before ++ (frame_under i went.ident to p ++ padding) ∷ following
  pub few : length before < budget
  pub short : is_read (frame_under i went.ident to p ++ padding) ≡ true

-- the link brings the packet: where it went as the one device moved, its frame waits so at the other one
abbrev pub BringsAmong : {D E : Type 0} → (D → Move → D → Type 0) → (E → List (List ℕ)) → InnerValue → HardwareAddress → PacketValue
    → D → D → E → ℕ → Type 0
BringsAmong {D} {E} from frames_at i to p old new device budget =
    (all : List Move) → AreMoves from all old new → WentAs i to p all → WaitsAmong frames_at device budget i to p all

-- in this state the UDP socket at a slot expects a datagram of so many bytes, and has room for it
pub record IsExpectedAt {E : Type 0} (u : ℤ) (x : State E) (i : InnerValue) (to : HardwareAddress) (header : IpRepr) (ports : UdpRepr)
    (size m : ℕ) : Type 0 where
  pub meta : Meta
  pub value : UdpValue
  pub expected : IsExpected (at_instant u x.host.inner) x.slots to header ports m meta value
  pub room : is_full_for value.received size ≡ false
  pub reads : CanRead i to (reader_of x.host.inner)

-- so it is wherever a poll of this instant that began here has come when a frame of the packet is next
abbrev pub IsReady : {E : Type 0} → (E → Move → E → Type 0) → (E → List (List ℕ)) → ℤ → State E → InnerValue → HardwareAddress
    → PacketValue → UdpSettings → UdpMetadata × List ℕ → ℕ → Type 0
IsReady {E} moves frames_at u r i to p settings d m =
    (x : State E) (ident : ℕ) (padding : List ℕ) (more : List (List ℕ)) → Reaches moves u r x
    → frames_at x.device ≡ (frame_under i ident to p ++ padding) ∷ more → IsExpectedAt u x i to p.header (ports_of settings d) (length d.1) m

-- after the datagrams that waited at a UDP socket there are some that came, this one among them; and the socket is bound as it was
pub record WaitsAmongThem (slots : List (SocketStorage Socket)) (m : ℕ) (w : UdpValue) (received : UdpMetadata × List ℕ) : Type 0 where
  pub new : UdpValue
  pub before : List (UdpMetadata × List ℕ)
  pub later : List (UdpMetadata × List ℕ)
  pub stands : IsUdpAt slots m new
  pub settings : new.settings ≡ w.settings
  pub following : contents new.received ≡ (contents w.received ++ before) ++ received ∷ later
