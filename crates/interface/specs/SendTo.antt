-- A datagram that is sent where the interface is at hand: without its socket's queue, where its packet can leave at once, and else by
-- that queue.
use Rattle.std.specs.Prelude.{◌≡◌, ℕ, ℤ, Bool, true, false, ◌⊎◌, List, length, slice_get, slice_set, if◌then◌else◌, Option, None, Some, Result, Ok}
use Rattle.std.specs.Prelude.{Err}
use Rattle.net_base.specs.Device.{Move}
use Rattle.ip_wire.specs.HardwareAddress.{HardwareAddress}
use Rattle.iface_ingress.specs.Offers.{IsOnly, IsSameButForSlots}
use Rattle.iface_ingress.specs.Packet.{PacketValue}
use Rattle.iface_ingress.specs.SendError.{SendError}
use Rattle.iface_ingress.specs.Socket.{Socket}
use Rattle.iface_ingress.specs.Socket.TheVariants as Kind
use Rattle.iface_ingress.specs.Udp.{UdpValue, TakesAtOnce, send_answer, send_after}
use Rattle.iface_ingress.specs.UdpMetadata.{UdpMetadata}
use Rattle.iface_ingress.specs.WellFormed.{IsWellFormed}
use Rattle.iface_tables.specs.Inner.{InnerValue}
use Rattle.iface_egress.specs.Meta.{unmarked}
use Rattle.iface_egress.specs.Plan.{GoesDirect}
use Rattle.iface_egress.specs.declared.socket_meta.Meta.{Meta}
use Rattle.iface_egress.specs.declared.socket_set.Item.{Item}
use Rattle.iface_egress.specs.declared.socket_set.SocketStorage.{SocketStorage}
use Rattle.iface_egress.specs.declared.egress_path.Sent.{Sent}
use Rattle.iface_egress.specs.declared.egress_path.Sent.TheVariants as Outcome
use Rattle.interface.specs.Egress.{sending}
use Rattle.interface.specs.Host.{Sender}
use Rattle.interface.specs.Remote.{context_for}
use Rattle.interface.specs.State.{State}
use Rattle.interface.specs.Serve.{is_waiting, is_done, turned_by, LeavesDirect}
use Rattle.interface.specs.declared.send_to.Sending.{Sending}
use Rattle.interface.specs.declared.send_to.Sending.TheVariants as Way
use Rattle.interface.specs.declared.serve.Served.{Served}
use Rattle.interface.specs.declared.send_to.SendToError.{SendToError}
use Rattle.interface.specs.declared.send_to.SendToError.TheVariants as Refusal

-- where a datagram goes, and its bytes
abbrev pub DatagramToSend : Type 0
DatagramToSend = UdpMetadata × List ℕ

abbrev pub udp_item : Meta → UdpValue → Item Socket
udp_item m v = record { meta = m; socket = Kind.Udp v }

-- what is answered where the queue takes the datagram, or refuses it
abbrev pub queued_answer : Result (Unit {0}) SendError → Result Sending SendToError
queued_answer (Ok done) = Ok Way.Queued
queued_answer (Err e) = Err (Refusal.Refused e)

-- The packet is that of a datagram which would be the first in its socket's queue, as the socket sees its host; the socket waits for no
-- neighbour, and no fragment of another datagram waits to go before it.
pub record MayLeave {D : Type 0} (s : Sender D) (m : Meta) (v : UdpValue) (q : DatagramToSend) (p : PacketValue) : Type 0 where
  pub packet : IsOnly (TakesAtOnce (context_for s.inner (Kind.Udp v)) v q) p
  pub awake : is_waiting s.inner m ≡ false
  pub clear : s.left ≡ None

module _ {D : Type 0} (moves : D → Move → D → Type 0) where
  -- a packet leaves straight to its hardware address, which is known
  abbrev pub LeavesDirectly : PacketValue → D → InnerValue → Meta → Sent → D → InnerValue → Meta → Type 0
  LeavesDirectly p old i m sent new i' m' =
      (to : HardwareAddress) × GoesDirect i p.header to × LeavesDirect moves to p old i m sent new i' m' × IsWellFormed p

  -- it left; or the device wasn't asked, gave no leave or refused the frame, and all else is as it was
  abbrev pub LeavesIfKnown : PacketValue → D → InnerValue → Meta → Bool → D → InnerValue → Meta → Type 0
  LeavesIfKnown p old i m true new i' m' = LeavesDirectly p old i m Outcome.Gone new i' m'
  LeavesIfKnown p old i m false new i' m' =
      (i' ≡ i) × (m' ≡ m) × ((new ≡ old) ⊎ LeavesDirectly p old i m Outcome.Refused new i m)

  -- the packet of a datagram leaves so
  abbrev pub LeavesAtOnce : Sender D → Meta → UdpValue → DatagramToSend → Sent → D → InnerValue → Meta → Type 0
  LeavesAtOnce s m v q sent new i' m' = (p : PacketValue) × MayLeave s m v q p × LeavesDirectly p s.device s.inner m sent new i' m'

  -- it left, or stays: then the device wasn't asked, gave no leave or refused the frame, and all else is as it was
  abbrev pub LeavesIfItMay : Sender D → Meta → UdpValue → DatagramToSend → Bool → D → InnerValue → Meta → Type 0
  LeavesIfItMay s m v q true new i' m' = LeavesAtOnce s m v q Outcome.Gone new i' m'
  LeavesIfItMay s m v q false new i' m' =
      (i' ≡ s.inner) × (m' ≡ m) × ((new ≡ s.device) ⊎ LeavesAtOnce s m v q Outcome.Refused new s.inner m)

  -- From a UDP socket: its packet left, and the socket stays as it was; or it is queued or refused, as where the socket is asked.
  abbrev pub UdpSends : Sender D → Meta → UdpValue → DatagramToSend → Result Sending SendToError → D → InnerValue → Meta → UdpValue → Type 0
  UdpSends s m v q answer new i' m' v' =
      ((answer ≡ Ok Way.Left) × (v' ≡ v) × LeavesIfItMay s m v q true new i' m')
      ⊎ ((answer ≡ queued_answer (send_answer v q.0 (length q.1))) × (v' ≡ send_after v q.0 q.1) × LeavesIfItMay s m v q false new i' m')

  -- there is no UDP socket: that is answered, and all stays as it was
  abbrev pub IsNotUdp : Sender D → Result Sending SendToError → D → InnerValue → Type 0
  IsNotUdp s answer new i' = (answer ≡ Err Refusal.NotUdp) × (new ≡ s.device) × (i' ≡ s.inner)

  abbrev pub KindSends : Socket → Sender D → Meta → DatagramToSend → Result Sending SendToError → D → InnerValue → Meta → Socket → Type 0
  KindSends (Kind.Udp v) s m q answer new i' m' (Kind.Udp v') = UdpSends s m v q answer new i' m' v'
  KindSends (Kind.Udp v) s m q answer new i' m' socket' = ⊥
  KindSends socket s m q answer new i' m' socket' = IsNotUdp s answer new i' × (m' ≡ m) × (socket' ≡ socket)

  abbrev pub ItemSends : Sender D → Item Socket → DatagramToSend → Result Sending SendToError → D → InnerValue → Item Socket → Type 0
  ItemSends s item q answer new i' item' = KindSends item.socket s item.meta q answer new i' item'.meta item'.socket

  abbrev pub ItemSendsIfAny : Option (Item Socket) → Sender D → DatagramToSend → Result Sending SendToError → D → InnerValue → Option (Item Socket) →
      Type 0
  ItemSendsIfAny None s q answer new i' None = IsNotUdp s answer new i'
  ItemSendsIfAny (Some item) s q answer new i' (Some item') = ItemSends s item q answer new i' item'
  ItemSendsIfAny None s q answer new i' (Some item') = ⊥
  ItemSendsIfAny (Some item) s q answer new i' None = ⊥

  abbrev pub SlotSends : Sender D → SocketStorage Socket → DatagramToSend → Result Sending SendToError → D → InnerValue → SocketStorage Socket → Type 0
  SlotSends s slot q answer new i' slot' = ItemSendsIfAny slot.inner s q answer new i' slot'.inner

  abbrev pub SendsBy : Option (SocketStorage Socket) → Sender D → List (SocketStorage Socket) → ℕ → DatagramToSend → Result Sending SendToError → D →
      InnerValue → List (SocketStorage Socket) → Type 0
  SendsBy None s ps n q answer new i' ps' = IsNotUdp s answer new i' × (ps' ≡ ps)
  SendsBy (Some slot) s ps n q answer new i' ps' =
      (slot' : SocketStorage Socket) × SlotSends s slot q answer new i' slot' × (ps' ≡ slice_set ps n slot')

  -- from the socket at a slot; the others stay
  abbrev pub SendsFrom : Sender D → List (SocketStorage Socket) → ℕ → DatagramToSend → Result Sending SendToError → D → InnerValue →
      List (SocketStorage Socket) → Type 0
  SendsFrom s ps n q answer new i' ps' = SendsBy (slice_get ps n) s ps n q answer new i' ps'

  -- A datagram is sent at an instant: what is half sent, what came in fragments, and how long that is waited for stay.
  abbrev pub SendsTo : ℤ → State D → ℕ → DatagramToSend → Result Sending SendToError → State D → Type 0
  SendsTo instant s n q answer s' =
      SendsFrom (sending instant s) s.slots n q answer s'.device s'.host.inner s'.slots
      × (s'.host ≡ record s.host { inner = s'.host.inner })

  -- A turn of a socket with this datagram alone in its queue, and what it leaves of the socket: the packet leaves straight to this
  -- address, and the queue is empty again; or the device gives no leave or refuses the frame, and the datagram stays. Where they lie in
  -- their queue isn't said.
  pub record LeavesInTurn (s : Sender D) (m : Meta) (v : UdpValue) (q : DatagramToSend) (p : PacketValue) (to : HardwareAddress) (turned : Served)
      (s' : Sender D) (item' : Item Socket) : Type 0 where
    pub sent : Sent
    pub leaves : LeavesDirect moves to p s.device s.inner m sent s'.device s'.inner (if is_done sent then unmarked else m)
    pub left : s'.left ≡ s.left
    pub answer : turned ≡ turned_by sent false
    pub socket : UdpValue
    pub is_of_udp : item'.socket ≡ Kind.Udp socket
    pub same : IsSameButForSlots (if is_done sent then v else send_after v q.0 q.1) socket
