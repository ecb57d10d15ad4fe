-- A datagram whose next hop isn't known: that neighbour is asked for, answers, and is known.
use Rattle.std.specs.Prelude.{◌≡◌, ◌⊎◌, ℕ, ℤ, true, false, List, take, Option, Some, None}
use Rattle.std.specs.List.{list_any, AllByRecursion}
use Rattle.net_base.specs.Device.{Move, Took}
use Rattle.ip_wire.specs.AddressTests.{is_ethernet_unicast, is_multicast, is_unicast_v4}
use Rattle.ip_wire.specs.EthernetAddress.{EthernetAddress}
use Rattle.ip_wire.specs.HardwareAddress.{HardwareAddress}
use Rattle.ip_wire.specs.HardwareAddress.TheVariants as Hardware
use Rattle.ip_wire.specs.Ip.{destination_of}
use Rattle.ip_wire.specs.IpAddress.{IpAddress}
use Rattle.ip_wire.specs.IpAddress.TheVariants as Address
use Rattle.ip_wire.specs.IpCidr.{IpCidr}
use Rattle.ip_wire.specs.Ipv4Address.{Ipv4Address}
use Rattle.ip_wire.specs.declared.arp.kinds.ArpOperation.TheVariants as Operation
use Rattle.ip_wire.specs.declared.arp.repr.ArpRepr.{ArpRepr}
use Rattle.ip_wire.specs.declared.arp.repr.ArpRepr.TheVariants as Arp
use Rattle.socket_datagram.specs.Udp.{UdpValue, UdpSettings, TakesDatagram}
use Rattle.socket_datagram.specs.declared.udp.UdpMetadata.{UdpMetadata}
use Rattle.iface_ingress.specs.Offer as Answer
use Rattle.iface_ingress.specs.Packet.{PacketValue}
use Rattle.iface_ingress.specs.Socket.{Socket}
use Rattle.iface_ingress.specs.Sockets.{Offers, offered_by}
use Rattle.iface_tables.specs.Inner.{InnerValue, context_of, link_address, next_hop, is_crowded, is_local_broadcast, is_on_local_network}
use Rattle.iface_tables.specs.Inner.{with_request}
use Rattle.iface_tables.specs.declared.link.LinkAddress.TheVariants as Link
use Rattle.iface_tables.specs.Source.{source_v4, source_v6}
use Rattle.iface_egress.specs.Departure as Departures
use Rattle.iface_egress.specs.Departure.{Asks, target_of}
use Rattle.iface_egress.specs.IsTransmitted.{frame_of}
use Rattle.iface_egress.specs.Plan.{never_leaves, may_solicit}
use Rattle.iface_egress.specs.declared.frame.NeighborQuery.{NeighborQuery}
use Rattle.iface_egress.specs.declared.frame.NeighborQuery.TheVariants as Query
use Rattle.iface_egress.specs.declared.plan.Plan.TheVariants as Way
use Rattle.iface_egress.specs.declared.socket_set.Item.{Item}
use Rattle.iface_egress.specs.declared.socket_set.SocketStorage.{SocketStorage}
use Rattle.interface.specs.Awaited.{turn_of}
use Rattle.interface.specs.Remote.{context_for}
use Rattle.interface.specs.Serve.{is_given_up, is_other, is_waiting}
use Rattle.proof_stack.specs.Progress.Moves.{AreMoves, is_refused}
use Rattle.proof_stack.specs.Progress.Queued.{HasTurn, Sends}

-- This packet takes a datagram of a socket with these settings, and may leave the host; the hardware address of its next hop isn't known,
-- and may be asked for now; the host, without host requirements, parks no packets; and it keeps count of fewer neighbours than it can.
pub record HasToAsk (i : InnerValue) (settings : UdpSettings) (d : UdpMetadata × List ℕ) (hop : IpAddress) (p : PacketValue) : Type 0 where
  pub takes : TakesDatagram (context_of i) settings d p
  pub may : never_leaves i p.header ≡ false
  pub unknown : link_address i (destination_of p.header) ≡ Link.Unknown hop
  pub asks : may_solicit i hop ≡ true
  pub alone : i.host_requirements ≡ false
  pub room : is_crowded i ≡ false

-- the part of that which the host's settings say alone
pub record MayAsk (i : InnerValue) (settings : UdpSettings) (d : UdpMetadata × List ℕ) (hop : IpAddress) (p : PacketValue) : Type 0 where
  pub takes : TakesDatagram (context_of i) settings d p
  pub may : never_leaves i p.header ≡ false
  pub asks : may_solicit i hop ≡ true

-- a question from this host, and from the address that a packet for the neighbour would be sent from
abbrev pub IsFrom : HardwareAddress → List IpCidr → NeighborQuery → Type 0
IsFrom hardware addresses (Query.Arp own source target) = (hardware ≡ Hardware.Ethernet own) × (source_v4 addresses target ≡ Some source)
IsFrom hardware addresses (Query.Neighbor own source target) = (hardware ≡ Hardware.Ethernet own) × (source_v6 addresses target ≡ source)

-- among the moves a question of the host went, and it is for the neighbour whose turn it is, where a socket waits for one
pub record AsksInTurn (i : InnerValue) (turn : Option IpAddress) (all : List Move) : Type 0 where
  pub question : NeighborQuery
  pub from : IsFrom i.hardware i.addresses question
  pub sent : Sends (frame_of i (Asks question)) all
  pub whose : is_other turn (target_of question) ≡ false

-- of a step of the egress path: a question went, or the device refused
pub record AsksAtOnce {D : Type 0} (moves : D → Move → D → Type 0) (i : InnerValue) (turn : Option IpAddress) (old new : D) : Type 0 where
  pub all : List Move
  pub are : AreMoves moves all old new
  pub what : (list_any is_refused all ≡ true) ⊎ AsksInTurn i turn all

-- WHO ASKS FIRST

-- the socket at a slot, which waits for no neighbour at the host's instant, may offer this packet
abbrev pub MayOffer : InnerValue → Option (Item Socket) → PacketValue → Type 0
MayOffer i None p = ⊥
MayOffer i (Some item) p =
    (is_waiting i item.meta ≡ false)
    × ((answer : Answer.Offer) × (s : Socket) × Offers (context_for i item.socket) item.socket answer s × (offered_by s ≡ Some p))

-- no packet that it may offer has another next hop whose hardware address isn't known
abbrev pub NeedsNoOther : InnerValue → IpAddress → SocketStorage Socket → Type 0
NeedsNoOther i hop slot =
    (p : PacketValue) (other : IpAddress) → MayOffer i slot.inner p → link_address i (destination_of p.header) ≡ Link.Unknown other → other ≡ hop

-- The UDP socket at a slot has its turn; the neighbour whose turn it is to be asked for, if a socket waits for one, is this hop, and where no
-- socket waits, those before this one need no other. And its packet for this destination isn't given up after the question, as one is that has
-- waited for half a minute while the host asks for as many neighbours as it keeps count of.
pub record AsksFirst (i : InnerValue) (slots : List (SocketStorage Socket)) (n : ℕ) (v : UdpValue) (hop to : IpAddress) : Type 0 where
  pub turn : HasTurn i slots n v
  pub whose : is_other (turn_of i slots) hop ≡ false
  pub alone : turn_of i slots ≡ None → AllByRecursion (NeedsNoOther i hop) (take n slots)
  pub spared : is_given_up turn.meta (with_request i hop) to Way.Wait ≡ false

-- ANSWERS (RFC 826)

-- no other frame than this waits at the device at this instant
abbrev pub IsNext : {D : Type 0} → (D → Move → D → Type 0) → ℤ → D → List ℕ → Type 0
IsNext {D} moves t old frame = (other : List ℕ) (new : D) → moves old (Took t other) new → other ≡ frame

-- the reply in which a host says to another one that it has an address
abbrev pub arp_reply : EthernetAddress → Ipv4Address → EthernetAddress → Ipv4Address → ArpRepr
arp_reply own a node asker = Arp.EthernetIpv4 Operation.Reply own a node asker

-- an address of one host in a network of this one, at one host
pub record IsNeighbor (i : InnerValue) (node : EthernetAddress) (a : Ipv4Address) : Type 0 where
  pub one : is_unicast_v4 a ≡ true
  pub sound : is_ethernet_unicast node ≡ true
  pub near : is_on_local_network i (Address.Ipv4 a) ≡ true

-- this ARP packet went, or the device refused it
pub record Tells {D : Type 0} (moves : D → Move → D → Type 0) (i : InnerValue) (packet : ArpRepr) (old new : D) : Type 0 where
  pub all : List Move
  pub are : AreMoves moves all old new
  pub what : (list_any is_refused all ≡ true) ⊎ Sends (frame_of i (Departures.Tells packet)) all

-- packets for this destination, which is one host's, go by this next hop
pub record IsVia (i : InnerValue) (to hop : IpAddress) : Type 0 where
  pub one : is_local_broadcast i to ≡ false
  pub group : is_multicast to ≡ false
  pub hop_is : next_hop i to ≡ Some hop
