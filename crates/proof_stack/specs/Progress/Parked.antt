-- Packets that wait for their next hops beside the sockets, with host requirements.
use Rattle.std.specs.Prelude.{◌≡◌, ◌⊎◌, ℕ, Bool, true, List, [], ◌∷◌, ◌++◌, slice_get, drop, Option, Some}
use Rattle.std.specs.List.{AllByRecursion, list_any}
use Rattle.net_base.specs.Device.{Move}
use Rattle.net_base.specs.Packets.{contents}
use Rattle.ip_wire.specs.HardwareAddress.{HardwareAddress}
use Rattle.ip_wire.specs.IpAddress.{IpAddress}
use Rattle.socket_datagram.specs.Udp.{UdpValue}
use Rattle.iface_ingress.specs.Packet.{PacketValue}
use Rattle.iface_ingress.specs.Socket.{Socket}
use Rattle.iface_ingress.specs.Socket.TheVariants as Kind
use Rattle.iface_tables.specs.Inner.{InnerValue}
use Rattle.iface_tables.specs.Parking.{ParkedValue, IsMeasured, header_of, parked_as}
use Rattle.iface_egress.specs.Set.{unmarked}
use Rattle.iface_egress.specs.declared.socket_set.SocketStorage.{SocketStorage}
use Rattle.interface.specs.declared.serve.Served.{Served}
use Rattle.interface.specs.declared.serve.Served.TheVariants as Turn
use Rattle.proof_stack.specs.Progress.Exchanged.{AsksFor}
use Rattle.proof_stack.specs.Progress.Moves.{AreMoves, is_refused}
use Rattle.proof_stack.specs.Progress.Queued.{SendsPacket}

-- one has as many bytes as its header says
abbrev pub IsWhole : ParkedValue → Type 0
IsWhole k = IsMeasured (header_of k)

abbrev pub AreWhole : List ParkedValue → Type 0
AreWhole ks = AllByRecursion IsWhole ks

-- so it is of each that waits, where packets do
abbrev pub WaitWhole : InnerValue → Type 0
WaitWhole i = i.host_requirements ≡ true → AreWhole i.parking.packets

-- A DATAGRAM LEAVES ITS QUEUE, and waits beside the search where its next hop isn't known

-- the socket has those after it, waits for nobody, and the step says that something changed
pub record HasLeftQueue (n : ℕ) (v : UdpValue) (answer : Option Bool) (slots : List (SocketStorage Socket)) : Type 0 where
  pub new : UdpValue
  pub stands : slice_get slots n ≡ Some (unmarked (Kind.Udp new))
  pub settings : new.settings ≡ v.settings
  pub rest : contents new.queued ≡ drop 1 (contents v.queued)
  pub told : answer ≡ Some true

-- of a step of the egress path: so it is, or the device refused
pub record LeavesQueue {D : Type 0} (moves : D → Move → D → Type 0) (n : ℕ) (v : UdpValue) (old new : D) (answer : Option Bool)
    (slots : List (SocketStorage Socket)) : Type 0 where
  pub all : List Move
  pub are : AreMoves moves all old new
  pub what : (list_any is_refused all ≡ true) ⊎ HasLeftQueue n v answer slots

-- A PACKET THAT WAITS GOES, once its next hop is known

-- of a step of the egress path: the packet went, under whatever identification, or the device refused
pub record GoesFromThere {D : Type 0} (moves : D → Move → D → Type 0) (i : InnerValue) (to : HardwareAddress) (p : PacketValue) (old new : D) : Type 0 where
  pub all : List Move
  pub are : AreMoves moves all old new
  pub what : (list_any is_refused all ≡ true) ⊎ SendsPacket i to p all

-- A NEIGHBOUR IS ASKED FOR

-- of a step of the egress path: a question for this hop went, or the device refused
pub record IsAskedForAtOnce {D : Type 0} (moves : D → Move → D → Type 0) (i : InnerValue) (hop : IpAddress) (old new : D) : Type 0 where
  pub all : List Move
  pub are : AreMoves moves all old new
  pub what : (list_any is_refused all ≡ true) ⊎ AsksFor i hop all

-- A DATAGRAM THAT HAS TO WAIT is parked

-- the next socket has its turn, and the packet waits for this hop, the last of those that wait
pub record IsParkedLast (i : InnerValue) (hop : IpAddress) (p : PacketValue) (turned : Served) (j : InnerValue) : Type 0 where
  pub next : turned ≡ Turn.Next true
  pub before : List ParkedValue
  pub last : j.parking.packets ≡ before ++ parked_as i.checksums hop p ∷ []
