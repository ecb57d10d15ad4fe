-- The invariant of two hosts at a link: what each sent, and what waits for it.
use Rattle.std.specs.Prelude.{◌≡◌, ◌≢◌, ◌⊎◌, ◌%◌, ◌^◌, ◌+◌, ◌<◌, ◌≤◌, ℕ, List, ◌++◌, length, Option, None, Some, IfSome}
use Rattle.std.specs.List.{AllByRecursion}
use Rattle.sim_link.specs.Medium.{Medium}
use Rattle.iface_ingress.specs.Address.{IsIpAddress}
use Rattle.iface_ingress.specs.HardwareAddress.{HardwareAddress}
use Rattle.iface_ingress.specs.HardwareAddress.TheVariants as Hardware
use Rattle.iface_ingress.specs.ArpRepr.{ArpRepr}
use Rattle.iface_ingress.specs.ArpRepr.TheVariants as Arp
use Rattle.sockets.specs.Packet.{PacketValue}
use Rattle.iface_tables.specs.Inner.{InnerValue}
use Rattle.iface_tables.specs.declared.neighbor.Neighbor.{Neighbor}
use Rattle.iface_tables.specs.declared.route.Route.{Route}
use Rattle.iface_egress.specs.Fragments.{LeftValue}
use Rattle.iface_egress.specs.declared.frame.CutHeader.{CutHeader}
use Rattle.iface_egress.specs.declared.frame.CutHeader.TheVariants as Cut
use Rattle.iface_ingress.specs.Incoming.{IncomingValue, IsIncoming}
use Rattle.iface_ingress.specs.Reassembled.{Assemblers}
use Rattle.iface_ingress.specs.FragmentStored.{IsNoFragmentV6}
use Rattle.interface.specs.Delivered.{HasNoPorts}
use Rattle.interface.specs.TransmittedFrame.{HasWidths, IsHalfSent}
use Rattle.sim_link.specs.Cuts.{ipv4_part}
use Rattle.iface_ingress.specs.Fields.{be16}
use Rattle.sim_link.specs.Parts.{tcp_part, bytes_at}
use Rattle.sim_link.specs.declared.part.Part.{Part}
use Rattle.lan.specs.Worlds.Link.Made.{Makes, sealed}
use Rattle.lan.specs.Worlds.Link.Frames.{Outgoing, medium_on, IsAmong, IsNumbered, IsSentV4, IsCutV6, IsSlice, IsWhole6, IsFragment6, BringsFrom, AreOut}
use Rattle.lan.specs.Worlds.Link.StoredFragments.{AreAssemblersOf}
use Rattle.lan.specs.Worlds.Link.Numbers.{count_numbered, AreNumbered, IsTied}

-- WHAT A HOST SENT

-- The packets of which a host sent the first frame at least, the newest first: what each carries was made, and each has its number.
pub record AreSent (made : Makes) (first next : ℕ) (out : List Outgoing) : Type 0 where
  pub packets : AreOut made out
  pub numbered : AreNumbered first out next

-- a content of neither TCP nor UDP, and no fragment of IPv6 that may carry them
abbrev pub BringsNone : IncomingValue → Type 0
BringsNone v = HasNoPorts v × IsNoFragmentV6 (Some v)

-- a frame that can't be cut, has no TCP segment, and brings neither TCP nor UDP, whatever padding follows: an ARP packet, or a question
-- for a neighbour
pub record IsOther (medium : Medium) (frame : List ℕ) : Type 0 where
  pub uncut : ipv4_part medium frame ≡ None
  pub no_segment : tcp_part medium frame ≡ None
  pub brings : (hardware : HardwareAddress) (padding : List ℕ) (v : IncomingValue) → medium_on hardware ≡ medium →
      IsIncoming hardware sealed (frame ++ padding) v → BringsNone v

-- a frame that a host sent, or that the link made of one by a cut
abbrev pub IsHostFrame : Medium → List Outgoing → List ℕ → Type 0
IsHostFrame medium out frame = IsSlice medium out frame ⊎ IsWhole6 medium out frame ⊎ IsFragment6 medium out frame ⊎ IsOther medium frame

-- how a word is exchanged: at an even slot, within the segment, for a word of another sum
pub record IsDamage (frame : List ℕ) (part : Part) (slot word : ℕ) : Type 0 where
  pub even : slot % 2 ≡ 0
  pub within : slot + 2 ≤ part.len
  pub small : word < 2 ^ 16
  pub other : be16 (bytes_at frame part) slot % 65535 ≢ word % 65535

-- WHAT COMES TO A HOST: `made` and `out` are the other host's

pub record IsReceiver (made : Makes) (out : List Outgoing) (i : InnerValue) (assemblers : Assemblers) (waiting : List (List ℕ)) : Type 0 where
  pub checksums : i.checksums ≡ sealed
  pub assemblers_are : AreAssemblersOf out assemblers
  pub waits : AllByRecursion (BringsFrom made out i.hardware) waiting

-- A HOST

-- both are Ethernet addresses, or neither is
abbrev pub IsSameKind : HardwareAddress → HardwareAddress → Type 0
IsSameKind (Hardware.Ethernet own) (Hardware.Ethernet to) = Unit {0}
IsSameKind (Hardware.Ethernet own) Hardware.Ip = ⊥
IsSameKind Hardware.Ip (Hardware.Ethernet to) = ⊥
IsSameKind Hardware.Ip Hardware.Ip = Unit {0}

abbrev pub HasSixBytes : HardwareAddress → Type 0
HasSixBytes (Hardware.Ethernet own) = length own.0 ≡ 6
HasSixBytes Hardware.Ip = Unit {0}

abbrev pub IsNode : HardwareAddress → Type 0
IsNode (Hardware.Ethernet to) = Unit {0}
IsNode Hardware.Ip = ⊥

-- the router of each route is an address
abbrev pub RoutersAre : List Route → Type 0
RoutersAre routes = AllByRecursion (λ r. IsIpAddress r.via_router) routes

-- its numbers and addresses are of their widths, its neighbours are hosts, and it writes and tests every checksum
pub record IsSound (i : InnerValue) : Type 0 where
  pub own : HasSixBytes i.hardware
  pub neighbors : AllByRecursion (λ (n : Neighbor). IsNode n.hardware_addr) i.neighbors.entries
  pub routers : RoutersAre i.routes
  pub widths : HasWidths i
  pub checksums : i.checksums ≡ sealed

-- a packet with this header and these bytes after it was sent, and cut
abbrev pub IsCutFrom : List Outgoing → CutHeader → List ℕ → Type 0
IsCutFrom out (Cut.Ipv4 v) bytes = IsSentV4 out v bytes
IsCutFrom out (Cut.Ipv6 v number) bytes = IsCutV6 out v number bytes

-- what is left to send is the rest of a packet that was sent
pub record IsLeft (hardware : HardwareAddress) (out : List Outgoing) (l : LeftValue) : Type 0 where
  pub sent : IsCutFrom out l.header l.payload
  pub half : IsHalfSent l
  pub to : IsSameKind hardware l.to

-- A host that sends. `made` and `out` are its own, `first` its first number, and `sent` the frames that left it with those that the link
-- made of them.
pub record IsSender (made : Makes) (first : ℕ) (i : InnerValue) (left : Option LeftValue) (sent : List (List ℕ)) (out : List Outgoing) : Type 0 where
  pub sound : IsSound i
  pub are_sent : AreSent made first i.ident out
  pub left_is : IfSome left (IsLeft i.hardware out)
  pub frames : AllByRecursion (IsHostFrame (medium_on i.hardware) out) sent

-- WHAT MAY GO

-- an ARP packet between two hosts
abbrev pub IsBetweenNodes : ArpRepr → Type 0
IsBetweenNodes (Arp.EthernetIpv4 operation source source_protocol target target_protocol) = (length source.0 ≡ 6) × (length target.0 ≡ 6)

-- AFTER SOMETHING WENT

pub record Grows (out out' : List Outgoing) : Type 0 where
  pub among : (p : PacketValue) → IsAmong p out → IsAmong p out'
  pub numbered : (p : PacketValue) (number : ℕ) → IsNumbered p number out → IsNumbered p number out'

-- It is a sender still, of more packets: so many more with a number at most, each of which has a first frame.
pub record WasSentOut (made : Makes) (first most : ℕ) (out : List Outgoing) (sent : List (List ℕ)) (i' : InnerValue) (l' : Option LeftValue)
    (sent' : List (List ℕ)) : Type 0 where
  pub out_after : List Outgoing
  pub grows : Grows out out_after
  pub count : count_numbered out_after ≤ count_numbered out + most
  pub tied : IsTied (medium_on i'.hardware) out sent out_after sent'
  pub sender : IsSender made first i' l' sent' out_after
