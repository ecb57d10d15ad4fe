-- Where the frames for a destination go, as a host knows it throughout a poll.
use Rattle.std.specs.Prelude.{◌≡◌, ◌⊎◌, ℕ, ◌<◌, ℤ, true, List, length, Option, Some, IfSome}
use Rattle.std.specs.List.{AllByRecursion}
use Rattle.interface.specs.IpRepr.TheVariants as Ip
use Rattle.interface.specs.Ipv6Repr.{Ipv6Repr}
use Rattle.iface_ingress.specs.ArpRepr.TheVariants as Arps
use Rattle.iface_ingress.specs.HardwareAddress.{HardwareAddress}
use Rattle.iface_ingress.specs.HardwareAddress.TheVariants as Hardware
use Rattle.iface_ingress.specs.Ndisc.{hardware_addr}
use Rattle.iface_ingress.specs.Icmpv6 as Icmpv6
use Rattle.iface_ingress.specs.Incoming.{IncomingValue, IsContent, Arp, Ip4, Ip6}
use Rattle.iface_ingress.specs.IpAddress.{IpAddress}
use Rattle.iface_ingress.specs.IpAddress.TheVariants as Address
use Rattle.iface_ingress.specs.Reassembled.{is_control_v6}
use Rattle.iface_ingress.specs.Upper.{IsBrought}
use Rattle.iface_tables.specs.Inner.{InnerValue, at_instant, link_address, next_hop}
use Rattle.iface_tables.specs.Neighbor.{CacheValue}
use Rattle.iface_tables.specs.declared.link.LinkAddress.TheVariants as Link
use Rattle.lan.specs.Worlds.AtLink.Ndisc.{NeighborMessage, Solicitation, Advertisement}
use Rattle.sim_link.specs.ChecksumCapabilities.{ChecksumCapabilities}
use Rattle.sockets.specs.Packet.{ControlV6}

-- at this instant the host's frames for a destination go to this hardware address
abbrev pub GoesTo : InnerValue → ℤ → IpAddress → HardwareAddress → Type 0
GoesTo i t remote to = link_address (at_instant t i) remote ≡ Link.Known to

-- there is room for one neighbor more, so that none had to make room
abbrev pub HasRoom : CacheValue → Type 0
HasRoom c = length c.entries < c.room

-- WHAT IS TOLD of a neighbor's hardware address: this one, or nothing

-- the link address that a neighbor message gives, if it gives one
abbrev pub IsLinkOf : HardwareAddress → Option (List ℕ) → Type 0
IsLinkOf to link = IfSome link (λ bytes. Hardware.Ethernet (hardware_addr bytes) ≡ to)

-- a neighbor message tells of its sender, if it solicits, and of its target, if it advertises (RFC 4861, section 7.2)
abbrev pub TellsInMessage : IpAddress → HardwareAddress → Ipv6Repr → NeighborMessage → Type 0
TellsInMessage hop to header (Solicitation target link) = Address.Ipv6 header.src_addr ≡ hop → IsLinkOf to link
TellsInMessage hop to header (Advertisement flags target link) = Address.Ipv6 target ≡ hop → IsLinkOf to link

-- an ARP packet tells of its sender (RFC 826), and an IPv6 packet by a neighbor message right after its header
abbrev pub TellsAtMost : ChecksumCapabilities → IpAddress → HardwareAddress → IncomingValue → Type 0
TellsAtMost caps hop to (Arp link (Arps.EthernetIpv4 operation source_hardware source target_hardware target)) =
    Address.Ipv4 source ≡ hop → Hardware.Ethernet source_hardware ≡ to
TellsAtMost caps hop to (Ip4 link header fragment payload) = Unit {0}
TellsAtMost caps hop to (Ip6 link header payload) =
    (message : NeighborMessage) (bytes : List ℕ) → is_control_v6 header.next_header ≡ true
    → IsBrought caps (Ip.Ipv6 header) payload (Some (ControlV6 (Icmpv6.Ndisc message) bytes)) → TellsInMessage hop to header message

-- so whatever the frame carries to this host
abbrev pub FrameTellsAtMost : InnerValue → IpAddress → HardwareAddress → List ℕ → Type 0
FrameTellsAtMost i hop to frame =
    (v : IncomingValue) → IsContent i.hardware i.checksums frame (Some v) → TellsAtMost i.checksums hop to v

-- THROUGHOUT A POLL at this instant, in which a host took these frames, and after which it is the second one, or has these neighbors

-- The hardware address of the next hop was known before it, none of the frames told another one, and after it there is room for one neighbor more.
pub record KnowsNeighbor (i0 : InnerValue) (t : ℤ) (frames : List (List ℕ)) (following : CacheValue) (remote : IpAddress) (to : HardwareAddress) : Type 0 where
  pub known : GoesTo i0 t remote to
  pub told : (hop : IpAddress) → next_hop (at_instant t i0) remote ≡ Some hop → AllByRecursion (FrameTellsAtMost i0 hop to) frames
  pub room : HasRoom following

-- so it is; or the medium has no hardware addresses
abbrev pub KnowsHop : InnerValue → ℤ → List (List ℕ) → InnerValue → IpAddress → HardwareAddress → Type 0
KnowsHop i0 t frames i remote to = ((i0.hardware ≡ Hardware.Ip) × (to ≡ Hardware.Ip)) ⊎ KnowsNeighbor i0 t frames i.neighbors remote to
