-- What is to be done with a packet that wants to be transmitted.
use Rattle.std.specs.Prelude.{◌≡◌, ℕ, ◌+◌, ◌<◌, ◌≤◌, nat_le, ◌&&◌, ◌||◌, not, Bool, true, false, if◌then◌else◌, Option, None, Some}
use Rattle.ip_wire.specs.AddressTests.{is_unspecified, is_unspecified_v4, is_loopback_v4, is_multicast_v4}
use Rattle.ip_wire.specs.HardwareAddress.{HardwareAddress}
use Rattle.ip_wire.specs.HardwareAddress.TheVariants as Hardware
use Rattle.ip_wire.specs.Ip as Ips
use Rattle.ip_wire.specs.Ip.{source_of, destination_of, header_len_in, payload_len_of}
use Rattle.ip_wire.specs.IpAddress.{IpAddress}
use Rattle.ip_wire.specs.IpAddress.TheVariants as Address
use Rattle.ip_wire.specs.IpRepr.{IpRepr}
use Rattle.ip_wire.specs.IpRepr.TheVariants as Ip
use Rattle.ip_wire.specs.Ipv4Address.{Ipv4Address}
use Rattle.ip_wire.specs.Ipv4Repr.{Ipv4Repr}
use Rattle.ip_wire.specs.EthernetAddress.{EthernetAddress}
use Rattle.ip_wire.specs.Protocol.{protocol_number, protocol_of}
use Rattle.wire_ipv6_headers.specs.Headers.{is_extension}
use Rattle.socket_context.specs.Packet.{PacketValue, PayloadFits, IsSendable, payload_len}
use Rattle.iface_tables.specs.Inner.{InnerValue, is_foreign_loopback, is_local_broadcast, may_be_source, link_address, mtu_to}
use Rattle.iface_tables.specs.Source.{source_v4, source_v6, source_for}
use Rattle.iface_tables.specs.declared.link.LinkAddress.{LinkAddress}
use Rattle.iface_tables.specs.declared.link.LinkAddress.TheVariants as Link
use Rattle.iface_egress.specs.Fragments.{LeftValue}
use Rattle.iface_egress.specs.declared.frame.NeighborQuery.TheVariants as Query
use Rattle.iface_egress.specs.declared.plan.Plan.{Plan}
use Rattle.iface_egress.specs.declared.plan.Plan.TheVariants as Way

-- the longest datagram that is cut
abbrev pub longest_cut : ℕ
longest_cut = 4096

abbrev pub total_len : IpRepr → ℕ
total_len header = header_len_in header + payload_len_of header

-- What has extension headers, as the number in its IPv6 header says, isn't cut: some belong before the fragment header of each
-- fragment (RFC 8200, section 4.5). A raw socket alone sends such a packet.
abbrev pub has_extensions : IpRepr → Bool
has_extensions (Ip.Ipv4 v) = false
has_extensions (Ip.Ipv6 v) = is_extension (protocol_of (protocol_number v.next_header))

abbrev pub can_be_cut : IpRepr → Bool
can_be_cut header = nat_le (total_len header) longest_cut && not (has_extensions header)

-- a datagram that is too long for one frame, or for the path to its destination, goes in fragments, one after the other
abbrev pub cut_if_idle : Bool → HardwareAddress → Plan
cut_if_idle busy to = if busy then Way.Busy else Way.Cut to

abbrev pub long_plan : Bool → HardwareAddress → IpRepr → Plan
long_plan busy to header = if can_be_cut header then cut_if_idle busy to else Way.Drop

abbrev pub plan_to : HardwareAddress → ℕ → Bool → IpRepr → Plan
plan_to to mtu busy header = if nat_le (total_len header) mtu then Way.Go to else long_plan busy to header

-- the question for a next hop, from the address that a packet for it would be sent from
abbrev pub solicit_v4 : EthernetAddress → Option Ipv4Address → Ipv4Address → Plan
solicit_v4 local None hop = Way.NoRoute
solicit_v4 local (Some source) hop = Way.Ask (Query.Arp local source hop)

abbrev pub solicit_from : EthernetAddress → InnerValue → IpAddress → Plan
solicit_from local i (Address.Ipv4 hop) = solicit_v4 local (source_v4 i.addresses hop) hop
solicit_from local i (Address.Ipv6 hop) = Way.Ask (Query.Neighbor local (source_v6 i.addresses hop) hop)

-- a medium without hardware addresses has none to ask for
abbrev pub solicit_on : HardwareAddress → InnerValue → IpAddress → Plan
solicit_on Hardware.Ip i hop = Way.NoRoute
solicit_on (Hardware.Ethernet local) i hop = solicit_from local i hop

-- the address that a packet for the next hop would be sent from may be a source
abbrev pub may_be_source_on : Option IpAddress → InnerValue → IpAddress → Bool
may_be_source_on None i hop = false
may_be_source_on (Some source) i hop = may_be_source i source hop

abbrev pub may_solicit : InnerValue → IpAddress → Bool
may_solicit i hop = may_be_source_on (source_for i.addresses hop) i hop

abbrev pub solicit_if : Bool → InnerValue → IpAddress → Plan
solicit_if may i hop = if may then solicit_on i.hardware i hop else Way.NoRoute

abbrev pub plan_by : LinkAddress → InnerValue → Bool → IpRepr → Plan
plan_by (Link.Known to) i busy header = plan_to to (mtu_to i (destination_of header)) busy header
plan_by Link.NoRoute i busy header = Way.NoRoute
plan_by Link.Silent i busy header = Way.Wait
plan_by Link.Unanswered i busy header = Way.Drop
plan_by (Link.Unknown hop) i busy header = solicit_if (may_solicit i hop) i hop

-- A packet never leaves that is for the unspecified address or for a loopback address that isn't here, or that may not come from
-- its source, as `here` says.
abbrev pub stays : InnerValue → Bool → IpAddress → Bool
stays i here destination = is_unspecified destination || (is_foreign_loopback i destination || not here)

abbrev pub comes_from_here : InnerValue → IpRepr → Bool
comes_from_here i header = may_be_source i (source_of header) (destination_of header)

abbrev pub never_leaves : InnerValue → IpRepr → Bool
never_leaves i header = stays i (comes_from_here i header) (destination_of header)

-- In this order: a packet that never leaves is dropped, and so is one whose next hop doesn't answer; one whose next hop isn't known
-- waits, or asks; then its length counts, and how long a packet the path to its destination carries. The host is busy while fragments of a datagram wait.
abbrev pub plan_from : InnerValue → Bool → Bool → IpRepr → Plan
plan_from i here busy header =
    if stays i here (destination_of header) then Way.Drop
    else plan_by (link_address i (destination_of header)) i busy header

abbrev pub plan_of : InnerValue → Bool → IpRepr → Plan
plan_of i busy header = plan_from i (comes_from_here i header) busy header

-- neither from nor for a loopback address, for an address that is specified, and from one that a host has
abbrev pub is_ordinary : InnerValue → Ipv4Repr → Bool
is_ordinary i v =
    not (is_loopback_v4 v.src_addr || is_loopback_v4 v.dst_addr) && not (is_unspecified_v4 v.dst_addr)
    && not (is_local_broadcast i (Address.Ipv4 v.src_addr) || (is_multicast_v4 v.src_addr || is_unspecified_v4 v.src_addr))

-- a packet comes from here, and goes whole to this hardware address, whether fragments of a datagram wait or not
pub record GoesDirect (i : InnerValue) (header : IpRepr) (to : HardwareAddress) : Type 0 where
  pub here : comes_from_here i header ≡ true
  pub plan : (busy : Bool) → plan_of i busy header ≡ Way.Go to

-- a packet whose header says its length, and which can be sent where that fits its field
pub record IsPacket (p : PacketValue) : Type 0 where
  pub len : payload_len_of p.header ≡ payload_len p.payload
  pub payload : Ips.Fits p.header → PayloadFits p.header p.payload

-- a datagram that is cut: its payload fits the buffer, and not one packet of this length, and no other one is half sent
pub record CanBeCut (mtu : ℕ) (left : Option LeftValue) (p : PacketValue) : Type 0 where
  pub sendable : IsSendable p
  pub short : total_len p.header ≤ longest_cut
  pub long : mtu < total_len p.header
  pub idle : left ≡ None

-- what is to be done with the packet can be done
abbrev pub CanBeCarried : InnerValue → Option LeftValue → PacketValue → Plan → Type 0
CanBeCarried i left p (Way.Go to) = IsSendable p
CanBeCarried i left p (Way.Cut to) = CanBeCut (mtu_to i (destination_of p.header)) left p
CanBeCarried i left p _ = Unit {0}
