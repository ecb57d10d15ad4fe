-- The frames of reports, as bytes.
use Rattle.std.specs.Prelude.{ℕ, ◌+◌, Bool, if◌then◌else◌, List, [], ◌∷◌, ◌++◌, length, replicate, Option, None, Some}
use Rattle.std.specs.Int.{w16, to_be_bytes}
use Rattle.net_base.specs.Capabilities.{computes}
use Rattle.net_base.specs.ChecksumCapabilities.{ChecksumCapabilities}
use Rattle.ip_wire.specs.AddressTests.{is_link_local}
use Rattle.ip_wire.specs.Ethernet as Ethernet
use Rattle.ip_wire.specs.EthernetProtocol.{EthernetProtocol}
use Rattle.ip_wire.specs.EthernetProtocol.TheVariants as Ether
use Rattle.ip_wire.specs.Fields.{put16}
use Rattle.ip_wire.specs.HardwareAddress.{HardwareAddress}
use Rattle.ip_wire.specs.HardwareAddress.TheVariants as Hardware
use Rattle.ip_wire.specs.IpAddress.{IpAddress}
use Rattle.ip_wire.specs.IpAddress.TheVariants as Ip
use Rattle.ip_wire.specs.IpCidr.{IpCidr}
use Rattle.ip_wire.specs.IpCidr.TheVariants as Cidr
use Rattle.ip_wire.specs.IpProtocol.TheVariants as Protocol
use Rattle.ip_wire.specs.Ipv4Address.{Ipv4Address}
use Rattle.ip_wire.specs.Ipv6 as Ipv6
use Rattle.ip_wire.specs.Ipv6Address.{Ipv6Address}
use Rattle.ip_wire.specs.Ipv6Repr.{Ipv6Repr}
use Rattle.ip_wire.specs.Sum.{word_sum, complement}
use Rattle.wire_igmp.specs.Igmp as Igmp
use Rattle.wire_igmp.specs.declared.repr.IgmpRepr.{IgmpRepr}
use Rattle.wire_mld.specs.Mld as Mld
use Rattle.wire_mld.specs.declared.repr.MldRepr.{MldRepr}
use Rattle.iface_tables.specs.Inner.{InnerValue, group_hardware_addr}
use Rattle.iface_reports.specs.Told.{ReportValue, no_v4, no_v6}
use Rattle.iface_reports.specs.declared.report.Message.{Message}
use Rattle.iface_reports.specs.declared.report.Message.TheVariants as To

-- SOURCES

abbrev pub first_v4 : List IpCidr → Ipv4Address
first_v4 [] = no_v4
first_v4 (Cidr.Ipv4 b ∷ rest) = b.address
first_v4 (Cidr.Ipv6 b ∷ rest) = first_v4 rest

-- the first link-local address, else `::` (RFC 3590, section 4)
abbrev pub first_link_local : List IpCidr → Ipv6Address
first_link_local [] = no_v6
first_link_local (Cidr.Ipv4 b ∷ rest) = first_link_local rest
first_link_local (Cidr.Ipv6 b ∷ rest) = if is_link_local b.address then b.address else first_link_local rest

-- HEADERS

-- a medium of bare packets has no link header
abbrev pub link_header : HardwareAddress → IpAddress → EthernetProtocol → List ℕ
link_header Hardware.Ip group carried = []
link_header (Hardware.Ethernet local) group carried =
    Ethernet.written (record { src_addr = local; dst_addr = group_hardware_addr group; ethertype = carried })

abbrev pub link_len : HardwareAddress → ℕ
link_len Hardware.Ip = 0
link_len (Hardware.Ethernet local) = 14

-- The header of IPv4 with a router alert (RFC 2113), 24 bytes: of service class 0xc0, never cut and so without a number, hop limit 1,
-- protocol 2 (RFC 3376, section 4).
abbrev pub open_header : ℕ → Ipv4Address → Ipv4Address → List ℕ
open_header size source destination =
    0x46 ∷ 0xc0 ∷ (to_be_bytes w16 (24 + size) ++ 0 ∷ 0 ∷ 0x40 ∷ 0 ∷ 1 ∷ 2 ∷ 0 ∷ 0 ∷ (source.0 ++ (destination.0 ++ 0x94 ∷ 4 ∷ 0 ∷ 0 ∷ [])))

-- with its checksum
abbrev pub sealed_header : List ℕ → List ℕ
sealed_header header = put16 header 10 (complement (word_sum header))

abbrev pub header_v4 : Bool → ℕ → Ipv4Address → Ipv4Address → List ℕ
header_v4 sealed size source destination =
    if sealed then sealed_header (open_header size source destination) else open_header size source destination

-- the header of IPv6 before a header of hop-by-hop options, hop limit 1
abbrev pub header_v6 : ℕ → Ipv6Address → Ipv6Address → Ipv6Repr
header_v6 size source destination =
    record { src_addr = source; dst_addr = destination; next_header = Protocol.HopByHop; payload_len = 8 + size; hop_limit = 1 }

-- those options: ICMPv6 follows, and each router on the way looks at the packet (RFC 3810, section 5; RFC 2711)
abbrev pub hop_by_hop : List ℕ
hop_by_hop = 58 ∷ 0 ∷ 5 ∷ 2 ∷ 0 ∷ 0 ∷ 1 ∷ 0 ∷ []

-- PACKETS

abbrev pub igmp_packet : ChecksumCapabilities → Ipv4Address → Ipv4Address → IgmpRepr → List ℕ → List ℕ
igmp_packet caps source destination message records =
    header_v4 (computes caps.ipv4) (Igmp.header_len message + length records) source destination ++ Igmp.written message records

abbrev pub mld_packet : ChecksumCapabilities → Ipv6Address → Ipv6Address → MldRepr → List ℕ → List ℕ
mld_packet caps source destination message records =
    Ipv6.written (header_v6 (Mld.header_len message + length records) source destination)
    ++ (hop_by_hop ++ Mld.written source destination (computes caps.icmpv6) message records)

-- FRAMES

abbrev pub frame_by : InnerValue → Message → List ℕ → List ℕ
frame_by i (To.Igmp destination message) records =
    link_header i.hardware (Ip.Ipv4 destination) Ether.Ipv4 ++ igmp_packet i.checksums (first_v4 i.addresses) destination message records
frame_by i (To.Mld destination message) records =
    link_header i.hardware (Ip.Ipv6 destination) Ether.Ipv6 ++ mld_packet i.checksums (first_link_local i.addresses) destination message records

-- how long a packet of this message is
abbrev pub packet_len : Message → ℕ → ℕ
packet_len (To.Igmp destination message) size = 24 + (Igmp.header_len message + size)
packet_len (To.Mld destination message) size = 48 + (Mld.header_len message + size)

-- a host's frame of a report
abbrev pub report_frame : InnerValue → ReportValue → List ℕ
report_frame i report = frame_by i report.message report.records

abbrev pub report_frame_len : InnerValue → ReportValue → ℕ
report_frame_len i report = link_len i.hardware + packet_len report.message (length report.records)

-- a message of which no part depends on more than its numbers: none is a query
abbrev pub Fits : Message → Type 0
Fits (To.Igmp destination message) = Igmp.Fits message
Fits (To.Mld destination message) = Mld.Fits message
