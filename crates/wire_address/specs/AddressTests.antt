-- The tests of addresses as truth values, with which functions of values compute. What each of them means stands in
-- `Address` and `Cidr`; the calls' contracts name both.
use Rattle.std.specs.Prelude.{ℕ, ◌-◌, ◌/◌, ◌%◌, ◌^◌, ◌==◌, ◌&&◌, ◌||◌, not, Bool, true, false, Option, Some, None, if◌then◌else◌, nat_le, ◌∷◌, [], ◌++◌}
use Rattle.std.specs.Prelude.{replicate, take, slice_index, bit_xor}
use Rattle.std.specs.Int.{w128, leading_zeros}
use Rattle.std.specs.Str.{bytes_eq}
use Rattle.byteorder.specs.Endian.{big_bytes}
use Rattle.wire_address.specs.Address.{v4_number, v6_number, solicited_prefix}
use Rattle.wire_address.specs.Cidr.{broadcast_number}
use Rattle.wire_address.specs.declared.ethernet.EthernetAddress.{EthernetAddress}
use Rattle.wire_address.specs.declared.hardware.HardwareAddress.{HardwareAddress}
use Rattle.wire_address.specs.declared.hardware.HardwareAddress.TheVariants as Hardware
use Rattle.wire_address.specs.declared.ipv4.Ipv4Address.{Ipv4Address}
use Rattle.wire_address.specs.declared.ipv4.Ipv4Cidr.{Ipv4Cidr}
use Rattle.wire_address.specs.declared.ipv6.Ipv6Address.{Ipv6Address}
use Rattle.wire_address.specs.declared.ipv6.Ipv6Cidr.{Ipv6Cidr}
use Rattle.wire_address.specs.declared.ip.IpAddress.{IpAddress}
use Rattle.wire_address.specs.declared.ip.IpAddress.TheVariants as Ip
use Rattle.wire_address.specs.declared.ip.IpCidr.{IpCidr}
use Rattle.wire_address.specs.declared.ip.IpCidr.TheVariants as Cidr

-- Ethernet (RFC 7042, section 2.1).

-- ff-ff-ff-ff-ff-ff
abbrev pub is_ethernet_broadcast : EthernetAddress → Bool
is_ethernet_broadcast a = bytes_eq a.0 (replicate 6 0xff)

-- the lowest bit of the first byte is set
abbrev pub is_ethernet_multicast : EthernetAddress → Bool
is_ethernet_multicast a = slice_index a.0 0 % 2 == 1

-- the bit above that is set
abbrev pub is_ethernet_local : EthernetAddress → Bool
is_ethernet_local a = slice_index a.0 0 / 2 % 2 == 1

-- one hardware address
abbrev pub is_ethernet_unicast : EthernetAddress → Bool
is_ethernet_unicast a = not (is_ethernet_broadcast a || is_ethernet_multicast a)

-- a hardware address of one hardware address
abbrev pub is_hardware_unicast : HardwareAddress → Bool
is_hardware_unicast Hardware.Ip = false
is_hardware_unicast (Hardware.Ethernet a) = is_ethernet_unicast a

-- the hardware address of all hardware addresses
abbrev pub is_hardware_broadcast : HardwareAddress → Bool
is_hardware_broadcast Hardware.Ip = false
is_hardware_broadcast (Hardware.Ethernet a) = is_ethernet_broadcast a

-- IPv4 (RFC 1122, section 3.2.1.3; RFC 1112, section 4).

-- 0.0.0.0
abbrev pub is_unspecified_v4 : Ipv4Address → Bool
is_unspecified_v4 a = bytes_eq a.0 (replicate 4 0)

-- 127.0.0.0/8
abbrev pub is_loopback_v4 : Ipv4Address → Bool
is_loopback_v4 a = slice_index a.0 0 == 127

-- 224.0.0.0/4
abbrev pub is_multicast_v4 : Ipv4Address → Bool
is_multicast_v4 a = slice_index a.0 0 / 16 == 14

-- 255.255.255.255
abbrev pub is_broadcast_v4 : Ipv4Address → Bool
is_broadcast_v4 a = bytes_eq a.0 (replicate 4 255)

-- one host
abbrev pub is_unicast_v4 : Ipv4Address → Bool
is_unicast_v4 a = not (is_unspecified_v4 a || is_multicast_v4 a || is_broadcast_v4 a)

-- IPv6 (RFC 4291, sections 2.4 to 2.7).

-- ::
abbrev pub is_unspecified_v6 : Ipv6Address → Bool
is_unspecified_v6 a = bytes_eq a.0 (replicate 16 0)

-- ::1
abbrev pub is_loopback_v6 : Ipv6Address → Bool
is_loopback_v6 a = bytes_eq a.0 (replicate 15 0 ++ 1 ∷ [])

-- ff00::/8
abbrev pub is_multicast_v6 : Ipv6Address → Bool
is_multicast_v6 a = slice_index a.0 0 == 0xff

-- fe80::/10
abbrev pub is_link_local : Ipv6Address → Bool
is_link_local a = (slice_index a.0 0 == 0xfe) && (slice_index a.0 1 / 64 == 2)

-- ff02::1:ff00:0/104
abbrev pub is_solicited_node : Ipv6Address → Bool
is_solicited_node a = bytes_eq (take 13 a.0) solicited_prefix

-- one host
abbrev pub is_unicast_v6 : Ipv6Address → Bool
is_unicast_v6 a = not (is_unspecified_v6 a || is_multicast_v6 a)

-- how many first bits two addresses have in common (RFC 6724, section 2.2): the zeros before the first bit that differs
abbrev pub common_prefix_len : Ipv6Address → Ipv6Address → ℕ
common_prefix_len a b = leading_zeros w128 (bit_xor (v6_number a) (v6_number b))

-- Both families.

-- 0.0.0.0 and ::
abbrev pub is_unspecified : IpAddress → Bool
is_unspecified (Ip.Ipv4 a) = is_unspecified_v4 a
is_unspecified (Ip.Ipv6 a) = is_unspecified_v6 a

-- 127.0.0.0/8 and ::1
abbrev pub is_loopback : IpAddress → Bool
is_loopback (Ip.Ipv4 a) = is_loopback_v4 a
is_loopback (Ip.Ipv6 a) = is_loopback_v6 a

-- 224.0.0.0/4 and ff00::/8
abbrev pub is_multicast : IpAddress → Bool
is_multicast (Ip.Ipv4 a) = is_multicast_v4 a
is_multicast (Ip.Ipv6 a) = is_multicast_v6 a

-- 255.255.255.255, which IPv4 alone has
abbrev pub is_broadcast : IpAddress → Bool
is_broadcast (Ip.Ipv4 a) = is_broadcast_v4 a
is_broadcast (Ip.Ipv6 a) = false

-- one host
abbrev pub is_unicast : IpAddress → Bool
is_unicast (Ip.Ipv4 a) = is_unicast_v4 a
is_unicast (Ip.Ipv6 a) = is_unicast_v6 a

-- the two are of one family
abbrev pub are_of_one_family : IpAddress → IpAddress → Bool
are_of_one_family (Ip.Ipv4 a) (Ip.Ipv4 b) = true
are_of_one_family (Ip.Ipv6 a) (Ip.Ipv6 b) = true
are_of_one_family a b = false

-- the two are one address
abbrev pub is_same_address : IpAddress → IpAddress → Bool
is_same_address (Ip.Ipv4 a) (Ip.Ipv4 b) = bytes_eq a.0 b.0
is_same_address (Ip.Ipv6 a) (Ip.Ipv6 b) = bytes_eq a.0 b.0
is_same_address a b = false

-- the two are one hardware address
abbrev pub is_same_hardware : HardwareAddress → HardwareAddress → Bool
is_same_hardware Hardware.Ip Hardware.Ip = true
is_same_hardware (Hardware.Ethernet a) (Hardware.Ethernet b) = bytes_eq a.0 b.0
is_same_hardware a b = false

-- Blocks (RFC 4632, section 3.1).

-- the first prefix_len bits of the address are those of the block's
abbrev pub is_in_v4 : Ipv4Cidr → Ipv4Address → Bool
is_in_v4 b a = v4_number a / 2 ^ (32 - b.prefix_len) == v4_number b.address / 2 ^ (32 - b.prefix_len)

-- the same for IPv6
abbrev pub is_in_v6 : Ipv6Cidr → Ipv6Address → Bool
is_in_v6 b a = v6_number a / 2 ^ (128 - b.prefix_len) == v6_number b.address / 2 ^ (128 - b.prefix_len)

-- a block holds addresses of its own family alone
abbrev pub is_in_cidr : IpCidr → IpAddress → Bool
is_in_cidr (Cidr.Ipv4 b) (Ip.Ipv4 a) = is_in_v4 b a
is_in_cidr (Cidr.Ipv6 b) (Ip.Ipv6 a) = is_in_v6 b a
is_in_cidr b a = false

-- the address of all hosts of the block, which blocks of one or two addresses don't have
abbrev pub broadcast_in : Ipv4Cidr → Option Ipv4Address
broadcast_in b = if nat_le 31 b.prefix_len then None else Some (record { 0 = big_bytes 4 (broadcast_number b) })
