-- What contracts see of addresses: the numbers that they are, most significant byte first, and where they belong.
use Rattle.std.specs.Prelude.{◌≡◌, ℕ, ◌-◌, ◌/◌, ◌%◌, ◌^◌, ◌≤◌, ◌==◌, if◌then◌else◌, List, [], ◌∷◌, ◌++◌, length, take, drop, replicate, slice_index}
use Rattle.std.specs.Str.{bytes_eq}
use Rattle.byteorder.specs.Endian.{big_number}
use Rattle.wire_address.specs.Fields.{IsBytes}
use Rattle.wire_address.specs.declared.ethernet.EthernetAddress.{EthernetAddress}
use Rattle.wire_address.specs.declared.ipv4.Ipv4Address.{Ipv4Address}
use Rattle.wire_address.specs.declared.ipv6.Ipv6Address.{Ipv6Address}
use Rattle.wire_address.specs.declared.ip.IpAddress.{IpAddress}
use Rattle.wire_address.specs.declared.ip.IpAddress.TheVariants as Ip
use Rattle.wire_address.specs.declared.ip.IpVersion.{IpVersion}
use Rattle.wire_address.specs.declared.ip.IpVersion.TheVariants as Version
use Rattle.wire_address.specs.declared.hardware.HardwareAddress.{HardwareAddress}
use Rattle.wire_address.specs.declared.hardware.HardwareAddress.TheVariants as Hardware

-- an Ethernet address has six bytes
abbrev pub IsEthernetAddress : EthernetAddress → Type 0
IsEthernetAddress a = (length a.0 ≡ 6) × IsBytes a.0

-- an IPv4 address has four bytes
abbrev pub IsIpv4Address : Ipv4Address → Type 0
IsIpv4Address a = (length a.0 ≡ 4) × IsBytes a.0

-- an IPv6 address has sixteen bytes
abbrev pub IsIpv6Address : Ipv6Address → Type 0
IsIpv6Address a = (length a.0 ≡ 16) × IsBytes a.0

-- an address of either family has the bytes of its family
abbrev pub IsIpAddress : IpAddress → Type 0
IsIpAddress (Ip.Ipv4 a) = IsIpv4Address a
IsIpAddress (Ip.Ipv6 a) = IsIpv6Address a

-- the bytes of an address of either family
abbrev pub address_bytes : IpAddress → List ℕ
address_bytes (Ip.Ipv4 a) = a.0
address_bytes (Ip.Ipv6 a) = a.0

-- the family of an address
abbrev pub version_of : IpAddress → IpVersion
version_of (Ip.Ipv4 a) = Version.Ipv4
version_of (Ip.Ipv6 a) = Version.Ipv6

-- the bytes of a hardware address: none where the medium has no such addresses
abbrev pub hardware_bytes : HardwareAddress → List ℕ
hardware_bytes Hardware.Ip = []
hardware_bytes (Hardware.Ethernet a) = a.0

-- The addresses of IEEE 802 (RFC 7042, section 2.1).

-- all hardware addresses: ff-ff-ff-ff-ff-ff
abbrev pub IsEthernetBroadcast : EthernetAddress → Type 0
IsEthernetBroadcast a = a.0 ≡ replicate 6 0xff

-- a group of hardware addresses: the lowest bit of the first byte is set
abbrev pub IsEthernetMulticast : EthernetAddress → Type 0
IsEthernetMulticast a = slice_index a.0 0 % 2 ≡ 1

-- given by the network's own hand: the bit above that is set
abbrev pub IsEthernetLocal : EthernetAddress → Type 0
IsEthernetLocal a = slice_index a.0 0 / 2 % 2 ≡ 1

-- one hardware address
abbrev pub IsEthernetUnicast : EthernetAddress → Type 0
IsEthernetUnicast a = ¬ (IsEthernetBroadcast a) × ¬ (IsEthernetMulticast a)

-- a hardware address of one hardware address
abbrev pub IsHardwareUnicast : HardwareAddress → Type 0
IsHardwareUnicast Hardware.Ip = ⊥
IsHardwareUnicast (Hardware.Ethernet a) = IsEthernetUnicast a

-- the hardware address of all hardware addresses
abbrev pub IsHardwareBroadcast : HardwareAddress → Type 0
IsHardwareBroadcast Hardware.Ip = ⊥
IsHardwareBroadcast (Hardware.Ethernet a) = IsEthernetBroadcast a

-- IPv4 (RFC 1122, section 3.2.1.3; RFC 1112, section 4).

-- the address as a number, the first byte the most significant
unfoldable pub v4_number : Ipv4Address → ℕ
v4_number a = big_number 4 a.0

-- 0.0.0.0
abbrev pub IsUnspecifiedV4 : Ipv4Address → Type 0
IsUnspecifiedV4 a = a.0 ≡ replicate 4 0

-- 127.0.0.0/8
abbrev pub IsLoopbackV4 : Ipv4Address → Type 0
IsLoopbackV4 a = slice_index a.0 0 ≡ 127

-- 224.0.0.0/4
abbrev pub IsMulticastV4 : Ipv4Address → Type 0
IsMulticastV4 a = slice_index a.0 0 / 16 ≡ 14

-- 255.255.255.255
abbrev pub IsBroadcastV4 : Ipv4Address → Type 0
IsBroadcastV4 a = a.0 ≡ replicate 4 255

-- the address of one host
abbrev pub IsUnicastV4 : Ipv4Address → Type 0
IsUnicastV4 a = ¬ (IsUnspecifiedV4 a) × ¬ (IsMulticastV4 a) × ¬ (IsBroadcastV4 a)

-- n ones, then zeros
abbrev pub IsMaskV4 : Ipv4Address → ℕ → Type 0
IsMaskV4 a n = (n ≤ 32) × (v4_number a ≡ 2 ^ 32 - 2 ^ (32 - n))

-- IPv6 (RFC 4291, sections 2.4 to 2.7).

-- the address as a number, the first byte the most significant
unfoldable pub v6_number : Ipv6Address → ℕ
v6_number a = big_number 16 a.0

-- ::
abbrev pub IsUnspecifiedV6 : Ipv6Address → Type 0
IsUnspecifiedV6 a = a.0 ≡ replicate 16 0

-- ::1
abbrev pub IsLoopbackV6 : Ipv6Address → Type 0
IsLoopbackV6 a = a.0 ≡ replicate 15 0 ++ 1 ∷ []

-- ff00::/8
abbrev pub IsMulticastV6 : Ipv6Address → Type 0
IsMulticastV6 a = slice_index a.0 0 ≡ 0xff

-- fe80::/10
abbrev pub IsLinkLocal : Ipv6Address → Type 0
IsLinkLocal a = (slice_index a.0 0 ≡ 0xfe) × (slice_index a.0 1 / 64 ≡ 2)

-- the address of one host
abbrev pub IsUnicastV6 : Ipv6Address → Type 0
IsUnicastV6 a = ¬ (IsUnspecifiedV6 a) × ¬ (IsMulticastV6 a)

-- n ones, then zeros
abbrev pub IsMaskV6 : Ipv6Address → ℕ → Type 0
IsMaskV6 a n = (n ≤ 128) × (v6_number a ≡ 2 ^ 128 - 2 ^ (128 - n))

-- how far an address is known: the low half of the second byte of a multicast address, 2 (the link)
-- for fe80::/10 and ::1, else 14 (everywhere) (RFC 4007, section 4)
abbrev pub scope_of : Ipv6Address → ℕ
scope_of a =
    if slice_index a.0 0 == 0xff then slice_index a.0 1 % 16
    else if slice_index a.0 0 == 0xfe then (if slice_index a.0 1 / 64 == 2 then 2 else 14)
    else (if bytes_eq a.0 (replicate 15 0 ++ 1 ∷ []) then 2 else 14)

-- the first 104 bits of ff02::1:ff00:0
abbrev pub solicited_prefix : List ℕ
solicited_prefix = 0xff ∷ 2 ∷ 0 ∷ 0 ∷ 0 ∷ 0 ∷ 0 ∷ 0 ∷ 0 ∷ 0 ∷ 0 ∷ 1 ∷ 0xff ∷ []

-- an address to which neighbours' solicitations go (RFC 4291, section 2.7.1)
abbrev pub IsSolicitedNode : Ipv6Address → Type 0
IsSolicitedNode a = take 13 a.0 ≡ solicited_prefix

-- the solicited-node address of an address: that prefix, then the address's last 24 bits
abbrev pub solicited_of : Ipv6Address → List ℕ
solicited_of a = solicited_prefix ++ drop 13 a.0

-- Both families.

-- the unspecified address of its family
abbrev pub IsUnspecified : IpAddress → Type 0
IsUnspecified (Ip.Ipv4 a) = IsUnspecifiedV4 a
IsUnspecified (Ip.Ipv6 a) = IsUnspecifiedV6 a

-- the address of a group
abbrev pub IsMulticast : IpAddress → Type 0
IsMulticast (Ip.Ipv4 a) = IsMulticastV4 a
IsMulticast (Ip.Ipv6 a) = IsMulticastV6 a

-- all hosts of the local network, which IPv4 alone has
abbrev pub IsBroadcast : IpAddress → Type 0
IsBroadcast (Ip.Ipv4 a) = IsBroadcastV4 a
IsBroadcast (Ip.Ipv6 a) = ⊥

-- the address of one host
abbrev pub IsUnicast : IpAddress → Type 0
IsUnicast (Ip.Ipv4 a) = IsUnicastV4 a
IsUnicast (Ip.Ipv6 a) = IsUnicastV6 a

-- n ones, then zeros
abbrev pub IsMask : IpAddress → ℕ → Type 0
IsMask (Ip.Ipv4 a) n = IsMaskV4 a n
IsMask (Ip.Ipv6 a) n = IsMaskV6 a n
