-- The texts of addresses. A text is its bytes.
use Rattle.std.specs.Prelude.{◌≡◌, ◌≢◌, ℕ, ◌<◌, ◌≤◌, List, [], ◌∷◌, ◌++◌, length, slice_index, codes, decimal, ◌⊎◌, ◌/◌, ◌%◌, Option, Some, None, Result, Ok}
use Rattle.std.specs.Prelude.{IfOk, IsOkAnd}
use Rattle.std.specs.Char.{digit_char}
use Rattle.std.specs.Net.Addr.{segments_of, octets_of}
use Rattle.std.specs.Net.Grammar.{IsNumber, IsColonHex}
use Rattle.std.specs.Net.Text.{ipv4_text, ipv6_text}
use Rattle.wire_address.specs.Cidr.{width_of, cidr_address, cidr_prefix_len}
use Rattle.wire_address.specs.declared.ethernet.EthernetAddress.{EthernetAddress}
use Rattle.wire_address.specs.declared.ethernet.EthernetProtocol.{EthernetProtocol}
use Rattle.wire_address.specs.declared.ethernet.EthernetProtocol.TheVariants as Ether
use Rattle.wire_address.specs.declared.ip.IpProtocol.{IpProtocol}
use Rattle.wire_address.specs.declared.ip.IpProtocol.TheVariants as Protocol
use Rattle.wire_address.specs.declared.ip.IpVersion.{IpVersion}
use Rattle.wire_address.specs.declared.ip.IpVersion.TheVariants as Version
use Rattle.wire_address.specs.declared.hardware.HardwareAddress.{HardwareAddress}
use Rattle.wire_address.specs.declared.hardware.HardwareAddress.TheVariants as Hardware
use Rattle.wire_address.specs.declared.ip.IpAddress.{IpAddress}
use Rattle.wire_address.specs.declared.ip.IpAddress.TheVariants as Ip
use Rattle.wire_address.specs.declared.ip.IpCidr.{IpCidr}
use Rattle.wire_address.specs.declared.ip.IpCidr.TheVariants as Cidr
use Rattle.wire_address.specs.declared.ip.IpEndpoint.{IpEndpoint}
use Rattle.wire_address.specs.declared.ipv6.Ipv6Address.{Ipv6Address}
use Rattle.wire_address.specs.declared.ipv6.Ipv6Cidr.{Ipv6Cidr}
use Rattle.wire_address.specs.declared.ipv4.Ipv4Address.{Ipv4Address}
use Rattle.wire_address.specs.declared.ipv4.Ipv4Cidr.{Ipv4Cidr}

-- a reader that takes exactly the texts of a grammar, and gives the value that the text spells
abbrev pub Reads : {A E : Type 0} → (List ℕ → A → Type 0) → List ℕ → Result A E → Type 0
Reads {A} IsTextOf text r = IfOk r (IsTextOf text) × ((a : A) → IsTextOf text a → r ≡ Ok a)

-- the text has no such byte
abbrev pub Lacks : List ℕ → ℕ → Type 0
Lacks text byte = (i : ℕ) → i < length text → slice_index text i ≢ byte

-- front and back stand before and after the first such byte
pub record IsCut (byte : ℕ) (text front back : List ℕ) : Type 0 where
  pub joined : text ≡ front ++ byte ∷ back
  pub first : Lacks front byte

-- front and back stand before and after the last such byte
pub record IsCutAtLast (byte : ℕ) (text front back : List ℕ) : Type 0 where
  pub joined : text ≡ front ++ byte ∷ back
  pub last : Lacks back byte

-- a decimal number of any number of digits, which is at most so much
abbrev pub IsDecimal : ℕ → List ℕ → ℕ → Type 0
IsDecimal most text n = IsNumber 10 text n × (n ≤ most)

-- a part of an IPv4 address: one to three digits, at most 255
abbrev pub IsOctet : List ℕ → ℕ → Type 0
IsOctet text n = IsDecimal 255 text n × (length text ≤ 3)

-- such a part, then a dot, then the rest
abbrev pub IsOctetBefore : List ℕ → ℕ → List ℕ → Type 0
IsOctetBefore text n rest = (digits : List ℕ) × (text ≡ digits ++ 46 ∷ rest) × IsOctet digits n

-- four parts with dots between them
pub record IsDottedText (text octets : List ℕ) : Type 0 where
  pub a : ℕ
  pub b : ℕ
  pub c : ℕ
  pub d : ℕ
  pub after_a : List ℕ
  pub after_b : List ℕ
  pub after_c : List ℕ
  pub first : IsOctetBefore text a after_a
  pub second : IsOctetBefore after_a b after_b
  pub third : IsOctetBefore after_b c after_c
  pub fourth : IsOctet after_c d
  pub value : octets ≡ a ∷ b ∷ c ∷ d ∷ []

-- the text of an IPv4 address
abbrev pub IsIpv4Text : List ℕ → Ipv4Address → Type 0
IsIpv4Text text a = IsDottedText text a.0

-- the text of an address, a slash, and a prefix length
pub record IsCidrText {A : Type 0} (IsAddressText : List ℕ → A → Type 0) (most : ℕ) (text : List ℕ) (a : A) (len : ℕ) : Type 0 where
  pub address : List ℕ
  pub digits : List ℕ
  pub spelled : text ≡ address ++ 47 ∷ digits
  pub of_address : IsAddressText address a
  pub of_len : IsDecimal most digits len

-- the text of an IPv4 block, with its address and its prefix length
abbrev pub IsIpv4CidrText : List ℕ → Ipv4Address → ℕ → Type 0
IsIpv4CidrText = IsCidrText IsIpv4Text 32

-- a reader that takes exactly the texts of IPv4 blocks
abbrev pub ReadsIpv4Cidr : {E : Type 0} → List ℕ → Result Ipv4Cidr E → Type 0
ReadsIpv4Cidr text r =
    IfOk r (λ b. IsIpv4CidrText text b.address b.prefix_len)
    × ((a : Ipv4Address) (len : ℕ) → IsIpv4CidrText text a len → IsOkAnd r (λ b. (b.address ≡ a) × (b.prefix_len ≡ len)))

-- the text of an IPv4 address, a colon, and a port
pub record IsIpv4EndpointText (text : List ℕ) (a : Ipv4Address) (port : ℕ) : Type 0 where
  pub address : List ℕ
  pub digits : List ℕ
  pub spelled : text ≡ address ++ 58 ∷ digits
  pub of_address : IsIpv4Text address a
  pub of_port : IsDecimal 65535 digits port

-- what is printed of an IPv4 block
abbrev pub ipv4_cidr_text : Ipv4Cidr → List ℕ
ipv4_cidr_text b = ipv4_text b.address.0 ++ 47 ∷ decimal b.prefix_len

-- Ethernet addresses.

-- a byte as one or two hex digits
abbrev pub IsHexPair : List ℕ → ℕ → Type 0
IsHexPair text n = IsNumber 16 text n × (n ≤ 255) × (length text ≤ 2)

-- such a byte, then the separator, then the rest
abbrev pub IsHexPairBefore : ℕ → List ℕ → ℕ → List ℕ → Type 0
IsHexPairBefore separator text n rest = (digits : List ℕ) × (text ≡ digits ++ separator ∷ rest) × IsHexPair digits n

-- six such bytes with the separator between them
pub record IsSixPairs (separator : ℕ) (text octets : List ℕ) : Type 0 where
  pub a : ℕ
  pub b : ℕ
  pub c : ℕ
  pub d : ℕ
  pub e : ℕ
  pub f : ℕ
  pub after_a : List ℕ
  pub after_b : List ℕ
  pub after_c : List ℕ
  pub after_d : List ℕ
  pub after_e : List ℕ
  pub first : IsHexPairBefore separator text a after_a
  pub second : IsHexPairBefore separator after_a b after_b
  pub third : IsHexPairBefore separator after_b c after_c
  pub fourth : IsHexPairBefore separator after_c d after_d
  pub fifth : IsHexPairBefore separator after_d e after_e
  pub sixth : IsHexPair after_e f
  pub value : octets ≡ a ∷ b ∷ c ∷ d ∷ e ∷ f ∷ []

-- the text of an Ethernet address: all separators are `-`, or all are `:`
abbrev pub IsEthernetText : List ℕ → EthernetAddress → Type 0
IsEthernetText text a = IsSixPairs 45 text a.0 ⊎ IsSixPairs 58 text a.0

-- two lower-case hex digits
abbrev pub hex_pair : ℕ → List ℕ
hex_pair n = digit_char (n / 16) ∷ digit_char (n % 16) ∷ []

-- what is printed of an Ethernet address
abbrev pub ethernet_text : List ℕ → List ℕ
ethernet_text o =
    hex_pair (slice_index o 0) ++ codes "-" ++ hex_pair (slice_index o 1) ++ codes "-" ++ hex_pair (slice_index o 2)
    ++ codes "-" ++ hex_pair (slice_index o 3) ++ codes "-" ++ hex_pair (slice_index o 4) ++ codes "-" ++ hex_pair (slice_index o 5)

-- what is printed of the address of an interface
abbrev pub hardware_text : HardwareAddress → List ℕ
hardware_text Hardware.Ip = codes "no hardware addr"
hardware_text (Hardware.Ethernet a) = ethernet_text a.0

-- what is printed of a hardware address of any kind: its bytes with colons between them
abbrev pub raw_hardware_text : List ℕ → List ℕ
raw_hardware_text [] = []
raw_hardware_text (b ∷ []) = hex_pair b
raw_hardware_text (b ∷ c ∷ bytes) = hex_pair b ++ 58 ∷ raw_hardware_text (c ∷ bytes)

-- IPv6 addresses (RFC 4291, section 2.2; printed as RFC 5952 says).

-- without a dot: eight groups of one to four hex digits with colons between them, or fewer groups with one `::`,
-- which stands for the groups of zero that are missing
abbrev pub IsHexGroups : List ℕ → List ℕ → Type 0
IsHexGroups text segments = Lacks text 46 × IsColonHex text segments

-- the two groups of four hex digits that have these four bytes
abbrev pub two_groups : List ℕ → List ℕ
two_groups o =
    hex_pair (slice_index o 0) ++ hex_pair (slice_index o 1) ++ codes ":" ++ hex_pair (slice_index o 2) ++ hex_pair (slice_index o 3)

-- with a dotted end: the text after the last colon is that of an IPv4 address, which stands for the two groups of
-- its bytes; `hex` is the text with these groups in its offset
pub record IsDottedEnd (text hex : List ℕ) : Type 0 where
  pub front : List ℕ
  pub tail : List ℕ
  pub octets : List ℕ
  pub spelled : text ≡ front ++ 58 ∷ tail
  pub of_tail : IsDottedText tail octets
  pub in_hex : hex ≡ front ++ 58 ∷ two_groups octets

-- the text of eight groups
abbrev pub IsGroupsText : List ℕ → List ℕ → Type 0
IsGroupsText text segments = IsHexGroups text segments ⊎ ((hex : List ℕ) × IsDottedEnd text hex × IsHexGroups hex segments)

-- the text of an IPv6 address
abbrev pub IsIpv6Text : List ℕ → Ipv6Address → Type 0
IsIpv6Text text a = (segments : List ℕ) × IsGroupsText text segments × (a.0 ≡ octets_of segments)

-- the text of an IPv6 block, with its address and its prefix length
abbrev pub IsIpv6CidrText : List ℕ → Ipv6Address → ℕ → Type 0
IsIpv6CidrText = IsCidrText IsIpv6Text 128

-- a reader that takes exactly the texts of IPv6 blocks
abbrev pub ReadsIpv6Cidr : {E : Type 0} → List ℕ → Result Ipv6Cidr E → Type 0
ReadsIpv6Cidr text r =
    IfOk r (λ b. IsIpv6CidrText text b.address b.prefix_len)
    × ((a : Ipv6Address) (len : ℕ) → IsIpv6CidrText text a len → IsOkAnd r (λ b. (b.address ≡ a) × (b.prefix_len ≡ len)))

-- an IPv6 address in brackets, a colon, and a port
pub record IsIpv6EndpointText (text : List ℕ) (a : Ipv6Address) (port : ℕ) : Type 0 where
  pub address : List ℕ
  pub digits : List ℕ
  pub spelled : text ≡ 91 ∷ (address ++ 93 ∷ 58 ∷ digits)
  pub of_address : IsIpv6Text address a
  pub of_port : IsDecimal 65535 digits port

-- what is printed of an IPv6 block
abbrev pub ipv6_cidr_text : Ipv6Cidr → List ℕ
ipv6_cidr_text b = ipv6_text (segments_of b.address.0) ++ 47 ∷ decimal b.prefix_len

-- Both families.

-- the text of an address of either family
abbrev pub IsIpText : List ℕ → IpAddress → Type 0
IsIpText text (Ip.Ipv4 a) = IsIpv4Text text a
IsIpText text (Ip.Ipv6 a) = IsIpv6Text text a

-- the text of a block of either family, with its address and its prefix length
abbrev pub IsIpCidrText : List ℕ → IpAddress → ℕ → Type 0
IsIpCidrText text a = IsCidrText IsIpText (width_of a) text a

-- a reader that takes exactly the texts of blocks of either family
abbrev pub ReadsIpCidr : {E : Type 0} → List ℕ → Result IpCidr E → Type 0
ReadsIpCidr text r =
    IfOk r (λ b. IsIpCidrText text (cidr_address b) (cidr_prefix_len b))
    × ((a : IpAddress) (len : ℕ) → IsIpCidrText text a len → IsOkAnd r (λ b. (cidr_address b ≡ a) × (cidr_prefix_len b ≡ len)))

-- the text of an address and a port
abbrev pub IsAddressAndPort : List ℕ → IpAddress → ℕ → Type 0
IsAddressAndPort text (Ip.Ipv4 a) port = IsIpv4EndpointText text a port
IsAddressAndPort text (Ip.Ipv6 a) port = IsIpv6EndpointText text a port

-- the text of an endpoint
abbrev pub IsEndpointText : List ℕ → IpEndpoint → Type 0
IsEndpointText text e = IsAddressAndPort text e.addr e.port

-- what is printed of an address of either family
abbrev pub ip_text : IpAddress → List ℕ
ip_text (Ip.Ipv4 a) = ipv4_text a.0
ip_text (Ip.Ipv6 a) = ipv6_text (segments_of a.0)

-- what is printed of a block of either family
abbrev pub cidr_text : IpCidr → List ℕ
cidr_text (Cidr.Ipv4 b) = ipv4_cidr_text b
cidr_text (Cidr.Ipv6 b) = ipv6_cidr_text b

-- what is printed of an endpoint: no brackets
abbrev pub endpoint_text : IpEndpoint → List ℕ
endpoint_text e = ip_text e.addr ++ 58 ∷ decimal e.port

-- what is printed of an endpoint that may name no address
abbrev pub listen_endpoint_text : Option IpAddress → ℕ → List ℕ
listen_endpoint_text (Some a) port = ip_text a ++ 58 ∷ decimal port
listen_endpoint_text None port = 42 ∷ 58 ∷ decimal port

-- Names of numbers, as messages and logs show them.

-- what is printed of the family of a packet
abbrev pub version_text : IpVersion → List ℕ
version_text Version.Ipv4 = codes "IPv4"
version_text Version.Ipv6 = codes "IPv6"

-- what is printed of a protocol over IP: its name, or two hex digits
abbrev pub protocol_text : IpProtocol → List ℕ
protocol_text Protocol.HopByHop = codes "Hop-by-Hop"
protocol_text Protocol.Icmp = codes "ICMP"
protocol_text Protocol.Igmp = codes "IGMP"
protocol_text Protocol.Tcp = codes "TCP"
protocol_text Protocol.Udp = codes "UDP"
protocol_text Protocol.Ipv6Route = codes "IPv6-Route"
protocol_text Protocol.Ipv6Frag = codes "IPv6-Frag"
protocol_text Protocol.IpSecEsp = codes "IPsec-ESP"
protocol_text Protocol.IpSecAh = codes "IPsec-AH"
protocol_text Protocol.Icmpv6 = codes "ICMPv6"
protocol_text Protocol.Ipv6NoNxt = codes "IPv6-NoNxt"
protocol_text Protocol.Ipv6Opts = codes "IPv6-Opts"
protocol_text (Protocol.Unknown n) = codes "0x" ++ hex_pair n

-- what is printed of an ethertype: its name, or four hex digits
abbrev pub ether_text : EthernetProtocol → List ℕ
ether_text Ether.Ipv4 = codes "IPv4"
ether_text Ether.Arp = codes "ARP"
ether_text Ether.Ipv6 = codes "IPv6"
ether_text (Ether.Unknown n) = codes "0x" ++ (hex_pair (n / 256) ++ hex_pair (n % 256))
