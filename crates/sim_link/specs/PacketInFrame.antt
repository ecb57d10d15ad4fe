-- Which packet a frame carries, as far as its first bytes say.
use Rattle.std.specs.Prelude.{◌≡◌, ◌≢◌, ℕ, ◌/◌, Bool, true, false, ◌&&◌, ◌||◌, ◌==◌, List, drop, slice_index}
use Rattle.base_device.specs.Capabilities.{frame_header}
use Rattle.base_device.specs.declared.capabilities.Medium.{Medium}
use Rattle.base_device.specs.declared.capabilities.Medium.TheVariants.{Ethernet, Ip}
use Rattle.wire_address.specs.Fields.{be16}
use Rattle.wire_address.specs.Protocol.{protocol_of}
use Rattle.wire_address.specs.declared.ip.IpProtocol.{IpProtocol}
use Rattle.wire_address.specs.declared.ip.IpProtocol.TheVariants as Protocol
use Rattle.wire_ip.specs.Ipv6.{payload_of}
use Rattle.wire_ipv6_headers.specs.Headers.{go_through, upper_of, is_fragment}
use Rattle.wire_ipv6_headers.specs.declared.headers.Following.{Following}

-- the packet that a frame carries, and padding
abbrev pub packet_in : Medium → List ℕ → List ℕ
packet_in medium frame = drop (frame_header medium) frame

-- the numbers of TCP and of UDP (RFC 9293, RFC 768)
abbrev pub is_tcp_or_udp : ℕ → Bool
is_tcp_or_udp protocol = (protocol == 6) || (protocol == 17)

abbrev pub IsNeither : IpProtocol → Type 0
IsNeither protocol = (protocol ≢ Protocol.Tcp) × (protocol ≢ Protocol.Udp)

-- what stands after extension headers is neither, and no fragment of a datagram
abbrev pub IsNeitherFollowing : Following → Type 0
IsNeitherFollowing following = IsNeither (upper_of following) × (is_fragment following ≡ false)

abbrev pub has_ports : IpProtocol → Bool
has_ports Protocol.Tcp = true
has_ports Protocol.Udp = true
has_ports protocol = false

-- there are TCP or UDP, or a fragment of a datagram, which may be one of them
abbrev pub may_have_ports : Following → Bool
may_have_ports following = has_ports (upper_of following) || is_fragment following

-- an IPv6 packet has them after its extension headers, if there are any
abbrev pub has_ports_following : List ℕ → Bool
has_ports_following packet = may_have_ports (go_through (protocol_of (slice_index packet 6)) (payload_of packet))

-- Whether bytes say that they carry TCP or UDP, where an IPv4 header has its protocol, and after the extension headers of IPv6; no
-- fragment of an IPv6 datagram says that it carries neither, since any other one may name the protocol (RFC 8200, section 4.5).
-- On Ethernet the EtherType says which of the two headers there is, and else the version. Bytes that are too short say neither.
abbrev pub names_tcp_or_udp : Medium → List ℕ → Bool
names_tcp_or_udp Ethernet bytes =
    ((be16 bytes 12 == 0x0800) && is_tcp_or_udp (slice_index bytes 23))
    || ((be16 bytes 12 == 0x86dd) && has_ports_following (drop 14 bytes))
names_tcp_or_udp Ip bytes =
    ((slice_index bytes 0 / 16 == 4) && is_tcp_or_udp (slice_index bytes 9))
    || ((slice_index bytes 0 / 16 == 6) && has_ports_following bytes)
