-- What a packet carries after its extension headers (RFC 8200, section 4): the bytes of an upper-layer protocol, or none.
use Rattle.std.specs.Prelude.{ℕ, List, Option}
use Rattle.net_base.specs.ChecksumCapabilities.{ChecksumCapabilities}
use Rattle.ip_wire.specs.IpRepr.{IpRepr}
use Rattle.ip_wire.specs.IpRepr.TheVariants as Ip
use Rattle.socket_context.specs.Packet.{PayloadValue}
use Rattle.wire_ipv6_headers.specs.Headers.{go_through, upper_of, upper_bytes_of}
use Rattle.iface_ingress.specs.UpperLayer.{IsCarriedContent}

-- the header as the upper-layer protocol has it: IPv4 names it itself, and IPv6 after its extension headers
abbrev pub upper_header : IpRepr → List ℕ → IpRepr
upper_header (Ip.Ipv4 header) payload = Ip.Ipv4 header
upper_header (Ip.Ipv6 header) payload = Ip.Ipv6 (record header { next_header = upper_of (go_through header.next_header payload) })

abbrev pub upper_payload : IpRepr → List ℕ → List ℕ
upper_payload (Ip.Ipv4 header) payload = payload
upper_payload (Ip.Ipv6 header) payload = upper_bytes_of payload (go_through header.next_header payload)

-- a packet brings this, or nothing of a known format
abbrev pub IsBrought : ChecksumCapabilities → IpRepr → List ℕ → Option PayloadValue → Type 0
IsBrought caps ip payload carried = IsCarriedContent caps (upper_header ip payload) (upper_payload ip payload) carried
