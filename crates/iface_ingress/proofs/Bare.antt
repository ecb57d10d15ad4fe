-- A packet that has no extension headers.
use Rattle.std.proofs.Common.{◌≡◌, ℕ, true, IsTrue, List, refl, ap, ◌∙◌}
use Rattle.ip_wire.specs.Ip.{carried_in}
use Rattle.ip_wire.specs.IpProtocol.{IpProtocol}
use Rattle.ip_wire.specs.IpProtocol.TheVariants as Protocol
use Rattle.ip_wire.specs.IpRepr.{IpRepr}
use Rattle.ip_wire.specs.IpRepr.TheVariants as Ip
use Rattle.ip_wire.specs.Ipv4Repr.{Ipv4Repr}
use Rattle.ip_wire.specs.Ipv6Repr.{Ipv6Repr}
use Rattle.wire_ipv6_headers.specs.Headers.{go_through, upper_of, upper_bytes_of}
use Rattle.wire_ipv6_headers.specs.declared.headers.Following.{Following}
use Rattle.wire_ipv6_headers.specs.declared.headers.Following.TheVariants as End
use Rattle.wire_ipv6_headers.proofs.Bare.{bare_icmpv6, bare_tcp, bare_udp}
use Rattle.iface_ingress.specs.Processed.{is_known_v6, is_bare}
use Rattle.iface_ingress.specs.Upper.{upper_header, upper_payload}

-- no extension header stands between
abbrev pub IsBare : IpRepr → List ℕ → Type 0
IsBare ip payload = (upper_header ip payload ≡ ip) × (upper_payload ip payload ≡ payload)

-- a protocol that the host knows stands there at once
pub known_at_once : (protocol : IpProtocol) (payload : List ℕ) → is_known_v6 protocol ≡ true → go_through protocol payload ≡ End.Upper protocol 0
known_at_once Protocol.Icmpv6 payload known = bare_icmpv6 payload
known_at_once Protocol.Tcp payload known = bare_tcp payload
known_at_once Protocol.Udp payload known = bare_udp payload
known_at_once protocol payload known = cc

pub bare_v4 : (header : Ipv4Repr) (payload : List ℕ) → IsBare (Ip.Ipv4 header) payload
bare_v4 header payload = (refl, refl)

pub bare_v6 : (header : Ipv6Repr) (payload : List ℕ) → is_known_v6 header.next_header ≡ true → IsBare (Ip.Ipv6 header) payload
bare_v6 header payload known =
    let e = known_at_once header.next_header payload known in (
      ap (λ (b : Following). Ip.Ipv6 (record header { next_header = upper_of b })) e,
      ap (upper_bytes_of payload) e,
    )

pub bare_if : (ip : IpRepr) (payload : List ℕ) → IsTrue (is_bare ip) → IsBare ip payload
bare_if (Ip.Ipv4 header) payload known = bare_v4 header payload
bare_if (Ip.Ipv6 header) payload known = bare_v6 header payload known

-- a header that names this, which the host knows
pub bare_where : (ip : IpRepr) (payload : List ℕ) (protocol : IpProtocol) → carried_in ip ≡ protocol → is_known_v6 protocol ≡ true → IsBare ip payload
bare_where (Ip.Ipv4 header) payload protocol is known = bare_v4 header payload
bare_where (Ip.Ipv6 header) payload protocol is known = bare_v6 header payload (ap is_known_v6 is ∙ known)
