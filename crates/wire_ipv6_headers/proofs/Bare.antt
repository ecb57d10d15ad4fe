-- An upper-layer protocol right after the IPv6 header.
use Rattle.std.proofs.Common.{◌≡◌, ℕ, List, refl}
use Rattle.wire_address.specs.declared.ip.IpProtocol.TheVariants as Protocol
use Rattle.wire_ipv6_headers.specs.Headers.{go_through, walked}
use Rattle.wire_ipv6_headers.specs.declared.headers.Following.TheVariants as End

pub bare_icmpv6 : (payload : List ℕ) → go_through Protocol.Icmpv6 payload ≡ End.Upper Protocol.Icmpv6 0
unfolding walked
bare_icmpv6 payload = refl

pub bare_tcp : (payload : List ℕ) → go_through Protocol.Tcp payload ≡ End.Upper Protocol.Tcp 0
unfolding walked
bare_tcp payload = refl

pub bare_udp : (payload : List ℕ) → go_through Protocol.Udp payload ≡ End.Upper Protocol.Udp 0
unfolding walked
bare_udp payload = refl
