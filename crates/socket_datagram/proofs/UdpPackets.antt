-- The packet that takes a queued datagram can be sent, and is the only one.
use Rattle.std.proofs.Common.{◌≡◌, ℕ, ◌+◌, ◌<◌, ◌^◌, List, length, refl, sym, ap, ◌∙◌, subst, Bool, Option, None, Some, true, false, nat_lt, if◌then◌else◌}
use Rattle.std.proofs.Common.{arith}
use Rattle.std.proofs.lemmas.Bool.{ltb-true}
use Rattle.std.proofs.lemmas.Option.{none-some}
use Rattle.wire_address.specs.declared.ip.IpAddress.{IpAddress}
use Rattle.wire_address.specs.declared.ip.IpAddress.TheVariants as Address
use Rattle.wire_address.specs.declared.ip.IpProtocol.{IpProtocol}
use Rattle.wire_ip.specs.declared.ip.repr.IpRepr.{IpRepr}
use Rattle.wire_ip.specs.Ip as Ip
use Rattle.wire_ip.specs.Udp as Datagram
use Rattle.socket_context.specs.Context.{ContextValue}
use Rattle.socket_context.specs.Packet.{PacketValue}
use Rattle.socket_datagram.specs.Header.{header_between, hop_limit_or_default}
use Rattle.socket_datagram.specs.declared.udp.UdpMetadata.{UdpMetadata}
use Rattle.socket_datagram.specs.Udp.{UdpSettings, header_for, header_from, source_for, datagram_following, TakesDatagram, IsHeaderToSend}
use Rattle.socket_datagram.proofs.OfferLaws.{some_same}

-- what holds of a header that takes these bytes after that of a datagram
abbrev Takes : List ℕ → IpRepr → Type 0
Takes bytes header =
    Ip.Fits header × Datagram.Fits (Ip.source_of header) (Ip.destination_of header) bytes × (Ip.payload_len_of header ≡ 8 + length bytes)

pub some_when : (b : Bool) (x y : IpRepr) → (if b then Some x else None) ≡ Some y → (b ≡ true) × (x ≡ y)
some_when true x y is = (refl, some_same x y is)
some_when false x y is = absurd (none-some y is)

less : (n : ℕ) → 20 + (8 + n) < 2 ^ 16 → 8 + n < 2 ^ 16
less n fits = omega arith

between_takes : (source destination : IpAddress) (protocol : IpProtocol) (bytes : List ℕ) (limit : ℕ) (header : IpRepr) →
    header_between source destination protocol (8 + length bytes) limit ≡ Some header → Takes bytes header
between_takes (Address.Ipv4 a) (Address.Ipv4 b) protocol bytes limit header is =
    let is_so = some_when (nat_lt (20 + (8 + length bytes)) (2 ^ 16)) _ header is in
    let fits = ltb-true (20 + (8 + length bytes)) (2 ^ 16) is_so.0 in
    subst (Takes bytes) is_so.1 (fits, record { len = less (length bytes) fits; family = refl }, refl)
between_takes (Address.Ipv6 a) (Address.Ipv6 b) protocol bytes limit header is =
    let is_so = some_when (nat_lt (8 + length bytes) (2 ^ 16)) _ header is in
    let fits = ltb-true (8 + length bytes) (2 ^ 16) is_so.0 in
    subst (Takes bytes) is_so.1 (fits, record { len = fits; family = refl }, refl)
between_takes (Address.Ipv4 a) (Address.Ipv6 b) protocol bytes limit header is = absurd (none-some header is)
between_takes (Address.Ipv6 a) (Address.Ipv4 b) protocol bytes limit header is = absurd (none-some header is)

from_takes : (source : Option IpAddress) (s : UdpSettings) (destination : IpAddress) (bytes : List ℕ) (header : IpRepr) →
    header_from source s destination (length bytes) ≡ Some header → Takes bytes header
from_takes None s destination bytes header is = absurd (none-some header is)
from_takes (Some source) s destination bytes header is = between_takes source destination _ bytes (hop_limit_or_default s.hop_limit) header is

only_one : (cx : ContextValue) (s : UdpSettings) (q : UdpMetadata × List ℕ) (header : IpRepr) → header_for cx s q.0 (length q.1) ≡ Some header →
    (other : PacketValue) → TakesDatagram cx s q other
    → other ≡ datagram_following s.endpoint header q
only_one cx s q header is other (takes, shaped) =
    shaped ∙ ap (λ (h : IpRepr). datagram_following s.endpoint h q) (some_same other.header header (sym takes ∙ is))

found_in : (cx : ContextValue) (s : UdpSettings) (q : UdpMetadata × List ℕ) (header : Option IpRepr) → header_for cx s q.0 (length q.1) ≡ header →
    IsHeaderToSend cx s q header
found_in cx s q None is = λ p takes. absurd (none-some p.header (sym is ∙ takes.0))
found_in cx s q (Some header) is =
    let sent = from_takes (source_for cx s q.0) s q.0.endpoint.addr q.1 header is in
    record { takes = (is, refl); only = only_one cx s q header is; sendable = record { header = sent.0; payload = sent.1; len = sent.2 } }

pub found : (cx : ContextValue) (s : UdpSettings) (metadata : UdpMetadata) (bytes : List ℕ) (header : Option IpRepr) →
    header ≡ header_for cx s metadata (length bytes) → IsHeaderToSend cx s (metadata, bytes) header
found cx s metadata bytes header is = found_in cx s (metadata, bytes) header (sym is)
