-- The packet that takes a queued one can be sent, and is the only one.
use Rattle.std.proofs.Common.{◌≡◌, ℕ, ◌+◌, ◌-◌, ◌≤◌, List, length, drop, slice_range, refl, sym, ap, ◌∙◌, subst, Some, true, false, arith}
use Rattle.std.proofs.lemmas.List.{length-take, length-drop}
use Rattle.wire_address.specs.Fields.{be16}
use Rattle.wire_ip.specs.declared.ip.repr.IpRepr.{IpRepr}
use Rattle.wire_ip.specs.declared.ip.repr.IpRepr.TheVariants as Either
use Rattle.wire_ip.specs.Ip as Ip
use Rattle.wire_ip.specs.Ipv4 as Ipv4
use Rattle.socket_context.specs.Packet.{PacketValue}
use Rattle.socket_datagram.specs.Offers.{IsOnly}
use Rattle.socket_datagram.specs.Raw.{RawFilters, carried_by, bytes_following, may_send, TakesPacket}
use Rattle.socket_datagram.proofs.OfferLaws.{true-false}

-- how long the bytes between two positions are
range_len : (bytes : List ℕ) (i k : ℕ) → i ≤ k → k ≤ length bytes → i + length (slice_range bytes i k) ≡ k
range_len bytes i k le within = omega (arith, length-take (k - i) (drop i bytes), length-drop i bytes)

-- the payload is as long as the header says
carried_len : (header : IpRepr) (bytes : List ℕ) → Ip.IsIp false bytes header → Ip.payload_len_of header ≡ length (carried_by header bytes)
carried_len (Either.Ipv4 v) bytes is =
    omega (arith, range_len bytes (Ipv4.header_len_of bytes) (be16 bytes 2) is.whole.least is.whole.within, is.payload)
carried_len (Either.Ipv6 v) bytes is =
    omega (arith, range_len bytes 40 (40 + be16 bytes 4) (omega arith) is.whole.within, is.payload)

-- a packet that was read and may be sent is the only one that takes the bytes
pub only_one : (s : RawFilters) (bytes : List ℕ) (header : IpRepr) → Ip.Fits header → Ip.IsIp false bytes header →
    ((other : IpRepr) → Ip.IsIp false bytes other → other ≡ header)
    → may_send s header ≡ true → IsOnly (TakesPacket s (tt, bytes)) (bytes_following header (tt, bytes))
only_one s bytes header fits is only may = record {
  takes = record { read = is; may_send = may; carried = refl };
  only = λ p takes. takes.carried ∙ ap (λ (h : IpRepr). bytes_following h (tt, bytes)) (only p.header takes.read);
  sendable = record { header = fits; payload = tt; len = carried_len header bytes is };
}

-- where the only packet in the bytes may not be sent, none takes them
pub none_takes : (s : RawFilters) (bytes : List ℕ) (header : IpRepr) → ((other : IpRepr) → Ip.IsIp false bytes other → other ≡ header) →
    may_send s header ≡ false
    → (p : PacketValue) → TakesPacket s (tt, bytes) p → ⊥
none_takes s bytes header only may p takes =
    true-false (sym takes.may_send ∙ ap (may_send s) (only p.header takes.read) ∙ may)
