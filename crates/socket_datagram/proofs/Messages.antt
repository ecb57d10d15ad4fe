-- Messages in a queue, and the packets that take them.
use Rattle.std.proofs.Common.{◌≡◌, ℕ, ◌+◌, ◌-◌, ◌<◌, ◌^◌, List, [], length, drop, refl, sym, ap, ◌∙◌, subst, inl, inr, Bool, false, Option, Some, nat_lt, arith}
use Rattle.std.proofs.Common.{length-drop}
use Rattle.std.proofs.lemmas.Bool.{cases_lt, ltb-true}
use Rattle.std.proofs.lemmas.List.{drop-drop, drop_all}
use Rattle.wire_address.specs.Fields.{IsBytes}
use Rattle.wire_ip.specs.Ip as Ip
use Rattle.wire_address.specs.declared.ip.IpAddress.{IpAddress}
use Rattle.wire_address.specs.declared.ip.IpAddress.TheVariants as Address
use Rattle.wire_address.specs.declared.ip.IpProtocol.{IpProtocol}
use Rattle.wire_address.specs.declared.ip.IpProtocol.TheVariants as Protocol
use Rattle.wire_ip.specs.declared.ip.repr.IpRepr.{IpRepr}
use Rattle.wire_address.specs.declared.ipv4.Ipv4Address.{Ipv4Address}
use Rattle.wire_address.specs.declared.ipv6.Ipv6Address.{Ipv6Address}
use Rattle.wire_icmpv4.specs.Icmpv4 as V4
use Rattle.wire_icmpv4.specs.declared.header.Icmpv4Header.{Icmpv4Header}
use Rattle.wire_icmpv4.specs.declared.header.Icmpv4Header.TheVariants as Header
use Rattle.wire_icmpv6.specs.Icmpv6 as V6
use Rattle.wire_icmpv6.specs.declared.header.Icmpv6Header.{Icmpv6Header}
use Rattle.wire_icmpv4.proofs.Messages as V4Laws
use Rattle.wire_icmpv6.proofs.Normal as V6Laws
use Rattle.wire_icmpv6.proofs.Spelled as V6Lengths
use Rattle.socket_context.specs.Packet as Carried
use Rattle.socket_context.specs.Packet.{PacketValue, PayloadFits}
use Rattle.socket_datagram.specs.Header.{header_between}
use Rattle.socket_datagram.specs.Icmp.{IsPacketFrom}
use Rattle.socket_datagram.specs.IcmpKept.{IsKeptFrom}
use Rattle.socket_datagram.specs.Offers.{IsOnly}
use Rattle.socket_datagram.specs.declared.icmp.Message.TheVariants as Says
use Rattle.socket_datagram.proofs.OfferLaws.{some_same}
use Rattle.socket_datagram.proofs.UdpPackets.{some_when}

-- what lies after a slot is found again by its length
following_again : (n : ℕ) (bytes : List ℕ) → drop (length bytes - length (drop n bytes)) bytes ≡ drop n bytes
following_again n bytes = elim (cases_lt n (length bytes)) [
  | inl within ↦ ap (λ i. drop i bytes) (let e : length bytes - length (drop n bytes) ≡ n = omega (arith, length-drop n bytes) in e)
  | inr beyond ↦
      let none : drop n bytes ≡ [] = drop_all n bytes (omega arith) in
      drop_all (length bytes - length (drop n bytes)) bytes (omega (arith, ap length none)) ∙ sym none
]

again : (n : ℕ) (bytes payload : List ℕ) → payload ≡ drop n bytes → drop (length bytes - length payload) bytes ≡ payload
again n bytes payload is = subst (λ xs. drop (length bytes - length xs) bytes ≡ xs) (sym is) (following_again n bytes)

-- the data of a message end it
pub payload_v4 : (tested : Bool) (bytes : List ℕ) (v : Icmpv4Header) (payload : List ℕ) → V4.IsIcmpv4 tested bytes v payload →
    drop (length bytes - length payload) bytes ≡ payload
payload_v4 tested bytes (Header.EchoRequest ident seq_no) payload is = again 8 bytes payload is.says.payload_is
payload_v4 tested bytes (Header.EchoReply ident seq_no) payload is = again 8 bytes payload is.says.payload_is
payload_v4 tested bytes (Header.DstUnreachable reason header) payload is =
    again (8 + V4.quoted_len bytes) bytes payload (is.says.1.payload_is ∙ drop-drop (V4.quoted_len bytes) 8 bytes)
payload_v4 tested bytes (Header.TimeExceeded reason header) payload is =
    again (8 + V4.quoted_len bytes) bytes payload (is.says.1.payload_is ∙ drop-drop (V4.quoted_len bytes) 8 bytes)

-- the bytes that a message carries end it
pub carried_v6 : (message : List ℕ) (v : V6.MessageValue) (carried : List ℕ) → carried ≡ V6.carried_in message v →
    drop (length message - length carried) message ≡ carried
carried_v6 message (V6.DstUnreachable reason header) carried is = again 48 message carried is
carried_v6 message (V6.PktTooBig mtu header) carried is = again 48 message carried is
carried_v6 message (V6.TimeExceeded reason header) carried is = again 48 message carried is
carried_v6 message (V6.ParamProblem reason pointer header) carried is = again 48 message carried is
carried_v6 message (V6.EchoRequest ident seq_no) carried is = again 8 message carried is
carried_v6 message (V6.EchoReply ident seq_no) carried is = again 8 message carried is
carried_v6 message (V6.Ndisc neighbor) carried is =
    again (length message) message carried (is ∙ sym (drop_all (length message) message (omega arith)))

-- a header between addresses of a family has the length that was asked for, which fits
between_v4 : (a b : Ipv4Address) (protocol : IpProtocol) (len limit : ℕ) (h : IpRepr) →
    header_between (Address.Ipv4 a) (Address.Ipv4 b) protocol len limit ≡ Some h
    → Ip.Fits h × (Ip.payload_len_of h ≡ len)
between_v4 a b protocol len limit h is =
    let found = some_when (nat_lt (20 + len) (2 ^ 16)) _ h is in
    subst (λ h. Ip.Fits h × (Ip.payload_len_of h ≡ len)) found.1 (ltb-true (20 + len) (2 ^ 16) found.0, refl)

between_v6 : (a b : Ipv6Address) (protocol : IpProtocol) (len limit : ℕ) (h : IpRepr) (v : V6.MessageValue) (carried : List ℕ) → V6.Fits v →
    V6.header_len v + length carried < 2 ^ 32 → header_between (Address.Ipv6 a) (Address.Ipv6 b) protocol len limit ≡ Some h
    → Ip.Fits h × PayloadFits h (Carried.ControlV6 v carried) × (Ip.payload_len_of h ≡ len)
between_v6 a b protocol len limit h v carried fits small is =
    let found = some_when (nat_lt len (2 ^ 16)) _ h is in
    subst (λ h. Ip.Fits h × PayloadFits h (Carried.ControlV6 v carried) × (Ip.payload_len_of h ≡ len)) found.1 (
      ltb-true len (2 ^ 16) found.0,
      (fits, small),
      refl,
    )

-- Of a message that is read in one way there is one packet.
only_v4 : (source remote : Ipv4Address) (bytes : List ℕ) (limit : ℕ) (m : Icmpv4Header) (payload : List ℕ) (h : IpRepr)
    → ((m' : Icmpv4Header) (payload' : List ℕ) → V4.IsIcmpv4 false bytes m' payload' → (m ≡ m') × (payload ≡ payload'))
    → header_between (Address.Ipv4 source) (Address.Ipv4 remote) Protocol.Icmp (V4.header_len m + length payload) limit ≡ Some h
    → (header : IpRepr) (carried : Carried.PayloadValue) →
    IsPacketFrom (Some (Address.Ipv4 source)) (Address.Ipv4 remote) bytes limit (Carried.packet_of header carried)
    → Carried.packet_of header carried ≡ Carried.packet_of h (Carried.ControlV4 m payload)
only_v4 source remote bytes limit m payload h same between header (Carried.ControlV4 m' payload') is =
    let e = same m' payload' is.0 in
    let len : V4.header_len m + length payload ≡ V4.header_len m' + length payload' =
    ap (λ x. V4.header_len x + length payload) e.0 ∙ ap (λ xs. V4.header_len m' + length xs) e.1 in
    let one : header ≡ h = some_same header h (sym is.1 ∙
    sym (ap (λ n. header_between (Address.Ipv4 source) (Address.Ipv4 remote) Protocol.Icmp n limit) len) ∙ between) in
    ap (λ x. Carried.packet_of x (Carried.ControlV4 m' payload')) one ∙
    sym (ap (λ x. Carried.packet_of h (Carried.ControlV4 x payload)) e.0 ∙ ap (λ xs. Carried.packet_of h (Carried.ControlV4 m' xs)) e.1)
only_v4 source remote bytes limit m payload h same between header (Carried.ControlV6 v xs) is = absurd is.0
only_v4 source remote bytes limit m payload h same between header (Carried.Bytes xs) is = absurd is.0
only_v4 source remote bytes limit m payload h same between header (Carried.Datagram v xs) is = absurd is.0
only_v4 source remote bytes limit m payload h same between header (Carried.Segment v xs) is = absurd is.0

only_v6 : (source remote : Ipv6Address) (bytes : List ℕ) (limit : ℕ) (m : V6.MessageValue) (payload : List ℕ) (h : IpRepr)
    → ((m' : V6.MessageValue) → V6.IsIcmpv6 source remote false bytes m' → m ≡ m')
    → payload ≡ V6.carried_in bytes m
    → header_between (Address.Ipv6 source) (Address.Ipv6 remote) Protocol.Icmpv6 (V6.header_len m + length payload) limit ≡ Some h
    → (header : IpRepr) (carried : Carried.PayloadValue) →
    IsPacketFrom (Some (Address.Ipv6 source)) (Address.Ipv6 remote) bytes limit (Carried.packet_of header carried)
    → Carried.packet_of header carried ≡ Carried.packet_of h (Carried.ControlV6 m payload)
only_v6 source remote bytes limit m payload h same payload_is between header (Carried.ControlV6 m' payload') is =
    let e = same m' is.0.1 in
    let p : payload ≡ payload' = payload_is ∙ ap (λ x. V6.carried_in bytes x) e ∙ sym is.0.2 in
    let len : V6.header_len m + length payload ≡ V6.header_len m' + length payload' =
    ap (λ x. V6.header_len x + length payload) e ∙ ap (λ xs. V6.header_len m' + length xs) p in
    let one : header ≡ h = some_same header h (sym is.1 ∙
    sym (ap (λ n. header_between (Address.Ipv6 source) (Address.Ipv6 remote) Protocol.Icmpv6 n limit) len) ∙ between) in
    ap (λ x. Carried.packet_of x (Carried.ControlV6 m' payload')) one ∙
    sym (ap (λ x. Carried.packet_of h (Carried.ControlV6 x payload)) e ∙ ap (λ xs. Carried.packet_of h (Carried.ControlV6 m' xs)) p)
only_v6 source remote bytes limit m payload h same payload_is between header (Carried.ControlV4 v xs) is = absurd is.0
only_v6 source remote bytes limit m payload h same payload_is between header (Carried.Bytes xs) is = absurd is.0
only_v6 source remote bytes limit m payload h same payload_is between header (Carried.Datagram v xs) is = absurd is.0
only_v6 source remote bytes limit m payload h same payload_is between header (Carried.Segment v xs) is = absurd is.0

-- a message that was read is kept with its header
pub keeps_v4 : (source remote : Ipv4Address) (bytes : List ℕ) (limit : ℕ) (m : Icmpv4Header) (payload : List ℕ) (h : IpRepr) → IsBytes bytes →
    V4.IsIcmpv4 false bytes m payload
    → ((m' : Icmpv4Header) (payload' : List ℕ) → V4.IsIcmpv4 false bytes m' payload' → (m ≡ m') × (payload ≡ payload'))
    → header_between (Address.Ipv4 source) (Address.Ipv4 remote) Protocol.Icmp (V4.header_len m + length payload) limit ≡ Some h
    → IsKeptFrom (Some (Address.Ipv4 source)) (Address.Ipv4 remote) bytes limit
    (Some (record { header = h; message = Says.V4 m; start = length bytes - length payload }))
keeps_v4 source remote bytes limit m payload h small is same between =
    let sent = between_v4 source remote Protocol.Icmp (V4.header_len m + length payload) limit h between in
    let fits = (V4Laws.fits false bytes m payload small is).0 in
    let P = λ (xs : List ℕ). IsOnly (IsPacketFrom (Some (Address.Ipv4 source)) (Address.Ipv4 remote) bytes limit)
    (Carried.packet_of h (Carried.ControlV4 m xs)) in
    let whole : P payload = record {
      takes = (is, between);
      only =
          λ other has. only_v4 source remote bytes limit m payload h same between other.header other.payload has;
      sendable =
          record { header = sent.0; payload = fits; len = sent.1 };
    } in
    let at : P (drop (length bytes - length payload) bytes) = subst P (sym (payload_v4 false bytes m payload is)) whole in
    ((omega arith, tt), at)

pub keeps_v6 : (source remote : Ipv6Address) (bytes : List ℕ) (limit : ℕ) (m : Icmpv6Header) (carried : List ℕ) (h : IpRepr) → IsBytes bytes →
    length bytes < 2 ^ 32 → V6.IsIcmpv6 source remote false bytes (V6.value_of m) → carried ≡ V6.carried_in bytes (V6.value_of m)
    → ((m' : V6.MessageValue) → V6.IsIcmpv6 source remote false bytes m' → V6.value_of m ≡ m')
    → header_between (Address.Ipv6 source) (Address.Ipv6 remote) Protocol.Icmpv6 (V6.header_len (V6.value_of m) + length carried) limit ≡ Some h
    → IsKeptFrom (Some (Address.Ipv6 source)) (Address.Ipv6 remote) bytes limit
    (Some (record { header = h; message = Says.V6 m; start = length bytes - length carried }))
keeps_v6 source remote bytes limit m carried h small short is carried_is same between =
    let v = V6.value_of m in
    let no_longer = V6Lengths.no_longer source remote false bytes v is in
    let fits = (V6Laws.fits source remote false bytes v small is).0 in
    let len : length carried ≡ length (V6.carried_in bytes v) = ap length carried_is in
    let sent = between_v6 source remote Protocol.Icmpv6 (V6.header_len v + length carried) limit h v carried fits
    (omega (arith, no_longer, len, short)) between in
    let P = λ (xs : List ℕ). V6.CanCarry v xs ×
    IsOnly (IsPacketFrom (Some (Address.Ipv6 source)) (Address.Ipv6 remote) bytes limit) (Carried.packet_of h (Carried.ControlV6 v xs)) in
    let carries : V6.CanCarry v carried = subst (λ xs. V6.CanCarry v xs) (sym carried_is) (V6Laws.can_carry bytes v) in
    let only = λ (other : PacketValue) (has : IsPacketFrom (Some (Address.Ipv6 source)) (Address.Ipv6 remote) bytes limit other).
    only_v6 source remote bytes limit v carried h same carried_is between other.header other.payload has in
    let whole : P carried = (
      carries,
      record { takes = ((short, is, carried_is), between); only = only; sendable = record { header = sent.0; payload = sent.1; len = sent.2 } },
    ) in
    let at : P (drop (length bytes - length carried) bytes) = subst P (sym (carried_v6 bytes v carried carried_is)) whole in
    ((omega arith, at.0), at.1)
