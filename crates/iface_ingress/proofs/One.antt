-- Bytes are a header of each format, or a message, with one value at most.
use Rattle.std.proofs.Common.{◌≡◌, ℕ, ◌-◌, ◌==◌, Bool, List, drop, if◌then◌else◌, refl, sym, ap, ◌∙◌, subst}
use Rattle.std.specs.Prelude.{slice_index, slice_range}
use Rattle.ip_wire.specs.Arp as Arps
use Rattle.ip_wire.specs.declared.arp.kinds.ArpOperation.{ArpOperation}
use Rattle.ip_wire.specs.declared.arp.repr.ArpRepr.{ArpRepr}
use Rattle.ip_wire.specs.declared.arp.repr.ArpRepr.TheVariants as Arp
use Rattle.ip_wire.specs.Ethernet as Ethernet
use Rattle.ip_wire.specs.EthernetProtocol.{EthernetProtocol}
use Rattle.ip_wire.specs.declared.ethernet.repr.EthernetRepr.{EthernetRepr}
use Rattle.ip_wire.specs.Fields.{be16}
use Rattle.ip_wire.specs.IpAddress.{IpAddress}
use Rattle.ip_wire.specs.IpProtocol.{IpProtocol}
use Rattle.ip_wire.specs.Protocol.{protocol_of}
use Rattle.ip_wire.specs.Ipv4 as Ipv4
use Rattle.ip_wire.specs.Ipv4Repr.{Ipv4Repr}
use Rattle.ip_wire.specs.Ipv6 as Ipv6
use Rattle.ip_wire.specs.Ipv6Repr.{Ipv6Repr}
use Rattle.ip_wire.specs.Parts.{has_flag}
use Rattle.ip_wire.specs.Udp as Udp
use Rattle.ip_wire.specs.UdpRepr.{UdpRepr}
use Rattle.wire_ip.proofs.Ipv4Laws as V4
use Rattle.wire_ip.proofs.Ipv6Laws as V6
use Rattle.wire_icmpv4.specs.Icmpv4 as Icmpv4
use Rattle.wire_icmpv4.specs.Icmpv4Codes.{unreachable_of, exceeded_of}
use Rattle.wire_icmpv4.specs.declared.header.Icmpv4Header.{Icmpv4Header}
use Rattle.wire_icmpv4.specs.declared.header.Icmpv4Header.TheVariants as Header

-- LINK HEADERS AND ARP PACKETS

abbrev link : List ℕ → List ℕ → EthernetProtocol → EthernetRepr
link source destination carried = record { src_addr = record { 0 = source }; dst_addr = record { 0 = destination }; ethertype = carried }

same-link : (s s' d d' : List ℕ) (p p' : EthernetProtocol) → s ≡ s' → d ≡ d' → p ≡ p' → link s d p ≡ link s' d' p'
same-link s s' d d' p p' source destination carried = rw (source, destination, carried) refl

pub one-link : (frame : List ℕ) (v w : EthernetRepr) → Ethernet.IsEthernet frame v → Ethernet.IsEthernet frame w → v ≡ w
one-link frame v w one other = same-link _ _ _ _ _ _ (one.source ∙ sym other.source) (one.destination ∙ sym other.destination) (one.carried ∙ sym other.carried)

abbrev arp : ArpOperation → List ℕ → List ℕ → List ℕ → List ℕ → ArpRepr
arp operation sender source target destination =
    Arp.EthernetIpv4 operation (record { 0 = sender }) (record { 0 = source }) (record { 0 = target }) (record { 0 = destination })

same-arp : (o o' : ArpOperation) (a a' b b' c c' d d' : List ℕ) → o ≡ o' → a ≡ a' → b ≡ b' → c ≡ c' → d ≡ d' → arp o a b c d ≡ arp o' a' b' c' d'
same-arp o o' a a' b b' c c' d d' operation sender source target destination = rw (operation, sender, source, target, destination) refl

pub one-arp : (bytes : List ℕ) (v w : ArpRepr) → Arps.IsArp bytes v → Arps.IsArp bytes w → v ≡ w
one-arp bytes (Arp.EthernetIpv4 o a b c d) (Arp.EthernetIpv4 o' a' b' c' d') one other =
    same-arp _ _ _ _ _ _ _ _ _ _ (one.operation_is ∙ sym other.operation_is) (one.source_hardware_is ∙ sym other.source_hardware_is) (one.source_protocol_is ∙
    sym other.source_protocol_is)
    (one.target_hardware_is ∙ sym other.target_hardware_is) (one.target_protocol_is ∙ sym other.target_protocol_is)

-- IP HEADERS

abbrev v4 : List ℕ → List ℕ → IpProtocol → ℕ → ℕ → ℕ → Bool → Ipv4Repr
v4 source destination protocol len hop_limit id dont =
    record {
      src_addr = record { 0 = source };
      dst_addr = record { 0 = destination };
      next_header = protocol;
      payload_len = len;
      hop_limit = hop_limit;
      ident =
          id;
      dont_frag = dont;
    }

same-v4 :
    (s s' d d' : List ℕ) (p p' : IpProtocol) (n n' h h' i i' : ℕ) (f f' : Bool) → s ≡ s' → d ≡ d' → p ≡ p' → n ≡ n' → h ≡ h' → i ≡ i' → f ≡ f' →
    v4 s d p n h i f ≡ v4 s' d' p' n' h' i' f'
same-v4 s s' d d' p p' n n' h h' i i' f f' source destination protocol len hop_limit identification dont_frag =
    rw (source, destination, protocol, len, hop_limit, identification, dont_frag) refl

-- the header that the bytes quote
abbrev pub read_v4 : List ℕ → Ipv4Repr
read_v4 bytes =
    v4 (slice_range bytes 12 16) (slice_range bytes 16 20) (protocol_of (slice_index bytes 9)) (be16 bytes 2 - Ipv4.header_len_of bytes) (slice_index bytes 8)
    (be16 bytes 4) (has_flag (slice_index bytes 6) 64)

pub told-v4 : (bytes : List ℕ) (v : Ipv4Repr) (n : ℕ) → Ipv4.IsQuoted bytes v n → v ≡ read_v4 bytes
told-v4 bytes v n is =
    same-v4 _ _ _ _ _ _ _ _ _ _ _ _ _ _ is.source is.destination is.protocol (is.payload ∙ ap (λ k. be16 bytes 2 - k) is.header) is.hop_limit is.identification
    is.dont_frag

pub one-v4 : (tested : Bool) (bytes : List ℕ) (v w : Ipv4Repr) → Ipv4.IsIpv4 tested bytes v → Ipv4.IsIpv4 tested bytes w → v ≡ w
one-v4 tested bytes v w one other =
    told-v4 bytes v (Ipv4.header_len_of bytes) (V4.IsQuoted-whole tested bytes v one) ∙
    sym (told-v4 bytes w (Ipv4.header_len_of bytes) (V4.IsQuoted-whole tested bytes w other))

abbrev v6 : List ℕ → List ℕ → IpProtocol → ℕ → ℕ → Ipv6Repr
v6 source destination protocol len hop_limit =
    record { src_addr = record { 0 = source }; dst_addr = record { 0 = destination }; next_header = protocol; payload_len = len; hop_limit = hop_limit }

same-v6 : (s s' d d' : List ℕ) (p p' : IpProtocol) (n n' h h' : ℕ) → s ≡ s' → d ≡ d' → p ≡ p' → n ≡ n' → h ≡ h' → v6 s d p n h ≡ v6 s' d' p' n' h'
same-v6 s s' d d' p p' n n' h h' source destination protocol len hop_limit = rw (source, destination, protocol, len, hop_limit) refl

abbrev pub read_v6 : List ℕ → Ipv6Repr
read_v6 bytes = v6 (slice_range bytes 8 24) (slice_range bytes 24 40) (protocol_of (slice_index bytes 6)) (be16 bytes 4) (slice_index bytes 7)

pub told-v6 : (bytes : List ℕ) (v : Ipv6Repr) (n : ℕ) → Ipv6.IsQuoted bytes v n → v ≡ read_v6 bytes
told-v6 bytes v n is = same-v6 _ _ _ _ _ _ _ _ _ _ is.source is.destination is.protocol is.payload is.hop_limit

pub one-v6 : (bytes : List ℕ) (v w : Ipv6Repr) → Ipv6.IsIpv6 bytes v → Ipv6.IsIpv6 bytes w → v ≡ w
one-v6 bytes v w one other = told-v6 bytes v 40 (V6.IsQuoted-whole bytes v one) ∙ sym (told-v6 bytes w 40 (V6.IsQuoted-whole bytes w other))

-- USER DATAGRAMS

same-udp : (s s' d d' : ℕ) → s ≡ s' → d ≡ d' → record { src_port = s; dst_port = d } ≡ (let v : UdpRepr = record { src_port = s'; dst_port = d' } in v)
same-udp s s' d d' source destination = rw (source, destination) refl

pub one-udp : (source destination : IpAddress) (tested : Bool) (bytes : List ℕ) (v w : UdpRepr) → Udp.IsUdp source destination tested bytes v →
    Udp.IsUdp source destination tested bytes w → v ≡ w
one-udp source destination tested bytes v w one other =
    same-udp _ _ _ _ (one.source_port ∙ sym other.source_port) (one.destination_port ∙ sym other.destination_port)

-- CONTROL MESSAGES OF IPV4

-- what a message of this type says, and its data
abbrev said : ℕ → List ℕ → Icmpv4Header
said kind bytes =
    if kind == 8 then Header.EchoRequest (be16 bytes 4) (be16 bytes 6)
    else if kind == 0 then Header.EchoReply (be16 bytes 4) (be16 bytes 6)
    else if kind == 3 then Header.DstUnreachable (unreachable_of (slice_index bytes 1)) (read_v4 (Icmpv4.following bytes))
    else Header.TimeExceeded (exceeded_of (slice_index bytes 1)) (read_v4 (Icmpv4.following bytes))

abbrev data_of : ℕ → List ℕ → List ℕ
data_of kind bytes =
    if kind == 8 then Icmpv4.following bytes
    else if kind == 0 then Icmpv4.following bytes
    else drop (Icmpv4.quoted_len bytes) (Icmpv4.following bytes)

abbrev Told : List ℕ → Icmpv4Header → List ℕ → ℕ → Type 0
Told bytes v payload kind = (v ≡ said kind bytes) × (payload ≡ data_of kind bytes)

told : (bytes : List ℕ) (v : Icmpv4Header) (payload : List ℕ) → Icmpv4.Says bytes v payload → Told bytes v payload (slice_index bytes 0)
told bytes (Header.EchoRequest ident seq_no) payload says =
    let e : Header.EchoRequest ident seq_no ≡ Header.EchoRequest (be16 bytes 4) (be16 bytes 6) = ap (λ n. Header.EchoRequest n seq_no) says.identifier ∙
    ap (λ n. Header.EchoRequest (be16 bytes 4) n) says.sequence in
    subst (Told bytes (Header.EchoRequest ident seq_no) payload) (sym says.kind_is) (e, says.payload_is)
told bytes (Header.EchoReply ident seq_no) payload says =
    let e : Header.EchoReply ident seq_no ≡ Header.EchoReply (be16 bytes 4) (be16 bytes 6) = ap (λ n. Header.EchoReply n seq_no) says.identifier ∙
    ap (λ n. Header.EchoReply (be16 bytes 4) n) says.sequence in
    subst (Told bytes (Header.EchoReply ident seq_no) payload) (sym says.kind_is) (e, says.payload_is)
told bytes (Header.DstUnreachable reason header) payload says =
    let quoted : header ≡ read_v4 (Icmpv4.following bytes) = told-v4 (Icmpv4.following bytes) header (Icmpv4.quoted_len bytes) says.1.quoted in
    let e : Header.DstUnreachable reason header ≡ Header.DstUnreachable (unreachable_of (slice_index bytes 1)) (read_v4 (Icmpv4.following bytes)) =
    ap (λ r. Header.DstUnreachable r header) says.0 ∙ ap (λ h. Header.DstUnreachable (unreachable_of (slice_index bytes 1)) h) quoted
    in
    subst (Told bytes (Header.DstUnreachable reason header) payload) (sym says.1.kind_is) (e, says.1.payload_is)
told bytes (Header.TimeExceeded reason header) payload says =
    let quoted : header ≡ read_v4 (Icmpv4.following bytes) = told-v4 (Icmpv4.following bytes) header (Icmpv4.quoted_len bytes) says.1.quoted in
    let e : Header.TimeExceeded reason header ≡ Header.TimeExceeded (exceeded_of (slice_index bytes 1)) (read_v4 (Icmpv4.following bytes)) =
    ap (λ r. Header.TimeExceeded r header) says.0 ∙ ap (λ h. Header.TimeExceeded (exceeded_of (slice_index bytes 1)) h) quoted
    in
    subst (Told bytes (Header.TimeExceeded reason header) payload) (sym says.1.kind_is) (e, says.1.payload_is)

pub one-icmpv4 : (tested : Bool) (bytes : List ℕ) (v w : Icmpv4Header) (x y : List ℕ) → Icmpv4.IsIcmpv4 tested bytes v x → Icmpv4.IsIcmpv4 tested bytes w y →
    (v ≡ w) × (x ≡ y)
one-icmpv4 tested bytes v w x y one other =
    let a = told bytes v x one.says in
    let b = told bytes w y other.says in
    (a.0 ∙ sym b.0, a.1 ∙ sym b.1)
