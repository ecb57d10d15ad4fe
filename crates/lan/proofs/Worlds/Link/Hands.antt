-- What a packet that was sent is read as after its header.
use Rattle.std.proofs.Common.{◌≡◌, ◌⊎◌, inl, inr, ℕ, ◌+◌, Bool, true, false, not, ◌||◌, ◌==◌, List, length, drop, Option, Some, refl, sym, ◌∙◌, ap, subst}
use Rattle.std.proofs.Common.{arith}
use Rattle.std.proofs.lemmas.Bool.Decides.{nat_tests}
use Rattle.tcp_theory.specs.ReceiveMap.{Begins}
use Rattle.tcp_theory.proofs.Lists.{Begins-whole}
use Rattle.interface.specs.Ip as Ips
use Rattle.interface.specs.Ip.{carried_in, source_of, destination_of}
use Rattle.iface_ingress.specs.IpAddress.{IpAddress}
use Rattle.iface_ingress.specs.IpAddress.TheVariants as Address
use Rattle.iface_ingress.specs.IpProtocol.{IpProtocol}
use Rattle.iface_ingress.specs.IpProtocol.TheVariants as Protocol
use Rattle.wire_address.specs.Protocol.{protocol_number, protocol_of}
use Rattle.interface.specs.IpRepr.{IpRepr}
use Rattle.interface.specs.IpRepr.TheVariants as Ip
use Rattle.interface.specs.Ipv4 as Ipv4
use Rattle.wire_address.specs.declared.ipv4.Ipv4FragKey.{Ipv4FragKey}
use Rattle.interface.specs.Ipv4Fragment.{Ipv4Fragment}
use Rattle.interface.specs.Ipv4Repr.{Ipv4Repr}
use Rattle.interface.specs.Ipv6 as Ipv6
use Rattle.interface.specs.Ipv6Repr.{Ipv6Repr}
use Rattle.wire_tcp.specs.Tcp as Tcp
use Rattle.interface.specs.Udp as Udp
use Rattle.iface_ingress.specs.EthernetRepr.{EthernetRepr}
use Rattle.sockets.specs.Packet.{PacketValue, PayloadValue, ControlV4, ControlV6, Bytes, Datagram, Segment}
use Rattle.iface_tables.specs.FragmentList as FragmentList
use Rattle.iface_ingress.specs.Upper.{upper_header, upper_payload, IsBrought}
use Rattle.iface_ingress.specs.Incoming.{IncomingValue, Arp, Ip4, Ip6}
use Rattle.iface_ingress.specs.Processed.{is_known_v6}
use Rattle.iface_ingress.specs.Following.{Following}
use Rattle.iface_ingress.specs.Following.TheVariants as End
use Rattle.iface_ingress.specs.Headers as Headers
use Rattle.iface_ingress.specs.Headers.{go_through, upper_of, upper_bytes_of}
use Rattle.iface_ingress.specs.Reassembled.{FragmentValue, is_fragment, is_fragment_v6, part_following, following_headers}
use Rattle.iface_ingress.specs.Sent.{CanBeRead, normal_payload}
use Rattle.iface_ingress.proofs.FramesArrive.{payload-brought}
use Rattle.iface_ingress.proofs.OneContent.{one-carried-content}
use Rattle.interface.specs.Delivered.{NamesNoPorts}
use Rattle.lan.specs.Worlds.Link.Made.{Makes, sealed, IsWholeV6, CarriesNone, WasMade, HandsMade, BringsMade, bytes_of}
use Rattle.lan.specs.Worlds.Link.Frames.{Outgoing, IsSentV4, IsSentV6, IsDatagramV6, IsFrom, IsOut, AreOut, following_fragment}
use Rattle.iface_tables.specs.declared.key.Ipv6FragKey.{Ipv6FragKey}
use Rattle.lan.proofs.Worlds.Link.Following.{sealed_both}
use Rattle.lan.proofs.Worlds.Link.Fragments.{bare_so, fragment_so}
use Rattle.lan.proofs.Worlds.Link.Whole6.{known_whole}

-- what a header names, written and read
abbrev told : IpProtocol → IpProtocol
told p = protocol_of (protocol_number p)

pub no_part : (h : Ipv6Repr) (x : List ℕ) (following : Following) (p : FragmentValue) → Headers.is_fragment following ≡ false → part_following h x following ≡ Some p → ⊥
no_part h x (End.FragmentPart at) p whole is = absurd cc
no_part h x (End.Upper protocol at) p whole is = absurd cc
no_part h x (End.Problem problem pointer) p whole is = absurd cc
no_part h x End.Nothing p whole is = absurd cc

-- extension headers leave the addresses
source_upper : (ip : IpRepr) (payload : List ℕ) → source_of (upper_header ip payload) ≡ source_of ip
source_upper (Ip.Ipv4 header) payload = refl
source_upper (Ip.Ipv6 header) payload = refl

destination_upper : (ip : IpRepr) (payload : List ℕ) → destination_of (upper_header ip payload) ≡ destination_of ip
destination_upper (Ip.Ipv4 header) payload = refl
destination_upper (Ip.Ipv6 header) payload = refl

module _ (made : Makes) where
  -- PROTOCOLS

  -- after a header that names neither TCP nor UDP there is nothing of them
  pub hands_none : (ip : IpRepr) (payload : List ℕ) → NamesNoPorts (carried_in (upper_header ip payload)) →
      HandsMade made ip payload
  hands_none ip payload none (Datagram udp bytes) is = absurd (none.1 is.protocol)
  hands_none ip payload none (Segment header bytes) is = absurd (none.0 is.protocol)
  hands_none ip payload none (ControlV4 message bytes) is = tt
  hands_none ip payload none (ControlV6 message bytes) is = tt
  hands_none ip payload none (Bytes bytes) is = tt

  -- PACKETS

  was_made : (source destination : IpAddress) (x : PayloadValue) → made source destination x → WasMade made source destination x
  was_made source destination (Datagram udp bytes) was = was
  was_made source destination (Segment header bytes) was = was
  was_made source destination (ControlV4 message bytes) was = tt
  was_made source destination (ControlV6 message bytes) was = tt
  was_made source destination (Bytes bytes) was = tt

  -- the addresses of a header are those of its canonical form
  normal_made : (h : IpRepr) (x : PayloadValue) → made (source_of h) (destination_of h) x →
      WasMade made (source_of (Ips.normal h)) (destination_of (Ips.normal h)) x
  normal_made (Ip.Ipv4 v) x was = was_made (Address.Ipv4 v.src_addr) (Address.Ipv4 v.dst_addr) x was
  normal_made (Ip.Ipv6 v) x was = was_made (Address.Ipv6 v.src_addr) (Address.Ipv6 v.dst_addr) x was

  same_some : {A : Type 0} (x y : A) → Some x ≡ Some y → x ≡ y
  same_some x y same = cc

  hands_by : (p : PacketValue) → IsOut made p → CarriesNone (Ips.normal p.header) (bytes_of p) ⊎
      (CanBeRead p.header p.payload × made (source_of p.header) (destination_of p.header) (normal_payload p.payload)) →
      HandsMade made (Ips.normal p.header) (bytes_of p)
  hands_by p is (inl none) = hands_none (Ips.normal p.header) (bytes_of p) none.0
  hands_by p is (inr reads) = λ x carried.
      let read : IsBrought sealed (Ips.normal p.header) (bytes_of p) (Some (normal_payload p.payload)) =
      payload-brought sealed sealed p.header p.payload (is.going.offered.packet.payload is.fits) reads.0 sealed_both in
      let same : normal_payload p.payload ≡ x =
      same_some (normal_payload p.payload) x
      (one-carried-content sealed (upper_header (Ips.normal p.header) (bytes_of p)) (upper_payload (Ips.normal p.header) (bytes_of p))
      (Some (normal_payload p.payload)) (Some x) read carried) in
      normal_made p.header x (subst (made (source_of p.header) (destination_of p.header)) same reads.1)

  -- what is read after the header of a packet that was sent was made
  pub hands_sent : (p : PacketValue) → IsOut made p → HandsMade made (Ips.normal p.header) (bytes_of p)
  hands_sent p is = hands_by p is is.going.carries

  -- a header that names what is carried stands right before it
  by_name : (protocol : IpProtocol) (v : Ipv6Repr) (bytes : List ℕ) → v.next_header ≡ protocol → is_known_v6 (told protocol) ≡ true →
      IsWholeV6 (Ip.Ipv6 (Ipv6.normal v)) bytes
  by_name protocol v bytes is known = known_whole (Ipv6.normal v) bytes (ap (λ (p : IpProtocol). is_known_v6 (told p)) is ∙ known)

  named_whole : (h : IpRepr) (x : PayloadValue) (bytes : List ℕ) → CanBeRead h x → IsWholeV6 (Ips.normal h) bytes
  named_whole (Ip.Ipv4 v) x bytes can = tt
  named_whole (Ip.Ipv6 v) (ControlV4 message carried) bytes can = absurd can.2
  named_whole (Ip.Ipv6 v) (ControlV6 message carried) bytes can = by_name Protocol.Icmpv6 v bytes can.0 refl
  named_whole (Ip.Ipv6 v) (Bytes carried) bytes can = absurd can
  named_whole (Ip.Ipv6 v) (Datagram udp carried) bytes can = by_name Protocol.Udp v bytes can.0 refl
  named_whole (Ip.Ipv6 v) (Segment header carried) bytes can = by_name Protocol.Tcp v bytes can.0 refl

  whole_by : (p : PacketValue) → CarriesNone (Ips.normal p.header) (bytes_of p) ⊎ (CanBeRead p.header p.payload ×
      made (source_of p.header) (destination_of p.header) (normal_payload p.payload)) → IsWholeV6 (Ips.normal p.header) (bytes_of p)
  whole_by p (inl none) = none.1
  whole_by p (inr reads) = named_whole p.header p.payload (bytes_of p) reads.0

  -- no packet of IPv6 that was sent is a fragment
  pub whole_sent : (out : List Outgoing) (v : Ipv6Repr) (bytes : List ℕ) → AreOut made out → IsSentV6 out v bytes → is_fragment_v6 (Ipv6.normal v) bytes ≡ false
  whole_sent out v bytes all sent =
      let of_packet : IsWholeV6 (Ips.normal sent.packet.header) (bytes_of sent.packet) = whole_by sent.packet (all sent.packet sent.among).going.carries in
      let of_header : IsWholeV6 (Ip.Ipv6 (Ipv6.normal v)) (bytes_of sent.packet) =
      subst (λ (ip : IpRepr). IsWholeV6 (Ips.normal ip) (bytes_of sent.packet)) sent.header of_packet in
      subst (λ (b : List ℕ). IsWholeV6 (Ip.Ipv6 (Ipv6.normal v)) b) (sym sent.bytes_are) of_header

  -- HEADERS

  -- two packets whose upper-layer bytes, protocol and addresses are the same bring the same of TCP and UDP
  module _ (ip ip' : IpRepr) (payload payload' : List ℕ) (source_same : source_of (upper_header ip payload) ≡ source_of (upper_header ip' payload'))
      (destination_same : destination_of (upper_header ip payload) ≡ destination_of (upper_header ip' payload'))
      (protocol_same : carried_in (upper_header ip payload) ≡ carried_in (upper_header ip' payload'))
      (bytes_same : upper_payload ip payload ≡ upper_payload ip' payload') where
    abbrev bytes_there : List ℕ
    bytes_there = upper_payload ip' payload'

    -- so they are between the same addresses
    between_same : (x : PayloadValue) → WasMade made (source_of ip') (destination_of ip') x → WasMade made (source_of ip) (destination_of ip) x
    between_same x was =
        let source : source_of ip' ≡ source_of ip = sym (source_upper ip' payload') ∙ sym source_same ∙ source_upper ip payload in
        let destination : destination_of ip' ≡ destination_of ip =
        sym (destination_upper ip' payload') ∙ sym destination_same ∙ destination_upper ip payload in
        subst (λ (a : IpAddress). WasMade made a (destination_of ip) x) source
        (subst (λ (a : IpAddress). WasMade made (source_of ip') a x) destination was)

    pub hands_by_upper : HandsMade made ip' payload' → HandsMade made ip payload
    hands_by_upper hands (Datagram udp bytes) is = between_same (Datagram udp bytes) (hands (Datagram udp bytes) (record {
      protocol = sym protocol_same ∙ is.protocol;
      format = subst (λ (a : IpAddress). Udp.IsUdp a (destination_of (upper_header ip' payload')) true bytes_there udp) source_same
          (subst (λ (a : IpAddress). Udp.IsUdp (source_of (upper_header ip payload)) a true bytes_there udp) destination_same
          (subst (λ (b : List ℕ). Udp.IsUdp (source_of (upper_header ip payload)) (destination_of (upper_header ip payload)) true b udp) bytes_same is.format));
      bytes_are = is.bytes_are ∙ ap Udp.payload_of bytes_same;
    }))
    hands_by_upper hands (Segment header bytes) is = between_same (Segment header bytes) (hands (Segment header bytes) (record {
      protocol = sym protocol_same ∙ is.protocol;
      format = subst (λ (a : IpAddress). Tcp.IsTcp a (destination_of (upper_header ip' payload')) true bytes_there header) source_same
          (subst (λ (a : IpAddress). Tcp.IsTcp (source_of (upper_header ip payload)) a true bytes_there header) destination_same
          (subst (λ (b : List ℕ). Tcp.IsTcp (source_of (upper_header ip payload)) (destination_of (upper_header ip payload)) true b header) bytes_same
          is.format));
      bytes_are = is.bytes_are ∙ ap Tcp.payload_of bytes_same;
    }))
    hands_by_upper hands (ControlV4 message bytes) is = tt
    hands_by_upper hands (ControlV6 message bytes) is = tt
    hands_by_upper hands (Bytes bytes) is = tt

  -- after two headers of one key the same is read of TCP and UDP
  hands_by_key : (h h' : Ipv4Repr) (payload : List ℕ) → Ipv4.key_of h ≡ Ipv4.key_of h' → HandsMade made (Ip.Ipv4 h') payload → HandsMade made (Ip.Ipv4 h) payload
  hands_by_key h h' payload same =
      hands_by_upper (Ip.Ipv4 h) (Ip.Ipv4 h') payload payload (ap (λ (k : Ipv4FragKey). Address.Ipv4 k.src_addr) same)
      (ap (λ (k : Ipv4FragKey). Address.Ipv4 k.dst_addr) same) (ap (λ (k : Ipv4FragKey). k.protocol) same) refl

  -- what a host sent as IPv4, after a header of its key
  pub hands_v4 : (out : List Outgoing) (v h : Ipv4Repr) (bytes : List ℕ) → AreOut made out → IsSentV4 out v bytes →
      Ipv4.key_of h ≡ Ipv4.key_of (Ipv4.normal v) → HandsMade made (Ip.Ipv4 h) bytes
  hands_v4 out v h bytes all sent same =
      let of_packet : HandsMade made (Ips.normal sent.packet.header) (bytes_of sent.packet) = hands_sent sent.packet (all sent.packet sent.among) in
      let of_header : HandsMade made (Ip.Ipv4 (Ipv4.normal v)) (bytes_of sent.packet) =
      subst (λ (ip : IpRepr). HandsMade made (Ips.normal ip) (bytes_of sent.packet)) sent.header of_packet in
      hands_by_key h (Ipv4.normal v) bytes same (subst (λ (b : List ℕ). HandsMade made (Ip.Ipv4 (Ipv4.normal v)) b) (sym sent.bytes_are) of_header)

  -- what a host cut of IPv6, whole after a fragment header, and after a header with its addresses that names that header
  pub hands_v6 : (out : List Outgoing) (key : Ipv6FragKey) (h : Ipv6Repr) (bytes : List ℕ) → AreOut made out → IsDatagramV6 out key bytes →
      h.next_header ≡ Protocol.Ipv6Frag → key.src_addr ≡ h.src_addr → key.dst_addr ≡ h.dst_addr → HandsMade made (Ip.Ipv6 h) bytes
  hands_v6 out key h bytes all of named source destination =
      let v : Ipv6Repr = of.header in
      let whole : List ℕ = following_fragment v.next_header key.id of.payload in
      let sent : IsSentV6 out v of.payload = of.cut.sent in
      let of_packet : HandsMade made (Ips.normal sent.packet.header) (bytes_of sent.packet) = hands_sent sent.packet (all sent.packet sent.among) in
      let of_header : HandsMade made (Ip.Ipv6 (Ipv6.normal v)) (bytes_of sent.packet) =
      subst (λ (ip : IpRepr). HandsMade made (Ips.normal ip) (bytes_of sent.packet)) sent.header of_packet in
      let of_payload : HandsMade made (Ip.Ipv6 (Ipv6.normal v)) of.payload =
      subst (λ (b : List ℕ). HandsMade made (Ip.Ipv6 (Ipv6.normal v)) b) (sym sent.bytes_are) of_header in
      let bare = bare_so (Ipv6.normal v).next_header of.payload of.cut.bare in
      let following = fragment_so v.next_header key.id of.payload of.cut.bare in
      let walk : go_through h.next_header whole ≡ go_through Protocol.Ipv6Frag whole = ap (λ (p : IpProtocol). go_through p whole) named in
      let protocol : upper_of (go_through h.next_header whole) ≡ upper_of (go_through (Ipv6.normal v).next_header of.payload) =
      ap upper_of walk ∙ following.upper ∙ sym bare.upper in
      let same : upper_bytes_of whole (go_through h.next_header whole) ≡ upper_bytes_of of.payload (go_through (Ipv6.normal v).next_header of.payload) =
      ap (upper_bytes_of whole) walk ∙ following.bytes_are ∙ sym bare.bytes_are in
      let of_whole : HandsMade made (Ip.Ipv6 h) whole =
      hands_by_upper (Ip.Ipv6 h) (Ip.Ipv6 (Ipv6.normal v)) whole of.payload (ap Address.Ipv6 (sym source ∙ of.source))
      (ap Address.Ipv6 (sym destination ∙ of.destination)) protocol same of_payload in
      subst (λ (b : List ℕ). HandsMade made (Ip.Ipv6 h) b) (sym of.bytes_are) of_whole

  -- WHOLE

  first_none : (more other : Bool) → more || other ≡ false → more ≡ false
  first_none false other none = refl
  first_none true other none = cc

  second_none : (more other : Bool) → more || not other ≡ false → other ≡ true
  second_none false true none = refl
  second_none false false none = cc
  second_none true other none = cc

  -- a slice that is no fragment is the whole
  all_of_it : (bytes payload : List ℕ) (fragment : Ipv4Fragment) → is_fragment fragment ≡ false →
      FragmentList.IsSliceOf bytes (record { offset = fragment.offset; more = fragment.more; bytes = payload }) → payload ≡ bytes
  all_of_it bytes payload fragment none slice =
      let more : fragment.more ≡ false = first_none fragment.more (not (fragment.offset == 0)) none in
      let first : fragment.offset == 0 ≡ true = second_none fragment.more (fragment.offset == 0) none in
      let zero : fragment.offset ≡ 0 = grind (arith, nat_tests, first) in
      let count : fragment.offset + length payload ≡ length bytes = slice.last more in
      Begins-whole payload bytes (subst (λ (n : ℕ). Begins payload (drop n bytes)) zero slice.slice) (omega (arith, count, zero))

  -- a content that is no fragment brings what was made
  pub brings_whole : (out : List Outgoing) (v : IncomingValue) → AreOut made out → IsFrom made out v →
      ((link : Option EthernetRepr) (h : Ipv4Repr) (p : Ipv4Fragment) (x : List ℕ) → v ≡ Ip4 link h p x → is_fragment p ≡ false)
      → ((link : Option EthernetRepr) (h : Ipv6Repr) (x : List ℕ) → v ≡ Ip6 link h x → is_fragment_v6 h x ≡ false) → BringsMade made (Some v)
  brings_whole out (Arp link packet) all from whole whole6 = tt
  brings_whole out (Ip4 link h p x) all (inl made_whole) whole whole6 = made_whole.1
  brings_whole out (Ip4 link h p x) all (inr fragment) whole whole6 =
      let none = whole link h p x refl in
      subst (λ (b : List ℕ). HandsMade made (Ip.Ipv4 h) b) (sym (all_of_it fragment.bytes x p none fragment.slice))
      (hands_v4 out fragment.sent.header h fragment.bytes all fragment.sent.sent fragment.sent.key_is)
  brings_whole out (Ip6 link h x) all (inl made_whole) whole whole6 = made_whole.1
  brings_whole out (Ip6 link h x) all (inr fragment) whole whole6 =
      absurd (no_part h x (following_headers h x) fragment.part (whole6 link h x refl) fragment.part_is)
