-- Frames on Ethernet that are no requests: each but a question's, by its EtherType, and by what stands after that.
use Rattle.std.proofs.Common.{◌≡◌, ℕ, ◌+◌, Bool, true, false, List, ◌++◌, length, slice_index, Option, refl, sym, ◌∙◌, ap, arith, length-append, append_assoc}
use Rattle.std.specs.Int.{w16, to_be_bytes}
use Rattle.wire_address.specs.Protocol.{ether_number}
use Rattle.iface_egress.specs.Arp as Arps
use Rattle.iface_egress.specs.Departure.{link_header, arp_frame, packet_frame, packet_frame_len, fragment_frame, fragment_frame_len, fragment_v6}
use Rattle.iface_egress.specs.Departure.{fragment_header}
use Rattle.iface_egress.specs.declared.frame.CutHeader.{CutHeader}
use Rattle.iface_egress.specs.declared.frame.CutHeader.TheVariants as Cut
use Rattle.iface_egress.specs.IsTransmitted.{numbered_header}
use Rattle.iface_ingress.specs.ArpRepr.{ArpRepr}
use Rattle.iface_ingress.specs.ArpRepr.TheVariants as Arp
use Rattle.iface_ingress.specs.EthernetAddress.{EthernetAddress}
use Rattle.iface_ingress.specs.EthernetProtocol.{EthernetProtocol}
use Rattle.iface_ingress.specs.EthernetProtocol.TheVariants as Ether
use Rattle.iface_ingress.specs.Fields.{be16}
use Rattle.iface_ingress.specs.HardwareAddress.{HardwareAddress}
use Rattle.iface_ingress.specs.HardwareAddress.TheVariants as Hardware
use Rattle.iface_ingress.specs.IpAddress.{IpAddress}
use Rattle.interface.specs.Serve.{with_source}
use Rattle.interface.specs.IpRepr.{IpRepr}
use Rattle.interface.specs.IpRepr.TheVariants as Ip
use Rattle.interface.specs.Ipv4 as Ipv4
use Rattle.interface.specs.Ipv4Repr.{Ipv4Repr}
use Rattle.interface.specs.Ipv6 as Ipv6
use Rattle.interface.specs.Ipv6Repr.{Ipv6Repr}
use Rattle.interface.specs.Delivered.{IsCutValue, IsWritable}
use Rattle.interface.proofs.Arrives.{length-written}
use Rattle.iface_tables.specs.Inner.{InnerValue}
use Rattle.iface_tables.specs.FragmentList as FragmentList
use Rattle.lan.specs.Worlds.AtLink.ArpOperation.TheVariants as Operation
use Rattle.sockets.specs.Packet.{PacketValue, PayloadValue, packet_of, payload_len, payload_written}
use Rattle.lan.specs.Worlds.Link.Made.{sealed, bytes_of}
use Rattle.lan.specs.Worlds.Link.Sides.{IsNode, IsBetweenNodes}
use Rattle.lan.proofs.Worlds.Link.Following.{with_len}
use Rattle.lan.proofs.Worlds.Link.Links.{number_following, addresses}
use Rattle.lan.proofs.Worlds.Link.Spelled.{length_v4, length_v6}

-- What is known of a test of frames: no answer in ARP passes, no frame of IPv4, none of an IPv6 packet that may go, from whatever source,
-- and none that names a fragment header after that of IPv6.
pub record IsTest (T : List ℕ → Bool) (May : IpRepr → PayloadValue → Type 0) : Type 0 where
  pub told : (link rest : List ℕ) → length link ≡ 14 → be16 (link ++ rest) 12 ≡ 0x0806 → be16 rest 6 ≡ 2 → T (link ++ rest) ≡ false
  pub four : (link rest : List ℕ) → be16 (link ++ rest) 12 ≡ 0x0800 → T (link ++ rest) ≡ false
  pub six : (link : List ℕ) (v : Ipv6Repr) (x : PayloadValue) → length link ≡ 14
      → be16 (link ++ (Ipv6.written v ++ payload_written sealed (Ip.Ipv6 v) x)) 12 ≡ 0x86dd → Ipv6.IsValue v → May (Ip.Ipv6 v) x
      → T (link ++ (Ipv6.written v ++ payload_written sealed (Ip.Ipv6 v) x)) ≡ false
  pub part : (link rest : List ℕ) → length link ≡ 14 → be16 (link ++ rest) 12 ≡ 0x86dd → slice_index rest 6 ≡ 44 → T (link ++ rest) ≡ false
  pub sourced : (h : IpRepr) (s : Option IpAddress) (x : PayloadValue) → May h x → May (with_source h s) x

-- an answer in ARP
abbrev pub IsReply : ArpRepr → Type 0
IsReply (Arp.EthernetIpv4 operation source source_protocol target target_protocol) = operation ≡ Operation.Reply

-- THE LINK HEADER

front : (link w bytes : List ℕ) (l n m : ℕ) → length (link ++ (w ++ bytes)) ≡ l + (n + m) → length w ≡ n → length bytes ≡ m → length link ≡ l
front link w bytes l n m all header rest = omega (arith, all, header, rest, length-append link (w ++ bytes), length-append w bytes)

-- the EtherType stands after two addresses of twelve bytes
pub ether_following : (own to : EthernetAddress) (p : EthernetProtocol) (rest : List ℕ) → length to.0 + length own.0 ≡ 12 →
    be16 (link_header (Hardware.Ethernet own) (Hardware.Ethernet to) p ++ rest) 12 ≡ be16 (to_be_bytes w16 (ether_number p) ++ rest) 0
ether_following own to p rest count =
    let tail : List ℕ = to_be_bytes w16 (ether_number p) in
    let joined : (to.0 ++ (own.0 ++ tail)) ++ rest ≡ to.0 ++ (own.0 ++ (tail ++ rest)) =
    append_assoc to.0 (own.0 ++ tail) rest ∙ ap (λ (l : List ℕ). to.0 ++ l) (append_assoc own.0 tail rest) in
    ap (λ (l : List ℕ). be16 l 12) joined ∙ number_following to.0 own.0 (tail ++ rest) count

module _ (T : List ℕ → Bool) (May : IpRepr → PayloadValue → Type 0) (test : IsTest T May) where
  -- ARP

  arp_tail : List ℕ
  arp_tail = to_be_bytes w16 (ether_number Ether.Arp)

  pub told_quiet : (packet : ArpRepr) → IsBetweenNodes packet → IsReply packet → T (arp_frame packet) ≡ false
  told_quiet (Arp.EthernetIpv4 operation source source_protocol target target_protocol) between reply =
      let rest : List ℕ = Arps.written (Arp.EthernetIpv4 operation source source_protocol target target_protocol) in
      let link : List ℕ = link_header (Hardware.Ethernet source) (Hardware.Ethernet target) Ether.Arp in
      let tail : List ℕ = to_be_bytes w16 (ether_number Ether.Arp) in
      let count : length target.0 + length source.0 ≡ 12 = omega (arith, between.0, between.1) in
      let len : length link ≡ 14 = omega (arith, count, length-append target.0 (source.0 ++ tail), length-append source.0 tail) in
      test.told link rest len (ether_following source target Ether.Arp rest count) (rw reply refl)

  -- PACKETS

  module _ (own to : EthernetAddress) where
    abbrev from : HardwareAddress
    from = Hardware.Ethernet own

    abbrev at : HardwareAddress
    at = Hardware.Ethernet to

    sent_len : (p : PacketValue) → IsWritable p → length (bytes_of p) ≡ payload_len p.payload
    sent_len p w = sym (length-written sealed p w) ∙ w.sendable.len

    whole4 : (v : Ipv4Repr) (x : PayloadValue) → IsWritable (packet_of (Ip.Ipv4 v) x) →
        length (packet_frame sealed from at (packet_of (Ip.Ipv4 v) x)) ≡ packet_frame_len from at (packet_of (Ip.Ipv4 v) x)
        → T (packet_frame sealed from at (packet_of (Ip.Ipv4 v) x)) ≡ false
    whole4 v x w len =
        let p : PacketValue = packet_of (Ip.Ipv4 v) x in
        let link : List ℕ = link_header from at Ether.Ipv4 in
        let rest : List ℕ = Ipv4.written true v ++ bytes_of p in
        let long : length link ≡ 14 =
        front link (Ipv4.written true v) (bytes_of p) 14 20 (payload_len x) len (length_v4 v 0 false w.header) (sent_len p w) in
        test.four link rest (ether_following own to Ether.Ipv4 rest (addresses own to Ether.Ipv4 long))

    whole6 : (v : Ipv6Repr) (x : PayloadValue) → IsWritable (packet_of (Ip.Ipv6 v) x) →
        length (packet_frame sealed from at (packet_of (Ip.Ipv6 v) x)) ≡ packet_frame_len from at (packet_of (Ip.Ipv6 v) x)
        → May (Ip.Ipv6 v) x → T (packet_frame sealed from at (packet_of (Ip.Ipv6 v) x)) ≡ false
    whole6 v x w len may =
        let p : PacketValue = packet_of (Ip.Ipv6 v) x in
        let link : List ℕ = link_header from at Ether.Ipv6 in
        let rest : List ℕ = Ipv6.written v ++ bytes_of p in
        let long : length link ≡ 14 =
        front link (Ipv6.written v) (bytes_of p) 14 40 (payload_len x) len (length_v6 v w.header) (sent_len p w) in
        test.six link v x long (ether_following own to Ether.Ipv6 rest (addresses own to Ether.Ipv6 long)) w.header may

    whole_by : (i : InnerValue) (h : IpRepr) (x : PayloadValue) → IsWritable (packet_of (numbered_header i h) x) →
        length (packet_frame sealed from at (packet_of (numbered_header i h) x)) ≡ packet_frame_len from at (packet_of (numbered_header i h) x)
        → May h x → T (packet_frame sealed from at (packet_of (numbered_header i h) x)) ≡ false
    whole_by i (Ip.Ipv4 v) x w len may = whole4 _ x w len
    whole_by i (Ip.Ipv6 v) x w len may = whole6 v x w len may

    fragment_by : (header : CutHeader) (p : FragmentList.FragmentPart) → IsCutValue header →
        length (fragment_frame sealed from at header p) ≡ fragment_frame_len from at header p → T (fragment_frame sealed from at header p) ≡ false
    fragment_by (Cut.Ipv4 header) p value len =
        let w : List ℕ = Ipv4.written_fragment true (with_len header (length p.bytes)) p.offset p.more in
        let link : List ℕ = link_header from at Ether.Ipv4 in
        let twenty : length w ≡ 20 =
        length_v4 (with_len header (length p.bytes)) p.offset p.more
        (record {
          source = value.source;
          destination = value.destination;
          identification = value.identification;
          protocol = value.protocol;
          hop_limit = value.hop_limit;
        }) in
        let long : length link ≡ 14 = front link w p.bytes 14 20 (length p.bytes) len twenty refl in
        test.four link (w ++ p.bytes) (ether_following own to Ether.Ipv4 (w ++ p.bytes) (addresses own to Ether.Ipv4 long))
    fragment_by (Cut.Ipv6 header number) p value len =
        let w : List ℕ = Ipv6.written (fragment_v6 header p) in
        let fragment_bytes : List ℕ = fragment_header header.next_header number p in
        let link : List ℕ = link_header from at Ether.Ipv6 in
        let of_fragment : Ipv6.IsValue (fragment_v6 header p) =
        record { source = value.0.source; destination = value.0.destination; protocol = omega arith; hop_limit = value.0.hop_limit } in
        let most : length (w ++ fragment_bytes) ≡ 48 = omega (arith, length-append w fragment_bytes, length_v6 (fragment_v6 header p) of_fragment) in
        let long : length link ≡ 14 = front link (w ++ fragment_bytes) p.bytes 14 48 (length p.bytes) len most refl in
        test.part link ((w ++ fragment_bytes) ++ p.bytes) long
        (ether_following own to Ether.Ipv6 ((w ++ fragment_bytes) ++ p.bytes) (addresses own to Ether.Ipv6 long)) refl

  -- the frame of a packet with its number
  pub whole_quiet : (own to : HardwareAddress) (i : InnerValue) (h : IpRepr) (x : PayloadValue) → IsNode own → IsNode to →
      IsWritable (packet_of (numbered_header i h) x)
      → length (packet_frame sealed own to (packet_of (numbered_header i h) x)) ≡ packet_frame_len own to (packet_of (numbered_header i h) x)
      → May h x → T (packet_frame sealed own to (packet_of (numbered_header i h) x)) ≡ false
  whole_quiet (Hardware.Ethernet own) (Hardware.Ethernet to) i h x here there w len may = whole_by own to i h x w len may
  whole_quiet (Hardware.Ethernet own) Hardware.Ip i h x here there w len may = absurd there
  whole_quiet Hardware.Ip to i h x here there w len may = absurd here

  -- that of a fragment
  pub fragment_quiet : (own to : HardwareAddress) (header : CutHeader) (p : FragmentList.FragmentPart) → IsNode own → IsNode to → IsCutValue header →
      length (fragment_frame sealed own to header p) ≡ fragment_frame_len own to header p → T (fragment_frame sealed own to header p) ≡ false
  fragment_quiet (Hardware.Ethernet own) (Hardware.Ethernet to) header p here there value len = fragment_by own to header p value len
  fragment_quiet (Hardware.Ethernet own) Hardware.Ip header p here there value len = absurd there
  fragment_quiet Hardware.Ip to header p here there value len = absurd here
