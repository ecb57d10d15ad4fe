-- What was made and what was sent only grows.
use Rattle.std.proofs.Common.{inl, inr, ℕ, List, [], ◌∷◌}
use Rattle.std.specs.List.{AllByRecursion}
use Rattle.sim_link.specs.Medium.{Medium}
use Rattle.iface_ingress.specs.HardwareAddress.{HardwareAddress}
use Rattle.interface.specs.Ip.{source_of, destination_of}
use Rattle.interface.specs.IpRepr.{IpRepr}
use Rattle.interface.specs.IpRepr.TheVariants as Ip
use Rattle.interface.specs.Ipv4Repr.{Ipv4Repr}
use Rattle.interface.specs.Ipv6Repr.{Ipv6Repr}
use Rattle.iface_ingress.specs.IpAddress.{IpAddress}
use Rattle.sockets.specs.Packet.{PacketValue, PayloadValue, ControlV4, ControlV6, Bytes, Datagram, Segment}
use Rattle.iface_tables.specs.Inner.{InnerValue}
use Rattle.iface_tables.specs.Reassembly.{AssemblerValue}
use Rattle.iface_tables.specs.declared.key.FragKey.{FragKey}
use Rattle.iface_tables.specs.declared.key.FragKey.TheVariants as Keys
use Rattle.iface_ingress.specs.Incoming.{IncomingValue, Arp, Ip4, Ip6}
use Rattle.iface_egress.specs.declared.frame.CutHeader.{CutHeader}
use Rattle.iface_egress.specs.declared.frame.CutHeader.TheVariants as Cut
use Rattle.iface_ingress.specs.Reassembled.{Assemblers, FragmentValue, part_v4}
use Rattle.lan.specs.Worlds.Link.Made.{Makes, WasMade, HandsMade, IsGoing}
use Rattle.lan.specs.Worlds.Link.Frames.{Outgoing, IsSentV4, IsSentV6, IsCutV6, IsDatagram, IsFragmentOf, IsFrom, BringsFrom}
use Rattle.lan.specs.Worlds.Link.StoredFragments.{IsOfKey, IsAssemblerOf}
use Rattle.lan.specs.Worlds.Link.Sides.{Grows, IsCutFrom, IsHostFrame, IsReceiver, AreSent}

module _ {X : Type 0} (P Q : X → Type 0) (grows : (x : X) → P x → Q x) where
  pub all_grow : (xs : List X) → AllByRecursion P xs → AllByRecursion Q xs
  all_grow [] all = tt
  all_grow (x ∷ xs) all = (grows x all.0, all_grow xs all.1)

pub same_out : (out : List Outgoing) → Grows out out
same_out out = record { among = λ p among. among; numbered = λ p number is. is }

pub more_out : (out mid out' : List Outgoing) → Grows out mid → Grows mid out' → Grows out out'
more_out out mid out' one two = record {
  among = λ p among. two.among p (one.among p among);
  numbered = λ p number is. two.numbered p number (one.numbered p number is);
}

-- WHAT WAS SENT

module _ (out out' : List Outgoing) (grows : Grows out out') where
  pub sent4_grows : (v : Ipv4Repr) (bytes : List ℕ) → IsSentV4 out v bytes → IsSentV4 out' v bytes
  sent4_grows v bytes s = record {
    packet = s.packet;
    among = grows.among s.packet s.among;
    header = s.header;
    bytes_are = s.bytes_are;
    value =
        s.value;
    short = s.short;
  }

  abbrev pub sent6_grows : (v : Ipv6Repr) (bytes : List ℕ) → IsSentV6 out v bytes → IsSentV6 out' v bytes
  sent6_grows v bytes s = record {
    packet = s.packet;
    among = grows.among s.packet s.among;
    header = s.header;
    bytes_are = s.bytes_are;
    value = s.value;
    len =
        s.len;
    fits = s.fits;
  }

  pub cut6_grows : (v : Ipv6Repr) (number : ℕ) (bytes : List ℕ) → IsCutV6 out v number bytes → IsCutV6 out' v number bytes
  cut6_grows v number bytes s = record {
    sent = sent6_grows v bytes s.sent;
    numbered = grows.numbered s.sent.packet number s.numbered;
    small = s.small;
    bare = s.bare;
    short = s.short;
  }

  pub cut_grows : (header : CutHeader) (bytes : List ℕ) → IsCutFrom out header bytes → IsCutFrom out' header bytes
  cut_grows (Cut.Ipv4 v) bytes s = sent4_grows v bytes s
  cut_grows (Cut.Ipv6 v number) bytes s = cut6_grows v number bytes s

  datagram_grows : (key : FragKey) (bytes : List ℕ) → IsDatagram out key bytes → IsDatagram out' key bytes
  datagram_grows (Keys.Ipv4 key) bytes s = record { header = s.header; sent = sent4_grows s.header bytes s.sent; key_is = s.key_is }
  datagram_grows (Keys.Ipv6 key) bytes s = record {
    header = s.header;
    payload = s.payload;
    cut = cut6_grows s.header key.id s.payload s.cut;
    source = s.source;
    destination = s.destination;
    bytes_are = s.bytes_are;
  }

  pub frame_grows : (medium : Medium) (frame : List ℕ) → IsHostFrame medium out frame → IsHostFrame medium out' frame
  frame_grows medium frame (inl f) =
      inl (record {
        link = f.link;
        header = f.header;
        bytes = f.bytes;
        slice = f.slice;
        sent = sent4_grows f.header f.bytes f.sent;
        is_link =
            f.is_link;
        within = f.within;
        unit = f.unit;
        frame_is = f.frame_is;
      })
  frame_grows medium frame (inr (inl f)) =
      inr (inl (record {
        link = f.link;
        header = f.header;
        bytes = f.bytes;
        sent = sent6_grows f.header f.bytes f.sent;
        is_link = f.is_link;
        frame_is =
            f.frame_is;
      }))
  frame_grows medium frame (inr (inr (inl f))) =
      inr (inr (inl (record {
        link = f.link;
        header = f.header;
        number = f.number;
        bytes = f.bytes;
        fragment = f.fragment;
        cut = cut6_grows f.header f.number f.bytes f.cut;
        is_link = f.is_link;
        within = f.within;
        room = f.room;
        unit = f.unit;
        units = f.units;
        frame_is = f.frame_is;
      })))
  frame_grows medium frame (inr (inr (inr f))) = inr (inr (inr f))

  key_grows : (key : FragKey) (s : AssemblerValue FragKey) → IsOfKey out key s → IsOfKey out' key s
  key_grows key s (inl none) = inl none
  key_grows key s (inr held) = inr (record { bytes = held.bytes; sent = datagram_grows key held.bytes held.sent; holds = held.holds })

  assembler_grows : (s : AssemblerValue FragKey) → IsAssemblerOf out s → IsAssemblerOf out' s
  assembler_grows s is key key_is = key_grows key s (is key key_is)

  fragment_grows : (p : FragmentValue) → IsFragmentOf out p → IsFragmentOf out' p
  fragment_grows p fragment = record { bytes = fragment.bytes; sent = datagram_grows p.key fragment.bytes fragment.sent; slice = fragment.slice }

  -- WHAT WAS MADE

  module _ (made made' : Makes)
      (more : (source destination : IpAddress) (x : PayloadValue) → made source destination x → made' source destination x) where
    was_grows : (source destination : IpAddress) (x : PayloadValue) → WasMade made source destination x → WasMade made' source destination x
    was_grows source destination (Datagram udp bytes) was = more source destination (Datagram udp bytes) was
    was_grows source destination (Segment header bytes) was = more source destination (Segment header bytes) was
    was_grows source destination (ControlV4 message bytes) was = tt
    was_grows source destination (ControlV6 message bytes) was = tt
    was_grows source destination (Bytes bytes) was = tt

    hands_grow : (ip : IpRepr) (payload : List ℕ) → HandsMade made ip payload → HandsMade made' ip payload
    hands_grow ip payload hands x is = was_grows (source_of ip) (destination_of ip) x (hands x is)

    from_grows : (v : IncomingValue) → IsFrom made out v → IsFrom made' out' v
    from_grows (Arp link packet) from = inl tt
    from_grows (Ip4 link h p x) (inl whole) = inl (whole.0, hands_grow (Ip.Ipv4 h) x whole.1)
    from_grows (Ip4 link h p x) (inr fragment) = inr (fragment_grows (part_v4 h p x) fragment)
    from_grows (Ip6 link h x) (inl whole) = inl (whole.0, hands_grow (Ip.Ipv6 h) x whole.1)
    from_grows (Ip6 link h x) (inr fragment) =
        inr (record { part = fragment.part; part_is = fragment.part_is; of = fragment_grows fragment.part fragment.of })

    brings_grow : (hardware : HardwareAddress) (frame : List ℕ) → BringsFrom made out hardware frame → BringsFrom made' out' hardware frame
    brings_grow hardware frame brings v is = from_grows v (brings v is)

    pub receiver_grows : (i : InnerValue) (assemblers : Assemblers) (waiting : List (List ℕ)) → IsReceiver made out i assemblers waiting →
        IsReceiver made' out' i assemblers waiting
    receiver_grows i assemblers waiting r = record {
      checksums = r.checksums;
      assemblers_are = all_grow (IsAssemblerOf out) (IsAssemblerOf out') assembler_grows assemblers r.assemblers_are;
      waits = all_grow (BringsFrom made out i.hardware) (BringsFrom made' out' i.hardware) (brings_grow i.hardware) waiting r.waits;
    }

module _ (made made' : Makes)
    (more : (source destination : IpAddress) (x : PayloadValue) → made source destination x → made' source destination x) where
  pub going_grows : (p : PacketValue) → IsGoing made p → IsGoing made' p
  going_grows p going = record {
    offered = going.offered;
    carries = elim going.carries [ inl none ↦ inl none | inr reads ↦ inr (reads.0, more (source_of p.header) (destination_of p.header) _ reads.1) ];
  }

  pub sent_grows : (first next : ℕ) (out : List Outgoing) → AreSent made first next out → AreSent made' first next out
  sent_grows first next out sent = record {
    packets = λ p among. let is = sent.packets p among in record { going = going_grows p is.going; fits = is.fits };
    numbered = sent.numbered;
  }
