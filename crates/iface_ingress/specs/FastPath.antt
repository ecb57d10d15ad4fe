-- What goes the short ingress path.
use Rattle.std.specs.Prelude.{◌≡◌, ℕ, ◌-◌, ◌==◌, ◌&&◌, ◌||◌, not, Bool, true, false, if◌then◌else◌, List, [], ◌∷◌, length, take, drop, slice_index}
use Rattle.std.specs.Prelude.{Option, None, Some}
use Rattle.ip_wire.specs.AddressTests.{is_loopback_v4}
use Rattle.ip_wire.specs.Ethernet as Ethernet
use Rattle.ip_wire.specs.EthernetProtocol.TheVariants as Ether
use Rattle.ip_wire.specs.declared.ethernet.repr.EthernetRepr.{EthernetRepr}
use Rattle.ip_wire.specs.Fields.{be16, be32}
use Rattle.ip_wire.specs.HardwareAddress.{HardwareAddress}
use Rattle.ip_wire.specs.HardwareAddress.TheVariants as Hardware
use Rattle.ip_wire.specs.IpAddress.TheVariants as Address
use Rattle.ip_wire.specs.IpProtocol.TheVariants as Protocol
use Rattle.ip_wire.specs.IpRepr.TheVariants as Ip
use Rattle.ip_wire.specs.Ipv4Fragment.{Ipv4Fragment}
use Rattle.ip_wire.specs.Ipv4Repr.{Ipv4Repr}
use Rattle.ip_wire.specs.Options.{no_options}
use Rattle.ip_wire.specs.Pseudo.{covered}
use Rattle.ip_wire.specs.Sum.{word_sum, folded}
use Rattle.ip_wire.specs.TcpControl.TheVariants as Control
use Rattle.ip_wire.specs.TcpHeader.{TcpHeader}
use Rattle.iface_tables.specs.Inner.{InnerValue, context_of, is_local, never_comes}
use Rattle.iface_ingress.specs.Delivered.{Slots, answer_at, answer_of, changed_at, draws_of, first_slot, is_connected, is_taken_raw, packet_delivered}
use Rattle.iface_ingress.specs.Delivered.{passes_at, with_segment}
use Rattle.iface_ingress.specs.Incoming.{IsFramed, IsPacketV4}
use Rattle.iface_ingress.specs.Reassembled.{passes_filter, is_group_frame, is_sender, is_fragment}
use Rattle.iface_ingress.specs.Arrives.{Arrived, Hands, ReplyValue, answered, renewed}

-- WHERE A PACKET STANDS

-- the frame is received, whomever the packet in it is for
abbrev pub is_fast_frame : InnerValue → Option EthernetRepr → Bool
is_fast_frame i None = true
is_fast_frame i (Some link) = passes_filter i (Some link) && not (is_group_frame i link.dst_addr)

-- after a link header that names IPv4, in such a frame
abbrev pub StandsFollowing : InnerValue → List ℕ → Option EthernetRepr → List ℕ → Type 0
StandsFollowing i frame None bytes = ⊥
StandsFollowing i frame (Some link) bytes = IsFramed frame link Ether.Ipv4 × (is_fast_frame i (Some link) ≡ true) × (bytes ≡ Ethernet.payload_of frame)

-- on a medium of bare packets a packet is the whole frame
abbrev pub StandsIn : HardwareAddress → InnerValue → List ℕ → Option EthernetRepr → List ℕ → Type 0
StandsIn Hardware.Ip i frame link bytes = (link ≡ None) × (bytes ≡ frame)
StandsIn (Hardware.Ethernet local) i frame link bytes = StandsFollowing i frame link bytes

-- WHICH PACKET GOES

-- a packet comes from one other host for a local address, and no loopback address is in it
abbrev pub is_plain : InnerValue → Ipv4Repr → Bool
is_plain i header =
    not (is_loopback_v4 header.src_addr || is_loopback_v4 header.dst_addr) && is_sender i header.src_addr && is_local i (Address.Ipv4 header.dst_addr)
    && not (never_comes i (Address.Ipv4 header.src_addr) (Address.Ipv4 header.dst_addr))

-- it is whole, too
abbrev pub is_fast : InnerValue → Ipv4Repr → Ipv4Fragment → Bool
is_fast i header fragment = not (is_fragment fragment) && is_plain i header

-- after this link header, or without one, the bytes are such a packet, which is whole and arrives
abbrev pub TakesPacket : InnerValue → Slots → Option EthernetRepr → List ℕ → Arrived → Type 0
TakesPacket i slots link bytes a =
    (header : Ipv4Repr) × (fragment : Ipv4Fragment) × (payload : List ℕ) × IsPacketV4 i.checksums bytes header fragment payload
    × (is_fast i header fragment ≡ true)
    × Hands (renewed i link (Ip.Ipv4 header)) (packet_delivered (Ip.Ipv4 header) payload slots) (Ip.Ipv4 header) payload
    (is_taken_raw (Ip.Ipv4 header) slots) a

-- PLAIN SEGMENTS

-- a whole IPv4 packet that carries a segment: no options, no padding, and no fragment
abbrev pub has_plain_words : List ℕ → Bool
has_plain_words bytes =
    (slice_index bytes 0 == 0x45) && ((be16 bytes 2 == length bytes)
    && (((be16 bytes 6 == 0) || (be16 bytes 6 == 0x4000)) && (slice_index bytes 9 == 6)))

-- the checksum of its header holds, too
abbrev pub is_plain_header : List ℕ → Bool
is_plain_header bytes = has_plain_words bytes && (folded (word_sum (take 20 bytes)) == 65535)

-- its header
abbrev pub plain_header : List ℕ → Ipv4Repr
plain_header bytes = record {
  src_addr = record { 0 = slice_index bytes 12 ∷ slice_index bytes 13 ∷ slice_index bytes 14 ∷ slice_index bytes 15 ∷ [] };
  dst_addr = record { 0 = slice_index bytes 16 ∷ slice_index bytes 17 ∷ slice_index bytes 18 ∷ slice_index bytes 19 ∷ [] };
  next_header = Protocol.Tcp;
  payload_len = length bytes - 20;
  hop_limit = slice_index bytes 8;
  ident = be16 bytes 4;
  dont_frag = be16 bytes 6 == 0x4000;
}

-- a segment without options, of whose flags ACK is set, and none else but PSH, between ports that aren't 0
abbrev pub is_plain_segment : List ℕ → Bool
is_plain_segment packet =
    ((be16 packet 12 == 0x5010) || (be16 packet 12 == 0x5018)) && (not (be16 packet 0 == 0) && not (be16 packet 2 == 0))

-- its header
abbrev pub plain_segment : List ℕ → TcpHeader
plain_segment packet = record {
  src_port = be16 packet 0;
  dst_port = be16 packet 2;
  control = if be16 packet 12 == 0x5018 then Control.Psh else Control.None;
  seq_number = record { 0 = be32 packet 4 };
  ack_number = Some (record { 0 = be32 packet 8 });
  window_len = be16 packet 14;
  options = no_options;
}

-- The socket of its connection took such a segment, whose checksum holds, and answered so. No raw socket asks for the packet.
pub record IsTakenFast (i : InnerValue) (slots : Slots) (ip : Ipv4Repr) (packet : List ℕ) (slots' : Slots) (reply : Option ReplyValue) : Type 0 where
  pub raw : is_taken_raw (Ip.Ipv4 ip) slots ≡ false
  pub at : ℕ
  pub found : first_slot (λ s. is_connected s (Ip.Ipv4 ip) (plain_segment packet)) slots ≡ Some at
  pub checked : folded (covered (Address.Ipv4 ip.src_addr) (Address.Ipv4 ip.dst_addr) 6 packet) ≡ 65535
  pub answer : reply ≡
      answered (answer_at (answer_of (context_of i) (Ip.Ipv4 ip) (plain_segment packet) (drop 20 packet)) (Some at) slots)
  pub slots_are : slots' ≡ changed_at (with_segment (context_of i) (Ip.Ipv4 ip) (plain_segment packet) (drop 20 packet)) (Some at) slots
  pub quiet : passes_at (draws_of (context_of i) (Ip.Ipv4 ip) (plain_segment packet) (drop 20 packet)) (Some at) slots ≡ false
