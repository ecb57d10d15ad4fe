-- TCP segments (RFC 9293, section 3.1): source and destination port, two bytes each; sequence and
-- acknowledgement number, four bytes each; header length in units of four bytes, reserved bits and flags, in
-- two bytes; window, checksum and urgent pointer, two bytes each; options up to the header's length; then
-- the payload, up to the end.
use Rattle.std.specs.Prelude.{◌≡◌, ◌≢◌, ◌==◌, IsTrue, Option, Some, None, ℕ, ◌+◌, ◌*◌, ◌/◌, ◌%◌, ◌<◌, ◌≤◌, Bool, if◌then◌else◌, ◌^◌, true, false, List, ◌∷◌}
use Rattle.std.specs.Prelude.{◌++◌, length, drop, slice_index, slice_range}
use Rattle.std.specs.Int.{w16, w32, to_be_bytes}
use Rattle.std.specs.Borrow.{GName}
use Rattle.wire_address.specs.Address.{version_of}
use Rattle.wire_address.specs.Fields.{be16, be32, put8, put16, with_flag}
use Rattle.wire_address.specs.Pseudo.{covered}
use Rattle.wire_address.specs.Sum.{ChecksumHolds, complement}
use Rattle.wire_address.specs.declared.ip.IpAddress.{IpAddress}
use Rattle.wire_address.specs.declared.seq_number.SeqNumber.{SeqNumber}
use Rattle.wire_tcp.specs.Control.{control_of, control_bits, is_quiet}
use Rattle.wire_tcp.specs.Options.{Says, no_options, padded, options_room, options_area, normal_options, AreOptions}
use Rattle.wire_tcp.specs.declared.control.TcpControl.{TcpControl}
use Rattle.wire_tcp.specs.declared.header.TcpHeader.{TcpHeader}
use Rattle.wire_tcp.specs.declared.option.TcpOptions.{TcpOptions}
use Rattle.wire_tcp.specs.declared.repr.TcpRepr.{TcpRepr}
use Rattle.wire_tcp.specs.declared.packet.TcpPacket.{TcpPacket}
use Rattle.wire_tcp.specs.declared.packet_mut.TcpPacketMut.{TcpPacketMut}

-- the bytes that a view reads
abbrev pub bytes_of : TcpPacket → List ℕ
bytes_of view = view.buffer.now

-- the bytes that a writing view holds
abbrev pub bytes_in : TcpPacketMut → List ℕ
bytes_in view = view.buffer.now

-- which buffer it is that a writing view holds
abbrev pub name_of : TcpPacketMut → GName
name_of view = view.buffer.ghost_name

-- the length of the header with its options
abbrev pub header_len_of : List ℕ → ℕ
header_len_of bytes = 4 * (slice_index bytes 12 / 16)

-- the header is there, and its length covers the fixed fields and no more than there is
pub record IsWhole (bytes : List ℕ) : Type 0 where
  pub fixed : 20 ≤ length bytes
  pub least : 20 ≤ header_len_of bytes
  pub within : header_len_of bytes ≤ length bytes

-- whether the bit of this weight is set in the byte at i
abbrev pub flag : List ℕ → ℕ → ℕ → Bool
flag bytes i weight = slice_index bytes i / weight % 2 == 1

-- the bytes with the bit of this weight in the byte at i set so
abbrev pub put_flag : List ℕ → ℕ → ℕ → Bool → List ℕ
put_flag bytes i weight value = put8 bytes i (with_flag (slice_index bytes i) weight value)

-- the options, with what is after their end
abbrev pub options_of : List ℕ → List ℕ
options_of bytes = slice_range bytes 20 (header_len_of bytes)

-- what the segment carries
abbrev pub payload_of : List ℕ → List ℕ
payload_of bytes = drop (header_len_of bytes) bytes

-- 1 for a set bit
abbrev pub count_of : Bool → ℕ
count_of set = if set then 1 else 0

-- how many sequence numbers the segment takes: one each for SYN and FIN, and one for each byte (RFC 9293,
-- section 3.4)
abbrev pub sequence_len : List ℕ → ℕ
sequence_len bytes =
    length (payload_of bytes) + count_of (flag bytes 13 2) + count_of (flag bytes 13 1)

-- the checksum holds
abbrev pub IsChecked : IpAddress → IpAddress → List ℕ → Type 0
IsChecked source destination bytes = ChecksumHolds (covered source destination 6 bytes)

-- the bytes with the segment's checksum in its field
abbrev pub with_checksum : IpAddress → IpAddress → List ℕ → List ℕ
with_checksum source destination bytes =
    put16 bytes 16 (complement (covered source destination 6 (put16 bytes 16 0)))

-- what the flags of the segment say, if it has not two of SYN, FIN and RST
abbrev pub control_in : List ℕ → Option TcpControl
control_in bytes = control_of (flag bytes 13 2) (flag bytes 13 1) (flag bytes 13 4) (flag bytes 13 8)

-- the acknowledgement number, where ACK is set
abbrev pub acknowledged : List ℕ → Option SeqNumber
acknowledged bytes = if flag bytes 13 16 then Some (record { 0 = be32 bytes 8 }) else None

-- the header's options make these
abbrev pub HasOptions : List ℕ → TcpOptions → Type 0
HasOptions bytes v = Says no_options (options_of bytes) v

-- the bytes are a segment with this header; all after the header is payload
pub record IsTcp (source destination : IpAddress) (tested : Bool) (bytes : List ℕ) (v : TcpHeader) : Type 0 where
  pub whole : IsWhole bytes
  pub source_port : v.src_port ≡ be16 bytes 0
  pub destination_port : v.dst_port ≡ be16 bytes 2
  pub source_accepted : be16 bytes 0 ≢ 0
  pub destination_accepted : be16 bytes 2 ≢ 0
  pub checked : IsTrue tested → IsChecked source destination bytes
  pub control : control_in bytes ≡ Some v.control
  pub sequence : v.seq_number ≡ record { 0 = be32 bytes 4 }
  pub acknowledgement : v.ack_number ≡ acknowledged bytes
  pub window : v.window_len ≡ be16 bytes 14
  pub options : HasOptions bytes v.options

-- the header of a segment with a payload
abbrev pub header_of : TcpRepr → TcpHeader
header_of v = record {
  src_port = v.src_port;
  dst_port = v.dst_port;
  control = v.control;
  seq_number = v.seq_number;
  ack_number = v.ack_number;
  window_len = v.window_len;
  options = record {
    max_seg_size = v.max_seg_size;
    window_scale = v.window_scale;
    sack_permitted = v.sack_permitted;
    sack_ranges = v.sack_ranges;
    timestamp = v.timestamp;
  };
}

-- the length of a header that is sent, with room for its options
abbrev pub header_len : TcpHeader → ℕ
header_len v = 20 + padded (options_room v.options)

-- whether the segment acknowledges
abbrev pub acknowledges : Option SeqNumber → Bool
acknowledges None = false
acknowledges (Some n) = true

-- the acknowledgement number that is sent, 0 where there is none
abbrev pub sent_ack : Option SeqNumber → ℕ
sent_ack None = 0
sent_ack (Some n) = n.0

-- the flags that are sent
abbrev pub sent_flags : TcpHeader → ℕ
sent_flags v = control_bits v.control + (if acknowledges v.ack_number then 16 else 0)

-- what the fixed fields of a header hold alongside the ports, the sequence number and the window of its value
pub record Free : Type 0 where
  pub acknowledgement : ℕ
  pub length_and_reserved : ℕ
  pub flags : ℕ
  pub checksum : ℕ
  pub urgent : ℕ

-- the fixed fields of a header
abbrev pub fixed_fields : TcpHeader → Free → List ℕ
fixed_fields v free =
    to_be_bytes w16 v.src_port ++
    (to_be_bytes w16 v.dst_port ++
    (to_be_bytes w32 v.seq_number.0 ++
    (to_be_bytes w32 free.acknowledgement ++
    (free.length_and_reserved ∷ free.flags ∷ (to_be_bytes w16 v.window_len ++ (to_be_bytes w16 free.checksum ++ to_be_bytes w16 free.urgent))))))

-- these fields as they are sent: the reserved bits, the other flags and the urgent pointer are 0
abbrev pub sent_fields : TcpHeader → ℕ → Free
sent_fields v check = record {
  acknowledgement = sent_ack v.ack_number;
  length_and_reserved = header_len v / 4 * 16;
  flags = sent_flags v;
  checksum = check;
  urgent = 0;
}

-- the acknowledgement number, or what stands in its field where there is none
abbrev pub ack_field : Option SeqNumber → ℕ → ℕ
ack_field None field = field
ack_field (Some n) field = n.0

-- the flags that a value doesn't keep: CWR, ECE and URG, and PSH alongside SYN, FIN or RST
abbrev pub unread_flags : TcpControl → ℕ → ℕ
unread_flags control flags = flags / 32 * 32 + (if is_quiet control then 0 else 8 * (flags / 8 % 2))

-- these fields of a segment with this header
abbrev pub read_fields : TcpHeader → List ℕ → Free
read_fields v bytes = record {
  acknowledgement = ack_field v.ack_number (be32 bytes 8);
  length_and_reserved = (20 + length (options_of bytes)) / 4 * 16 + slice_index bytes 12 % 16;
  flags = sent_flags v + unread_flags v.control (slice_index bytes 13);
  checksum = be16 bytes 16;
  urgent = be16 bytes 18;
}

-- a segment with this header, checksum and payload
abbrev pub spelling : TcpHeader → ℕ → List ℕ → List ℕ
spelling v check payload =
    fixed_fields v (sent_fields v check) ++ (options_area (acknowledges v.ack_number) v.options ++ payload)

-- what is sent: with a checksum that holds, or with 0
abbrev pub written : IpAddress → IpAddress → Bool → TcpHeader → List ℕ → List ℕ
written source destination sealed v payload =
    spelling v (if sealed then complement (covered source destination 6 (spelling v 0 payload)) else 0) payload

-- what can be sent: header and segment fit their length fields, and the addresses are of one family
pub record Fits (source destination : IpAddress) (v : TcpHeader) (payload : List ℕ) : Type 0 where
  pub header : header_len v ≤ 60
  pub all : header_len v + length payload < 2 ^ 16
  pub family : version_of source ≡ version_of destination

-- an acknowledgement number is a number of its width
abbrev pub IsAck : Option SeqNumber → Type 0
IsAck None = Unit {0}
IsAck (Some n) = n.0 < 2 ^ 32

-- a header whose fields are numbers of their widths, with ports that a reader takes
pub record IsValue (v : TcpHeader) : Type 0 where
  pub source_port : v.src_port < 2 ^ 16
  pub destination_port : v.dst_port < 2 ^ 16
  pub source_accepted : v.src_port ≢ 0
  pub destination_accepted : v.dst_port ≢ 0
  pub sequence : v.seq_number.0 < 2 ^ 32
  pub acknowledgement : IsAck v.ack_number
  pub window : v.window_len < 2 ^ 16
  pub options : AreOptions v.options

-- what a reader makes of a header that was sent: scales end at 14, and ranges are closed up, and are only
-- there alongside an acknowledgement where SACK isn't being permitted
abbrev pub normal : TcpHeader → TcpHeader
normal v = record v { options = normal_options (acknowledges v.ack_number) v.options }
