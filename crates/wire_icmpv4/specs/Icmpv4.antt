-- Control messages of IPv4 (RFC 792): type, code, checksum of two bytes, four bytes that depend on the type, and
-- then data up to the end. There is no length field.
use Rattle.std.specs.Prelude.{◌≡◌, ℕ, ◌<◌, ◌≤◌, ◌^◌, Bool, IsTrue, if◌then◌else◌, List, [], ◌∷◌, ◌++◌, length, take, drop, slice_index, slice_range}
use Rattle.std.specs.Int.{w16, to_be_bytes}
use Rattle.std.specs.Borrow.{GName}
use Rattle.wire_address.specs.Fields.{be16, put16}
use Rattle.wire_address.specs.Sum.{word_sum, ChecksumHolds, complement}
use Rattle.wire_ip.specs.Ipv4 as Ipv4
use Rattle.wire_ip.specs.declared.ipv4.repr.Ipv4Repr.{Ipv4Repr}
use Rattle.wire_icmpv4.specs.Icmpv4Codes.{unreachable_number, unreachable_of, exceeded_number, exceeded_of}
use Rattle.wire_icmpv4.specs.declared.header.Icmpv4Header.{Icmpv4Header}
use Rattle.wire_icmpv4.specs.declared.header.Icmpv4Header.TheVariants as Header
use Rattle.wire_icmpv4.specs.declared.packet.Icmpv4Packet.{Icmpv4Packet}
use Rattle.wire_icmpv4.specs.declared.packet_mut.Icmpv4PacketMut.{Icmpv4PacketMut}
use Rattle.wire_icmpv4.specs.declared.repr.Icmpv4Repr.{Icmpv4Repr}
use Rattle.wire_icmpv4.specs.declared.repr.Icmpv4Repr.TheVariants as Repr

-- the bytes that a view reads
abbrev pub bytes_of : Icmpv4Packet → List ℕ
bytes_of view = view.buffer.now

-- the bytes that a writing view holds
abbrev pub bytes_in : Icmpv4PacketMut → List ℕ
bytes_in view = view.buffer.now

-- which buffer it is that a writing view holds
abbrev pub name_of : Icmpv4PacketMut → GName
name_of view = view.buffer.ghost_name

-- the header is there
abbrev pub IsWhole : List ℕ → Type 0
IsWhole bytes = 8 ≤ length bytes

-- what lies after the header
abbrev pub following : List ℕ → List ℕ
following bytes = drop 8 bytes

-- the checksum holds, which covers the whole message and no pseudo header
abbrev pub IsChecked : List ℕ → Type 0
IsChecked bytes = ChecksumHolds (word_sum bytes)

-- the bytes with the message's checksum in its field
abbrev pub with_checksum : List ℕ → List ℕ
with_checksum bytes = put16 bytes 2 (complement (word_sum (put16 bytes 2 0)))

-- an echo message (RFC 792, "Echo or Echo Reply Message"): code 0, identifier, sequence number, and data
pub record IsEcho (kind : ℕ) (bytes : List ℕ) (ident seq_no : ℕ) (payload : List ℕ) : Type 0 where
  pub kind_is : slice_index bytes 0 ≡ kind
  pub code : slice_index bytes 1 ≡ 0
  pub identifier : ident ≡ be16 bytes 4
  pub sequence : seq_no ≡ be16 bytes 6
  pub payload_is : payload ≡ following bytes

-- how long the header is, with its options, that an error message quotes
abbrev pub quoted_len : List ℕ → ℕ
quoted_len bytes = Ipv4.header_len_of (following bytes)

-- an error message (RFC 792, "Destination Unreachable Message" and "Time Exceeded Message"): four bytes that say
-- nothing, the header of the packet that it is about, and data of that packet
pub record IsError (kind : ℕ) (bytes : List ℕ) (header : Ipv4Repr) (payload : List ℕ) : Type 0 where
  pub kind_is : slice_index bytes 0 ≡ kind
  pub quoted : Ipv4.IsQuoted (following bytes) header (quoted_len bytes)
  pub payload_is : payload ≡ drop (quoted_len bytes) (following bytes)

-- the bytes say this, with this data
abbrev pub Says : List ℕ → Icmpv4Header → List ℕ → Type 0
Says bytes (Header.EchoRequest ident seq_no) payload = IsEcho 8 bytes ident seq_no payload
Says bytes (Header.EchoReply ident seq_no) payload = IsEcho 0 bytes ident seq_no payload
Says bytes (Header.DstUnreachable reason header) payload =
    (reason ≡ unreachable_of (slice_index bytes 1)) × IsError 3 bytes header payload
Says bytes (Header.TimeExceeded reason header) payload =
    (reason ≡ exceeded_of (slice_index bytes 1)) × IsError 11 bytes header payload

-- the bytes are a message that says this, with this data
pub record IsIcmpv4 (tested : Bool) (bytes : List ℕ) (v : Icmpv4Header) (payload : List ℕ) : Type 0 where
  pub whole : IsWhole bytes
  pub checked : IsTrue tested → IsChecked bytes
  pub says : Says bytes v payload

-- a message without its data
abbrev pub header_of : Icmpv4Repr → Icmpv4Header
header_of (Repr.EchoRequest ident seq_no bytes) = Header.EchoRequest ident seq_no
header_of (Repr.EchoReply ident seq_no bytes) = Header.EchoReply ident seq_no
header_of (Repr.DstUnreachable reason header bytes) = Header.DstUnreachable reason header
header_of (Repr.TimeExceeded reason header bytes) = Header.TimeExceeded reason header

-- the data of a message
abbrev pub payload_of : Icmpv4Repr → List ℕ
payload_of (Repr.EchoRequest ident seq_no bytes) = bytes.now
payload_of (Repr.EchoReply ident seq_no bytes) = bytes.now
payload_of (Repr.DstUnreachable reason header bytes) = bytes.now
payload_of (Repr.TimeExceeded reason header bytes) = bytes.now

-- the type of a message
abbrev pub kind_of : Icmpv4Header → ℕ
kind_of (Header.EchoRequest ident seq_no) = 8
kind_of (Header.EchoReply ident seq_no) = 0
kind_of (Header.DstUnreachable reason header) = 3
kind_of (Header.TimeExceeded reason header) = 11

-- the code of a message
abbrev pub code_of : Icmpv4Header → ℕ
code_of (Header.EchoRequest ident seq_no) = 0
code_of (Header.EchoReply ident seq_no) = 0
code_of (Header.DstUnreachable reason header) = unreachable_number reason
code_of (Header.TimeExceeded reason header) = exceeded_number reason

-- the four bytes after the checksum; in an error they say nothing, and can be any
abbrev pub four_of : Icmpv4Header → List ℕ → List ℕ
four_of (Header.EchoRequest ident seq_no) unused = to_be_bytes w16 ident ++ to_be_bytes w16 seq_no
four_of (Header.EchoReply ident seq_no) unused = to_be_bytes w16 ident ++ to_be_bytes w16 seq_no
four_of (Header.DstUnreachable reason header) unused = unused
four_of (Header.TimeExceeded reason header) unused = unused

-- what a message has alongside its value
pub record Free : Type 0 where
  pub checksum : ℕ
  pub unused : List ℕ
  pub quoted : List ℕ

-- a message that says this, with this data
abbrev pub spelling : Icmpv4Header → Free → List ℕ → List ℕ
spelling v free payload =
    kind_of v ∷ code_of v ∷ (to_be_bytes w16 free.checksum ++ (four_of v free.unused ++ (free.quoted ++ payload)))

-- the quoted header of a message that says this, as it stands
abbrev pub quoted_in : Icmpv4Header → List ℕ → List ℕ
quoted_in (Header.EchoRequest ident seq_no) bytes = []
quoted_in (Header.EchoReply ident seq_no) bytes = []
quoted_in (Header.DstUnreachable reason header) bytes = take (quoted_len bytes) (following bytes)
quoted_in (Header.TimeExceeded reason header) bytes = take (quoted_len bytes) (following bytes)

-- what such a message has alongside its value
abbrev pub free_fields : Icmpv4Header → List ℕ → Free
free_fields v bytes = record { checksum = be16 bytes 2; unused = slice_range bytes 4 8; quoted = quoted_in v bytes }

-- the quoted header that is sent
abbrev pub sent_quote : Bool → Icmpv4Header → List ℕ
sent_quote sealed (Header.EchoRequest ident seq_no) = []
sent_quote sealed (Header.EchoReply ident seq_no) = []
sent_quote sealed (Header.DstUnreachable reason header) = Ipv4.written sealed header
sent_quote sealed (Header.TimeExceeded reason header) = Ipv4.written sealed header

-- what is sent alongside a value: zeros where nothing is said
abbrev pub sent_fields : Bool → Icmpv4Header → ℕ → Free
sent_fields sealed v check = record { checksum = check; unused = 0 ∷ 0 ∷ 0 ∷ 0 ∷ []; quoted = sent_quote sealed v }

-- what is sent: with checksums that hold, or with 0, in the quoted header and in the message
abbrev pub written : Bool → Bool → Icmpv4Header → List ℕ → List ℕ
written quote_sealed sealed v payload =
    spelling v (sent_fields quote_sealed v (if sealed then complement (word_sum (spelling v (sent_fields quote_sealed v 0) payload)) else 0)) payload

-- the length of what is sent before the data
abbrev pub header_len : Icmpv4Header → ℕ
header_len (Header.EchoRequest ident seq_no) = 8
header_len (Header.EchoReply ident seq_no) = 8
header_len (Header.DstUnreachable reason header) = 28
header_len (Header.TimeExceeded reason header) = 28

-- what can be sent: a quoted header's total length fits its field
abbrev pub Fits : Icmpv4Header → Type 0
Fits (Header.EchoRequest ident seq_no) = Unit {0}
Fits (Header.EchoReply ident seq_no) = Unit {0}
Fits (Header.DstUnreachable reason header) = Ipv4.Fits header
Fits (Header.TimeExceeded reason header) = Ipv4.Fits header

-- each field is a number of its width
abbrev pub IsValue : Icmpv4Header → Type 0
IsValue (Header.EchoRequest ident seq_no) = (ident < 2 ^ 16) × (seq_no < 2 ^ 16)
IsValue (Header.EchoReply ident seq_no) = (ident < 2 ^ 16) × (seq_no < 2 ^ 16)
IsValue (Header.DstUnreachable reason header) = (unreachable_number reason < 256) × Ipv4.IsValue header
IsValue (Header.TimeExceeded reason header) = (exceeded_number reason < 256) × Ipv4.IsValue header

-- what a reader makes of a value that was sent: a reason or a protocol by its number is that one
abbrev pub normal : Icmpv4Header → Icmpv4Header
normal (Header.EchoRequest ident seq_no) = Header.EchoRequest ident seq_no
normal (Header.EchoReply ident seq_no) = Header.EchoReply ident seq_no
normal (Header.DstUnreachable reason header) = Header.DstUnreachable (unreachable_of (unreachable_number reason)) (Ipv4.normal header)
normal (Header.TimeExceeded reason header) = Header.TimeExceeded (exceeded_of (exceeded_number reason)) (Ipv4.normal header)
