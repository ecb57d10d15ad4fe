-- ICMPv6 messages (RFC 4443): errors, which quote the packet that they are about, echo messages, and those of
-- neighbour discovery. A message has no length field, so what it carries ends where its bytes end.
use Rattle.std.specs.Prelude.{◌≡◌, ℕ, ◌<◌, ◌≤◌, ◌^◌, Bool, IsTrue, if◌then◌else◌, List, [], ◌∷◌, ◌++◌, length, drop, slice_index}
use Rattle.std.specs.Int.{w16, w32, to_be_bytes}
use Rattle.wire_address.specs.Fields.{be16, be32}
use Rattle.wire_address.specs.declared.ipv6.Ipv6Address.{Ipv6Address}
use Rattle.wire_ip.specs.Ipv6 as Ipv6
use Rattle.wire_ip.specs.declared.ipv6.repr.Ipv6Repr.{Ipv6Repr}
use Rattle.wire_icmpv6.specs.Ndisc as Neighbor
use Rattle.wire_icmpv6.specs.Packet.{IsChecked, checksum_of}
use Rattle.wire_icmpv6.specs.Reason.{unreachable_code, unreachable_of, exceeded_code, exceeded_of, problem_code, problem_of}
use Rattle.wire_icmpv6.specs.declared.header.Icmpv6Header.{Icmpv6Header}
use Rattle.wire_icmpv6.specs.declared.header.Icmpv6Header.TheVariants as Header
use Rattle.wire_icmpv6.specs.declared.reason.Icmpv6DstUnreachable.{Icmpv6DstUnreachable}
use Rattle.wire_icmpv6.specs.declared.reason.Icmpv6TimeExceeded.{Icmpv6TimeExceeded}
use Rattle.wire_icmpv6.specs.declared.reason.Icmpv6ParamProblem.{Icmpv6ParamProblem}
use Rattle.wire_icmpv6.specs.declared.repr.Icmpv6Repr.{Icmpv6Repr}
use Rattle.wire_icmpv6.specs.declared.repr.Icmpv6Repr.TheVariants as Repr

-- what a message says, but for the bytes that it carries
pub data MessageValue : Type 0 where
  DstUnreachable : Icmpv6DstUnreachable → Ipv6Repr → MessageValue
  PktTooBig : ℕ → Ipv6Repr → MessageValue
  TimeExceeded : Icmpv6TimeExceeded → Ipv6Repr → MessageValue
  ParamProblem : Icmpv6ParamProblem → ℕ → Ipv6Repr → MessageValue
  EchoRequest : ℕ → ℕ → MessageValue
  EchoReply : ℕ → ℕ → MessageValue
  Ndisc : Neighbor.NeighborMessage → MessageValue

-- what the header of a message says
abbrev pub value_of : Icmpv6Header → MessageValue
value_of (Header.DstUnreachable reason header) = DstUnreachable reason header
value_of (Header.PktTooBig mtu header) = PktTooBig mtu header
value_of (Header.TimeExceeded reason header) = TimeExceeded reason header
value_of (Header.ParamProblem reason pointer header) = ParamProblem reason pointer header
value_of (Header.EchoRequest ident seq_no) = EchoRequest ident seq_no
value_of (Header.EchoReply ident seq_no) = EchoReply ident seq_no
value_of (Header.Ndisc message) = Ndisc (Neighbor.neighbor_message message)

-- a message but for the bytes that it carries
abbrev pub header_of : Icmpv6Repr → Icmpv6Header
header_of (Repr.DstUnreachable reason header bytes) = Header.DstUnreachable reason header
header_of (Repr.PktTooBig mtu header bytes) = Header.PktTooBig mtu header
header_of (Repr.TimeExceeded reason header bytes) = Header.TimeExceeded reason header
header_of (Repr.ParamProblem reason pointer header bytes) = Header.ParamProblem reason pointer header
header_of (Repr.EchoRequest ident seq_no bytes) = Header.EchoRequest ident seq_no
header_of (Repr.EchoReply ident seq_no bytes) = Header.EchoReply ident seq_no
header_of (Repr.Ndisc message) = Header.Ndisc message

-- the bytes that it carries
abbrev pub carried_by : Icmpv6Repr → List ℕ
carried_by (Repr.DstUnreachable reason header bytes) = bytes.now
carried_by (Repr.PktTooBig mtu header bytes) = bytes.now
carried_by (Repr.TimeExceeded reason header bytes) = bytes.now
carried_by (Repr.ParamProblem reason pointer header bytes) = bytes.now
carried_by (Repr.EchoRequest ident seq_no bytes) = bytes.now
carried_by (Repr.EchoReply ident seq_no bytes) = bytes.now
carried_by (Repr.Ndisc message) = []

-- the bytes fit what the message says: a neighbour message carries none
abbrev pub CanCarry : MessageValue → List ℕ → Type 0
CanCarry (Ndisc message) carried = carried ≡ []
CanCarry _ carried = Unit {0}

-- the code of a message
abbrev pub code_in : List ℕ → ℕ
code_in message = slice_index message 1

-- an error of this type (RFC 4443, section 3), which quotes the packet with this header
pub record IsError (number : ℕ) (message : List ℕ) (header : Ipv6Repr) : Type 0 where
  pub kind : slice_index message 0 ≡ number
  pub quoted : Ipv6.IsQuoted (drop 8 message) header 40

-- an echo message of this type (RFC 4443, section 4)
pub record IsEcho (number : ℕ) (message : List ℕ) (ident seq_no : ℕ) : Type 0 where
  pub kind : slice_index message 0 ≡ number
  pub code : code_in message ≡ 0
  pub identifier : ident ≡ be16 message 4
  pub sequence : seq_no ≡ be16 message 6

-- the message says this. In an error the code is the reason; in packet too big it is 0, as in an echo message.
-- What some errors have at offset 4 and don't use isn't looked at.
abbrev pub Says : List ℕ → MessageValue → Type 0
Says message (DstUnreachable reason header) = (reason ≡ unreachable_of (code_in message)) × IsError 1 message header
Says message (PktTooBig mtu header) = (code_in message ≡ 0) × (mtu ≡ be32 message 4) × IsError 2 message header
Says message (TimeExceeded reason header) = (reason ≡ exceeded_of (code_in message)) × IsError 3 message header
Says message (ParamProblem reason pointer header) =
    (reason ≡ problem_of (code_in message)) × (pointer ≡ be32 message 4) × IsError 4 message header
Says message (EchoRequest ident seq_no) = IsEcho 128 message ident seq_no
Says message (EchoReply ident seq_no) = IsEcho 129 message ident seq_no
Says message (Ndisc neighbor) = Neighbor.IsNdisc message neighbor

-- the bytes are a message that says this
pub record IsIcmpv6 (source destination : Ipv6Address) (tested : Bool) (message : List ℕ) (v : MessageValue) : Type 0 where
  pub whole : 8 ≤ length message
  pub checked : IsTrue tested → IsChecked source destination message
  pub says : Says message v

-- how many bytes of a message that is sent stand before those that it carries: its header, and in an error a
-- quoted one; a neighbour message whole
abbrev pub header_len : MessageValue → ℕ
header_len (DstUnreachable reason header) = 48
header_len (PktTooBig mtu header) = 48
header_len (TimeExceeded reason header) = 48
header_len (ParamProblem reason pointer header) = 48
header_len (EchoRequest ident seq_no) = 8
header_len (EchoReply ident seq_no) = 8
header_len (Ndisc neighbor) = Neighbor.buffer_len neighbor

-- the bytes that a message which says this carries: all that follows
abbrev pub carried_in : List ℕ → MessageValue → List ℕ
carried_in message (Ndisc neighbor) = []
carried_in message v = drop (header_len v) message

-- all of the message counts: of a neighbour message options of other types don't
abbrev pub KeepsAll : MessageValue → Type 0
KeepsAll (Ndisc neighbor) = ⊥
KeepsAll _ = Unit {0}

-- what a message has alongside what it says and carries: the checksum, the four bytes that some errors don't use,
-- and traffic class and flow label of the quoted header
pub record Free : Type 0 where
  pub checksum : ℕ
  pub unused : ℕ
  pub class_and_flow : ℕ

-- these parts of a message
abbrev pub free_in : List ℕ → Free
free_in message = record { checksum = be16 message 2; unused = be32 message 4; class_and_flow = Ipv6.class_and_flow (drop 8 message) }

-- these parts as they are sent, with this checksum
abbrev pub sent_free : ℕ → Free
sent_free check = record { checksum = check; unused = 0; class_and_flow = 0 }

-- an error of this type and code, with this number in the four bytes before the quoted header
abbrev pub error_spelling : ℕ → ℕ → ℕ → Ipv6Repr → Free → List ℕ → List ℕ
error_spelling number code word header free carried =
    number ∷ code ∷ (to_be_bytes w16 free.checksum ++ (to_be_bytes w32 word ++ (Ipv6.spelling header free.class_and_flow ++ carried)))

-- an echo message of this type
abbrev pub echo_spelling : ℕ → ℕ → ℕ → Free → List ℕ → List ℕ
echo_spelling number ident seq_no free carried =
    number ∷ 0 ∷ (to_be_bytes w16 free.checksum ++ (to_be_bytes w16 ident ++ (to_be_bytes w16 seq_no ++ carried)))

-- a message that says this and carries these bytes
abbrev pub spelling : MessageValue → Free → List ℕ → List ℕ
spelling (DstUnreachable reason header) free carried = error_spelling 1 (unreachable_code reason) free.unused header free carried
spelling (PktTooBig mtu header) free carried = error_spelling 2 0 mtu header free carried
spelling (TimeExceeded reason header) free carried = error_spelling 3 (exceeded_code reason) free.unused header free carried
spelling (ParamProblem reason pointer header) free carried = error_spelling 4 (problem_code reason) pointer header free carried
spelling (EchoRequest ident seq_no) free carried = echo_spelling 128 ident seq_no free carried
spelling (EchoReply ident seq_no) free carried = echo_spelling 129 ident seq_no free carried
spelling (Ndisc neighbor) free carried = Neighbor.spelling neighbor free.checksum

-- what is sent: with a checksum that holds, or with 0
abbrev pub written : Ipv6Address → Ipv6Address → Bool → MessageValue → List ℕ → List ℕ
written source destination sealed v carried =
    spelling v (sent_free (if sealed then checksum_of source destination (spelling v (sent_free 0) carried) else 0)) carried

-- what can be sent: the payload length of a quoted header fits its field
abbrev pub Fits : MessageValue → Type 0
Fits (DstUnreachable reason header) = Ipv6.Fits header
Fits (PktTooBig mtu header) = Ipv6.Fits header
Fits (TimeExceeded reason header) = Ipv6.Fits header
Fits (ParamProblem reason pointer header) = Ipv6.Fits header
Fits _ = Unit {0}

-- each field is a number of its width
abbrev pub IsValue : MessageValue → Type 0
IsValue (DstUnreachable reason header) = (unreachable_code reason < 256) × Ipv6.IsValue header
IsValue (PktTooBig mtu header) = (mtu < 2 ^ 32) × Ipv6.IsValue header
IsValue (TimeExceeded reason header) = (exceeded_code reason < 256) × Ipv6.IsValue header
IsValue (ParamProblem reason pointer header) = (problem_code reason < 256) × (pointer < 2 ^ 32) × Ipv6.IsValue header
IsValue (EchoRequest ident seq_no) = (ident < 2 ^ 16) × (seq_no < 2 ^ 16)
IsValue (EchoReply ident seq_no) = (ident < 2 ^ 16) × (seq_no < 2 ^ 16)
IsValue (Ndisc neighbor) = Neighbor.IsValue neighbor

-- what a reader makes of a value that was sent: a reason by its code is that reason, a protocol by its number that
-- protocol, and a short link address is padded
abbrev pub normal : MessageValue → MessageValue
normal (DstUnreachable reason header) = DstUnreachable (unreachable_of (unreachable_code reason)) (Ipv6.normal header)
normal (PktTooBig mtu header) = PktTooBig mtu (Ipv6.normal header)
normal (TimeExceeded reason header) = TimeExceeded (exceeded_of (exceeded_code reason)) (Ipv6.normal header)
normal (ParamProblem reason pointer header) = ParamProblem (problem_of (problem_code reason)) pointer (Ipv6.normal header)
normal (EchoRequest ident seq_no) = EchoRequest ident seq_no
normal (EchoReply ident seq_no) = EchoReply ident seq_no
normal (Ndisc neighbor) = Ndisc (Neighbor.normal neighbor)
