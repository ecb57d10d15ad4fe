-- A message that is read.
use Rattle.std.proofs.Common.{◌≡◌, ◌≢◌, ℕ, ◌+◌, ◌<◌, ◌^◌, ◌≤◌, Bool, List, ◌++◌, length, take, drop, refl, sym, ◌∙◌, ap, arith, length-drop}
use Rattle.std.specs.Prelude.{slice_index, slice_range}
use Rattle.std.proofs.lemmas.List.{take-append-drop, get_or-drop}
use Rattle.wire_address.specs.Fields.{be16, IsBytes}
use Rattle.wire_ip.specs.Ipv4 as Ipv4
use Rattle.wire_ip.specs.declared.ipv4.repr.Ipv4Repr.{Ipv4Repr}
use Rattle.wire_ip.proofs.QuotedLaws.{fits-v4}
use Rattle.wire_address.proofs.Peel.{peel8, peel16, peel_to}
use Rattle.wire_icmpv4.specs.Icmpv4Codes.{message_of, unreachable_number, exceeded_number}
use Rattle.wire_icmpv4.specs.declared.message.Icmpv4Message.{Icmpv4Message}
use Rattle.wire_icmpv4.specs.declared.message.Icmpv4Message.TheVariants as Message
use Rattle.wire_icmpv4.specs.declared.header.Icmpv4Header.{Icmpv4Header}
use Rattle.wire_icmpv4.specs.declared.header.Icmpv4Header.TheVariants as Header
use Rattle.wire_icmpv4.specs.Icmpv4.{IsIcmpv4, IsWhole, Says, Fits, IsValue, following, quoted_len, kind_of, code_of, four_of, quoted_in, free_fields, spelling}
use Rattle.wire_icmpv4.specs.Icmpv4.{header_len}
use Rattle.wire_icmpv4.proofs.Codes.{unreachable_number-unreachable_of, exceeded_number-exceeded_of}

-- a message that is no echo quotes a header
pub IsQuoted-error : (bytes : List ℕ) (v : Icmpv4Header) (payload : List ℕ) (m : Icmpv4Message) → message_of (slice_index bytes 0) ≡ m →
    m ≢ Message.EchoRequest → m ≢ Message.EchoReply
    → Says bytes v payload → (header : Ipv4Repr) × Ipv4.IsQuoted (following bytes) header (quoted_len bytes)
IsQuoted-error bytes (Header.EchoRequest ident seq_no) payload m is request reply says = absurd (request (sym is ∙ ap message_of says.kind_is))
IsQuoted-error bytes (Header.EchoReply ident seq_no) payload m is request reply says = absurd (reply (sym is ∙ ap message_of says.kind_is))
IsQuoted-error bytes (Header.DstUnreachable reason header) payload m is request reply says = (header, says.1.quoted)
IsQuoted-error bytes (Header.TimeExceeded reason header) payload m is request reply says = (header, says.1.quoted)

-- a message that is read has the type and the code of its value
kind_is : (bytes : List ℕ) (v : Icmpv4Header) (payload : List ℕ) → Says bytes v payload → kind_of v ≡ slice_index bytes 0
kind_is bytes (Header.EchoRequest ident seq_no) payload says = sym says.kind_is
kind_is bytes (Header.EchoReply ident seq_no) payload says = sym says.kind_is
kind_is bytes (Header.DstUnreachable reason header) payload says = sym says.1.kind_is
kind_is bytes (Header.TimeExceeded reason header) payload says = sym says.1.kind_is

code_is : (bytes : List ℕ) (v : Icmpv4Header) (payload : List ℕ) → Says bytes v payload → code_of v ≡ slice_index bytes 1
code_is bytes (Header.EchoRequest ident seq_no) payload says = sym says.code
code_is bytes (Header.EchoReply ident seq_no) payload says = sym says.code
code_is bytes (Header.DstUnreachable reason header) payload says = ap unreachable_number says.0 ∙ unreachable_number-unreachable_of (slice_index bytes 1)
code_is bytes (Header.TimeExceeded reason header) payload says = ap exceeded_number says.0 ∙ exceeded_number-exceeded_of (slice_index bytes 1)

-- what lies after its checksum
following_check : (bytes : List ℕ) (v : Icmpv4Header) (payload : List ℕ) → IsBytes bytes → IsWhole bytes → Says bytes v payload
    → drop 4 bytes ≡ four_of v (slice_range bytes 4 8) ++ (quoted_in v bytes ++ payload)
following_check bytes (Header.EchoRequest ident seq_no) payload small whole says =
    peel16 bytes 4 ident _ small (omega (arith, whole)) says.identifier
    (peel16 bytes 6 seq_no _ small (omega (arith, whole)) says.sequence (sym says.payload_is))
following_check bytes (Header.EchoReply ident seq_no) payload small whole says =
    peel16 bytes 4 ident _ small (omega (arith, whole)) says.identifier
    (peel16 bytes 6 seq_no _ small (omega (arith, whole)) says.sequence (sym says.payload_is))
following_check bytes (Header.DstUnreachable reason header) payload small whole says =
    peel_to bytes 4 8 _ _ (omega arith) refl (sym (take-append-drop (quoted_len bytes) (following bytes)) ∙
    ap (λ xs. take (quoted_len bytes) (following bytes) ++ xs) (sym says.1.payload_is))
following_check bytes (Header.TimeExceeded reason header) payload small whole says =
    peel_to bytes 4 8 _ _ (omega arith) refl (sym (take-append-drop (quoted_len bytes) (following bytes)) ∙
    ap (λ xs. take (quoted_len bytes) (following bytes) ++ xs) (sym says.1.payload_is))

-- a message is spelled by its value, with what a value doesn't keep, and its data
pub bytes-spelling : (tested : Bool) (bytes : List ℕ) (v : Icmpv4Header) (payload : List ℕ) → IsBytes bytes → IsIcmpv4 tested bytes v payload →
    bytes ≡ spelling v (free_fields v bytes) payload
bytes-spelling tested bytes v payload small is =
    let whole : 8 ≤ length bytes = is.whole in
    peel8 bytes 0 (kind_of v) _ (omega (arith, whole)) (kind_is bytes v payload is.says) (
    peel8 bytes 1 (code_of v) _ (omega (arith, whole)) (code_is bytes v payload is.says) (
    peel16 bytes 2 (be16 bytes 2) _ small (omega (arith, whole)) refl (following_check bytes v payload small is.whole is.says)
    )
    )

-- a message that is read has the room of its header and its data
room : (bytes : List ℕ) (v : Icmpv4Header) (payload : List ℕ) → IsWhole bytes → Says bytes v payload → header_len v + length payload ≤ length bytes
room bytes (Header.EchoRequest ident seq_no) payload whole says = omega (arith, whole, ap length says.payload_is, length-drop 8 bytes)
room bytes (Header.EchoReply ident seq_no) payload whole says = omega (arith, whole, ap length says.payload_is, length-drop 8 bytes)
room bytes (Header.DstUnreachable reason header) payload whole says =
    omega (
      arith,
      whole,
      ap length says.1.payload_is,
      length-drop 8 bytes,
      length-drop (quoted_len bytes) (following bytes),
      says.1.quoted.least,
      says.1.quoted.within,
    )
room bytes (Header.TimeExceeded reason header) payload whole says =
    omega (
      arith,
      whole,
      ap length says.1.payload_is,
      length-drop 8 bytes,
      length-drop (quoted_len bytes) (following bytes),
      says.1.quoted.least,
      says.1.quoted.within,
    )

-- a message takes no more room than the bytes that it was read from
pub within : (tested : Bool) (bytes : List ℕ) (v : Icmpv4Header) (payload : List ℕ) → IsIcmpv4 tested bytes v payload →
    header_len v + length payload ≤ length bytes
within tested bytes v payload is = room bytes v payload is.whole is.says

-- bytes after others are bytes
IsBytes-drop : (n : ℕ) (bytes : List ℕ) → IsBytes bytes → IsBytes (drop n bytes)
IsBytes-drop n bytes small i = rw (get_or-drop n bytes i 0) (small (n + i))

-- a number of two bytes
be16-small : (bytes : List ℕ) (i : ℕ) → IsBytes bytes → be16 bytes i < 2 ^ 16
be16-small bytes i small = omega (arith, small i, small (i + 1))

-- what bytes say can be sent
fits-says : (bytes : List ℕ) (v : Icmpv4Header) (payload : List ℕ) → IsBytes bytes → Says bytes v payload → Fits v × IsValue v
fits-says bytes (Header.EchoRequest ident seq_no) payload small says =
    (tt, (omega (arith, says.identifier, be16-small bytes 4 small), omega (arith, says.sequence, be16-small bytes 6 small)))
fits-says bytes (Header.EchoReply ident seq_no) payload small says =
    (tt, (omega (arith, says.identifier, be16-small bytes 4 small), omega (arith, says.sequence, be16-small bytes 6 small)))
fits-says bytes (Header.DstUnreachable reason header) payload small says =
    let code : unreachable_number reason ≡ slice_index bytes 1 = code_is bytes (Header.DstUnreachable reason header) payload says in
    let quoted = fits-v4 (following bytes) header (quoted_len bytes) (IsBytes-drop 8 bytes small) says.1.quoted in
    (quoted.0, (omega (arith, code, small 1), quoted.1))
fits-says bytes (Header.TimeExceeded reason header) payload small says =
    let code : exceeded_number reason ≡ slice_index bytes 1 = code_is bytes (Header.TimeExceeded reason header) payload says in
    let quoted = fits-v4 (following bytes) header (quoted_len bytes) (IsBytes-drop 8 bytes small) says.1.quoted in
    (quoted.0, (omega (arith, code, small 1), quoted.1))

-- a message that was read can be sent
pub fits : (tested : Bool) (bytes : List ℕ) (v : Icmpv4Header) (payload : List ℕ) → IsBytes bytes → IsIcmpv4 tested bytes v payload → Fits v × IsValue v
fits tested bytes v payload small is = fits-says bytes v payload small is.says
