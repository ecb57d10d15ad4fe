-- What spells a message that was read.
use Rattle.std.proofs.Common.{◌≡◌, ℕ, ◌+◌, ◌≤◌, Bool, List, ◌++◌, length, drop, refl, sym, ◌∙◌, ap, arith, length-drop}
use Rattle.std.specs.Prelude.{slice_index}
use Rattle.std.proofs.lemmas.List.{drop-drop, get_or-drop}
use Rattle.wire_address.specs.Fields.{be16, be32, IsBytes}
use Rattle.wire_address.specs.declared.ipv6.Ipv6Address.{Ipv6Address}
use Rattle.wire_ip.proofs.Ipv6Laws.{header-spelling}
use Rattle.wire_address.proofs.Peel.{peel8, peel16, peel32}
use Rattle.wire_ip.specs.Ipv6 as Ipv6
use Rattle.wire_ip.specs.declared.ipv6.repr.Ipv6Repr.{Ipv6Repr}
use Rattle.wire_icmpv6.proofs.Reasons.{unreachable_code-unreachable_of, exceeded_code-exceeded_of, problem_code-problem_of}
use Rattle.wire_icmpv6.specs.Reason.{unreachable_code, exceeded_code, problem_code}
use Rattle.wire_icmpv6.proofs.NdiscLaws.{buffer_len-room}
use Rattle.wire_icmpv6.specs.Icmpv6.{MessageValue, DstUnreachable, PktTooBig, TimeExceeded, ParamProblem, EchoRequest, EchoReply, Ndisc, IsIcmpv6, IsEcho, Says}
use Rattle.wire_icmpv6.specs.Icmpv6.{KeepsAll, carried_in, code_in, free_in, header_len, echo_spelling, error_spelling, spelling}

-- all bytes after an offset are bytes
pub IsBytes-drop : (n : ℕ) (bytes : List ℕ) → IsBytes bytes → IsBytes (drop n bytes)
IsBytes-drop n bytes small = λ i. rw (get_or-drop n bytes i 0) (small (n + i))

-- an error is spelled by its four bytes at offset 4, the quoted header and what follows it
error-spelling : (message : List ℕ) (number code word : ℕ) (header : Ipv6Repr) → IsBytes message → number ≡ slice_index message 0 →
    code ≡ slice_index message 1 → word ≡ be32 message 4
    → Ipv6.IsQuoted (drop 8 message) header 40
    → message ≡ error_spelling number code word header (free_in message) (drop 48 message)
error-spelling message number code word header small kind reason at4 quoted =
    let len : 48 ≤ length message = omega (arith, quoted.room, length-drop {A = ℕ} 8 message) in
    let rest : drop 8 message ≡ Ipv6.spelling header (Ipv6.class_and_flow (drop 8 message)) ++ drop 48 message =
    header-spelling (drop 8 message) header 40 (IsBytes-drop 8 message small) quoted ∙
    ap (λ xs. Ipv6.spelling header (Ipv6.class_and_flow (drop 8 message)) ++ xs) (drop-drop 40 8 message)
    in
    peel8 message 0 number _ (omega arith) kind (
    peel8 message 1 code _ (omega arith) reason (
    peel16 message 2 (be16 message 2) _ small (omega arith) refl (
    peel32 message 4 word _ small (omega arith) at4 rest
    )
    )
    )

-- an echo message is spelled by its fields and what follows them
echo-spelling : (message : List ℕ) (number ident seq_no : ℕ) → IsBytes message → 8 ≤ length message → IsEcho number message ident seq_no
    → message ≡ echo_spelling number ident seq_no (free_in message) (drop 8 message)
echo-spelling message number ident seq_no small len is =
    peel8 message 0 number _ (omega arith) (sym is.kind) (
    peel8 message 1 0 _ (omega arith) (sym is.code) (
    peel16 message 2 (be16 message 2) _ small (omega arith) refl (
    peel16 message 4 ident _ small (omega arith) is.identifier (
    peel16 message 6 seq_no _ small (omega arith) is.sequence refl
    )
    )
    )
    )

-- a message that says this is spelled so
Says-spelled : (message : List ℕ) (v : MessageValue) → IsBytes message → KeepsAll v → 8 ≤ length message → Says message v →
    message ≡ spelling v (free_in message) (carried_in message v)
Says-spelled message (DstUnreachable reason header) small keeps len says =
    error-spelling message 1 (unreachable_code reason) (be32 message 4) header small (sym says.1.kind) (ap unreachable_code says.0 ∙
    unreachable_code-unreachable_of (code_in message)) refl says.1.quoted
Says-spelled message (PktTooBig mtu header) small keeps len says =
    error-spelling message 2 0 mtu header small (sym says.2.kind) (sym says.0) says.1 says.2.quoted
Says-spelled message (TimeExceeded reason header) small keeps len says =
    error-spelling message 3 (exceeded_code reason) (be32 message 4) header small (sym says.1.kind) (ap exceeded_code says.0 ∙
    exceeded_code-exceeded_of (code_in message)) refl says.1.quoted
Says-spelled message (ParamProblem reason pointer header) small keeps len says =
    error-spelling message 4 (problem_code reason) pointer header small (sym says.2.kind) (ap problem_code says.0 ∙
    problem_code-problem_of (code_in message)) says.1 says.2.quoted
Says-spelled message (EchoRequest ident seq_no) small keeps len says = echo-spelling message 128 ident seq_no small len says
Says-spelled message (EchoReply ident seq_no) small keeps len says = echo-spelling message 129 ident seq_no small len says
Says-spelled message (Ndisc neighbor) small keeps len says = absurd keeps

-- a message is spelled by what it says and carries
pub message-spelling : (source destination : Ipv6Address) (tested : Bool) (message : List ℕ) (v : MessageValue) → IsBytes message → KeepsAll v →
    IsIcmpv6 source destination tested message v
    → message ≡ spelling v (free_in message) (carried_in message v)
message-spelling source destination tested message v small keeps is = Says-spelled message v small keeps is.whole is.says

-- an error has room for the quoted header
error-room : (message : List ℕ) (header : Ipv6Repr) → Ipv6.IsQuoted (drop 8 message) header 40 → 48 + length (drop 48 message) ≤ length message
error-room message header is = omega (arith, is.room, length-drop {A = ℕ} 8 message, length-drop {A = ℕ} 48 message)

-- what was read is written again in no more bytes
Says-room : (message : List ℕ) (v : MessageValue) → 8 ≤ length message → Says message v → header_len v + length (carried_in message v) ≤ length message
Says-room message (DstUnreachable reason header) len says = error-room message header says.1.quoted
Says-room message (PktTooBig mtu header) len says = error-room message header says.2.quoted
Says-room message (TimeExceeded reason header) len says = error-room message header says.1.quoted
Says-room message (ParamProblem reason pointer header) len says = error-room message header says.2.quoted
Says-room message (EchoRequest ident seq_no) len says = omega (arith, length-drop {A = ℕ} 8 message)
Says-room message (EchoReply ident seq_no) len says = omega (arith, length-drop {A = ℕ} 8 message)
Says-room message (Ndisc neighbor) len says = omega (arith, buffer_len-room message neighbor says)

pub no_longer : (source destination : Ipv6Address) (tested : Bool) (message : List ℕ) (v : MessageValue) → IsIcmpv6 source destination tested message v
    → header_len v + length (carried_in message v) ≤ length message
no_longer source destination tested message v is = Says-room message v is.whole is.says
