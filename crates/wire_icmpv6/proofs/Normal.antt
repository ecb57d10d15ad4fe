-- A message that was read can be sent, and is in its canonical form.
use Rattle.std.proofs.Common.{◌≡◌, ℕ, ◌+◌, ◌<◌, ◌^◌, Bool, List, drop, refl, sym, ◌∙◌, ap, arith}
use Rattle.std.specs.Prelude.{slice_index}
use Rattle.wire_address.specs.Fields.{be16, be32, IsBytes}
use Rattle.wire_address.specs.Protocol.{protocol_number, protocol_of}
use Rattle.wire_address.specs.declared.ipv6.Ipv6Address.{Ipv6Address}
use Rattle.wire_address.proofs.Numbers.{protocol_number-protocol_of}
use Rattle.wire_ip.proofs.QuotedLaws.{fits-v6}
use Rattle.wire_ip.specs.Ipv6 as Ipv6
use Rattle.wire_ip.specs.declared.ipv6.repr.Ipv6Repr.{Ipv6Repr}
use Rattle.wire_icmpv6.proofs.NdiscLaws as Neighbor
use Rattle.wire_icmpv6.proofs.NdiscNormal.{IsNdisc-value, IsNdisc-normal}
use Rattle.wire_icmpv6.proofs.Reasons.{unreachable_code-unreachable_of, exceeded_code-exceeded_of, problem_code-problem_of}
use Rattle.wire_icmpv6.proofs.Spelled.{IsBytes-drop}
use Rattle.wire_icmpv6.specs.Reason.{unreachable_code, unreachable_of, exceeded_code, exceeded_of, problem_code, problem_of}
use Rattle.wire_icmpv6.specs.declared.reason.Icmpv6DstUnreachable.{Icmpv6DstUnreachable}
use Rattle.wire_icmpv6.specs.declared.reason.Icmpv6TimeExceeded.{Icmpv6TimeExceeded}
use Rattle.wire_icmpv6.specs.declared.reason.Icmpv6ParamProblem.{Icmpv6ParamProblem}
use Rattle.wire_icmpv6.specs.Icmpv6.{MessageValue, DstUnreachable, PktTooBig, TimeExceeded, ParamProblem, EchoRequest, EchoReply, Ndisc, IsIcmpv6, IsValue, Says}
use Rattle.wire_icmpv6.specs.Icmpv6.{Fits, CanCarry, carried_in, code_in, normal}

-- a quoted header can be sent
quote-fits : (message : List ℕ) (header : Ipv6Repr) → IsBytes message → Ipv6.IsQuoted (drop 8 message) header 40 → Ipv6.Fits header × Ipv6.IsValue header
quote-fits message header small is = fits-v6 (drop 8 message) header 40 (IsBytes-drop 8 message small) is

Says-fits : (message : List ℕ) (v : MessageValue) → IsBytes message → Says message v → Fits v
Says-fits message (DstUnreachable reason header) small says = (quote-fits message header small says.1.quoted).0
Says-fits message (PktTooBig mtu header) small says = (quote-fits message header small says.2.quoted).0
Says-fits message (TimeExceeded reason header) small says = (quote-fits message header small says.1.quoted).0
Says-fits message (ParamProblem reason pointer header) small says = (quote-fits message header small says.2.quoted).0
Says-fits message (EchoRequest ident seq_no) small says = tt
Says-fits message (EchoReply ident seq_no) small says = tt
Says-fits message (Ndisc neighbor) small says = tt

-- the code of a reason that was read is a byte
below : (code n : ℕ) → code ≡ n → n < 256 → code < 256
below code n is small = omega arith

-- numbers of two and four bytes
half-small : (bytes : List ℕ) (i n : ℕ) → IsBytes bytes → n ≡ be16 bytes i → n < 2 ^ 16
half-small bytes i n small is = omega (arith, is, small i, small (i + 1))

word-small : (bytes : List ℕ) (n : ℕ) → IsBytes bytes → n ≡ be32 bytes 4 → n < 2 ^ 32
word-small bytes n small is = omega (arith, is, half-small bytes 4 (be16 bytes 4) small refl, half-small bytes 6 (be16 bytes 6) small refl)

-- each field is a number of its width
Says-value : (message : List ℕ) (v : MessageValue) → IsBytes message → Says message v → IsValue v
Says-value message (DstUnreachable reason header) small says =
    (below _ _ (ap unreachable_code says.0 ∙ unreachable_code-unreachable_of (code_in message)) (small 1), (quote-fits message header small says.1.quoted).1)
Says-value message (PktTooBig mtu header) small says =
    (word-small message mtu small says.1, (quote-fits message header small says.2.quoted).1)
Says-value message (TimeExceeded reason header) small says =
    (below _ _ (ap exceeded_code says.0 ∙ exceeded_code-exceeded_of (code_in message)) (small 1), (quote-fits message header small says.1.quoted).1)
Says-value message (ParamProblem reason pointer header) small says = (
  below _ _ (ap problem_code says.0 ∙ problem_code-problem_of (code_in message)) (small 1),
  word-small message pointer small says.1,
  (quote-fits message header small says.2.quoted).1,
)
Says-value message (EchoRequest ident seq_no) small says = (half-small message 4 ident small says.identifier, half-small message 6 seq_no small says.sequence)
Says-value message (EchoReply ident seq_no) small says = (half-small message 4 ident small says.identifier, half-small message 6 seq_no small says.sequence)
Says-value message (Ndisc neighbor) small says = IsNdisc-value message neighbor small says

-- a message that was read can be sent again
pub fits : (source destination : Ipv6Address) (tested : Bool) (message : List ℕ) (v : MessageValue) → IsBytes message →
    IsIcmpv6 source destination tested message v → Fits v × IsValue v
fits source destination tested message v small is = (Says-fits message v small is.says, Says-value message v small is.says)

-- with the bytes that it carries
pub can_carry : (message : List ℕ) (v : MessageValue) → CanCarry v (carried_in message v)
can_carry message (DstUnreachable reason header) = tt
can_carry message (PktTooBig mtu header) = tt
can_carry message (TimeExceeded reason header) = tt
can_carry message (ParamProblem reason pointer header) = tt
can_carry message (EchoRequest ident seq_no) = tt
can_carry message (EchoReply ident seq_no) = tt
can_carry message (Ndisc neighbor) = refl

-- a quoted header that was read is in its canonical form
protocol-normal : (header : Ipv6Repr) (n : ℕ) → header.next_header ≡ protocol_of n → Ipv6.normal header ≡ header
protocol-normal header n is =
    let number : protocol_number header.next_header ≡ n = ap protocol_number is ∙ protocol_number-protocol_of n in
    let same : protocol_of (protocol_number header.next_header) ≡ header.next_header = ap protocol_of number ∙ sym is in
    ap (λ p. record header { next_header = p }) same

quote-normal : (message : List ℕ) (header : Ipv6Repr) → Ipv6.IsQuoted (drop 8 message) header 40 → Ipv6.normal header ≡ header
quote-normal message header is = protocol-normal header (slice_index (drop 8 message) 6) is.protocol

-- a reason that was read
unreachable-normal : (reason : Icmpv6DstUnreachable) (n : ℕ) → reason ≡ unreachable_of n → unreachable_of (unreachable_code reason) ≡ reason
unreachable-normal reason n is = ap (λ r. unreachable_of (unreachable_code r)) is ∙ ap unreachable_of (unreachable_code-unreachable_of n) ∙ sym is

exceeded-normal : (reason : Icmpv6TimeExceeded) (n : ℕ) → reason ≡ exceeded_of n → exceeded_of (exceeded_code reason) ≡ reason
exceeded-normal reason n is = ap (λ r. exceeded_of (exceeded_code r)) is ∙ ap exceeded_of (exceeded_code-exceeded_of n) ∙ sym is

problem-normal : (reason : Icmpv6ParamProblem) (n : ℕ) → reason ≡ problem_of n → problem_of (problem_code reason) ≡ reason
problem-normal reason n is = ap (λ r. problem_of (problem_code r)) is ∙ ap problem_of (problem_code-problem_of n) ∙ sym is

-- what was read is in its canonical form
Says-normal : (message : List ℕ) (v : MessageValue) → Says message v → normal v ≡ v
Says-normal message (DstUnreachable reason header) says =
    let a = unreachable-normal reason (code_in message) says.0 in let b = quote-normal message header says.1.quoted in rw (a, b) refl
Says-normal message (PktTooBig mtu header) says = ap (PktTooBig mtu) (quote-normal message header says.2.quoted)
Says-normal message (TimeExceeded reason header) says =
    let a = exceeded-normal reason (code_in message) says.0 in let b = quote-normal message header says.1.quoted in rw (a, b) refl
Says-normal message (ParamProblem reason pointer header) says =
    let a = problem-normal reason (code_in message) says.0 in let b = quote-normal message header says.2.quoted in rw (a, b) refl
Says-normal message (EchoRequest ident seq_no) says = refl
Says-normal message (EchoReply ident seq_no) says = refl
Says-normal message (Ndisc neighbor) says = ap Ndisc (IsNdisc-normal message neighbor says)

pub normal-read : (source destination : Ipv6Address) (tested : Bool) (message : List ℕ) (v : MessageValue) → IsIcmpv6 source destination tested message v →
    normal v ≡ v
normal-read source destination tested message v is = Says-normal message v is.says

-- the parts of a canonical form
quote-again : (header : Ipv6Repr) → Ipv6.normal (Ipv6.normal header) ≡ Ipv6.normal header
quote-again header = protocol-normal (Ipv6.normal header) (protocol_number header.next_header) refl

unreachable-again : (reason : Icmpv6DstUnreachable) → unreachable_of (unreachable_code (unreachable_of (unreachable_code reason))) ≡
    unreachable_of (unreachable_code reason)
unreachable-again reason = unreachable-normal (unreachable_of (unreachable_code reason)) (unreachable_code reason) refl

exceeded-again : (reason : Icmpv6TimeExceeded) → exceeded_of (exceeded_code (exceeded_of (exceeded_code reason))) ≡ exceeded_of (exceeded_code reason)
exceeded-again reason = exceeded-normal (exceeded_of (exceeded_code reason)) (exceeded_code reason) refl

problem-again : (reason : Icmpv6ParamProblem) → problem_of (problem_code (problem_of (problem_code reason))) ≡ problem_of (problem_code reason)
problem-again reason = problem-normal (problem_of (problem_code reason)) (problem_code reason) refl

-- a canonical form is in its canonical form
pub normal-normal : (v : MessageValue) → normal (normal v) ≡ normal v
normal-normal (DstUnreachable reason header) =
    ap (λ r. DstUnreachable r (Ipv6.normal (Ipv6.normal header))) (unreachable-again reason) ∙
    ap (DstUnreachable (unreachable_of (unreachable_code reason))) (quote-again header)
normal-normal (PktTooBig mtu header) = ap (PktTooBig mtu) (quote-again header)
normal-normal (TimeExceeded reason header) =
    ap (λ r. TimeExceeded r (Ipv6.normal (Ipv6.normal header))) (exceeded-again reason) ∙
    ap (TimeExceeded (exceeded_of (exceeded_code reason))) (quote-again header)
normal-normal (ParamProblem reason pointer header) =
    ap (λ r. ParamProblem r pointer (Ipv6.normal (Ipv6.normal header))) (problem-again reason) ∙
    ap (ParamProblem (problem_of (problem_code reason)) pointer) (quote-again header)
normal-normal (EchoRequest ident seq_no) = refl
normal-normal (EchoReply ident seq_no) = refl
normal-normal (Ndisc neighbor) = ap Ndisc (Neighbor.normal-normal neighbor)
