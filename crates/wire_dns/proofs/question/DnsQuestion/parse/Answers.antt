use Rattle.std.proofs.Common.{◌≡◌, ℕ, ◌+◌, ◌≤◌, Ok, length, ap, ◌∙◌, arith}
use Rattle.wire_address.specs.Fields.{be16}
use Rattle.wire_dns.specs.Codes.{type_of}
use Rattle.wire_dns.specs.Message.{IsQuestion}
use Rattle.wire_dns.specs.Name.{bytes_of_name}
use Rattle.wire_dns.proofs.Found.{question-is}
use Rattle.wire_dns.proofs.question.DnsQuestion.parse.Goals as goal
use Rattle.wire_dns.proofs.question.DnsQuestion.parse.Goals.{then-name_end-message-via-then-name_end-message}
use Rattle.wire_dns.proofs.question.DnsQuestion.parse.Goals.{then-name_end-message-via-else-name_end-message+then-message-name_end-lt4}

pub returns-in_err-name-clause-only : goal.returns-in_err-name-clause-only
returns-in_err-name-clause-only c = λ question end is.
    let no = (c.in_err-name.ensures.only (bytes_of_name question.name) is.name_end is.name).0 in
    absurd (cc no)

pub returns-then-name_end-message-clause-only : goal.returns-then-name_end-message-clause-only
returns-then-name_end-message-clause-only c = λ question end is.
    let named = c.in_ok-name.ensures.only (bytes_of_name question.name) is.name_end is.name in
    let ends : c.in_ok-name.name_end ≡ is.name_end = named.1.1 in
    let within : is.name_end + 4 ≤ length c.args.message.now = is.within in
    elim c.then-name_end-message.branch [
      | then-name_end-message-via-then-name_end-message w ↦ absurd (omega (arith, ends, within))
      | then-name_end-message-via-else-name_end-message+then-message-name_end-lt4 w ↦ absurd (omega (arith, ends, within))
    ]

pub returns-then-read_u16-ne-CLASS_IN-clause-only : goal.returns-then-read_u16-ne-CLASS_IN-clause-only
returns-then-read_u16-ne-CLASS_IN-clause-only c = λ question end is.
    let named = c.in_ok-name.ensures.only (bytes_of_name question.name) is.name_end is.name in
    let ends : c.in_ok-name.name_end ≡ is.name_end = named.1.1 in
    let class : c.read_u16.result ≡ 1 = c.read_u16.ensures ∙ ap (λ k. be16 c.args.message.now (k + 2)) ends ∙ is.class in
    absurd (omega (arith, class))

pub returns-clause-only : goal.returns-clause-only
returns-clause-only c = λ question end is.
    let named = c.in_ok-name.ensures.only (bytes_of_name question.name) is.name_end is.name in
    let kinds : c.from_number-type_.result ≡ type_of (be16 c.args.message.now c.in_ok-name.name_end) =
    c.from_number-type_.ensures ∙ ap type_of c.read_u16-2.ensures in
    ap Ok (question-is c.args.message.now c.args.at question end c.in_ok-name.name c.from_number-type_.result c.in_ok-name.name_end is named.1.0
    named.1.1 kinds)
