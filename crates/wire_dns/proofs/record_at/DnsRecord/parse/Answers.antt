use Rattle.std.proofs.Common.{◌≡◌, ℕ, ◌+◌, ◌≤◌, Ok, length, ap, ◌∙◌, arith}
use Rattle.wire_address.specs.Fields.{be16}
use Rattle.wire_dns.specs.Message.{IsRecord}
use Rattle.wire_dns.specs.Name.{bytes_of_name}
use Rattle.wire_dns.proofs.Found.{holds-as, one-record}
use Rattle.wire_dns.proofs.record_at.DnsRecord.parse.Goals as goal
use Rattle.wire_dns.proofs.record_at.DnsRecord.parse.Goals.{then-name_end-message-via-then-name_end-message}
use Rattle.wire_dns.proofs.record_at.DnsRecord.parse.Goals.{then-name_end-message-via-else-name_end-message+then-message-name_end-lt10}

pub returns-in_err-name-clause-only : goal.returns-in_err-name-clause-only
returns-in_err-name-clause-only c = λ answer end is.
    let no = (c.in_err-name.ensures.only (bytes_of_name answer.name) is.name_end is.name).0 in
    absurd (cc no)

pub returns-then-name_end-message-clause-only : goal.returns-then-name_end-message-clause-only
returns-then-name_end-message-clause-only c = λ answer end is.
    let named = c.in_ok-name.ensures.only (bytes_of_name answer.name) is.name_end is.name in
    let ends : c.in_ok-name.name_end ≡ is.name_end = named.1.1 in
    let within : is.name_end + 10 + be16 c.args.message.now (is.name_end + 8) ≤ length c.args.message.now = is.within in
    elim c.then-name_end-message.branch [
      | then-name_end-message-via-then-name_end-message w ↦ absurd (omega (arith, ends, within))
      | then-name_end-message-via-else-name_end-message+then-message-name_end-lt10 w ↦ absurd (omega (arith, ends, within))
    ]

pub returns-then-len-message-clause-only : goal.returns-then-len-message-clause-only
returns-then-len-message-clause-only c = λ answer end is.
    let named = c.in_ok-name.ensures.only (bytes_of_name answer.name) is.name_end is.name in
    let ends : c.in_ok-name.name_end ≡ is.name_end = named.1.1 in
    let lens : c.read_u16-len.result ≡ be16 c.args.message.now (is.name_end + 8) = c.read_u16-len.ensures ∙ ap (λ k. be16 c.args.message.now (k + 8)) ends in
    let within : is.name_end + 10 + be16 c.args.message.now (is.name_end + 8) ≤ length c.args.message.now = is.within in
    absurd (omega (arith, ends, lens, within))

pub returns-in_err-data-clause-only : goal.returns-in_err-data-clause-only
returns-in_err-data-clause-only c = λ answer end is.
    let named = c.in_ok-name.ensures.only (bytes_of_name answer.name) is.name_end is.name in
    let held = holds-as c.args.message.now c.args.at answer end c.in_ok-name.name_end c.read_u16-class.result c.read_u16-kind.result c.read_u16-len.result is
    named.1.1 c.read_u16-class.ensures c.read_u16-kind.ensures c.read_u16-len.ensures in
    let no = c.in_err-data.ensures.only answer.«data» held in
    absurd (cc no)

pub returns-clause-only : goal.returns-clause-only
returns-clause-only c = λ answer end is.
    let named = c.in_ok-name.ensures.only (bytes_of_name answer.name) is.name_end is.name in
    let held = holds-as c.args.message.now c.args.at answer end c.in_ok-name.name_end c.read_u16-class.result c.read_u16-kind.result c.read_u16-len.result is
    named.1.1 c.read_u16-class.ensures c.read_u16-kind.ensures c.read_u16-len.ensures in
    let same = c.in_ok-data.ensures.only answer.«data» held in
    one-record c.args.message.now c.args.at answer end c.in_ok-name.name c.read_u32-ttl.result c.in_ok-data.«data» c.in_ok-name.name_end c.read_u16-len.result
    is named.1.0 named.1.1 c.read_u32-ttl.ensures same c.read_u16-len.ensures
