use Rattle.std.proofs.Common.{◌≡◌, ℕ, ◌+◌, Ok, ap, ◌∙◌, arith}
use Rattle.wire_dns.specs.Name.{bytes_of_name}
use Rattle.wire_dns.specs.declared.record_at.DnsRecordData.TheVariants.{Cname}
use Rattle.wire_dns.proofs.Found.{name-is, cname-is}
use Rattle.wire_dns.proofs.record_at.cname.Goals as goal

pub returns-in_err-name-clause-only : goal.returns-in_err-name-clause-only
returns-in_err-name-clause-only c = λ held is.
    let h = cname-is c.args.message.now c.args.start c.args.len held is in
    let no = (c.in_err-name.ensures.only (bytes_of_name h.name) (c.args.start + c.args.len) h.stands).0 in
    absurd (cc no)

pub returns-then-end-start-clause-only : goal.returns-then-end-start-clause-only
returns-then-end-start-clause-only c = λ held is.
    let h = cname-is c.args.message.now c.args.start c.args.len held is in
    let named = c.in_ok-name.ensures.only (bytes_of_name h.name) (c.args.start + c.args.len) h.stands in
    let ends : c.in_ok-name.end ≡ c.args.start + c.args.len = named.1.1 in
    absurd (omega (arith, ends))

pub returns-clause-only : goal.returns-clause-only
returns-clause-only c = λ held is.
    let h = cname-is c.args.message.now c.args.start c.args.len held is in
    let named = c.in_ok-name.ensures.only (bytes_of_name h.name) (c.args.start + c.args.len) h.stands in
    ap Ok (ap Cname (name-is c.in_ok-name.name h.name named.1.0) ∙ h.is)
