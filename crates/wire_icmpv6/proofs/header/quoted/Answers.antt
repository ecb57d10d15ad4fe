use Rattle.std.proofs.Common.{◌∙◌, sym, ap, subst, drop}
use Rattle.wire_ip.specs.Ipv6 as Ipv6
use Rattle.wire_icmpv6.proofs.header.quoted.Goals as goal

pub returns-in_err-header-clause-only : goal.returns-in_err-header-clause-only
returns-in_err-header-clause-only c = λ v is.
    let same = ap (drop 8) c.into_inner.ensures in
    let here = subst (λ xs. Ipv6.IsQuoted xs v 40) (sym (c.split_at.ensures.back ∙ same)) is in
    let ok = c.parse_quoted.ensures.only v 40 here in
    let was = c.in_err-header.was in
    absurd (cc (ok, was))
