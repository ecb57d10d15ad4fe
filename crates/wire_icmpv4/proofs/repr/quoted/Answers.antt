use Rattle.std.proofs.Common.{sym, subst}
use Rattle.wire_ip.specs.Ipv4 as Ipv4
use Rattle.wire_icmpv4.specs.Icmpv4.{bytes_of, quoted_len}
use Rattle.wire_icmpv4.proofs.repr.quoted.Goals as goal

pub returns-in_err-header-clause-only : goal.returns-in_err-header-clause-only
returns-in_err-header-clause-only c = λ v is.
    let same = subst (λ xs. Ipv4.IsQuoted xs v (quoted_len (bytes_of c.args.packet.now))) (sym c.data-data.ensures) is in
    let ok = c.parse_quoted.ensures.only v (quoted_len (bytes_of c.args.packet.now)) same in
    let err = c.in_err-header.was in
    absurd (cc (ok, err))
