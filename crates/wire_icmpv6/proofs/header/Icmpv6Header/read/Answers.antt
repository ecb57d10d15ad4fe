use Rattle.std.proofs.Common.{arith}
use Rattle.wire_icmpv6.proofs.Errors.{quotes}
use Rattle.wire_icmpv6.specs.Packet.{bytes_of}
use Rattle.wire_icmpv6.proofs.header.Icmpv6Header.read.Goals as goal

pub returns-in_err-quoted-in-DstUnreachable-default-clause-only : goal.returns-in_err-quoted-in-DstUnreachable-default-clause-only
returns-in_err-quoted-in-DstUnreachable-default-clause-only c = λ v says.
    let quote = quotes (bytes_of c.args.packet.now) v (omega (arith, c.in-DstUnreachable-default.ensures.number)) says in
    let ok = c.quoted.ensures.only quote.0 quote.1 in
    let was = c.in_err-quoted-in-DstUnreachable-default.was in
    absurd (cc (ok, was))

pub returns-in_err-quoted-in-PktTooBig-eq0-clause-only : goal.returns-in_err-quoted-in-PktTooBig-eq0-clause-only
returns-in_err-quoted-in-PktTooBig-eq0-clause-only c = λ v says.
    let quote = quotes (bytes_of c.args.packet.now) v (omega (arith, c.in-PktTooBig-eq0.ensures.number)) says in
    let ok = c.quoted-in-PktTooBig-eq0.ensures.only quote.0 quote.1 in
    let was = c.in_err-quoted-in-PktTooBig-eq0.was in
    absurd (cc (ok, was))

pub returns-in_err-quoted-in-TimeExceeded-default-clause-only : goal.returns-in_err-quoted-in-TimeExceeded-default-clause-only
returns-in_err-quoted-in-TimeExceeded-default-clause-only c = λ v says.
    let quote = quotes (bytes_of c.args.packet.now) v (omega (arith, c.in-TimeExceeded-default.ensures.number)) says in
    let ok = c.quoted-in-TimeExceeded-default.ensures.only quote.0 quote.1 in
    let was = c.in_err-quoted-in-TimeExceeded-default.was in
    absurd (cc (ok, was))

pub returns-in_err-quoted-in-ParamProblem-default-clause-only : goal.returns-in_err-quoted-in-ParamProblem-default-clause-only
returns-in_err-quoted-in-ParamProblem-default-clause-only c = λ v says.
    let quote = quotes (bytes_of c.args.packet.now) v (omega (arith, c.in-ParamProblem-default.ensures.number)) says in
    let ok = c.quoted-in-ParamProblem-default.ensures.only quote.0 quote.1 in
    let was = c.in_err-quoted-in-ParamProblem-default.was in
    absurd (cc (ok, was))
