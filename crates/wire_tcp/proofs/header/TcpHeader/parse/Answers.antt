use Rattle.std.proofs.Common.{ap}
use Rattle.std.specs.Prelude.{Ok}
use Rattle.wire_tcp.proofs.header.TcpHeader.parse.Goals as goal

pub returns-then-read-clause-only : goal.returns-then-read-clause-only
returns-then-read-clause-only c = λ v is. ap Ok (c.read.ensures.only v is).1

pub returns-else-read-clause-only : goal.returns-else-read-clause-only
returns-else-read-clause-only c = λ v is.
    let on = (c.read.ensures.only v is).0 in
    let off = c.if-read.false in
    absurd (cc (on, off))
