use Rattle.std.proofs.Common.{refl}
use Rattle.wire_tcp.proofs.option.TcpOptions.read_some.Goals as goal

pub returns-in-Ok-clause-only : goal.returns-in-Ok-clause-only
returns-in-Ok-clause-only c = λ v says.
    let ok = c.parse.ensures.only v says in
    let is = c.in-Ok.is in
    (refl, cc (ok, is))

pub returns-in-Err-clause-only : goal.returns-in-Err-clause-only
returns-in-Err-clause-only c = λ v says.
    let ok = c.parse.ensures.only v says in
    let is = c.in-Err.is in
    absurd (cc (ok, is))
