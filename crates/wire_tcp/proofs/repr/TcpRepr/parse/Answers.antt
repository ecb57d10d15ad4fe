use Rattle.std.proofs.Common.{◌∙◌, refl}
use Rattle.wire_tcp.proofs.repr.TcpRepr.parse.Goals as goal

pub returns-clause-only : goal.returns-clause-only
returns-clause-only c = λ v is.
    let ok = c.parse.ensures.only v is in
    let was = c.in_ok-header.was in
    (refl, c.new.ensures.header ∙ cc (ok, was))
