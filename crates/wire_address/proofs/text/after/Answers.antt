use Rattle.std.proofs.Common.{[], arith}
use Rattle.wire_address.proofs.text.after.Goals as goal

pub returns-in_err-front-clause-only : goal.returns-in_err-front-clause-only
returns-in_err-front-clause-only c = λ rest h. absurd (c.in_err-front.ensures.only [] rest record { joined = h; first = λ i less. absurd (omega arith) })
