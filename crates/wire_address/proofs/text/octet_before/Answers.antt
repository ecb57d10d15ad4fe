use Rattle.std.proofs.Common.{arith}
use Rattle.wire_address.proofs.Texts.{Lacks-digits, some_inside}
use Rattle.wire_address.proofs.text.octet_before.Goals as goal

pub returns-in_err-front-clause-only : goal.returns-in_err-front-clause-only
returns-in_err-front-clause-only c = λ n rest h.
    absurd (c.in_err-front.ensures.only h.0 rest record { joined = h.1; first = Lacks-digits 10 46 h.0 h.2.0.0.0.1 (omega arith) })

pub returns-in_err-number-clause-only : goal.returns-in_err-number-clause-only
returns-in_err-number-clause-only c = λ n rest h.
    let same = c.in_ok-front.ensures.only h.0 rest record { joined = h.1; first = Lacks-digits 10 46 h.0 h.2.0.0.0.1 (omega arith) } in
    let no = c.in_err-number.ensures.only n (rw same.0 h.2) in
    absurd (cc)

pub returns-clause-only : goal.returns-clause-only
returns-clause-only c = λ n rest h.
    let same = c.in_ok-front.ensures.only h.0 rest record { joined = h.1; first = Lacks-digits 10 46 h.0 h.2.0.0.0.1 (omega arith) } in
    (some_inside _ _ (c.in_ok-number.ensures.only n (rw same.0 h.2)), same.1)
