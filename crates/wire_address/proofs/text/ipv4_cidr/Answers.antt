use Rattle.std.proofs.Common.{◌∙◌, arith}
use Rattle.wire_address.proofs.Texts.{Lacks-dotted, some_inside}
use Rattle.wire_address.proofs.text.ipv4_cidr.Goals as goal

pub returns-in_err-front-clause-only : goal.returns-in_err-front-clause-only
returns-in_err-front-clause-only c = λ a len h.
    absurd (c.in_err-front.ensures.only h.address h.digits record {
      joined = h.spelled;
      first =
          Lacks-dotted 47 h.address a.0 (omega arith) (λ e. omega arith) h.of_address;
    })

pub returns-in_err-address-clause-only : goal.returns-in_err-address-clause-only
returns-in_err-address-clause-only c = λ a len h.
    let same = c.in_ok-front.ensures.only h.address h.digits record {
      joined = h.spelled;
      first =
          Lacks-dotted 47 h.address a.0 (omega arith) (λ e. omega arith) h.of_address;
    } in
    let no = c.in_err-address.ensures.only a (rw same.0 h.of_address) in
    absurd (cc)

pub returns-in_err-len-clause-only : goal.returns-in_err-len-clause-only
returns-in_err-len-clause-only c = λ a len h.
    let same = c.in_ok-front.ensures.only h.address h.digits record {
      joined = h.spelled;
      first =
          Lacks-dotted 47 h.address a.0 (omega arith) (λ e. omega arith) h.of_address;
    } in
    let no = c.in_err-len.ensures.only len (rw same.1 h.of_len) in
    absurd (cc)

pub returns-clause-only : goal.returns-clause-only
returns-clause-only c = λ a len h.
    let same = c.in_ok-front.ensures.only h.address h.digits record {
      joined = h.spelled;
      first =
          Lacks-dotted 47 h.address a.0 (omega arith) (λ e. omega arith) h.of_address;
    } in (
      c.new.ensures.address ∙ some_inside _ _ (c.in_ok-address.ensures.only a (rw same.0 h.of_address)),
      c.new.ensures.prefix_len ∙
          some_inside _ _ (c.in_ok-len.ensures.only len (rw same.1 h.of_len)),
    )
