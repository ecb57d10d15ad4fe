use Rattle.std.proofs.Common.{◌∷◌, ◌++◌, arith}
use Rattle.wire_address.proofs.Ipv6Texts.{Lacks-ipv6}
use Rattle.wire_address.proofs.Texts.{some_inside}
use Rattle.wire_address.proofs.text.ipv6_endpoint.Goals as goal

pub returns-in_err-front-clause-only : goal.returns-in_err-front-clause-only
returns-in_err-front-clause-only c = λ a port h.
    let first = c.in_ok-inner.ensures.only (h.address ++ 93 ∷ 58 ∷ h.digits) h.spelled in
    absurd (c.in_err-front.ensures.only h.address (58 ∷ h.digits) record {
      joined = first;
      first =
          Lacks-ipv6 93 h.address a (omega arith) (λ e. omega arith) (λ e. omega arith) h.of_address;
    })

pub returns-in_err-digits-clause-only : goal.returns-in_err-digits-clause-only
returns-in_err-digits-clause-only c = λ a port h.
    let first = c.in_ok-inner.ensures.only (h.address ++ 93 ∷ 58 ∷ h.digits) h.spelled in
    let second = c.in_ok-front.ensures.only h.address (58 ∷ h.digits) record {
      joined = first;
      first =
          Lacks-ipv6 93 h.address a (omega arith) (λ e. omega arith) (λ e. omega arith) h.of_address;
    } in
    absurd (c.in_err-digits.ensures.only h.digits second.1)

pub returns-in_err-address-clause-only : goal.returns-in_err-address-clause-only
returns-in_err-address-clause-only c = λ a port h.
    let first = c.in_ok-inner.ensures.only (h.address ++ 93 ∷ 58 ∷ h.digits) h.spelled in
    let second = c.in_ok-front.ensures.only h.address (58 ∷ h.digits) record {
      joined = first;
      first =
          Lacks-ipv6 93 h.address a (omega arith) (λ e. omega arith) (λ e. omega arith) h.of_address;
    } in
    let no = c.in_err-address.ensures.only a (rw second.0 h.of_address) in
    absurd (cc)

pub returns-in_err-port-clause-only : goal.returns-in_err-port-clause-only
returns-in_err-port-clause-only c = λ a port h.
    let first = c.in_ok-inner.ensures.only (h.address ++ 93 ∷ 58 ∷ h.digits) h.spelled in
    let second = c.in_ok-front.ensures.only h.address (58 ∷ h.digits) record {
      joined = first;
      first =
          Lacks-ipv6 93 h.address a (omega arith) (λ e. omega arith) (λ e. omega arith) h.of_address;
    } in
    let third = c.in_ok-digits.ensures.only h.digits second.1 in
    let no = c.in_err-port.ensures.only port (rw third h.of_port) in
    absurd (cc)

pub returns-clause-only : goal.returns-clause-only
returns-clause-only c = λ a port h.
    let first = c.in_ok-inner.ensures.only (h.address ++ 93 ∷ 58 ∷ h.digits) h.spelled in
    let second = c.in_ok-front.ensures.only h.address (58 ∷ h.digits) record {
      joined = first;
      first =
          Lacks-ipv6 93 h.address a (omega arith) (λ e. omega arith) (λ e. omega arith) h.of_address;
    } in
    let third = c.in_ok-digits.ensures.only h.digits second.1 in
    (some_inside _ _ (c.in_ok-address.ensures.only a (rw second.0 h.of_address)), some_inside _ _ (c.in_ok-port.ensures.only port (rw third h.of_port)))
