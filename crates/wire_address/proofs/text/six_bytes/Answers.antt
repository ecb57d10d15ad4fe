use Rattle.std.proofs.Common.{ℕ, List, Some, sym, ap}
use Rattle.wire_address.specs.declared.ethernet.EthernetAddress.{EthernetAddress}
use Rattle.wire_address.proofs.Texts.{some_inside}
use Rattle.wire_address.proofs.text.six_bytes.Goals as goal

pub returns-in_err-a-clause-only : goal.returns-in_err-a-clause-only
returns-in_err-a-clause-only c = λ address h.
    absurd (c.in_err-a.ensures.only h.a h.after_a h.first)

pub returns-in_err-b-clause-only : goal.returns-in_err-b-clause-only
returns-in_err-b-clause-only c = λ address h.
    let first = c.in_ok-a.ensures.only h.a h.after_a h.first in
    absurd (c.in_err-b.ensures.only h.b h.after_b (rw first.1 h.second))

pub returns-in_err-c-clause-only : goal.returns-in_err-c-clause-only
returns-in_err-c-clause-only c = λ address h.
    let first = c.in_ok-a.ensures.only h.a h.after_a h.first in
    let second = c.in_ok-b.ensures.only h.b h.after_b (rw first.1 h.second) in
    absurd (c.in_err-c.ensures.only h.c h.after_c (rw second.1 h.third))

pub returns-in_err-d-clause-only : goal.returns-in_err-d-clause-only
returns-in_err-d-clause-only c = λ address h.
    let first = c.in_ok-a.ensures.only h.a h.after_a h.first in
    let second = c.in_ok-b.ensures.only h.b h.after_b (rw first.1 h.second) in
    let third = c.in_ok-c.ensures.only h.c h.after_c (rw second.1 h.third) in
    absurd (c.in_err-d.ensures.only h.d h.after_d (rw third.1 h.fourth))

pub returns-in_err-e-clause-only : goal.returns-in_err-e-clause-only
returns-in_err-e-clause-only c = λ address h.
    let first = c.in_ok-a.ensures.only h.a h.after_a h.first in
    let second = c.in_ok-b.ensures.only h.b h.after_b (rw first.1 h.second) in
    let third = c.in_ok-c.ensures.only h.c h.after_c (rw second.1 h.third) in
    let fourth = c.in_ok-d.ensures.only h.d h.after_d (rw third.1 h.fourth) in
    absurd (c.in_err-e.ensures.only h.e h.after_e (rw fourth.1 h.fifth))

pub returns-in_err-f-clause-only : goal.returns-in_err-f-clause-only
returns-in_err-f-clause-only c = λ address h.
    let first = c.in_ok-a.ensures.only h.a h.after_a h.first in
    let second = c.in_ok-b.ensures.only h.b h.after_b (rw first.1 h.second) in
    let third = c.in_ok-c.ensures.only h.c h.after_c (rw second.1 h.third) in
    let fourth = c.in_ok-d.ensures.only h.d h.after_d (rw third.1 h.fourth) in
    let fifth = c.in_ok-e.ensures.only h.e h.after_e (rw fourth.1 h.fifth) in
    let no = c.in_err-f.ensures.only h.f (rw fifth.1 h.sixth) in
    absurd (cc)

pub returns-clause-only : goal.returns-clause-only
returns-clause-only c = λ address h.
    let first = c.in_ok-a.ensures.only h.a h.after_a h.first in
    let second = c.in_ok-b.ensures.only h.b h.after_b (rw first.1 h.second) in
    let third = c.in_ok-c.ensures.only h.c h.after_c (rw second.1 h.third) in
    let fourth = c.in_ok-d.ensures.only h.d h.after_d (rw third.1 h.fourth) in
    let fifth = c.in_ok-e.ensures.only h.e h.after_e (rw fourth.1 h.fifth) in
    let sixth = some_inside _ _ (c.in_ok-f.ensures.only h.f (rw fifth.1 h.sixth)) in
    let make : List ℕ → EthernetAddress = λ o. record { 0 = o } in
    ap (λ (o : List ℕ). Some (make o)) (rw (first.0, second.0, third.0, fourth.0, fifth.0, sixth) (sym h.value))
