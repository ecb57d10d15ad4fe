use Rattle.std.proofs.Common.{◌≡◌, ◌≤◌, ◌+◌, ◌++◌, ◌∷◌, ◌∙◌, length, length-append, sym, ap, ap₂, arith}
use Rattle.wire_address.specs.Text.{two_groups}
use Rattle.wire_address.specs.declared.ipv4.Ipv4Address.{Ipv4Address}
use Rattle.wire_address.proofs.Ipv6Texts.{IsCutAtLast-end}
use Rattle.wire_address.proofs.Texts.{IsSomeAnd-from, some_inside}
use Rattle.wire_address.proofs.text.dotted_end.Goals as goal

pub returns-in_err-front-clause-only : goal.returns-in_err-front-clause-only
returns-in_err-front-clause-only c = λ hex h fits. absurd (c.in_err-front.ensures.only h.front h.tail (IsCutAtLast-end c.args.text.now hex h))

pub returns-in_err-dotted-clause-only : goal.returns-in_err-dotted-clause-only
returns-in_err-dotted-clause-only c = λ hex h fits.
    let same = c.in_ok-front.ensures.only h.front h.tail (IsCutAtLast-end c.args.text.now hex h) in
    let no = c.in_err-dotted.ensures.only (record { 0 = h.octets }) (rw same.1 h.of_tail) in
    absurd (cc)

pub returns-clause-only : goal.returns-clause-only
returns-clause-only c = λ hex h fits.
    let same = c.in_ok-front.ensures.only h.front h.tail (IsCutAtLast-end c.args.text.now hex h) in
    let one = some_inside _ _ (c.in_ok-dotted.ensures.only (record { 0 = h.octets }) (rw same.1 h.of_tail)) in
    let octets = ap (λ (a : Ipv4Address). a.0) one in
    let spelled : c.in_ok-front.front.now ++ 58 ∷ two_groups c.in_ok-dotted.field-0.0 ≡ hex =
    ap₂ (λ f o. f ++ 58 ∷ two_groups o) same.0 octets ∙ sym h.in_hex
    in
    let room : length c.in_ok-front.front.now + 10 ≤ 39 =
    omega (arith, ap length spelled, length-append c.in_ok-front.front.now (58 ∷ two_groups c.in_ok-dotted.field-0.0)) in
    IsSomeAnd-from _ _ c.in_hex.result c.in_hex.ensures.found (c.in_hex.ensures.room room) (λ r is. is ∙ spelled)
