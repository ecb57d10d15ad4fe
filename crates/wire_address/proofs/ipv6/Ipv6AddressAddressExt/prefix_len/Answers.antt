use Rattle.std.proofs.Common.{◌≡◌, ◌-◌, ◌^◌, sym, ◌∙◌, ap, Some}
use Rattle.std.specs.Int.{w128, leading_ones}
use Rattle.wire_address.proofs.Masks.{leading_ones-mask_128}
use Rattle.wire_address.proofs.ipv6.Ipv6AddressAddressExt.prefix_len.Goals as goal

pub returns-then-bits-mask_of-clause-only : goal.returns-then-bits-mask_of-clause-only
returns-then-bits-mask_of-clause-only c = λ n mask.
    ap Some (c.leading_ones-ones.ensures ∙ ap (leading_ones w128) (c.to_bits-bits.ensures.value ∙ mask.1) ∙ leading_ones-mask_128 n mask.0)

pub returns-else-bits-mask_of-clause-only : goal.returns-else-bits-mask_of-clause-only
returns-else-bits-mask_of-clause-only c = λ n mask.
    let same : c.leading_ones-ones.result ≡ n = c.leading_ones-ones.ensures ∙ ap (leading_ones w128) (c.to_bits-bits.ensures.value ∙ mask.1) ∙
    leading_ones-mask_128 n mask.0 in
    absurd (c.if-bits-mask_of.false (c.to_bits-bits.ensures.value ∙ mask.1 ∙ sym (c.mask_of.ensures ∙ ap (λ k. 2 ^ 128 - 2 ^ (128 - k)) same)))
