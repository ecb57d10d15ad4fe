use Rattle.std.proofs.Common.{◌≡◌, ◌<◌, ◌++◌, ap, ◌∙◌, length, get_or}
use Rattle.std.specs.String.{string_bytes}
use Rattle.sim_link.proofs.TextLemmas.{addrs_more}
use Rattle.sim_link.proofs.text.addrs.Goals as goal

pub loop-cidr-preserved : goal.loop-cidr-preserved
loop-cidr-preserved c =
    let less : c.loop-cidr.cidr-index < length c.args.blocks.now = rw c.as_slice-cidr-items.ensures at c.loop-cidr-test.true in
    let at : c.cidr-item.result ≡ get_or c.args.blocks.now c.loop-cidr.cidr-index c.cidr-item.result =
    rw c.as_slice-cidr-items.ensures at c.cidr-item.is in
    c.in_ok-push_str.ensures.bytes
    ∙ ap (λ t. string_bytes c.loop-cidr.text ++ t) (c.as_str.ensures.value ∙ c.in_ok-word.ensures.ok)
    ∙ addrs_more c.args.side c.args.blocks.now c.loop-cidr.cidr-index c.cidr-item.result _ less at c.loop-cidr.invariant
