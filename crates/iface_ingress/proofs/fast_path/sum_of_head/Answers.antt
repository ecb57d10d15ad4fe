use Rattle.std.proofs.Common.{◌+◌, ap, ap₂, ◌∙◌}
use Rattle.ip_wire.specs.Sum.{folded}
use Rattle.iface_ingress.proofs.fast_path.sum_of_head.Goals as goal

pub returns : goal.returns
returns c =
    c.add.ensures ∙ ap₂ (λ a b. folded (a + b)) c.pseudo_header_v4-pseudo.ensures (c.folded.ensures ∙ ap folded c.sum_of_twenty.ensures.same)
