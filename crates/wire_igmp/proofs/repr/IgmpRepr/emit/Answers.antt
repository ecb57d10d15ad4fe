use Rattle.std.proofs.Common.{◌∙◌, ap}
use Rattle.wire_address.specs.Fields.{put16}
use Rattle.wire_address.specs.Sum.{word_sum, complement}
use Rattle.wire_igmp.proofs.Written.{put-check}
use Rattle.wire_igmp.proofs.repr.IgmpRepr.emit.Goals as goal

pub returns-clause-bytes : goal.returns-clause-bytes
returns-clause-bytes c =
    c.seal.ensures ∙ ap (λ xs. put16 xs 2 (complement (word_sum xs))) c.spell.ensures ∙ put-check c.args.self.now c.args.carried.now _
