use Rattle.std.proofs.lemmas.Str.Pattern.{split_parts, split_after}
use Rattle.wire_address.proofs.Texts.{IsCut-parts, IsSomeAnd-parts}
use Rattle.wire_address.proofs.text.cut.Goals as goal

pub returns-clause-found : goal.returns-clause-found
returns-clause-found c =
    IsCut-parts c.args.separator c.args.text.now _ c.split_once.result
    (split_parts c.args.separator c.args.text.now c.split_once.result c.split_once.ensures.cases c.requires)

pub returns-clause-only : goal.returns-clause-only
returns-clause-only c = λ front back h.
    IsSomeAnd-parts front back c.split_once.result
    (split_after c.args.separator c.args.text.now front back c.split_once.result c.split_once.ensures.cases c.requires h.joined h.first)
