use Rattle.std.proofs.Common.{arith}
use Rattle.base_index.proofs.Words.{none_by_groups, some_by_groups}
use Rattle.base_index.proofs.bits.next_grouped.Goals as goal

pub returns-in-Some-next : goal.returns-in-Some-next
returns-in-Some-next c = some_by_groups _ c.args.groups.now c.requires.groups c.args.from c.in-Some-next.word _ c.in_default.ensures.first c.in-Some-next.ensures
    c.next_in_word-in-Some-next.ensures.first (λ some. c.next_in_word-in-Some-next.ensures.some (omega arith) some)

pub returns-in-None : goal.returns-in-None
returns-in-None c = none_by_groups _ c.args.groups.now c.requires.groups c.args.from c.in_default.ensures.first c.in-None.ensures
