use Rattle.std.proofs.Common.{◌∙◌}
use Rattle.iface_tables.proofs.BestOf.{fold_better_of}
use Rattle.interface.specs.Awaited.{awaited_in, comes_before}
use Rattle.interface.proofs.Waiting.{IsStrictWeakOrder-comes_before}
use Rattle.interface.proofs.awaited.next_awaited.Goals as goal

pub returns : goal.returns
returns c =
    c.first_in_turn.ensures ∙ fold_better_of (awaited_in c.args.inner.now) comes_before IsStrictWeakOrder-comes_before c.args.slots.now
