use Rattle.std.proofs.Common.{sym}
use Rattle.interface.proofs.Waiting.{none_waits}
use Rattle.interface.proofs.awaited.turn_if_any.Goals as goal

pub returns-else-some_wait : goal.returns-else-some_wait
returns-else-some_wait c = sym (none_waits c.args.inner.now c.args.slots.now (sym c.if-some_wait.ensures))
