use Rattle.std.proofs.Common.{refl}
use Rattle.proof_stack.proofs.Polls.SomeSettling.{ask_for_none, before, following, has_days, may_settle, sockets}
use Rattle.proof_stack.proofs.progress.settling.a_world_that_settles_may_settle.Goals as goal

pub returns : goal.returns
returns c = (before, following, sockets, may_settle, ask_for_none, has_days, refl, refl)
