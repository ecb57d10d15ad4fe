use Rattle.std.proofs.Common.{refl}
use Rattle.proof_stack.proofs.Polls.Inboxes.{none_by}
use Rattle.proof_stack.proofs.progress.inboxes.no_port_is_an_inbox_without_leave.Goals as goal

pub returns : goal.returns
returns c = λ frames_at p inbox. none_by frames_at inbox p.link.room p refl
