use Rattle.std.proofs.Common.{arith}
use Rattle.lan.specs.declared.session.Session.TheVariants.{Begun}
use Rattle.lan.specs.Events.{lines_of}
use Rattle.lan.proofs.RunLemmas.{status-le}
use Rattle.lan.proofs.script.replay.Goals as goal

pub returns-in-Ok-Some-clause-status : goal.returns-in-Ok-Some-clause-status
returns-in-Ok-Some-clause-status g c =
    let run = rw c.in-Ok-Some.field-0-is at c.in-Ok-Some.ensures.ended in
    omega (arith, status-le 1 Begun (lines_of run.0) run.1 c.in-Ok-Some.status run.3)
