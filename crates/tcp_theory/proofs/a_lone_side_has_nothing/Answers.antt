use Rattle.tcp_theory.specs.Run.{run, start}
use Rattle.tcp_theory.proofs.AloneLemmas.{HasNothing-unopened}
use Rattle.tcp_theory.proofs.Theorem.{Kept-start, Kept-run}
use Rattle.tcp_theory.proofs.a_lone_side_has_nothing.Goals as goal

pub returns-clause-unopened_peer_side : goal.returns-clause-unopened_peer_side
returns-clause-unopened_peer_side c = λ s t holds phase. HasNothing-unopened s t holds.0 holds.1 phase

pub returns-clause-run_of_a : goal.returns-clause-run_of_a
returns-clause-run_of_a c =
    λ space_a space_b events is_run phase.
    let w = run (start space_a space_b) events in
    let kept = Kept-run (start space_a space_b) events (Kept-start space_a space_b) is_run in
    HasNothing-unopened w.a w.b kept.0 kept.1 phase

pub returns-clause-run_of_b : goal.returns-clause-run_of_b
returns-clause-run_of_b c =
    λ space_a space_b events is_run phase.
    let w = run (start space_a space_b) events in
    let kept = Kept-run (start space_a space_b) events (Kept-start space_a space_b) is_run in
    HasNothing-unopened w.b w.a kept.1 kept.0 phase
