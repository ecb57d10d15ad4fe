use Rattle.std.proofs.Common.{◌≡◌, true, false, sym, ◌∙◌}
use Rattle.proof_stack.proofs.peer_host.excluded.bad_streams_are_excluded.Goals as goal

pub returns-clause-written : goal.returns-clause-written
returns-clause-written g c = λ t s v bytes is. is

pub returns-clause-read : goal.returns-clause-read
returns-clause-read g c = λ t s v count is. is

pub returns-clause-closed : goal.returns-clause-closed
returns-clause-closed g c = λ t s v is. is

pub returns-clause-for_another : goal.returns-clause-for_another
returns-clause-for_another g c = λ t s v cx ip header bytes refused is. let clash : true ≡ false = sym is.0 ∙ refused in absurd (cc)

pub returns-clause-no_frame : goal.returns-clause-no_frame
returns-clause-no_frame g c = λ t s ip header bytes none came.
    none came.came.0.host.host.inner.instant came.came.0.host.device came.came.0.after came.came.0.frame came.came.0.took
