use Rattle.tcp_invariants.proofs.PipeRules.{pipe_after_payload}
use Rattle.tcp_invariants.proofs.windows.pipe_stays_within_the_congestion_window.Goals as goal

pub returns : goal.returns
returns c = record { payload = pipe_after_payload }
