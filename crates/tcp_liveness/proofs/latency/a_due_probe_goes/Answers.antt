use Rattle.tcp_liveness.proofs.ProbeGoes.{probe_goes}
use Rattle.tcp_liveness.proofs.latency.a_due_probe_goes.Goals as goal

pub returns : goal.returns
returns c = record { goes = probe_goes }
