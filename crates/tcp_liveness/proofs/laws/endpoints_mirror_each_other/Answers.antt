use Rattle.tcp_liveness.proofs.Mirrored.{reached_mirrored}
use Rattle.tcp_liveness.proofs.laws.endpoints_mirror_each_other.Goals as goal

pub returns : goal.returns
returns c = record { mirrored = reached_mirrored }
