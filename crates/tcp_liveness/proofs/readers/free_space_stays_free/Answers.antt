use Rattle.tcp_liveness.proofs.Frees.{frees_on, reads_free}
use Rattle.tcp_liveness.proofs.readers.free_space_stays_free.Goals as goal

pub returns : goal.returns
returns c = record { stays = frees_on; reads = reads_free }
