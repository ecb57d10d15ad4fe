use Rattle.tcp_liveness.proofs.Turns.{all_read_in, leads, through}
use Rattle.tcp_liveness.proofs.both_ways.both_ways_get_through.Goals as goal

pub returns : goal.returns
returns c = record { through = through; read = all_read_in; leads = leads }
