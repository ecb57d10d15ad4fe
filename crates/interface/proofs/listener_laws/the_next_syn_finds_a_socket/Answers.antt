use Rattle.interface.proofs.Backlog.Gives.{none_waits}
use Rattle.interface.proofs.listener_laws.the_next_syn_finds_a_socket.Goals as goal

pub returns : goal.returns
returns c = none_waits
