use Rattle.interface.proofs.Worked.{worked_slots}
use Rattle.proof_stack.proofs.Peers.Devices.{reached_by_moves, polled_by_moves, worked_by_moves}
use Rattle.proof_stack.proofs.peer_host.devices_only_move.Goals as goal

pub returns-clause-on_the_way : goal.returns-clause-on_the_way
returns-clause-on_the_way g c = reached_by_moves g.D.Device.moves

pub returns-clause-at_the_end : goal.returns-clause-at_the_end
returns-clause-at_the_end g c = polled_by_moves g.D.Device.moves

pub returns-clause-before_it : goal.returns-clause-before_it
returns-clause-before_it g c = λ t s s' work. (worked_slots g.D.Device.moves t s s' work, worked_by_moves g.D.Device.moves t s s' work)
