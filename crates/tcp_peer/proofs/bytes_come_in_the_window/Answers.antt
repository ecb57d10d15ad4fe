use Rattle.tcp_peer.proofs.WindowLaws.{came_in_the_window, kept_in_order}
use Rattle.tcp_peer.proofs.bytes_come_in_the_window.Goals as goal

pub returns-clause-each : goal.returns-clause-each
returns-clause-each c = came_in_the_window

pub returns-clause-order : goal.returns-clause-order
returns-clause-order c = kept_in_order
