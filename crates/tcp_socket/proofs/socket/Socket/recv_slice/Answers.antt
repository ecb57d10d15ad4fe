use Rattle.std.proofs.Common.{refl, sym, arith}
use Rattle.tcp_socket.proofs.Sockets.{none_refuses, read_answer}
use Rattle.tcp_socket.proofs.socket.Socket.recv_slice.Goals as goal

pub release-requires : goal.release-requires
release-requires c = omega (arith, c.read-count.ensures.count)

pub returns-clause-answer : goal.returns-clause-answer
returns-clause-answer c =
    rw (← c.self.view_is) (read_answer _ c.read-count.result _ (none_refuses _ (sym c.in_ok-check_recv.ensures)) c.read-count.ensures.count)

pub returns-clause-read : goal.returns-clause-read
returns-clause-read c = rw (← c.self.view_is) (rw c.release.ensures refl, c.read-count.ensures.read)
