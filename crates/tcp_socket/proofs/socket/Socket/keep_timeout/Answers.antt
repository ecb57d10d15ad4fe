use Rattle.tcp_socket.proofs.Sockets.{kept_timeout}
use Rattle.tcp_socket.proofs.socket.Socket.keep_timeout.Goals as goal

pub invariant_of-self : goal.invariant_of-self
invariant_of-self c = record {
  room = c.self.invariant.room;
  tcb =
      rw c.keep_timeout.ensures (kept_timeout c.self.inside.tcb c.len.result c.self.invariant.tcb);
  unsettled = tt;
}
