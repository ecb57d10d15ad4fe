use Rattle.tcp_socket.proofs.Kept.{kept_sent}
use Rattle.tcp_socket.proofs.socket.Socket.record.Goals as goal

pub invariant_of-self : goal.invariant_of-self
invariant_of-self c = record {
  room = c.self.invariant.room;
  tcb = rw c.sent.ensures (kept_sent c.in-Some.offer.kind c.self.inside.tcb c.in-Some.offer c.capacity-capacity.result c.len.result c.self.invariant.tcb);
  unsettled = tt;
}
