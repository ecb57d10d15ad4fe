use Rattle.tcp_socket.proofs.Sockets.{fits_queued}
use Rattle.tcp_socket.proofs.socket.Socket.send_slice.Goals as goal

pub invariant_of-self-2 : goal.invariant_of-self-2
invariant_of-self-2 c =
    record {
      room = rw c.enqueue_slice.ensures.queued
          (fits_queued c.self.inside.queued c.enqueue_slice.result c.args.«data».now c.enqueue_slice.ensures.count c.self.invariant.room);
      tcb = c.self.invariant.tcb;
      unsettled = tt;
    }
