use Rattle.std.proofs.Common.{◌≡◌, ◌≤◌, length, ◌∙◌, None, ap}
use Rattle.tcp_block.specs.Value.{TcpValue}
use Rattle.tcp_socket.proofs.Kept.{none_open, kept_acknowledged}
use Rattle.tcp_socket.proofs.Sockets.{fits_released}
use Rattle.tcp_socket.proofs.socket.Socket.acknowledge.Goals as goal

pub invariant_of-self : goal.invariant_of-self
invariant_of-self c =
    let offered = λ (v : TcpValue). v.offered in
    let none : c.self.inside.offered ≡ None = ap offered c.self.view_is ∙ (ap offered c.sample_rtt.ensures ∙ c.requires.unoffered) in
    let within : c.freed_by-freed.result ≤ length c.self.inside.queued.queue = rw (← c.len-queued.ensures) c.freed_by-freed.ensures.within in
    record {
      room = rw c.dequeue_allocated.ensures (fits_released c.self.inside.queued c.freed_by-freed.result within c.self.invariant.room);
      tcb = rw c.acknowledge_tcb.ensures (
          kept_acknowledged c.self.inside.tcb c.args.by c.len-queued.result c.args.now c.self.invariant.tcb
          );
      unsettled = none_open c.self.inside.offered c.acknowledge_tcb.new.tcb none;
    }
