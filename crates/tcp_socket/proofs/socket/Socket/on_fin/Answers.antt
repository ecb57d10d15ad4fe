use Rattle.std.proofs.Common.{◌≡◌, ◌∙◌, None, ap}
use Rattle.tcp_block.specs.Value.{TcpValue}
use Rattle.tcp_socket.specs.Answering.{next_at}
use Rattle.tcp_socket.proofs.Kept.{none_open, kept_fin}
use Rattle.tcp_socket.proofs.socket.Socket.on_fin.Goals as goal

pub invariant_of-self : goal.invariant_of-self
invariant_of-self c =
    let none : c.self.inside.offered ≡ None = ap (λ (v : TcpValue). v.offered) c.self.view_is ∙ c.requires.unoffered in
    record {
      room = c.self.invariant.room;
      tcb = rw c.on_fin.ensures
          (kept_fin c.self.inside.tcb (next_at c.self.inside.tcb c.args.next) c.args.header.now c.args.size c.args.advance c.args.now
          c.self.invariant.tcb);
      unsettled = none_open c.self.inside.offered c.on_fin.new.self none;
    }
