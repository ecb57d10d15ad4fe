use Rattle.std.proofs.Common.{◌≡◌, ◌∙◌, None, ap}
use Rattle.tcp_block.specs.Value.{TcpValue}
use Rattle.tcp_socket.proofs.Calm.{told_leads}
use Rattle.tcp_socket.proofs.Kept.{none_open, kept_told}
use Rattle.tcp_socket.proofs.socket.Socket.on_window.Goals as goal

pub invariant_of-self : goal.invariant_of-self
invariant_of-self c =
    let none : c.self.inside.offered ≡ None = ap (λ (v : TcpValue). v.offered) c.self.view_is ∙ c.requires.unoffered in
    record {
      room = c.self.invariant.room;
      tcb = rw c.take_window.ensures (kept_told c.self.inside.tcb c.args.header.now c.args.duplicates c.len-queued.result c.args.now c.requires.instant
          c.self.invariant.tcb);
      unsettled = none_open c.self.inside.offered c.take_window.new.tcb none;
    }

pub returns : goal.returns
returns c =
    told_leads c.self.inside.tcb c.take_window.new.tcb c.self.inside.received c.self.inside.queued c.self.inside.offered c.args.self.now c.args.header.now
    c.args.duplicates c.len-queued.result c.args.now c.self.view_is c.len-queued.ensures c.take_window.ensures
