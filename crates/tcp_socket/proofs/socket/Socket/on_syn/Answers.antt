use Rattle.std.proofs.Common.{◌≡◌, ◌∙◌, None, ap}
use Rattle.tcp_block.specs.Value.{TcpValue}
use Rattle.tcp_socket.proofs.Kept.{none_open, kept_answer, sized_mss}
use Rattle.tcp_socket.proofs.Steps.{syn_taken}
use Rattle.tcp_socket.proofs.socket.Socket.on_syn.Goals as goal

pub invariant_of-self : goal.invariant_of-self
invariant_of-self c =
    let header = c.args.header.now in
    let none : c.self.inside.offered ≡ None = ap (λ (v : TcpValue). v.offered) c.self.view_is ∙ c.requires.unoffered in
    record {
      room = c.self.invariant.room;
      tcb = rw (
        c.restart_timeout.ensures,
        c.on_segment_syn_sent.ensures,
      ) (kept_answer c.self.inside.tcb header c.args.now c.len.result c.requires.instant (sized_mss c.self.inside.tcb.names.pair header.options.max_seg_size c.requires.sized));
      unsettled = none_open c.self.inside.offered c.restart_timeout.new.self none;
    }

pub returns : goal.returns
returns c =
    syn_taken c.self.inside.tcb c.on_segment_syn_sent.new.self c.restart_timeout.new.self c.self.inside.received c.self.inside.queued c.self.inside.offered
    c.args.self.now c.args.now c.len.result c.args.header.now c.self.view_is c.on_segment_syn_sent.ensures c.restart_timeout.ensures c.len.ensures
