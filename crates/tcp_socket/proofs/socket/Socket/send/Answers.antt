use Rattle.std.proofs.Common.{◌≡◌, refl, sym, ap}
use Rattle.tcp_block.specs.Value.{TcpValue}
use Rattle.tcp_socket.proofs.Sockets.{fits_sent, is_allowed}
use Rattle.tcp_socket.proofs.socket.Socket.send.Goals as goal

pub enqueue_many_with-answer-requires-clause-callable : goal.enqueue_many_with-answer-requires-clause-callable
enqueue_many_with-answer-requires-clause-callable g c =
    let same : c.self.inside.queued ≡ c.args.self.now.queued = ap (λ (v : TcpValue). v.queued) c.self.view_is in
    rw same c.requires.callable

pub enqueue_many_with-answer-requires-clause-within : goal.enqueue_many_with-answer-requires-clause-within
enqueue_many_with-answer-requires-clause-within g c =
    let same : c.self.inside.queued ≡ c.args.self.now.queued = ap (λ (v : TcpValue). v.queued) c.self.view_is in
    rw same c.requires.within

pub invariant_of-self-2 : goal.invariant_of-self-2
invariant_of-self-2 g c =
    let e = c.enqueue_many_with-answer.ensures in
    record {
      room = rw e.3 (fits_sent c.self.inside.queued e.0 c.enqueue_many_with-answer.result.0 e.1 c.self.invariant.room);
      tcb = c.self.invariant.tcb;
      unsettled = tt;
    }

pub returns-clause-sent : goal.returns-clause-sent
returns-clause-sent g c =
    let e = c.enqueue_many_with-answer.ensures in
    rw (← c.self.view_is) (is_allowed _ (sym c.in_ok-check_send.ensures), (e.0, (c.enqueue_many_with-answer.result.0, e.1, e.2, rw e.3 refl)))
