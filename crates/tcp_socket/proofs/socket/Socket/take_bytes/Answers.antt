use Rattle.tcp_socket.proofs.Steps.{advance_small}
use Rattle.tcp_socket.proofs.socket.Socket.take_bytes.Goals as goal

pub returns-then-offset-eq0-clause-small : goal.returns-then-offset-eq0-clause-small
returns-then-offset-eq0-clause-small c =
    advance_small c.args.self.now c.self.inside.received c.self.inside.tcb c.self.inside.queued c.self.inside.offered c.args.bytes.now c.store-advance.result
    c.self.view_is c.requires.small c.store-advance.ensures.count
