use Rattle.std.proofs.Common.{◌≡◌, refl, sym, ap}
use Rattle.tcp_block.specs.Value.{TcpValue}
use Rattle.tcp_socket.proofs.Sockets.{none_refuses}
use Rattle.tcp_socket.proofs.socket.Socket.recv.Goals as goal

pub read_with-requires-clause-callable : goal.read_with-requires-clause-callable
read_with-requires-clause-callable g c =
    let same : c.self.inside.received ≡ c.args.self.now.received = ap (λ (v : TcpValue). v.received) c.self.view_is in
    rw same c.requires.callable

pub read_with-requires-clause-within : goal.read_with-requires-clause-within
read_with-requires-clause-within g c =
    let same : c.self.inside.received ≡ c.args.self.now.received = ap (λ (v : TcpValue). v.received) c.self.view_is in
    rw same c.requires.within

pub returns-clause-read : goal.returns-clause-read
returns-clause-read g c =
    let e = c.read_with.ensures in
    rw (← c.self.view_is) (none_refuses _ (sym c.in_ok-check_recv.ensures), (e.0, e.1, rw e.2 refl))
