use Rattle.std.proofs.Common.{◌≡◌, length, arith, length-take}
use Rattle.std.specs.Fn.{FnOnceReturnsAt}
use Rattle.tcp_socket.specs.Receive.{unbroken, lent}
use Rattle.tcp_socket.proofs.receive_buffer.ReceiveBuffer.read_with.Goals as goal

pub release-requires : goal.release-requires
release-requires g c =
    let r = c.args.self.now in
    let here : c.get.result.now ≡ lent r = rw c.len.ensures at c.get.ensures in
    let met : FnOnceReturnsAt g.F.FnOnce c.args.f (lent r) c.f-count.result = (c.get.result, c.f-count.ensures, here) in
    let within = c.requires.within c.f-count.result met in
    let cut = length-take (unbroken r 0 (length r.waiting)) r.waiting in
    omega (arith, within, cut)

pub returns : goal.returns
returns g c =
    let here : c.get.result.now ≡ lent c.args.self.now = rw c.len.ensures at c.get.ensures in
    (c.f-count.result.0, (c.get.result, c.f-count.ensures, here), c.release.ensures)
