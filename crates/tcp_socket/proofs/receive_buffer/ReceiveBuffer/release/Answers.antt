use Rattle.std.proofs.Common.{◌≤◌, length, sym, subst}
use Rattle.tcp_socket.proofs.Buffers.{released-received, released-IsHeldBy}
use Rattle.tcp_block.specs.Value.{Received}
use Rattle.tcp_socket.proofs.receive_buffer.ReceiveBuffer.release.Goals as goal

pub invariant_of-self : goal.invariant_of-self
invariant_of-self c =
    let P : Received → Type 0 = λ v. c.args.count ≤ length v.waiting in
    let fits = subst P (sym c.self.view_is) c.requires in
    rw c.dequeue_allocated.ensures (released-IsHeldBy c.self.inside.ring c.self.inside.held c.args.count c.self.invariant fits)

pub returns : goal.returns
returns c =
    let P : Received → Type 0 = λ v. c.args.count ≤ length v.waiting in
    let fits = subst P (sym c.self.view_is) c.requires in
    rw (c.dequeue_allocated.ensures, ← c.self.view_is) (released-received c.self.inside.ring c.self.inside.held c.args.count c.self.invariant fits)
