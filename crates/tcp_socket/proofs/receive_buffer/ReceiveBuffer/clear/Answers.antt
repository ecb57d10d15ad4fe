use Rattle.tcp_socket.proofs.Buffers.{cleared-received, cleared-IsHeldBy}
use Rattle.tcp_socket.proofs.receive_buffer.ReceiveBuffer.clear.Goals as goal

pub invariant_of-self : goal.invariant_of-self
invariant_of-self c = rw (c.clear.ensures, c.clear-2.ensures) (cleared-IsHeldBy c.self.inside.ring c.self.invariant.small)

pub returns : goal.returns
returns c = rw (c.clear.ensures, c.clear-2.ensures, ← c.self.view_is) (cleared-received c.self.inside.ring c.self.inside.held)
