use Rattle.tcp_socket.proofs.Buffers.{capacity-received}
use Rattle.tcp_socket.proofs.receive_buffer.ReceiveBuffer.get.Goals as goal

pub returns : goal.returns
returns c = rw (← c.self.view_is, ← capacity-received c.self.inside.ring c.self.inside.held) c.get_allocated.ensures.value
