use Rattle.std.proofs.Common.{◌∙◌}
use Rattle.tcp_socket.proofs.Buffers.{capacity-received}
use Rattle.tcp_socket.proofs.receive_buffer.ReceiveBuffer.capacity.Goals as goal

pub returns-clause-value : goal.returns-clause-value
returns-clause-value c = rw (← c.self.view_is) (c.capacity.ensures.capacity ∙ capacity-received c.self.inside.ring c.self.inside.held)
