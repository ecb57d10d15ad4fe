use Rattle.tcp_socket.proofs.Buffers.{holds_held}
use Rattle.tcp_socket.proofs.receive_buffer.ReceiveBuffer.has_out_of_order.Goals as goal

pub returns : goal.returns
returns c = holds_held c.self.inside.ring c.self.inside.held c.args.self.now c.is_empty.result c.self.view_is c.self.invariant c.is_empty.ensures
