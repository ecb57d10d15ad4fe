use Rattle.std.proofs.Common.{◌∙◌}
use Rattle.tcp_socket.proofs.Buffers.{run_held}
use Rattle.tcp_socket.proofs.receive_buffer.ReceiveBuffer.run_at.Goals as goal

pub returns : goal.returns
returns c = c.run_at.ensures ∙ run_held c.self.inside.ring c.self.inside.held c.args.self.now c.args.offset c.self.view_is c.self.invariant
