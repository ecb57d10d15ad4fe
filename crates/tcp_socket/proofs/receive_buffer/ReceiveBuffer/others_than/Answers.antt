use Rattle.std.proofs.Common.{◌∙◌}
use Rattle.tcp_socket.proofs.Others.{others_held}
use Rattle.tcp_socket.proofs.receive_buffer.ReceiveBuffer.others_than.Goals as goal

pub returns : goal.returns
returns c = c.others_than.ensures ∙ others_held c.self.inside.ring c.self.inside.held c.args.self.now c.args.offset c.self.view_is c.self.invariant
