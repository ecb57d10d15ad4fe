use Rattle.std.proofs.Common.{sym, ◌∙◌}
use Rattle.tcp_ranges.proofs.Offsets.{length-map_from}
use Rattle.tcp_socket.proofs.receive_buffer.ReceiveBuffer.window.Goals as goal

pub returns-clause-value : goal.returns-clause-value
returns-clause-value c = rw (← c.self.view_is) (c.window.ensures ∙ sym (length-map_from c.self.inside.held 0 c.self.inside.ring.free))
