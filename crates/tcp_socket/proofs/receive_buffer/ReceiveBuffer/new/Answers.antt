use Rattle.tcp_socket.proofs.Buffers.{cleared-new, cleared-IsHeldBy}
use Rattle.tcp_socket.proofs.receive_buffer.ReceiveBuffer.new.Goals as goal

pub invariant_of-result : goal.invariant_of-result
invariant_of-result c = rw (c.clear.ensures, c.new.ensures) (cleared-IsHeldBy c.args.ring c.requires)

pub returns : goal.returns
returns c = rw (c.clear.ensures, c.new.ensures) (cleared-new c.args.ring)
