use Rattle.std.proofs.Common.{◌∙◌, sym}
use Rattle.sockets.specs.Packets.{first}
use Rattle.socket_datagram.specs.SocketValue.{recv_after}
use Rattle.app_tun_services.proofs.Echo.{sent_back_is}
use Rattle.app_tun_services.proofs.datagram.echo_datagram.Goals as goal

-- src/datagram.rt:9:1
pub returns : goal.returns
returns c =
    let back = sent_back_is (first c.args.socket.now.received) c.args.buffer.now c.in-Ok.count c.in-Ok.metadata (recv_after c.args.socket.now)
    (sym c.recv_slice.ensures.answer ∙ c.in-Ok.is) in
    let sent = c.send_slice.ensures in
    sent.3 ∙ (rw sent.1 (rw c.recv_slice.ensures.state (rw c.recv_slice.ensures.read back)))
