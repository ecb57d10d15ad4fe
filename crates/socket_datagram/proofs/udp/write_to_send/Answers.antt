use Rattle.socket_datagram.specs.Udp.{settings_of}
use Rattle.socket_datagram.proofs.UdpPackets.{found}
use Rattle.socket_datagram.proofs.udp.write_to_send.Goals as goal

pub returns : goal.returns
returns g c =
    found (g.C.Context.context c.args.cx.now) (settings_of c.args.bound.now c.args.hop_limit) c.args.metadata.now c.args.bytes.now c.write_header.new.header
    c.write_header.ensures
