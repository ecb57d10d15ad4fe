use Rattle.std.proofs.Common.{◌≡◌, List, subst, sym}
use Rattle.iface_egress.specs.Set.{slots}
use Rattle.iface_egress.specs.declared.socket_set.SocketStorage.{SocketStorage}
use Rattle.sockets.specs.declared.socket.Socket.{Socket}
use Rattle.interface.specs.State.{state}
use Rattle.interface.proofs.Worked.{worked_slots}
use Rattle.proof_stack.specs.PeerHost.Streams.{IsTcpAt}
use Rattle.proof_stack.specs.PeerHost.Datagrams.{IsUdpAt}
use Rattle.proof_stack.proofs.Peers.Tcp.{stream_proceeds}
use Rattle.proof_stack.proofs.Peers.Udp.{datagrams_proceed}
use Rattle.proof_stack.proofs.peer_host.poll.Goals as goal

pub returns : goal.returns
returns g c =
    let begun = c.poll.ensures.steps.0 in
    let work = c.poll.ensures.steps.1 in
    let polls = c.poll.ensures.steps.2 in
    let same : begun.slots ≡ slots c.args.sockets.now =
    worked_slots g.D.Device.moves c.args.timestamp (state c.args.device.now c.args.interface.now (slots c.args.sockets.now)) begun work in (
      begun,
      work,
      same,
      polls,
      λ i v is. stream_proceeds g.D.Device.moves c.args.timestamp begun v c.args.budget i _ _
          (subst (λ (ps : List (SocketStorage Socket)). IsTcpAt ps i v) (sym same) is) polls,
      λ i v is. datagrams_proceed g.D.Device.moves c.args.timestamp begun v c.args.budget i _ _
          (subst (λ (ps : List (SocketStorage Socket)). IsUdpAt ps i v) (sym same) is) polls,
    )
