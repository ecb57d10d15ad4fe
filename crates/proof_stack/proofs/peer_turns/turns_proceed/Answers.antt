use Rattle.std.proofs.Common.{◌≡◌, List, subst, sym}
use Rattle.iface_egress.specs.declared.socket_set.SocketStorage.{SocketStorage}
use Rattle.sockets.specs.declared.socket.Socket.{Socket}
use Rattle.interface.specs.State.{state}
use Rattle.interface.proofs.Worked.{worked_slots}
use Rattle.app_tun_services.specs.Turns.{budget, with_packet}
use Rattle.app_tun_services.specs.Link.Drain.{DrainMove}
use Rattle.proof_stack.specs.PeerHost.Streams.{IsTcpAt}
use Rattle.proof_stack.specs.PeerHost.Datagrams.{IsUdpAt}
use Rattle.proof_stack.proofs.Peers.Tcp.{stream_proceeds}
use Rattle.proof_stack.proofs.Peers.Udp.{datagrams_proceed}
use Rattle.proof_stack.proofs.peer_turns.turns_proceed.Goals as goal

abbrev Slots : Type 0
Slots = List (SocketStorage Socket)

pub returns-clause-streams_in : goal.returns-clause-streams_in
returns-clause-streams_in c = λ old new instant packet next turn i v is.
    stream_proceeds DrainMove instant turn.begun v budget i turn.come turn.changed
    (subst (λ (ps : Slots). IsTcpAt ps i v) (sym (worked_slots DrainMove instant (with_packet old.net packet) turn.begun turn.works)) is) turn.takes

pub returns-clause-streams_out : goal.returns-clause-streams_out
returns-clause-streams_out c = λ old new instant packet next turn i v is.
    stream_proceeds DrainMove instant turn.begun_again v budget i turn.gone turn.changed_again
    (subst (λ (ps : Slots). IsTcpAt ps i v)
    (sym (worked_slots DrainMove instant (state turn.come.device turn.come.host turn.done.sockets) turn.begun_again turn.works_again)) is) turn.sends

pub returns-clause-datagrams_in : goal.returns-clause-datagrams_in
returns-clause-datagrams_in c = λ old new instant packet next turn i v is.
    datagrams_proceed DrainMove instant turn.begun v budget i turn.come turn.changed
    (subst (λ (ps : Slots). IsUdpAt ps i v) (sym (worked_slots DrainMove instant (with_packet old.net packet) turn.begun turn.works)) is) turn.takes

pub returns-clause-datagrams_out : goal.returns-clause-datagrams_out
returns-clause-datagrams_out c = λ old new instant packet next turn i v is.
    datagrams_proceed DrainMove instant turn.begun_again v budget i turn.gone turn.changed_again
    (subst (λ (ps : Slots). IsUdpAt ps i v)
    (sym (worked_slots DrainMove instant (state turn.come.device turn.come.host turn.done.sockets) turn.begun_again turn.works_again)) is) turn.sends
