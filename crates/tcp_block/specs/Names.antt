-- Which segments are for a socket.
use Rattle.std.specs.Prelude.{◌==◌, ◌&&◌, Bool, false}
use Rattle.ip_wire.specs.Ip.{destination_of}
use Rattle.ip_wire.specs.IpRepr.{IpRepr}
use Rattle.ip_wire.specs.TcpHeader.{TcpHeader}
use Rattle.tcp_state.specs.Endpoints.{is_connected_by, is_bare, takes_address}
use Rattle.tcp_block.specs.declared.tcb.Tcb.{Tcb}
use Rattle.tcp_state.specs.declared.state.State.{State}
use Rattle.tcp_state.specs.declared.state.State.TheVariants as In

abbrev pub accepts_in : State → Tcb → IpRepr → TcpHeader → Bool
accepts_in In.Closed b ip header = false
accepts_in In.Listen b ip header =
    (b.names.listen.port == header.dst_port) && (takes_address b.names.listen.addr (destination_of ip) && is_bare header.ack_number header.control)
accepts_in state b ip header = is_connected_by b.names.pair ip header

-- the segment is for this socket: in LISTEN by the port and the address that it listens on, later by all four endpoint values
abbrev pub accepts : Tcb → IpRepr → TcpHeader → Bool
accepts b ip header = accepts_in b.state b ip header
