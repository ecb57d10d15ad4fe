-- The reset that a socket owes its remote after an abort or a user timeout (RFC 9293, 3.8.3 and 3.10.5).
use Rattle.std.specs.Prelude.{◌≡◌, true, Some}
use Rattle.ip_wire.specs.TcpControl.TheVariants as Control
use Rattle.tcp_state.specs.declared.endpoints.FourTuple.{FourTuple}
use Rattle.tcp_state.specs.declared.offer.OfferKind.TheVariants as Kind
use Rattle.tcp_state.specs.declared.offer.OpenOffer.{OpenOffer}
use Rattle.tcp_state.specs.declared.state.State.TheVariants as In
use Rattle.tcp_block.specs.declared.tcb.Tcb.{Tcb}
use Rattle.tcp_block.specs.TcbRules.{snd_max}
use Rattle.tcp_block.specs.Segments.{next_if_heard}
use Rattle.tcp_block.specs.Value.{TcpValue}

-- the connection between these endpoints is over, and its remote wasn't told yet
pub record OwesReset (v : TcpValue) (pair : FourTuple) : Type 0 where
  pub state : v.tcb.state ≡ In.Closed
  pub endpoints : v.tcb.names.pair ≡ Some pair
  pub due : v.tcb.sender.reset_due ≡ true

-- an offer is a reset of this connection: past all that was sent, with the acknowledgement of what came, if a SYN did
pub record IsResetOf (b : Tcb) (pair : FourTuple) (o : OpenOffer) : Type 0 where
  pub kind : o.kind ≡ Kind.Reset
  pub control : o.segment.control ≡ Control.Rst
  pub number : o.segment.seq_number ≡ snd_max b
  pub acknowledgement : o.segment.ack_number ≡ next_if_heard b
  pub from : o.segment.src_port ≡ pair.local_port
  pub to : o.segment.dst_port ≡ pair.remote_port
  pub empty : o.len ≡ 0
