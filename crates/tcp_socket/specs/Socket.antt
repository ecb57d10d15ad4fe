-- What holds of each socket, and what its getters give.
use Rattle.std.specs.Prelude.{ℕ, ℤ, ◌≤◌, nat_le, nat_lt, ◌==◌, not, ◌&&◌, Bool, length, true, false, Option, Some, None, is_some, IfSome, Result, Ok, Err}
use Rattle.net_base.specs.Ring.{Ring}
use Rattle.net_base.specs.Time.{IsMoment}
use Rattle.ip_wire.specs.AddressTests.{is_same_address}
use Rattle.ip_wire.specs.IpEndpoint.{IpEndpoint}
use Rattle.ip_wire.specs.SeqNumber.{SeqNumber}
use Rattle.tcp_block.specs.Endpoints.{local_of, remote_of}
use Rattle.tcp_block.specs.Moments.{is_due}
use Rattle.tcp_block.specs.Offsets.{distance_before, distance_after}
use Rattle.tcp_block.specs.States.{is_closed, takes_writes}
use Rattle.tcp_block.specs.Unsettled.{EndsNear}
use Rattle.tcp_block.specs.Value.{TcpValue}
use Rattle.tcp_socket.specs.Receive.{FitsBuffer}
use Rattle.tcp_block.specs.declared.tcb.Tcb.{Tcb}
use Rattle.tcp_block.specs.SendError.{SendError}
use Rattle.tcp_block.specs.SendError.TheVariants as Send
use Rattle.tcp_block.specs.FourTuple.{FourTuple}
use Rattle.tcp_block.specs.OpenOffer.{OpenOffer}

-- an open offer was made at an instant, and its segment is as it was then
pub record IsOpen (b : Tcb) (o : OpenOffer) : Type 0 where
  pub instant : IsMoment o.instant
  pub end : EndsNear o.kind b o

-- the user timeout started at an instant, and the remote takes at least one byte
pub record IsTcb (b : Tcb) : Type 0 where
  pub start : IfSome b.timers.timeout_since IsMoment
  pub mss : 1 ≤ b.peer.mss

pub record IsSocket (b : Tcb) (queued : Ring ℕ) (offered : Option OpenOffer) : Type 0 where
  pub room : FitsBuffer queued
  pub tcb : IsTcb b
  pub unsettled : IfSome offered (IsOpen b)

abbrev pub local_in : Option FourTuple → Option IpEndpoint
local_in None = None
local_in (Some pair) = Some (record { addr = local_of pair.addresses; port = pair.local_port })

abbrev pub remote_in : Option FourTuple → Option IpEndpoint
remote_in None = None
remote_in (Some pair) = Some (record { addr = remote_of pair.addresses; port = pair.remote_port })

-- the connection is between these endpoints
abbrev pub is_pair : Option FourTuple → (local remote : IpEndpoint) → Bool
is_pair None local remote = false
is_pair (Some pair) local remote =
    is_same_address (local_of pair.addresses) local.addr && (is_same_address (remote_of pair.addresses) remote.addr
    && ((pair.local_port == local.port) && (pair.remote_port == remote.port)))

-- a segment that begins at this number was sent and isn't acknowledged: SND.UNA ≤ SEG.SEQ, and SEG.SEQ is before what was never sent
abbrev pub is_unacked_at : Tcb → SeqNumber → Bool
is_unacked_at b number = (distance_before b.sender.una number == 0) && nat_lt (distance_after b.sender.una number) b.sender.snd_max

-- such a segment of a connection between these endpoints
abbrev pub has_sent : Tcb → (local remote : IpEndpoint) → SeqNumber → Bool
has_sent b local remote number = is_pair b.names.pair local remote && is_unacked_at b number

-- the retransmission timer of a connection has run out by an instant, after it did so many times with nothing acknowledged since
abbrev pub times_out_after : ℕ → ℤ → Tcb → Bool
times_out_after count now b =
    ((is_some b.names.pair && not (is_closed b.state)) && nat_le count b.sender.timeouts) && is_due now b.timers.retransmit_at

-- whether the user may send, as an answer
abbrev pub if_open : Bool → Result (Unit {0}) SendError
if_open true = Ok tt
if_open false = Err Send.InvalidState

-- there is room for so many bytes
abbrev pub takes_all : TcpValue → ℕ → Bool
takes_all v count = takes_writes v.tcb.state && nat_le count (length v.queued.free)
