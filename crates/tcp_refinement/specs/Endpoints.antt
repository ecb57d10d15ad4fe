-- The endpoints of a socket: between which its segments go, and what becomes of its names.
use Rattle.std.specs.Prelude.{◌≡◌, ◌⊎◌, ℕ, ◌==◌, true, false, Option, Some, None}
use Rattle.ip_wire.specs.Ip.{source_of, destination_of}
use Rattle.ip_wire.specs.IpRepr.{IpRepr}
use Rattle.ip_wire.specs.TcpHeader.{TcpHeader}
use Rattle.tcp_block.specs.declared.tcb.Tcb.{Tcb}
use Rattle.tcp_block.specs.FourTuple.{FourTuple}
use Rattle.tcp_block.specs.OpenOffer.{OpenOffer}
use Rattle.tcp_block.specs.Reply.{Reply}
use Rattle.tcp_block.specs.TcbRules.{no_names}
use Rattle.tcp_block.specs.Controls.{is_rst}
use Rattle.tcp_block.specs.Endpoints.{local_of, remote_of, pair_in}
use Rattle.tcp_block.specs.Opening.{is_first_syn}
use Rattle.tcp_block.specs.States.{is_closed, is_listening, is_answering}

-- WHERE SEGMENTS GO

-- what it offers goes from the local endpoint of its pair to the remote one
pub record GoesBetween (pair : FourTuple) (o : OpenOffer) : Type 0 where
  pub source : source_of o.header ≡ local_of pair.addresses
  pub destination : destination_of o.header ≡ remote_of pair.addresses
  pub source_port : o.segment.src_port ≡ pair.local_port
  pub destination_port : o.segment.dst_port ≡ pair.remote_port

-- what answers a packet goes between the same endpoints, exchanged
pub record GoesBack (ip : IpRepr) (header : TcpHeader) (reply : Reply) : Type 0 where
  pub source : source_of reply.header ≡ destination_of ip
  pub destination : destination_of reply.header ≡ source_of ip
  pub source_port : reply.segment.src_port ≡ header.dst_port
  pub destination_port : reply.segment.dst_port ≡ header.src_port

-- a packet that came went between the endpoints of the connection
pub record CameBetween (pair : FourTuple) (ip : IpRepr) (header : TcpHeader) : Type 0 where
  pub source : source_of ip ≡ remote_of pair.addresses
  pub destination : destination_of ip ≡ local_of pair.addresses
  pub source_port : header.src_port ≡ pair.remote_port
  pub destination_port : header.dst_port ≡ pair.local_port

-- which segments a socket takes: none in CLOSED; in LISTEN those to its port that neither acknowledge nor reset; later those between
-- the endpoints of its connection
pub record IsFor (b : Tcb) (ip : IpRepr) (header : TcpHeader) : Type 0 where
  pub opened : is_closed b.state ≡ false
  pub listening : is_listening b.state ≡ true → (header.dst_port ≡ b.names.listen.port) × (header.ack_number ≡ None) × (is_rst header.control ≡ false)
  pub connected : is_listening b.state ≡ false → (pair : FourTuple) × (b.names.pair ≡ Some pair) × CameBetween pair ip header

-- WHAT BECOMES OF ITS NAMES

-- they stay, and it listens only if it did
pub record KeepsNames (old new : Tcb) : Type 0 where
  pub names : new.names ≡ old.names
  pub listening : is_listening new.state ≡ true → is_listening old.state ≡ true

-- CLOSED, with all endpoints forgotten
pub record Forgets (new : Tcb) : Type 0 where
  pub state : is_closed new.state ≡ true
  pub names : new.names ≡ no_names

-- LISTEN takes the endpoints of the segment that opens the connection
pub record IsOpenedBy (ip : IpRepr) (header : TcpHeader) (old new : Tcb) : Type 0 where
  pub listening : is_listening old.state ≡ true
  pub opening : is_first_syn header ≡ true
  pub state : is_answering new.state ≡ true
  pub names : new.names ≡ record { listen = old.names.listen; pair = Some (pair_in ip header) }

-- SYN-RECEIVED falls back to LISTEN: the pair alone is forgotten
pub record FallsBack (old new : Tcb) : Type 0 where
  pub answering : is_answering old.state ≡ true
  pub listened : (old.names.listen.port == 0) ≡ false
  pub state : is_listening new.state ≡ true
  pub names : new.names ≡ record { listen = old.names.listen; pair = None }

abbrev pub KeepsOrForgets : Tcb → Tcb → Type 0
KeepsOrForgets old new = KeepsNames old new ⊎ Forgets new

-- when it is asked for a segment: the names stay, or are forgotten, or it gives up, which takes a listener back
abbrev pub IsLeftBy : Tcb → Tcb → Type 0
IsLeftBy old new = FallsBack old new ⊎ KeepsOrForgets old new

-- when a segment comes
abbrev pub IsRenamed : IpRepr → TcpHeader → Tcb → Tcb → Type 0
IsRenamed ip header old new = IsOpenedBy ip header old new ⊎ (FallsBack old new ⊎ KeepsOrForgets old new)

-- PORTS

-- the local port that a socket was opened at, and of a connecting one the remote port
pub record Ports : Type 0 where
  pub local : ℕ
  pub remote : Option ℕ

abbrev pub IsToward : Option ℕ → ℕ → Type 0
IsToward None port = Unit {0}
IsToward (Some remote) port = port ≡ remote

-- whatever a socket is named by has the ports that it was opened with
pub record HasPorts (o : Ports) (b : Tcb) : Type 0 where
  pub listening : is_listening b.state ≡ true → (b.names.listen.port ≡ o.local) × (o.remote ≡ None)
  pub listened : (b.names.listen.port == 0) ≡ false → (b.names.listen.port ≡ o.local) × (o.remote ≡ None)
  pub pair : (pair : FourTuple) → b.names.pair ≡ Some pair → (pair.local_port ≡ o.local) × IsToward o.remote pair.remote_port

-- a socket that was never opened, or is forgotten: no endpoint is left, so it offers and takes nothing
pub record IsNameless (b : Tcb) : Type 0 where
  pub state : is_closed b.state ≡ true
  pub pair : b.names.pair ≡ None
