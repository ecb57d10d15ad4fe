-- A segment that waits for a host comes to its socket by a move of the poll that takes its frame.
use Rattle.std.specs.Prelude.{◌≡◌, ℕ, ℤ, true, false, List, ◌∷◌, ◌++◌}
use Rattle.wire_ip.specs.Ip.{destination_of, source_of}
use Rattle.wire_ip.specs.declared.ip.repr.IpRepr.{IpRepr}
use Rattle.ip_wire.specs.HardwareAddress.{HardwareAddress}
use Rattle.ip_wire.specs.TcpHeader.{TcpHeader}
use Rattle.tcp_block.specs.Value.{TcpValue}
use Rattle.tcp_liveness.specs.Arrivals.{is_synchronized}
use Rattle.iface_ingress.specs.Context.{ContextValue}
use Rattle.iface_ingress.specs.Delivered.{is_connected}
use Rattle.iface_ingress.specs.Processed.{names_no_endpoint}
use Rattle.iface_ingress.specs.Reassembled.{is_astray}
use Rattle.iface_ingress.specs.Socket.TheVariants as Kind
use Rattle.iface_tables.specs.Inner.{InnerValue, is_for_us}
use Rattle.lan.specs.declared.at_link.history.event.Side.{Side}
use Rattle.lan.specs.Worlds.AtLink.Moves.{Step}
use Rattle.lan.specs.Worlds.AtLink.Moves.Move.{Takes}
use Rattle.proof_stack.specs.Progress.Delivered.{hears, is_misframed_to, may_be_sender}

-- THE RECEIVER

-- A packet between these addresses, in a frame for this hardware address: the host takes it in, for it is for this host and from one host; it is for
-- this host, and names two hosts.
pub record IsForHost (i : InnerValue) (to : HardwareAddress) (ip : IpRepr) : Type 0 where
  pub heard : hears i to ≡ true
  pub framed : is_misframed_to i to (destination_of ip) ≡ false
  pub sender : may_be_sender i (source_of ip) ≡ true
  pub here : is_astray i (source_of ip) (destination_of ip) ≡ false
  pub ours : is_for_us i (destination_of ip) ≡ true
  pub named : names_no_endpoint i ip ≡ false

-- A segment with this header between these addresses is for this TCP socket, whose connection it has: both SYNs were acknowledged, and it isn't closed.
abbrev pub IsOfConnection : IpRepr → TcpHeader → TcpValue → Type 0
IsOfConnection ip header v = (is_synchronized v.tcb.state ≡ true) × (is_connected (Kind.Tcp v) ip header ≡ true)

-- THE MOVE

-- One of these moves brings the segment to the TCP socket at a slot, at this instant, after an IP header between the same addresses.
pub record ComesBy (side : Side) (slot : ℕ) (t : ℤ) (ip : IpRepr) (header : TcpHeader) (bytes : List ℕ) (steps : List Step) : Type 0 where
  pub before : List Step
  pub cx : ContextValue
  pub v : TcpValue
  pub read : IpRepr
  pub following : List Step
  pub are : steps ≡ before ++ record { side = side; move = Takes slot cx v read header bytes } ∷ following
  pub instant : cx.instant ≡ t
  pub source : source_of read ≡ source_of ip
  pub destination : destination_of read ≡ destination_of ip
