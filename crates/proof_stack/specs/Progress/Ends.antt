-- The two ends of a connection at hosts that take in what goes between them.
use Rattle.std.specs.Prelude.{◌≡◌, ◌≢◌, ℕ, true, false, List, [], ◌∷◌, ◌++◌, Some}
use Rattle.wire_ip.specs.Ip.{destination_of, source_of}
use Rattle.wire_ip.specs.declared.ip.repr.IpRepr.{IpRepr}
use Rattle.ip_wire.specs.HardwareAddress.TheVariants as Hardware
use Rattle.iface_egress.specs.Plan.{never_leaves}
use Rattle.tcp_state.specs.Endpoints.{local_of, remote_of}
use Rattle.tcp_state.specs.declared.endpoints.FourTuple.{FourTuple}
use Rattle.tcp_block.specs.Value.{TcpValue}
use Rattle.tcp_liveness.specs.Arrivals.{is_synchronized}
use Rattle.lan.specs.declared.at_link.history.event.Side.{Side}
use Rattle.lan.specs.Worlds.AtLink.History.{Entry}
use Rattle.lan.specs.Worlds.AtLink.Kinds.{other}
use Rattle.lan.specs.Worlds.AtLink.Runs.{Starts, start}
use Rattle.lan.specs.Worlds.AtLink.Node.{Nodes, node}
use Rattle.lan.specs.Worlds.Still.{StillRun}
use Rattle.proof_stack.specs.Progress.Serving.{IsAtHost}
use Rattle.proof_stack.specs.Progress.Takings.{IsForHost}

-- a packet with this header goes from the local address of a connection to the remote one
pub record GoesAlong (pair : FourTuple) (ip : IpRepr) : Type 0 where
  pub source : source_of ip ≡ local_of pair.addresses
  pub destination : destination_of ip ≡ remote_of pair.addresses

-- What is local to the one end is remote to the other. Each host lets go what goes along from its end, and the other one takes it in.
pub record AreEnds (starts : Starts) (pairs : Side → FourTuple) : Type 0 where
  pub addresses : (side : Side) → remote_of (pairs side).addresses ≡ local_of (pairs (other side)).addresses
  pub ports : (side : Side) → (pairs side).remote_port ≡ (pairs (other side)).local_port
  pub named : (side : Side) → (pairs side).local_port ≢ 0
  pub let_go : (side : Side) (ip : IpRepr) → GoesAlong (pairs side) ip → never_leaves (start starts side).host.inner ip ≡ false
  pub taken_in : (side : Side) (ip : IpRepr) → GoesAlong (pairs side) ip → IsForHost (start starts (other side)).host.inner Hardware.Ip ip

-- the TCP socket has this connection: both SYNs were acknowledged, and it isn't closed
abbrev pub IsConnected : FourTuple → TcpValue → Type 0
IsConnected pair v = (is_synchronized v.tcb.state ≡ true) × (v.tcb.names.pair ≡ Some pair)

-- the TCP socket at the place of each host is so
abbrev pub AreBoth : (Side → TcpValue → Type 0) → (Side → ℕ) → Nodes → Type 0
AreBoth IsSo slots hosts = (side : Side) → IsAtHost (slots side) (node hosts side) (IsSo side)

-- from the hosts between on, and after each later event
abbrev pub AreThroughout : (IsSo : Side → TcpValue → Type 0) (starts : Starts) (slots : Side → ℕ) (past more : List Entry) (hosts : Nodes)
    → StillRun starts (more ++ past) hosts → Type 0
AreThroughout IsSo starts slots past [] hosts still = AreBoth IsSo slots hosts
AreThroughout IsSo starts slots past (e ∷ more) hosts still = AreThroughout IsSo starts slots past more still.0 still.1 × AreBoth IsSo slots hosts

-- each has the connection of its end
abbrev pub AreConnected : (starts : Starts) (slots : Side → ℕ) (pairs : Side → FourTuple) (past more : List Entry) (hosts : Nodes)
    → StillRun starts (more ++ past) hosts → Type 0
AreConnected starts slots pairs past more hosts still = AreThroughout (λ side. IsConnected (pairs side)) starts slots past more hosts still

-- each is connected, and no timestamps were agreed on for its connection
abbrev pub AreUnstamped : (starts : Starts) (slots : Side → ℕ) (past more : List Entry) (hosts : Nodes) → StillRun starts (more ++ past) hosts → Type 0
AreUnstamped starts slots past more hosts still =
    AreThroughout (λ side v. (is_synchronized v.tcb.state ≡ true) × (v.tcb.peer.timestamps ≡ false)) starts slots past more hosts still
