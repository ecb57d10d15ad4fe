-- A host's sockets as a party of a net, and a host that runs of moves lead to.
use Rattle.std.specs.Prelude.{◌≡◌, ℕ, Bool, List, map, Option, Some}
use Rattle.iface_egress.specs.Set.{socket_in}
use Rattle.iface_egress.specs.declared.socket_set.SocketStorage.{SocketStorage}
use Rattle.sockets.specs.declared.socket.Socket as Sockets
use Rattle.lan.specs.Worlds.AtLink.Side.{Side}
use Rattle.lan.specs.Worlds.AtLink.History.{Entry}
use Rattle.lan.specs.Worlds.AtLink.Kinds.{Kind}
use Rattle.lan.specs.Worlds.AtLink.Kinds.Act.{Polls}
use Rattle.lan.specs.Worlds.AtLink.Kinds.Kind.{OfHost}
use Rattle.lan.specs.Worlds.AtLink.Moves.{Step, IsRun, run}
use Rattle.lan.specs.Worlds.AtLink.Parties as Parties
use Rattle.lan.specs.Worlds.AtLink.Parties.{Net, party}
use Rattle.lan.specs.Worlds.AtLink.Safe.{seen_in}
use Rattle.lan.specs.Worlds.AtLink.Node.{Nodes, node}
use Rattle.lan.specs.Worlds.Moves.Made.{Grows}

-- the socket of a slot, of which nothing is looked at where it is of ICMP or a raw one
abbrev pub seen_slot : SocketStorage Sockets.Socket → Option Parties.Socket
seen_slot slot = seen_in (socket_in (Some slot))

abbrev pub sockets_of : List (SocketStorage Sockets.Socket) → List (Option Parties.Socket)
sockets_of slots = map seen_slot slots

-- a net has the sockets of both hosts, and their history
pub record IsNetOf (net : Net) (hosts : Nodes) (past : List Entry) : Type 0 where
  pub sockets : (side : Side) → (party net side).sockets ≡ sockets_of (node hosts side).slots
  pub history : net.history ≡ past

-- moves lead from a net to one of these hosts with this history, in which each host made as much or more
pub record Comes (names : List ℕ → Bool) (net : Net) (hosts : Nodes) (past : List Entry) : Type 0 where
  pub next : Net
  pub steps : List Step
  pub may : IsRun names net steps
  pub ends : run net steps ≡ next
  pub of : IsNetOf next hosts past
  pub grows : (side : Side) → Grows (party net side) (party next side)

-- polls are what a host does of itself
abbrev pub IsNoPoll : Kind → Type 0
IsNoPoll (OfHost side (Polls instant budget)) = ⊥
IsNoPoll kind = Unit {0}
