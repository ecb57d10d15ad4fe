-- Two hosts with a TCP socket each, by what their applications and the network do one after the other.
use Rattle.std.specs.Prelude.{ℕ, List, [], ◌∷◌, ◌++◌, slice_index_or, Some, None}
use Rattle.lan.specs.declared.at_link.history.event.Side.{Side}
use Rattle.lan.specs.declared.at_link.history.event.Side.TheVariants.{A, B}
use Rattle.lan.specs.Worlds.AtLink.Call.{SocketCall}
use Rattle.lan.specs.Worlds.AtLink.Kinds.{other}
use Rattle.lan.specs.Worlds.AtLink.Parties.{Net}
use Rattle.lan.specs.Worlds.AtLink.Parties.Socket.{Tcp}
use Rattle.lan.specs.Worlds.AtLink.Moves.{Step, after}
use Rattle.proof_stack.specs.Worlds.Hosts.{host}
use Rattle.proof_stack.specs.Worlds.Streams.{initial, invokes, asks, TcpSegment, reset, sent_by, comes, tcp_at}

pub data Doing : Type 0 where
  -- the application calls
  Calls : (side : Side) (call : SocketCall) → Doing
  -- the socket is asked for a segment, which is sent
  Asks : (side : Side) → Doing
  -- this one of the segments that the other side sent comes
  Comes : (side : Side) (k : ℕ) → Doing

-- both hosts, and the segments that each socket sent when it was asked
pub record Play : Type 0 where
  pub net : Net
  pub from_a : List TcpSegment
  pub from_b : List TcpSegment

abbrev pub from : Play → Side → List TcpSegment
from p A = p.from_a
from p B = p.from_b

abbrev pub segment_at : Play → Side → ℕ → TcpSegment
segment_at p side k = slice_index_or (from p side) k (reset 0 0 0 None)

abbrev pub step_of : Play → Doing → Step
step_of p (Calls side call) = invokes side 0 (tcp_at p.net side 0) call
step_of p (Asks side) = asks side 0 (tcp_at p.net side 0)
step_of p (Comes side k) = comes side 0 (tcp_at p.net side 0) (segment_at p (other side) k)

-- what a side sends joins what it sent
abbrev pub with_sent : Play → Side → Net → Play
with_sent p A net = record p { net = net; from_a = p.from_a ++ sent_by A (tcp_at p.net A 0) ∷ [] }
with_sent p B net = record p { net = net; from_b = p.from_b ++ sent_by B (tcp_at p.net B 0) ∷ [] }

abbrev pub done : Play → Doing → Play
done p (Asks side) = with_sent p side (after p.net (step_of p (Asks side)))
done p doing = record p { net = after p.net (step_of p doing) }

abbrev pub played : Play → List Doing → Play
played p [] = p
played p (doing ∷ doings) = played (done p doing) doings

abbrev pub steps_of : Play → List Doing → List Step
steps_of p [] = []
steps_of p (doing ∷ doings) = step_of p doing ∷ steps_of (done p doing) doings

-- a socket each, with room for 8 bytes each way
abbrev pub start : Play
start = record {
  net = record { a = host (Some (Tcp initial) ∷ []); b = host (Some (Tcp initial) ∷ []); history = [] };
  from_a = [];
  from_b = [];
}
