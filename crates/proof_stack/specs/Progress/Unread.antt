-- Receive buffers with room for all that is written: their users needn't read.
use Rattle.std.specs.Prelude.{◌≡◌, ℕ, ◌+◌, ◌<◌, true, List, [], ◌∷◌, ◌++◌, length}
use Rattle.tcp_block.specs.Value.{TcpValue, room_of}
use Rattle.tcp_liveness.specs.Arrivals.{is_synchronized}
use Rattle.lan.specs.declared.at_link.history.event.Side.{Side}
use Rattle.lan.specs.Worlds.AtLink.History.{Entry, read, written}
use Rattle.lan.specs.Worlds.AtLink.Kinds.{other}
use Rattle.lan.specs.Worlds.AtLink.Runs.{Starts}
use Rattle.lan.specs.Worlds.AtLink.Node.{Nodes, node}
use Rattle.lan.specs.Worlds.Still.{StillRun}
use Rattle.proof_stack.specs.Progress.Serving.{IsAtHost}

-- The TCP socket of a side has a connection, and a receive buffer for more than the other's user wrote so far and its own didn't read.
abbrev pub HasRoomForAll : List Entry → (Side → ℕ) → Side → TcpValue → Type 0
HasRoomForAll history slots side v =
    (is_synchronized v.tcb.state ≡ true)
    × (length (written history (other side) (slots (other side))) < length (read history side (slots side)) + room_of v.received)

-- from the hosts between on, and after each later event
abbrev pub HasRoomThroughout : (starts : Starts) (slots : Side → ℕ) (side : Side) (past more : List Entry) (hosts : Nodes)
    → StillRun starts (more ++ past) hosts → Type 0
HasRoomThroughout starts slots side past [] hosts still = IsAtHost (slots side) (node hosts side) (HasRoomForAll past slots side)
HasRoomThroughout starts slots side past (e ∷ more) hosts still =
    HasRoomThroughout starts slots side past more still.0 still.1
    × IsAtHost (slots side) (node hosts side) (HasRoomForAll (e ∷ more ++ past) slots side)
