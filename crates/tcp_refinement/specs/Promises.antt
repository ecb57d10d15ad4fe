-- What the invariant promises of a socket that writes, with its past, and of one that reads.
use Rattle.std.specs.Prelude.{◌≡◌, ℕ, ◌-◌, ◌≤◌, true, false, List, [], ◌++◌, length}
use Rattle.tcp_theory.specs.Invariant.{HoldsBetween}
use Rattle.tcp_theory.specs.Safe.{IsPrefixOf}
use Rattle.tcp_theory.specs.Side.{Side, initial}
use Rattle.tcp_block.specs.State.TheVariants as In
use Rattle.tcp_block.specs.Value.{TcpValue}
use Rattle.tcp_refinement.specs.Tie.{Past, past_of, IsSideOf}

-- CLOSED, with nothing queued either way and no FIN taken; numbers, timers and held bytes may be left from an earlier connection
pub record IsInitial (v : TcpValue) : Type 0 where
  pub state : v.tcb.state ≡ In.Closed
  pub waiting : v.received.waiting ≡ []
  pub queue : v.queued.queue ≡ []
  pub unfinished : v.tcb.receiver.took_fin ≡ false

-- what its user read, and what waits to be read
abbrev pub read_or_waiting : Past → TcpValue → List ℕ
read_or_waiting p v = p.read ++ v.received.waiting

pub record AreSafeSockets (writer : TcpValue) (p : Past) (reader : TcpValue) (q : Past) : Type 0 where
  -- what the reader took in begins what the writer's user wrote
  pub prefix : IsPrefixOf (read_or_waiting q reader) p.written
  -- only bytes that were taken in have left the send queue
  pub freed : length p.written - length writer.queued.queue ≤ length (read_or_waiting q reader)
  -- a FIN that was taken means that the writer was closed, and that all was taken in
  pub finished : reader.tcb.receiver.took_fin ≡ true → (p.closed ≡ true) × (read_or_waiting q reader ≡ p.written)

-- A socket whose peer isn't opened, or that has none: it is a side alongside a side that isn't opened.
pub record KeepsAlone (v : TcpValue) (p : Past) : Type 0 where
  pub side : Side
  pub past : past_of side ≡ p
  pub fits : IsSideOf v side
  pub holds : HoldsBetween side (initial 0)

-- nothing was read or waits, all that was written is still queued, and the stream to it isn't finished
pub record HasTakenNothing (v : TcpValue) (p : Past) : Type 0 where
  pub read : read_or_waiting p v ≡ []
  pub freed : length p.written - length v.queued.queue ≡ 0
  pub unfinished : v.tcb.receiver.took_fin ≡ false
