-- The pairs that events lead to, and when a side of one waits for the other.
use Rattle.std.specs.Prelude.{◌≡◌, ℕ, ◌≤◌, false, List}
use Rattle.net_base.specs.Ring.{Ring}
use Rattle.tcp_invariants.specs.States.{is_closed, is_listening}
use Rattle.tcp_block.specs.TcbRules.{unacked}
use Rattle.tcp_block.specs.Value.{TcpValue, new_socket, queued_in}
use Rattle.tcp_refinement.specs.declared.pair.event.PairEvent.{PairEvent}
use Rattle.tcp_refinement.specs.Pair.Steps.{Steps}
use Rattle.tcp_refinement.specs.Pair.Values.{HoldsPayload, HostContext, PairSide, PairValue, beginning, new_side}

-- a new socket on any host a packet of which holds payload, and any random words
pub record Start : Type 0 where
  pub host : HostContext
  pub holds : HoldsPayload host
  pub random : ℕ
  pub room : ℕ
  pub ring : Ring ℕ

abbrev pub started : Start → PairSide
started s = new_side s.host s.random (new_socket s.room s.ring)

abbrev pub both_started : Start → Start → PairValue
both_started a b = beginning (started a) (started b)

-- two of them, and the events that led from there to the pair, each of which was taken
pub record IsReached (p : PairValue) : Type 0 where
  pub a : Start
  pub b : Start
  pub events : List PairEvent
  pub steps : Steps (both_started a b) events p

-- There is a connection, or one is being opened; a SYN, payload or a FIN isn't acknowledged, sent or not; and the user doesn't hold the
-- answer to a SYN back.
pub record Owes (v : TcpValue) : Type 0 where
  pub alive : is_closed v.tcb.state ≡ false
  pub connected : is_listening v.tcb.state ≡ false
  pub owes : 1 ≤ unacked v.tcb (queued_in v)
  pub unpaused : v.tcb.settings.synack_paused ≡ false
