-- What both ways of a connection ask for at the beginning, and what in each turn.
use Rattle.std.specs.Prelude.{◌≡◌, ℕ, zero, suc, ◌+◌, ◌*◌, ◌≤◌, pos, ◌+ℤ◌, ◌≤ℤ◌, true, false, None}
use Rattle.net_base.specs.Time.{last_instant}
use Rattle.tcp_block.specs.Retries.{gives_up, reaches}
use Rattle.tcp_refinement.specs.Pair.Sides.{at}
use Rattle.tcp_block.specs.Value.{queued_in, room_of}
use Rattle.tcp_refinement.specs.Pair.Values.{PairValue, past_at}
use Rattle.tcp_refinement.specs.declared.pair.event.Side.{Side}
use Rattle.tcp_refinement.specs.declared.pair.event.Side.TheVariants.{A, B}
use Rattle.tcp_liveness.specs.BothWays.{roused_in, round_in, turn_in, waits_in, wake_in}
use Rattle.tcp_liveness.specs.Clocks.{HasStamps}
use Rattle.tcp_liveness.specs.Exchange.{IsOpen}
use Rattle.tcp_liveness.specs.Pair.{HasStream, socket_of}
use Rattle.tcp_liveness.specs.Settle.{read_in, restart_in}

-- AT THE BEGINNING

-- the clock of a side has two minutes left for each of so many rounds
pub record HasMinutes (n : ℕ) (p : PairValue) (side : Side) : Type 0 where
  pub begun : pos 0 ≤ℤ (at p.sides side).instant
  pub left : ((at p.sides side).instant +ℤ pos (n * 120_000_000)) ≤ℤ pos last_instant

-- a side with its connection: its user hasn't closed it, or wrote something; it has a receive buffer and no user timeout
pub record IsTalking (p : PairValue) (side : Side) : Type 0 where
  pub own : IsOpen (socket_of p side).tcb
  pub stream : HasStream (past_at p side)
  pub room : 1 ≤ room_of (socket_of p side).received
  pub timeout : (socket_of p side).tcb.settings.timeout ≡ None

-- both are, and so many rounds can be before either clock ends, and before its timestamps come halfway round
pub record AreTalking (n : ℕ) (p : PairValue) : Type 0 where
  pub a : IsTalking p A
  pub b : IsTalking p B
  pub minutes_a : HasMinutes n p A
  pub minutes_b : HasMinutes n p B
  pub stamps_a : HasStamps n p A
  pub stamps_b : HasStamps n p B

-- so many timeouts more, and so many questions, may stay unanswered before the side gives up
pub record HasTries (n : ℕ) (p : PairValue) (side : Side) : Type 0 where
  pub timeouts : reaches (socket_of p side).tcb.settings.retries ((socket_of p side).tcb.sender.timeouts + n) ≡ false
  pub questions : reaches (socket_of p side).tcb.settings.retries ((socket_of p side).tcb.sender.unanswered + n) ≡ false

-- Four of each side are enough: of so many turns of a side in a row the last at least is answered.
abbrev pub HaveTries : PairValue → Type 0
HaveTries p = HasTries 4 p A × HasTries 4 p B

-- neither gives up, however many timeouts there are
abbrev pub NeverGiveUp : PairValue → Type 0
NeverGiveUp p = ((socket_of p A).tcb.settings.retries ≡ None) × ((socket_of p B).tcb.settings.retries ≡ None)

-- IN EACH TURN

-- The side gives up neither when its timer runs out nor later, when a probe goes.
pub record MaySpeak (p : PairValue) (side : Side) : Type 0 where
  pub tries : gives_up (restart_in p side) (socket_of (read_in p side) side).tcb (queued_in (socket_of (read_in p side) side)) ≡ false
  pub tries_on :
      gives_up (wake_in (roused_in p side) side) (socket_of (roused_in p side) side).tcb (queued_in (socket_of (roused_in p side) side)) ≡ false

-- of a side that waits
abbrev pub SpeaksIn : PairValue → Side → Type 0
SpeaksIn p side = waits_in p side ≡ true → MaySpeak p side

-- in each turn of so many rounds
abbrev pub MayTalk : ℕ → PairValue → Type 0
MayTalk zero p = Unit {0}
MayTalk (suc n) p = SpeaksIn p A × SpeaksIn (turn_in p A) B × MayTalk n (round_in p)
