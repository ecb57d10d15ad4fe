-- A whole connection: a handshake, what both users write, and their closes; and then rounds until all is read.
use Rattle.std.specs.Prelude.{◌≡◌, ◌≤◌, ℤ, false, List, [], ◌∷◌, None}
use Rattle.tcp_block.specs.Retries.{reaches}
use Rattle.tcp_refinement.specs.Pair.Sides.{other}
use Rattle.tcp_refinement.specs.Pair.Steps.{Steps}
use Rattle.tcp_block.specs.Value.{TcpValue, room_of}
use Rattle.tcp_refinement.specs.Pair.Values.{PairValue, past_at}
use Rattle.tcp_refinement.specs.declared.pair.event.PairEvent.{PairEvent}
use Rattle.tcp_refinement.specs.declared.pair.event.PairEvent.TheVariants.{Close, Send}
use Rattle.tcp_refinement.specs.declared.pair.event.Side.{Side}
use Rattle.tcp_refinement.specs.declared.pair.event.Side.TheVariants.{A, B}
use Rattle.tcp_liveness.specs.BothWays.{bound}
use Rattle.tcp_liveness.specs.Clocks.{HasStamps}
use Rattle.tcp_liveness.specs.Handshake.{MayShake, shaken_in}
use Rattle.tcp_liveness.specs.HandshakeOn.{MayAnswer, MayCallAgain, MayConfirm, MayCross, MayMeet, acked_in, confirmed_in, crossed_in, met_in}
use Rattle.tcp_liveness.specs.Pair.{HasStream, socket_of}
use Rattle.tcp_liveness.specs.Talking.{HasMinutes, HasTries}

-- a user writes or closes
abbrev pub IsWriting : PairEvent → Type 0
IsWriting (Send side bytes) = Unit {0}
IsWriting (Close side) = Unit {0}
IsWriting other = ⊥

abbrev pub AreWriting : List PairEvent → Type 0
AreWriting [] = Unit {0}
AreWriting (event ∷ events) = IsWriting event × AreWriting events

-- a socket with a receive buffer that gives up after six timeouts at least
pub record IsLasting (v : TcpValue) : Type 0 where
  pub room : 1 ≤ room_of v.received
  pub tries : reaches v.tcb.settings.retries 5 ≡ false

-- BEGINNINGS

-- How a side opens its connection, from where it stands, and when each of the two is asked: it calls; the answer was lost, or its own call goes
-- again, too; the last acknowledgement was lost; both call, or their SYNs have crossed.
pub data Course : Type 0 where
  ByCall : (first second third : ℤ) → Course
  ByAnswer : (second third : ℤ) → Course
  ByCallAgain : (first second third : ℤ) → Course
  ByAcknowledgement : (instant : ℤ) → Course
  ByCrossing : (first second third fourth : ℤ) → Course
  ByMeeting : (third fourth : ℤ) → Course

-- the pair after it
abbrev pub opened_by : Course → PairValue → Side → PairValue
opened_by (ByCall first second third) p side = shaken_in p side first second third
opened_by (ByAnswer second third) p side = acked_in p side second third
opened_by (ByCallAgain first second third) p side = shaken_in p side first second third
opened_by (ByAcknowledgement instant) p side = confirmed_in p side instant
opened_by (ByCrossing first second third fourth) p side = met_in (crossed_in p side first second) side third fourth
opened_by (ByMeeting third fourth) p side = met_in p side third fourth

-- a side that is ESTABLISHED has no user timeout, and four tries left
pub record IsAtEase (p : PairValue) (side : Side) : Type 0 where
  pub timeout : (socket_of p side).tcb.settings.timeout ≡ None
  pub tries : HasTries 4 p side

-- what it asks for
abbrev pub MayOpen : Course → PairValue → Side → Type 0
MayOpen (ByCall first second third) p side = MayShake p side first second third
MayOpen (ByAnswer second third) p side = MayAnswer p side second third
MayOpen (ByCallAgain first second third) p side = MayCallAgain p side first second third
MayOpen (ByAcknowledgement instant) p side = MayConfirm p side instant × IsAtEase p side
MayOpen (ByCrossing first second third fourth) p side = MayCross p side first second × MayMeet (crossed_in p side first second) side third fourth
MayOpen (ByMeeting third fourth) p side = MayMeet p side third fourth

-- The connection opens; the users write and close; no stream is closed empty, and the clocks have time for the rounds.
pub record MayConverse (p : PairValue) (side : Side) (course : Course) (calls : List PairEvent) (q : PairValue) : Type 0 where
  pub opens : MayOpen course p side
  pub own : IsLasting (socket_of p side)
  pub theirs : IsLasting (socket_of p (other side))
  pub writing : AreWriting calls
  pub steps : Steps (opened_by course p side) calls q
  pub stream_a : HasStream (past_at q A)
  pub stream_b : HasStream (past_at q B)
  pub minutes_a : HasMinutes (bound q) q A
  pub minutes_b : HasMinutes (bound q) q B
  pub stamps_a : HasStamps (bound q) q A
  pub stamps_b : HasStamps (bound q) q B
