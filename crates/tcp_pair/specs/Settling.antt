-- Rounds over a good link, in each of which both users read and each side that waits has its turn: what they are made of, when they end, and
-- what is asked for so that all gets through.
use Rattle.std.specs.Prelude.{◌≡◌, ℕ, ◌+◌, ◌*◌, ◌-◌, ◌^◌, min, ◌||◌, ◌+ℤ◌, ◌≤ℤ◌, pos, ℤ, Bool, true, List, None}
use Rattle.std.specs.List.{AllByRecursion}
use Rattle.net_base.specs.Ring.{Ring}
use Rattle.tcp_refinement.specs.declared.pair.event.Side.{Side}
use Rattle.tcp_refinement.specs.declared.pair.event.Side.TheVariants.{A, B}
use Rattle.tcp_refinement.specs.declared.pair.event.PairEvent.{PairEvent}
use Rattle.tcp_refinement.specs.declared.pair.event.PairEvent.TheVariants.{Recv, Offer, Deliver}
use Rattle.tcp_refinement.specs.declared.pair.event.PairRefused.{PairRefused}
use Rattle.tcp_refinement.specs.declared.pair.event.PairRefused.TheVariants.{NoSegment, Moment, Memory}
use Rattle.tcp_refinement.specs.Pair.Sides.{at, other}
use Rattle.tcp_refinement.specs.Pair.Steps.{Steps, refusal}
use Rattle.tcp_block.specs.Value.{TcpValue, new_socket}
use Rattle.tcp_refinement.specs.Pair.Values.{PairValue, past_at}
use Rattle.tcp_liveness.specs.BothWays.{bound, waits_in}
use Rattle.tcp_liveness.specs.Pair.{left_in, next_sent, socket_of}
use Rattle.tcp_liveness.specs.Reached.{IsReached}
use Rattle.tcp_liveness.specs.Rounds.{comes, takes}
use Rattle.tcp_liveness.specs.Talking.{AreTalking, HaveTries}

-- WHAT ROUNDS ARE MADE OF

-- a user reads, a side is asked, or a segment comes
abbrev pub IsOfRound : PairEvent → Type 0
IsOfRound (Recv side count) = Unit {0}
IsOfRound (Offer side instant sent) = Unit {0}
IsOfRound (Deliver from k) = Unit {0}
IsOfRound other = ⊥

-- such events, each of which was taken, led from one pair to another
pub record ProceedsTo (old new : PairValue) : Type 0 where
  pub events : List PairEvent
  pub only : AllByRecursion IsOfRound events
  pub steps : Steps old events new

-- a round is refused where a side that waits sends nothing, where its clock has ended, and for lack of memory
abbrev pub StopsRound : PairRefused → Type 0
StopsRound NoSegment = Unit {0}
StopsRound Moment = Unit {0}
StopsRound Memory = Unit {0}
StopsRound other = ⊥

-- the instant may come, and the side sends something then
pub record MaySendAt (p : PairValue) (side : Side) (instant : ℤ) : Type 0 where
  pub comes : refusal p (Offer side instant true) ≡ None
  pub sends : refusal (takes p (Offer side instant true)) (Deliver side (next_sent p side)) ≡ None

-- what answers a side, from this number on, comes to it
abbrev pub answered_by : PairValue → Side → ℕ → PairValue
answered_by p side k = comes (next_sent p (other side) - k) (other side) k p

-- WHEN THEY END

-- one side waits, or both do
abbrev pub is_waiting : PairValue → Bool
is_waiting p = waits_in p A || waits_in p B

-- after so many rounds at most: two for each position that isn't acknowledged, as far as a count goes
abbrev pub most_rounds : PairValue → ℕ
most_rounds p = min ((left_in p A + left_in p B) * 2) (2 ^ 64 - 1)

-- a side's clock has gone on by no more than two minutes for each of so many rounds
abbrev pub IsSoon : ℕ → PairValue → PairValue → Side → Type 0
IsSoon rounds old new side = (at new.sides side).instant ≤ℤ ((at old.sides side).instant +ℤ pos (rounds * 120_000_000))

-- WHAT IS ASKED FOR

-- closed, with room for so many bytes, and nothing left of an earlier connection
pub record IsNewSocket (v : TcpValue) : Type 0 where
  pub room : ℕ
  pub ring : Ring ℕ
  pub is : v ≡ new_socket room ring

-- Events led from two new sockets to the pair. Both sides talk: their connections are there, no user timeout ends them, and each clock has two
-- minutes for each round. And each side may wait four times more in vain before it gives up.
pub record CanSettle (p : PairValue) : Type 0 where
  pub reached : IsReached p
  pub talking : AreTalking (bound p) p
  pub tries : HaveTries p

-- WHAT IT BRINGS

-- Of a stream that a side's user closed the other was told the end: it has taken the FIN, whichever connection is over.
abbrev pub IsEndTold : PairValue → PairValue → Side → Type 0
IsEndTold old new side = (past_at old side).closed ≡ true → (socket_of new (other side)).tcb.receiver.took_fin ≡ true
