-- A segment that ends a connection.
use Rattle.std.specs.Prelude.{◌≡◌, ℕ, true, false, Some, slice_get}
use Rattle.tcp_invariants.specs.Controls.{is_rst}
use Rattle.tcp_refinement.specs.Pair.Sides.{at, other}
use Rattle.tcp_refinement.specs.Pair.Values.{PairValue, past_at}
use Rattle.tcp_refinement.specs.declared.pair.event.PairEvent.TheVariants.{Deliver}
use Rattle.tcp_refinement.specs.declared.pair.event.SentSegment.{SentSegment}
use Rattle.tcp_refinement.specs.declared.pair.event.Side.{Side}
use Rattle.tcp_liveness.specs.Arrivals.{is_synchronized}
use Rattle.tcp_liveness.specs.BothWays.{is_over}
use Rattle.tcp_liveness.specs.Pair.{HasStream, socket_of}
use Rattle.tcp_liveness.specs.Rounds.{takes}

-- The other's segment of this number comes, which is no reset, and the side's connection is over. Its user hadn't closed it, or wrote
-- something.
pub record EndsAt (p : PairValue) (side : Side) (k : ℕ) (x : SentSegment) : Type 0 where
  pub stream : HasStream (past_at p side)
  pub there : is_synchronized (socket_of p side).tcb.state ≡ true
  pub sent : slice_get (at p.sides (other side)).sent k ≡ Some x
  pub no_reset : is_rst x.segment.control ≡ false
  pub over : is_over (takes p (Deliver (other side) k)) side ≡ true
