-- Two pairs, of which events lead from one to the other: what is acknowledged and taken of each side in the one and the other.
use Rattle.std.specs.Prelude.{◌⊎◌, ℕ, ◌-◌, ◌<◌, List}
use Rattle.tcp_refinement.specs.Pair.Steps.{Steps}
use Rattle.tcp_refinement.specs.Pair.Values.{PairValue}
use Rattle.tcp_refinement.specs.declared.pair.event.PairEvent.{PairEvent}
use Rattle.tcp_refinement.specs.declared.pair.event.Side.{Side}
use Rattle.tcp_refinement.specs.declared.pair.event.Side.TheVariants.{A, B}
use Rattle.tcp_liveness.specs.BothWays.{AreThere, total_in}
use Rattle.tcp_liveness.specs.Exchange.{IsOpen}
use Rattle.tcp_liveness.specs.Pair.{left_in, socket_of}
use Rattle.tcp_liveness.specs.Sent.{taken_in}

-- how many positions of what a side's user wrote are acknowledged, with the FIN
abbrev pub acked_in : PairValue → Side → ℕ
acked_in p side = total_in p side - left_in p side

-- SND.UNA or RCV.NXT of a side has risen
abbrev pub HasRisen : PairValue → PairValue → Side → Type 0
HasRisen p q side = (acked_in p side < acked_in q side) ⊎ (taken_in p side < taken_in q side)

-- Both connections are there, and both SYNs are acknowledged.
abbrev pub AreOpen : PairValue → Type 0
AreOpen p = IsOpen (socket_of p A).tcb × IsOpen (socket_of p B).tcb

-- whatever events there are between them, and both connections are there, first and last
pub record Lasts (p q : PairValue) : Type 0 where
  pub events : List PairEvent
  pub steps : Steps p events q
  pub before : AreOpen p
  pub after : AreThere q
