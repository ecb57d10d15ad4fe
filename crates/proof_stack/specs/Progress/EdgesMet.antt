-- An acknowledgement at the right edge of a window, on numerals: each receive buffer holds a byte, and each side sent one.
use Rattle.std.specs.Prelude.{pos, true, List, [], ◌∷◌, ◌++◌}
use Rattle.tcp_refinement.specs.Pair.Examples.{run}
use Rattle.tcp_refinement.specs.Pair.Values.{PairValue, new_pair}
use Rattle.tcp_refinement.specs.declared.pair.event.PairEvent.{PairEvent}
use Rattle.tcp_refinement.specs.declared.pair.event.PairEvent.TheVariants.{Deliver, Offer, Send}
use Rattle.tcp_refinement.specs.declared.pair.event.Side.TheVariants.{A, B}
use Rattle.tcp_liveness.specs.Met.{opening}
use Rattle.tcp_liveness.specs.Standstill.{narrow}

-- Both bytes were lost. A's goes again, and is taken; and B is asked for the acknowledgement that is due.
abbrev pub filling : List PairEvent
filling =
    opening
    ++ Send A (97 ∷ [])
    ∷ Send B (120 ∷ [])
    ∷ Offer A (pos 0) true
    ∷ Offer B (pos 500_000) true
    ∷ Offer A (pos 1_000_000) true
    ∷ Deliver A 3
    ∷ Offer B (pos 1_010_500) true
    ∷ []

abbrev pub filled : PairValue
filled = run (new_pair narrow narrow) filling

-- what B sent then has come
abbrev pub telling : List PairEvent
telling = filling ++ Deliver B 2 ∷ []

abbrev pub untold : PairValue
untold = run (new_pair narrow narrow) telling
