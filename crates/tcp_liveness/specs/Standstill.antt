-- Two sides of which each took what the other doesn't know of: all that either sends again is old to the other. Under rules that set a
-- bare acknowledgement at SND.NXT and drop the acknowledgement of old payload, neither ever learns of it, on a perfect link.
use Rattle.std.specs.Prelude.{ℤ, pos, true, List, [], ◌∷◌, ◌++◌, replicate}
use Rattle.net_base.specs.Ring.{ring}
use Rattle.tcp_block.specs.Value.{TcpValue, new_socket}
use Rattle.tcp_refinement.specs.declared.pair.event.Side.TheVariants.{A, B}
use Rattle.tcp_refinement.specs.declared.pair.event.PairEvent.{PairEvent}
use Rattle.tcp_refinement.specs.declared.pair.event.PairEvent.TheVariants.{Send, Recv, Offer, Deliver}
use Rattle.tcp_refinement.specs.Pair.Examples.{run}
use Rattle.tcp_refinement.specs.Pair.Values.{PairValue, new_pair}
use Rattle.tcp_liveness.specs.Met.{opening}
use Rattle.tcp_liveness.specs.Rounds.{linked, rounds}

-- room for one byte to receive, and eight to send
abbrev pub narrow : TcpValue
narrow = new_socket 1 (ring [] (replicate 8 0) 0)

abbrev pub opened : PairValue
opened = run (new_pair narrow narrow) opening

-- abc one way and xyz the other; each window holds a byte, so that what follows is probes, which cross while both users read
abbrev pub crossed : PairValue
crossed =
    run opened
    (Send A (97 ∷ 98 ∷ 99 ∷ [])
    ∷ Send B (120 ∷ 121 ∷ 122 ∷ [])
    ∷ Offer A (pos 0) true
    ∷ Offer B (pos 0) true
    ∷ Deliver A 2
    ∷ Deliver B 1
    ∷ Offer A (pos 10_000) true
    ∷ Offer B (pos 10_000) true
    ∷ Deliver A 3
    ∷ Deliver B 2
    ∷ Offer A (pos 10_000) true
    ∷ Offer B (pos 10_000) true
    ∷ Offer A (pos 1_010_000) true
    ∷ Offer B (pos 1_010_000) true
    ∷ Recv A 8
    ∷ Recv B 8
    ∷ Deliver A 4
    ∷ Deliver B 3
    ∷ [])

-- six rounds of a good link
abbrev pub healed : PairValue
healed = (rounds 6 (linked crossed)).pair

-- A byte of abc went and was taken, and B's window is closed; A waits for a probe. Then B's user reads, and B tells of it.
abbrev pub window_limited : PairValue
window_limited =
    run opened
    (Send A (97 ∷ 98 ∷ 99 ∷ [])
    ∷ Offer A (pos 0) true
    ∷ Deliver A 2
    ∷ Offer B (pos 10_000) true
    ∷ Deliver B 1
    ∷ Offer A (pos 10_000) true
    ∷ Recv B 8
    ∷ Offer B (pos 10_000) true
    ∷ [])

-- The link repeats two segments of B, of which one opens the window and the other closes it, and then A is asked.
abbrev pub repeated : ℤ → List PairEvent
repeated instant = Deliver B 2 ∷ Deliver B 1 ∷ Offer A instant true ∷ []

-- so it is twice before the instant of the probe
abbrev pub waiting : PairValue
waiting = run window_limited (repeated (pos 500_000) ++ repeated (pos 1_000_000))

-- and once after it
abbrev pub probed : PairValue
probed = run waiting (repeated (pos 1_500_000))

-- what went comes, and B's user reads
abbrev pub heard : PairValue
heard = run probed (Deliver A 3 ∷ Recv B 8 ∷ [])
