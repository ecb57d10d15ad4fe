-- That what the laws ask for is met, on numerals: a pair with room for 64 bytes each way, opened by three segments; then A writes abc.
use Rattle.std.specs.Prelude.{ℤ, pos, true, List, [], ◌∷◌, ◌++◌, Option, Some, slice_get}
use Rattle.ip_wire.specs.IpAddress.TheVariants as Ip
use Rattle.ip_wire.specs.IpEndpoint.{IpEndpoint}
use Rattle.tcp_invariants.specs.OpenOffer.{OpenOffer}
use Rattle.tcp_block.specs.Offers.{offer_of}
use Rattle.tcp_refinement.specs.declared.pair.event.SentSegment.{SentSegment}
use Rattle.tcp_refinement.specs.declared.pair.event.Side.TheVariants.{A, B}
use Rattle.tcp_refinement.specs.declared.pair.event.PairEvent.{PairEvent}
use Rattle.tcp_refinement.specs.declared.pair.event.PairEvent.TheVariants.{Close, Listen, Connect, Send, Recv, TcpSetting, Offer, Deliver}
use Rattle.tcp_refinement.specs.declared.pair.event.TcpSetting.TheVariants as Set
use Rattle.tcp_refinement.specs.Pair.Examples.{socket, server, port, run}
use Rattle.tcp_refinement.specs.Pair.Values.{PairValue, address_of, new_pair}
use Rattle.tcp_liveness.specs.Course.{events_of}
use Rattle.tcp_liveness.specs.Handshake.{shaken_in}
use Rattle.tcp_liveness.specs.HandshakeOn.{crossed_in, met_in}
use Rattle.tcp_liveness.specs.Pair.{context_of, exchanged_in}

-- three segments open a connection
abbrev pub opening : List PairEvent
opening =
    Listen B (port 80)
    ∷ Connect A server (port 49_500)
    ∷ Offer A (pos 0) true
    ∷ Deliver A 0
    ∷ Offer B (pos 0) true
    ∷ Deliver B 0
    ∷ Offer A (pos 0) true
    ∷ Deliver A 1
    ∷ []

-- B listens and A calls; and A's SYN went, and was lost
abbrev pub calling : List PairEvent
calling = Listen B (port 80) ∷ Connect A server (port 49_500) ∷ []

abbrev pub called : PairValue
called = run (new_pair socket socket) calling

abbrev pub unheard : PairValue
unheard = run called (Offer A (pos 0) true ∷ [])

-- A's SYN came, and B's answer went and was lost; or it came, but A's acknowledgement of it was lost
abbrev pub unanswered : PairValue
unanswered = run unheard (Deliver A 0 ∷ Offer B (pos 0) true ∷ [])

abbrev pub unconfirmed : PairValue
unconfirmed = run unanswered (Deliver B 0 ∷ Offer A (pos 0) true ∷ [])

-- then A's user writes
abbrev pub spoken : PairValue
spoken = run unconfirmed (Send A (97 ∷ 98 ∷ 99 ∷ []) ∷ [])

-- 192.168.1.1:49500
abbrev pub client : IpEndpoint
client = record { addr = Ip.Ipv4 (address_of A); port = 49_500 }

-- A and B call each other; and their SYNs cross
abbrev pub calling_both : List PairEvent
calling_both = Connect A server (port 49_500) ∷ Connect B client (port 80) ∷ []

abbrev pub both_called : PairValue
both_called = run (new_pair socket socket) calling_both

abbrev pub crossed : PairValue
crossed = crossed_in both_called A (pos 0) (pos 0)

-- when a timer has run out
abbrev pub late : ℤ
late = pos 5_000_000

-- three segments open the connection, both users write three bytes, and close
abbrev pub answered : PairValue
answered = shaken_in called A (pos 0) (pos 0) (pos 0)

abbrev pub writing : List PairEvent
writing = Send A (97 ∷ 98 ∷ 99 ∷ []) ∷ Send B (120 ∷ 121 ∷ 122 ∷ []) ∷ Close A ∷ Close B ∷ []

abbrev pub conversing : PairValue
conversing = run answered writing

-- so they do where both called
abbrev pub conversing_across : PairValue
conversing_across = run (met_in crossed A late late) writing

abbrev pub events : List PairEvent
events = opening ++ Send A (97 ∷ 98 ∷ 99 ∷ []) ∷ Offer A (pos 0) true ∷ []

-- the payload has gone, and hasn't come
abbrev pub gone : PairValue
gone = run (new_pair socket socket) events

-- it has come
abbrev pub come : PairValue
come = run gone (Deliver A 2 ∷ [])

-- the segment
abbrev pub payload : Option SentSegment
payload = slice_get gone.sides.a.sent 2

-- what A offers then
abbrev pub again_in : PairValue → Option OpenOffer
again_in p = (offer_of (context_of p A late) p.sides.a.socket).socket.offered

-- its next offer, after that exchange, goes later
abbrev pub later : ℤ
later = pos 20_000_000

abbrev pub told : PairValue
told = exchanged_in gone A late

-- both users wrote three bytes, which went and were lost
abbrev pub losing : List PairEvent
losing = opening ++ Send A (97 ∷ 98 ∷ 99 ∷ []) ∷ Send B (120 ∷ 121 ∷ 122 ∷ []) ∷ Offer A (pos 0) true ∷ Offer B (pos 0) true ∷ []

abbrev pub both_gone : PairValue
both_gone = run (new_pair socket socket) losing

-- the same with timestamps: B's go round within the first second
abbrev pub clocks : List PairEvent
clocks =
    TcpSetting A (Set.TsvalGenerator (Some (record { 0 = 7_000 })))
    ∷ TcpSetting B (Set.TsvalGenerator (Some (record { 0 = 4_294_967_000 })))
    ∷ []

abbrev pub both_timed : PairValue
both_timed = run (new_pair socket socket) (clocks ++ losing)

-- and a whole connection
abbrev pub timed_called : PairValue
timed_called = run (new_pair socket socket) (clocks ++ calling)

abbrev pub timed_answered : PairValue
timed_answered = shaken_in timed_called A (pos 0) (pos 0) (pos 0)

abbrev pub timed_conversing : PairValue
timed_conversing = run timed_answered writing

-- A course from where the payload was lost: A is asked when its timer runs out, the payload arrives again half a millisecond later, B is asked for the
-- acknowledgement that is due, this comes half a millisecond after that; and eleven days later B's user reads.
abbrev pub mending : List (ℤ × PairEvent)
mending =
    (pos 1_000_000, Offer A (pos 1_000_000) true)
    ∷ (pos 1_000_500, Deliver A 3)
    ∷ (pos 1_000_500, Offer B (pos 1_000_500) true)
    ∷ (pos 1_001_000, Deliver B 1)
    ∷ (pos 1_000_000_000_000, Recv B 3)
    ∷ []

-- the pair after it
abbrev pub mended : PairValue
mended = run gone (events_of mending)
