-- What puts the retransmission timer off (RFC 6298, 5; RFC 6675, 6).
use Rattle.std.specs.Prelude.{◌≡◌, ◌⊎◌, ℤ, ◌≤ℤ◌, true, false, List, [], ◌∷◌, Some}
use Rattle.tcp_invariants.specs.Moments.{is_due, timeout_from}
use Rattle.tcp_invariants.specs.OfferKind.TheVariants as Kind
use Rattle.tcp_invariants.specs.OpenOffer.{OpenOffer}
use Rattle.tcp_invariants.specs.Timing.{carries}
use Rattle.tcp_block.specs.LossRecovery.{is_first_lost}
use Rattle.tcp_block.specs.Offers.{offer_of}
use Rattle.tcp_block.specs.Settled.{settled}
use Rattle.tcp_block.specs.Probing.{may_probe}
use Rattle.tcp_block.specs.Value.{TcpValue, queued_in}
use Rattle.tcp_refinement.specs.Pair.Values.{PairValue}
use Rattle.tcp_refinement.specs.declared.pair.event.PairEvent.{PairEvent}
use Rattle.tcp_refinement.specs.declared.pair.event.PairEvent.TheVariants.{Offer}
use Rattle.tcp_refinement.specs.declared.pair.event.Side.{Side}
use Rattle.tcp_liveness.specs.Pair.{context_of, socket_of}
use Rattle.tcp_liveness.specs.Rounds.{takes}

-- the retransmission timer runs out at this instant
abbrev pub RunsOutAt : ℤ → TcpValue → Type 0
RunsOutAt at v = v.tcb.timers.retransmit_at ≡ Some at

-- it runs
pub record IsRunning (v : TcpValue) : Type 0 where
  pub at : ℤ
  pub runs : RunsOutAt at v

-- the side is asked for a segment before this instant; one may come, and its user may call, at any
abbrev pub IsAskedBefore : ℤ → Side → PairEvent → Type 0
IsAskedBefore at side (Offer of instant sent) = of ≡ side → is_due instant (Some at) ≡ false
IsAskedBefore at side other = Unit {0}

abbrev pub AreAskedBefore : ℤ → Side → List PairEvent → Type 0
AreAskedBefore at side [] = Unit {0}
AreAskedBefore at side (event ∷ events) = IsAskedBefore at side event × AreAskedBefore at side events

-- the side is asked for a segment at this instant or later
abbrev pub IsAskedFrom : ℤ → Side → PairEvent → Type 0
IsAskedFrom at side (Offer of instant sent) = (of ≡ side) × (at ≤ℤ instant)
IsAskedFrom at side other = ⊥

-- with one of these events
abbrev pub IsAskedFromAmong : ℤ → Side → List PairEvent → Type 0
IsAskedFromAmong at side [] = ⊥
IsAskedFromAmong at side (event ∷ events) = IsAskedFrom at side event ⊎ IsAskedFromAmong at side events

-- Of a socket with an open offer: something is retransmitted in a recovery, while ranges say that the segment at SND.UNA is lost. Then the timer
-- starts again, so that it doesn't run out before this can be acknowledged (RFC 6675, 6).
pub record Mends (now : ℤ) (v : TcpValue) : Type 0 where
  pub o : OpenOffer
  pub offered : v.offered ≡ Some o
  pub kind : o.kind ≡ Kind.FastRetransmission
  pub recovers : v.tcb.reno.recovers ≡ true
  pub lost : is_first_lost v.tcb ≡ true
  pub anew : RunsOutAt (timeout_from now v.tcb.round_trip) (settled true v)

-- this event is such an offer of the side, and the segment goes
abbrev pub MendsIn : PairValue → Side → PairEvent → Type 0
MendsIn p side (Offer of instant true) = (of ≡ side) × Mends instant (offer_of (context_of p of instant) (socket_of p of)).socket
MendsIn p side other = ⊥

-- one of these events, which are taken from this pair on, is
abbrev pub MendsAmong : PairValue → Side → List PairEvent → Type 0
MendsAmong p side [] = ⊥
MendsAmong p side (event ∷ events) = MendsIn p side event ⊎ MendsAmong (takes p event) side events

-- the side is asked at the instant at which its timer runs out, or later
abbrev pub RunsOutIn : PairValue → Side → PairEvent → Type 0
RunsOutIn p side (Offer of instant sent) = (of ≡ side) × (is_due instant (socket_of p side).tcb.timers.retransmit_at ≡ true)
RunsOutIn p side other = ⊥

-- with one of these events
abbrev pub RunsOutAmong : PairValue → Side → List PairEvent → Type 0
RunsOutAmong p side [] = ⊥
RunsOutAmong p side (event ∷ events) = RunsOutIn p side event ⊎ RunsOutAmong (takes p event) side events

-- PROBES

-- what a window held back waits for this instant
abbrev pub ProbesAt : ℤ → TcpValue → Type 0
ProbesAt at v = v.tcb.timers.probe_at ≡ Some at

-- bytes are queued and nothing is in flight, whatever the window says
abbrev pub MayProbe : TcpValue → Type 0
MayProbe v = may_probe v.tcb (queued_in v) ≡ true

-- the socket offers a SYN or a part of its send queue
pub record Carries (v : TcpValue) : Type 0 where
  pub o : OpenOffer
  pub offered : v.offered ≡ Some o
  pub carries_some : carries o.kind ≡ true

-- this event is such an offer of the side, and the segment goes
abbrev pub CarriesIn : PairValue → Side → PairEvent → Type 0
CarriesIn p side (Offer of instant true) = (of ≡ side) × Carries (offer_of (context_of p of instant) (socket_of p of)).socket
CarriesIn p side other = ⊥
