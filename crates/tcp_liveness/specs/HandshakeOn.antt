-- A handshake that goes on though its answer or its last acknowledgement was lost, or its SYNs crossed (RFC 9293, 3.5 and 3.10.7.4): a side in
-- SYN-RECEIVED answers the other's SYN when its timer runs out, until its own is acknowledged.
use Rattle.std.specs.Prelude.{◌≡◌, ℕ, ◌+◌, ◌≤◌, min, ℤ, true, false, length, Some, None}
use Rattle.tcp_invariants.specs.Ends.{Proceeds}
use Rattle.tcp_invariants.specs.Offsets.{advanced_by}
use Rattle.tcp_invariants.specs.OpenOffer.{OpenOffer}
use Rattle.tcp_invariants.specs.State.TheVariants as In
use Rattle.tcp_invariants.specs.Timing.{carries}
use Rattle.tcp_block.specs.Answers.{may_challenge}
use Rattle.tcp_block.specs.declared.tcb.Tcb.{Tcb}
use Rattle.tcp_block.specs.Offers.{offer_of}
use Rattle.tcp_block.specs.Retries.{reaches}
use Rattle.tcp_block.specs.Segments.{segment_len}
use Rattle.tcp_refinement.specs.Pair.Sides.{at, other}
use Rattle.tcp_refinement.specs.Pair.Steps.{refusal}
use Rattle.tcp_block.specs.Value.{free_in}
use Rattle.tcp_refinement.specs.Pair.Values.{PairValue}
use Rattle.tcp_refinement.specs.declared.pair.event.PairEvent.TheVariants.{Deliver, Offer}
use Rattle.tcp_refinement.specs.declared.pair.event.Side.{Side}
use Rattle.tcp_liveness.specs.StartsOver.{StartsOver}
use Rattle.tcp_liveness.specs.Clocks.{IsTimely}
use Rattle.tcp_liveness.specs.Exchange.{HasSpace, IsOpen, data_of}
use Rattle.tcp_liveness.specs.Handshake.{CallsOn, answered_in, called_in}
use Rattle.tcp_liveness.specs.Pair.{AreMirrored, context_of, exchanged_in, next_sent, offered_in, socket_of}
use Rattle.tcp_liveness.specs.Reached.{IsReached}
use Rattle.tcp_liveness.specs.Rounds.{takes}

-- a side took the SYN of the other: its RCV.NXT is the number after that
abbrev pub HasTakenSyn : PairValue → Side → Type 0
HasTakenSyn p side = (socket_of p side).tcb.receiver.next ≡ advanced_by (socket_of p (other side)).tcb.sender.una 1

-- In SYN-RECEIVED a side has no user timeout, and doesn't hold its answer back; its next timeout isn't the last.
pub record AnswersOn (b : Tcb) : Type 0 where
  pub answers : b.state ≡ In.SynReceived
  pub timeout : b.settings.timeout ≡ None
  pub unpaused : b.settings.synack_paused ≡ false
  pub tries : reaches b.settings.opening_retries (b.sender.timeouts + 1) ≡ false

-- THE ANSWER WAS LOST

-- the other side is asked, and its answer comes; then the side, and its acknowledgement comes
abbrev pub acked_in : PairValue → Side → ℤ → ℤ → PairValue
acked_in p side second third = offered_in (offered_in p (other side) second) side third

-- one side calls still, though the other has taken its SYN
pub record IsUnanswered (p : PairValue) (side : Side) : Type 0 where
  pub calls : (socket_of p side).tcb.state ≡ In.SynSent
  pub caller : CallsOn (socket_of p side).tcb
  pub answerer : AnswersOn (socket_of p (other side)).tcb
  pub took : HasTakenSyn p (other side)

-- The other side is asked when its timer has run out, or as soon as it likes where its answer never went.
pub record MayAnswer (p : PairValue) (side : Side) (second third : ℤ) : Type 0 where
  pub unanswered : IsUnanswered p side
  pub over : StartsOver (context_of p (other side) second) (socket_of p (other side))
  pub at_second : refusal p (Offer (other side) second true) ≡ None
  pub at_third : refusal (offered_in p (other side) second) (Offer side third true) ≡ None
  pub stamps : IsTimely p side third

-- Or the side that calls is asked first, when its own timer has run out: its SYN is retransmitted, and comes.
pub record MayCallAgain (p : PairValue) (side : Side) (first second third : ℤ) : Type 0 where
  pub unanswered : IsUnanswered p side
  pub over : StartsOver (context_of p side first) (socket_of p side)
  pub goes : Proceeds (context_of p side first) (socket_of p side)
  pub answer_over : StartsOver (context_of p (other side) second) (socket_of p (other side))
  pub at_first : refusal p (Offer side first true) ≡ None
  pub at_second : refusal (called_in p side first) (Offer (other side) second true) ≡ None
  pub at_third : refusal (answered_in p side first second) (Offer side third true) ≡ None
  pub stamps : IsTimely (called_in p side first) side third

-- THE LAST ACKNOWLEDGEMENT WAS LOST

-- the other side's answer is retransmitted, and what the side answers to that comes
abbrev pub confirmed_in : PairValue → Side → ℤ → PairValue
confirmed_in p side instant = exchanged_in p (other side) instant

-- The side is ESTABLISHED, and each has taken the other's SYN; the other side doesn't know yet that its own came.
pub record IsUnconfirmed (p : PairValue) (side : Side) : Type 0 where
  pub opened : (socket_of p side).tcb.state ≡ In.Established
  pub una : (socket_of p side).tcb.sender.una ≡ (socket_of p (other side)).tcb.receiver.next
  pub took : HasTakenSyn p side
  pub answerer : AnswersOn (socket_of p (other side)).tcb

-- The other side is asked when its timer has run out. Its SYN is old to the side, which may draw an answer: the second since the last one is
-- over; and the other side has room after what it took, if the side sent anything.
pub record MayConfirm (p : PairValue) (side : Side) (instant : ℤ) : Type 0 where
  pub unconfirmed : IsUnconfirmed p side
  pub over : StartsOver (context_of p (other side) instant) (socket_of p (other side))
  pub draws : may_challenge (at p.sides side).instant (socket_of p side).tcb.timers.challenges_from ≡ true
  pub space : HasSpace (socket_of p (other side)) (socket_of p side)
  pub at_instant : refusal p (Offer (other side) instant true) ≡ None
  pub stamps : IsTimely p side (at p.sides side).instant

-- Or the side is asked, with nothing in flight or when its timer has run out, and offers payload or a FIN, for which the other, whose SYN went,
-- has room.
pub record MayTell (p : PairValue) (side : Side) (instant : ℤ) (o : OpenOffer) : Type 0 where
  pub unconfirmed : IsUnconfirmed p side
  pub over : StartsOver (context_of p side instant) (socket_of p side)
  pub offered : (offer_of (context_of p side instant) (socket_of p side)).socket.offered ≡ Some o
  pub kind : carries o.kind ≡ true
  pub some : 1 ≤ segment_len o.segment (length (data_of (socket_of p side) o))
  pub was_sent : 1 ≤ (socket_of p (other side)).tcb.sender.snd_max
  pub room : 1 ≤ free_in (socket_of p (other side))
  pub at_instant : refusal p (Offer side instant true) ≡ None
  pub stamps : IsTimely p side instant

-- Both sides are open; the other side knows that its SYN came, and has taken all of the payload that it has room for.
pub record AreTold (p q : PairValue) (side : Side) (o : OpenOffer) : Type 0 where
  pub leads : IsReached q
  pub own : IsOpen (socket_of q side).tcb
  pub theirs : IsOpen (socket_of q (other side)).tcb
  pub mirrored : AreMirrored (socket_of q side).tcb (socket_of q (other side)).tcb
  pub peer_side_una : (socket_of q (other side)).tcb.sender.una ≡ (socket_of q side).tcb.receiver.next
  pub by : ℕ
  pub next : (socket_of q (other side)).tcb.receiver.next ≡ advanced_by (socket_of p (other side)).tcb.receiver.next by
  pub some : 1 ≤ by
  pub all : min (length (data_of (socket_of p side) o)) (free_in (socket_of p (other side))) ≤ by

-- CROSSED SYNS

-- both are asked, and the SYN of each comes to the other (figure 8)
abbrev pub crossed_in : PairValue → Side → ℤ → ℤ → PairValue
crossed_in p side first second =
    takes
    (takes (takes (takes p (Offer side first true)) (Offer (other side) second true)) (Deliver side (next_sent p side)))
    (Deliver (other side) (next_sent p (other side)))

-- Then each side's SYN is retransmitted, with an acknowledgement, and what the other answers comes.
abbrev pub met_in : PairValue → Side → ℤ → ℤ → PairValue
met_in p side third fourth = confirmed_in (exchanged_in p side third) side fourth

-- A side calls; no user timeout; it doesn't hold its answer back, drew none yet, and gives up after two timeouts at least.
pub record CallsAcross (b : Tcb) : Type 0 where
  pub calls : b.state ≡ In.SynSent
  pub timeout : b.settings.timeout ≡ None
  pub unpaused : b.settings.synack_paused ≡ false
  pub tries : reaches b.settings.opening_retries 1 ≡ false
  pub undrawn : b.timers.challenges_from ≡ None

-- Each side calls the other, and its SYN goes: it didn't yet, or its timer has run out, but not for the last time.
pub record MayCross (p : PairValue) (side : Side) (first second : ℤ) : Type 0 where
  pub own : CallsAcross (socket_of p side).tcb
  pub theirs : CallsAcross (socket_of p (other side)).tcb
  pub mirrored : AreMirrored (socket_of p side).tcb (socket_of p (other side)).tcb
  pub over : StartsOver (context_of p side first) (socket_of p side)
  pub goes : Proceeds (context_of p side first) (socket_of p side)
  pub their_over : StartsOver (context_of p (other side) second) (socket_of p (other side))
  pub they_go : Proceeds (context_of p (other side) second) (socket_of p (other side))
  pub at_first : refusal p (Offer side first true) ≡ None
  pub at_second : refusal p (Offer (other side) second true) ≡ None

-- A side took the SYN of the other, and sent its own, but nothing else; it drew no answer yet.
pub record HasCrossed (p : PairValue) (side : Side) : Type 0 where
  pub answerer : AnswersOn (socket_of p side).tcb
  pub took : HasTakenSyn p side
  pub sent : (socket_of p side).tcb.sender.snd_max ≡ 1
  pub undrawn : (socket_of p side).tcb.timers.challenges_from ≡ None

-- The SYNs crossed, and each side is asked when its timer has run out.
pub record MayMeet (p : PairValue) (side : Side) (third fourth : ℤ) : Type 0 where
  pub own : HasCrossed p side
  pub theirs : HasCrossed p (other side)
  pub over : StartsOver (context_of p side third) (socket_of p side)
  pub their_over : StartsOver (context_of p (other side) fourth) (socket_of p (other side))
  pub at_third : refusal p (Offer side third true) ≡ None
  pub at_fourth : refusal (exchanged_in p side third) (Offer (other side) fourth true) ≡ None
  pub stamps : IsTimely p (other side) (at p.sides (other side)).instant
  pub their_stamps : IsTimely (exchanged_in p side third) side (at (exchanged_in p side third).sides side).instant
