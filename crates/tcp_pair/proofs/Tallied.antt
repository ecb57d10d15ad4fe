-- What a side counts stays what the history says of it.
use Rattle.std.proofs.Common.{◌≡◌, ℕ, ◌+◌, ◌≤◌, min, Bool, true, false, if◌then◌else◌, List, length, take, Ok, Err, refl, arith, length-append}
use Rattle.std.proofs.lemmas.List.{length-take}
use Rattle.ip_wire.specs.IpEndpoint.{IpEndpoint}
use Rattle.ip_wire.specs.IpListenEndpoint.{IpListenEndpoint}
use Rattle.tcp_block.specs.SendError.TheVariants as Sending
use Rattle.tcp_block.specs.State.{State}
use Rattle.tcp_block.specs.States.{takes_writes}
use Rattle.tcp_refinement.specs.History.{closes_in, closed_by}
use Rattle.tcp_refinement.specs.Tie.{Past}
use Rattle.tcp_refinement.specs.declared.pair.event.SentSegment.{SentSegment}
use Rattle.tcp_refinement.specs.declared.pair.event.Side.{Side}
use Rattle.tcp_refinement.specs.declared.pair.event.PairEvent.{PairEvent}
use Rattle.tcp_refinement.specs.declared.pair.event.PairEvent.TheVariants.{Listen, Connect, Send, Recv, Close, Abort, TcpSetting, Clock, Offer, Deliver}
use Rattle.tcp_refinement.specs.declared.pair.event.PairAnswer.{PairAnswer}
use Rattle.tcp_refinement.specs.declared.pair.event.PairAnswer.TheVariants.{Done, Count, Bytes, Error}
use Rattle.tcp_refinement.specs.Pair.History.{adds, listen_adds, connect_adds, send_adds, recv_adds}
use Rattle.tcp_refinement.specs.Pair.Steps.{acts, send_says}
use Rattle.tcp_refinement.specs.Pair.Values.{PairSide}
use Rattle.tcp_pair.specs.Ends.{EndValue, with_own, tallied, count_in}
use Rattle.tcp_pair.specs.Invariant.{Tallies}

-- no more bytes are taken than were given
abbrev pub IsFew : PairEvent → PairAnswer → Type 0
IsFew (Send side bytes) answer = count_in answer ≤ length bytes
IsFew event answer = Unit {0}

few_by : (test : Bool) (n free : ℕ) → count_in (send_says (if test then Ok (min n free) else Err Sending.InvalidState)) ≤ n
few_by true n free = omega arith
few_by false n free = omega arith

pub acts_few : (s : PairSide) (others : List SentSegment) (event : PairEvent) → IsFew event (acts s others event).answer
acts_few s others (Listen side endpoint) = tt
acts_few s others (Connect side remote local) = tt
acts_few s others (Send side bytes) = few_by (takes_writes s.socket.tcb.state) (length bytes) (length s.socket.queued.free)
acts_few s others (Recv side count) = tt
acts_few s others (Close side) = tt
acts_few s others (Abort side) = tt
acts_few s others (TcpSetting side setting) = tt
acts_few s others (Clock side instant) = tt
acts_few s others (Offer side instant sent) = tt
acts_few s others (Deliver from k) = tt

module _ (e : EndValue) (p : Past) (own : PairSide) (t : Tallies e p) where
  count_none : e.accepted + 0 ≡ length p.written
  count_none = omega (arith, t.accepted)

  listened : (side : Side) (endpoint : IpListenEndpoint) (answer : PairAnswer) →
      Tallies (tallied (with_own e own) (Listen side endpoint) answer) (listen_adds answer p)
  listened side endpoint Done = record { opened = refl; accepted = count_none }
  listened side endpoint (Count n) = record { opened = t.opened; accepted = count_none }
  listened side endpoint (Bytes bytes) = record { opened = t.opened; accepted = count_none }
  listened side endpoint (Error fault) = record { opened = t.opened; accepted = count_none }

  connected : (side : Side) (remote : IpEndpoint) (local : IpListenEndpoint) (answer : PairAnswer) →
      Tallies (tallied (with_own e own) (Connect side remote local) answer) (connect_adds answer p)
  connected side remote local Done = record { opened = refl; accepted = count_none }
  connected side remote local (Count n) = record { opened = t.opened; accepted = count_none }
  connected side remote local (Bytes bytes) = record { opened = t.opened; accepted = count_none }
  connected side remote local (Error fault) = record { opened = t.opened; accepted = count_none }

  wrote : (side : Side) (bytes : List ℕ) (answer : PairAnswer) → count_in answer ≤ length bytes →
      Tallies (tallied (with_own e own) (Send side bytes) answer) (send_adds bytes answer p)
  wrote side bytes Done few = record { opened = t.opened; accepted = count_none }
  wrote side bytes (Count n) few =
      let all = length-append p.written (take n bytes) in
      let part = length-take n bytes in
      record { opened = t.opened; accepted = omega (arith, all, part, t.accepted) }
  wrote side bytes (Bytes read) few = record { opened = t.opened; accepted = count_none }
  wrote side bytes (Error fault) few = record { opened = t.opened; accepted = count_none }

  received : (side : Side) (count : ℕ) (answer : PairAnswer) → Tallies (tallied (with_own e own) (Recv side count) answer) (recv_adds answer p)
  received side count Done = record { opened = t.opened; accepted = count_none }
  received side count (Count n) = record { opened = t.opened; accepted = count_none }
  received side count (Bytes bytes) = record { opened = t.opened; accepted = count_none }
  received side count (Error fault) = record { opened = t.opened; accepted = count_none }

  closed : (closes : Bool) → Tallies e (closed_by closes p)
  closed true = record { opened = t.opened; accepted = t.accepted }
  closed false = t

  pub tallies_on : (event : PairEvent) (answer : PairAnswer) (found : State) → IsFew event answer →
      Tallies (tallied (with_own e own) event answer) (adds event answer found p)
  tallies_on (Listen side endpoint) answer found few = listened side endpoint answer
  tallies_on (Connect side remote local) answer found few = connected side remote local answer
  tallies_on (Send side bytes) answer found few = wrote side bytes answer few
  tallies_on (Recv side count) answer found few = received side count answer
  tallies_on (Close side) answer found few =
      let c = closed (closes_in found) in
      record { opened = c.opened; accepted = omega (arith, c.accepted) }
  tallies_on (Abort side) answer found few = record { opened = t.opened; accepted = count_none }
  tallies_on (TcpSetting side setting) answer found few = record { opened = t.opened; accepted = count_none }
  tallies_on (Clock side instant) answer found few = record { opened = t.opened; accepted = count_none }
  tallies_on (Offer side instant sent) answer found few = record { opened = t.opened; accepted = count_none }
  tallies_on (Deliver from k) answer found few = record { opened = t.opened; accepted = count_none }
