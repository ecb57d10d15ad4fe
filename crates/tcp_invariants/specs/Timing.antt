-- Which round trips are taken: of a segment that was sent once (RFC 6298, 3).
use Rattle.std.specs.Prelude.{◌≡◌, ℕ, ◌+◌, ◌≤◌, Bool, true, false, Option, None, IfSome}
use Rattle.tcp_state.specs.declared.offer.OfferKind.{OfferKind}
use Rattle.tcp_state.specs.declared.offer.OfferKind.TheVariants as Kind
use Rattle.tcp_state.specs.declared.offer.OpenOffer.{OpenOffer}
use Rattle.tcp_state.specs.declared.round_trip.Sample.{Sample}
use Rattle.tcp_state.specs.States.{is_listening}
use Rattle.tcp_state.specs.declared.state.State.{State}
use Rattle.tcp_block.specs.TcbRules.{one_if}
use Rattle.tcp_block.specs.declared.tcb.Tcb.{Tcb}

pub record Timing : Type 0 where
  pub state : State
  pub sample : Option Sample
  pub flight_size : ℕ
  pub snd_max : ℕ

abbrev pub timing_of : Tcb → Timing
timing_of b = record { state = b.state; sample = b.round_trip.sample; flight_size = b.sender.flight_size; snd_max = b.sender.snd_max }

-- what is timed is in flight, and was sent
pub record IsTimedRight (t : Timing) : Type 0 where
  pub timed : IfSome t.sample (λ s. (1 ≤ s.ends) × (s.ends ≤ t.flight_size))
  pub sent : t.flight_size ≤ t.snd_max
  pub listens : is_listening t.state ≡ true → t.sample ≡ None

-- a part of the send queue goes, or the SYN
abbrev pub carries : OfferKind → Bool
carries Kind.Syn = true
carries Kind.FastRetransmission = true
carries Kind.Payload = true
carries Kind.Probe = true
carries other = false

-- how far past SND.UNA the segment begins
abbrev pub start_of : Tcb → OpenOffer → ℕ
start_of b o = one_if b.sender.syn_unacked + o.offset
