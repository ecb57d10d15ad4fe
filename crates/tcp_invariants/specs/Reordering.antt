-- What may go and come while a segment that may only be late is waited for (RFC 8985, 6.2): SND.UNA stays, and the retransmission timer
-- doesn't run out.
use Rattle.std.specs.Prelude.{◌≡◌, ℕ, ℤ, ◌<ℤ◌, true, false, List, [], ◌∷◌, Some, None}
use Rattle.tcp_state.specs.Moments.{later}
use Rattle.tcp_state.specs.Reno.{RenoValue, lapsed}
use Rattle.tcp_state.specs.RoundTrip.{RoundTripValue, initial, late_wait}
use Rattle.tcp_block.specs.Acknowledged.{is_missed}
use Rattle.tcp_block.specs.LossRecovery.{may_be_late}
use Rattle.tcp_block.specs.declared.tcb.Tcb.{Tcb}
use Rattle.tcp_invariants.specs.Undoing.{Between}
use Rattle.tcp_invariants.specs.Undoing.Between.{Goes, Duplicates, Ranges, Probes, RunsOut}

-- each look at the timers comes before an instant
abbrev pub AreBefore : ℤ → List Between → Type 0
AreBefore instant [] = Unit {0}
AreBefore instant (Probes now ∷ more) = (now <ℤ instant) × AreBefore instant more
AreBefore instant (RunsOut ∷ more) = ⊥
AreBefore instant (it ∷ more) = AreBefore instant more

-- Outside of a recovery the segment at SND.UNA is missing, so many duplicates say or the ranges do, and may only be late; nothing is to go
-- again, and nothing is waited for yet.
pub record IsMissing (b : Tcb) (count : ℕ) : Type 0 where
  pub missed : is_missed b count ≡ true
  pub late : may_be_late b ≡ true
  pub until : b.loss.reorder_until ≡ None
  pub recovers : b.reno.recovers ≡ false
  pub resend : b.sender.resend ≡ false
  pub probes : b.loss.probes ≡ false

-- so many periods ended in which the congestion window wasn't used, the last first (RFC 7661, 4.4.3)
abbrev pub lapsed_by : List ℕ → RenoValue → RenoValue
lapsed_by [] r = r
lapsed_by (periods ∷ before) r = lapsed (lapsed_by before r) periods

-- the congestion window is as it was, but for such periods
pub record Lapses (before after : RenoValue) : Type 0 where
  pub periods : List ℕ
  pub same : after ≡ lapsed_by periods before

-- until when it is waited for
abbrev pub late_instant : Tcb → ℤ → ℤ
late_instant b now = later now (late_wait b.round_trip b.loss.reo_wnd_mult)

-- ON NUMERALS

-- the shortest round trip and SRTT, in microseconds
abbrev pub trips : ℕ → ℕ → RoundTripValue
trips least smoothed = record initial { estimate = Some (record { smoothed = smoothed; variation = 0; shortest = least }) }
