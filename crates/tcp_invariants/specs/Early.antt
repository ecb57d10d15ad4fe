-- What is retransmitted that isn't lost (RFC 6675, 4, NextSeg, rules 3 and 4): when it may, and how often a rescue goes.
use Rattle.std.specs.Prelude.{◌≡◌, ◌⊎◌, ℕ, ◌+◌, ◌<◌, ◌≤◌, not, ◌&&◌, ◌||◌, ℤ, Bool, true, false, List, [], ◌∷◌, length, Option, Some, None}
use Rattle.ip_wire.specs.TcpHeader.{TcpHeader}
use Rattle.net_base.specs.Ring.{Ring}
use Rattle.tcp_state.specs.Moments.{is_due}
use Rattle.tcp_state.specs.Scoreboard.{runs_end}
use Rattle.tcp_state.specs.declared.endpoints.AddressPair.{AddressPair}
use Rattle.tcp_state.specs.declared.offer.OfferKind.{OfferKind}
use Rattle.tcp_state.specs.declared.offer.OfferKind.TheVariants as Kind
use Rattle.tcp_state.specs.declared.offer.OpenOffer.{OpenOffer}
use Rattle.tcp_block.specs.Acknowledged.{begins_recovery, duplicates_after}
use Rattle.tcp_block.specs.Checks.{Check, acknowledgement_check}
use Rattle.tcp_block.specs.Checks.Check.{Passes}
use Rattle.tcp_block.specs.LossRecovery.{pipe, next_hole, is_rescue, loss_probe_deadline, probe_begins}
use Rattle.tcp_block.specs.Rules.{has_payload}
use Rattle.tcp_block.specs.Value.{TcpValue}
use Rattle.tcp_block.specs.declared.tcb.Tcb.{Tcb}
use Rattle.tcp_invariants.specs.Retransmission.{gone, heard_by, offering}
use Rattle.tcp_invariants.specs.Events.{Event, after}
use Rattle.tcp_invariants.specs.Events.Event.{Comes, Asked}

-- In a recovery, where both SYNs permitted selective acknowledgements, no payload may go, and the window has room for a segment alongside Pipe: the
-- next hole, below what is held, or else a rescue.
pub record GoesLast (b : Tcb) (queued : Ring ℕ) (addresses : AddressPair) (ip_mtu : ℕ) : Type 0 where
  pub permitted : b.peer.sack ≡ true
  pub recovers : b.reno.recovers ≡ true
  pub no_payload : has_payload b addresses ip_mtu queued ≡ false
  pub room : pipe b + b.reno.mss ≤ b.reno.cwnd
  pub which : (next_hole b < runs_end b.loss.board.runs) ⊎ (is_rescue b ≡ true)

-- WHERE A RECOVERY BEGINS

-- by a segment whose acknowledgement passes
abbrev pub begun_by : Check → TcpValue → TcpHeader → ℕ → ℤ → Bool
begun_by (Passes by) v header size now = begins_recovery (heard_by v header by now) (duplicates_after v.tcb header size by)
begun_by other v header size now = false

-- or by a loss probe; or the retransmission timer runs out
abbrev pub begins : TcpValue → Event → Bool
begins v (Comes cx ip header bytes) = begun_by (acknowledgement_check v.tcb header.ack_number) v header (length bytes) cx.instant
begins v (Asked cx sent) =
    is_due cx.instant v.tcb.timers.retransmit_at || (is_due cx.instant (loss_probe_deadline v.tcb) && probe_begins v.tcb)
begins v other = false

-- RESCUES

abbrev pub is_again : OfferKind → Bool
is_again Kind.FastRetransmission = true
is_again other = false

-- what goes, if anything does, is a rescue; the block offers it
abbrev pub rescues_by : Tcb → Option OpenOffer → Bool
rescues_by b None = false
rescues_by b (Some o) = is_again o.kind && is_rescue b

abbrev pub rescues_with : TcpValue → Event → Bool
rescues_with v it = rescues_by (offering v it) (gone v it)

-- one went since a recovery began, or the timer ran out; and with this event
abbrev pub is_spent : TcpValue → Event → Bool → Bool
is_spent v it spent = spent && not (begins v it)

abbrev pub spent_after : TcpValue → Event → Bool → Bool
spent_after v it spent = rescues_with v it || is_spent v it spent

-- each rescue that goes with these events is the first since then
abbrev pub RescueOnce : TcpValue → Bool → List Event → Type 0
RescueOnce v spent [] = Unit {0}
RescueOnce v spent (it ∷ more) = (rescues_with v it ≡ true → is_spent v it spent ≡ false) × RescueOnce (after v it) (spent_after v it spent) more
