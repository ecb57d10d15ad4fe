-- Which positions are retransmitted, and how often (RFC 6675, 5; RFC 6298, 5.4). Offsets are counted from SND.UNA.
use Rattle.std.specs.Prelude.{◌≡◌, ℕ, ◌-◌, ◌≤◌, not, ◌||◌, max, ℤ, Bool, true, false, if◌then◌else◌, List, [], ◌∷◌, length, Option, Some, None}
use Rattle.ip_wire.specs.Seq.{distance_of}
use Rattle.ip_wire.specs.TcpHeader.{TcpHeader}
use Rattle.tcp_state.specs.Moments.{is_due}
use Rattle.tcp_state.specs.declared.offer.OfferKind.{OfferKind}
use Rattle.tcp_state.specs.declared.offer.OfferKind.TheVariants as Kind
use Rattle.tcp_state.specs.declared.offer.OpenOffer.{OpenOffer}
use Rattle.tcp_block.specs.Acknowledged.{una_moved, ranges_taken, duplicates_after, starts_again, is_third}
use Rattle.tcp_block.specs.Arrival.{tsecr_heard}
use Rattle.tcp_block.specs.Checks.{Check, acknowledgement_check}
use Rattle.tcp_block.specs.Checks.Check.{Passes}
use Rattle.tcp_block.specs.LossRecovery.{loss_probe_deadline, is_rescue}
use Rattle.tcp_block.specs.Offers.{offer_of}
use Rattle.tcp_block.specs.Settled.{end_of}
use Rattle.tcp_block.specs.Value.{TcpValue, queued_in}
use Rattle.tcp_block.specs.declared.tcb.Tcb.{Tcb}
use Rattle.tcp_invariants.specs.Ends.{is_over}
use Rattle.tcp_invariants.specs.Events.{Event, after}
use Rattle.tcp_invariants.specs.Events.Event.{Comes, Asked}
use Rattle.tcp_invariants.specs.Timing.{start_of}

-- A LOSS IS TOLD

-- the block after the acknowledgement and the ranges of a segment, where SND.UNA rises by so much
abbrev pub heard_by : TcpValue → TcpHeader → ℕ → ℤ → Tcb
heard_by v header by now = ranges_taken (una_moved (tsecr_heard v header by now).tcb by (queued_in v) now) header now

-- so many duplicates say that a recovery begins, or that what was retransmitted is lost once more; or the third one came after a timeout
abbrev pub tells_loss : Tcb → ℕ → Bool
tells_loss b count = starts_again b count || is_third b count

-- by a segment whose acknowledgement passes, be it inside of the window or not
abbrev pub loss_told_by : Check → TcpValue → TcpHeader → ℕ → ℤ → Bool
loss_told_by (Passes by) v header size now = tells_loss (heard_by v header by now) (duplicates_after v.tcb header size by)
loss_told_by other v header size now = false

-- by a segment, the retransmission timer or a loss probe
abbrev pub is_loss : TcpValue → Event → Bool
is_loss v (Comes cx ip header bytes) = loss_told_by (acknowledgement_check v.tcb header.ack_number) v header (length bytes) cx.instant
is_loss v (Asked cx sent) = is_due cx.instant v.tcb.timers.retransmit_at || is_due cx.instant (loss_probe_deadline v.tcb)
is_loss v other = false

abbrev pub is_timeout : TcpValue → Event → Bool
is_timeout v (Asked cx sent) = is_due cx.instant v.tcb.timers.retransmit_at
is_timeout v other = false

-- WHAT GOES

-- the segment that goes, if one does, and the block that offers it
abbrev pub gone : TcpValue → Event → Option OpenOffer
gone v (Asked cx true) = (offer_of cx v).socket.offered
gone v other = None

abbrev pub offering : TcpValue → Event → Tcb
offering v (Asked cx sent) = (offer_of cx v).socket.tcb
offering v other = v.tcb

-- it mends a loss: it is retransmitted, and isn't the last segment, as a probe or as a rescue
abbrev pub mends : Tcb → OfferKind → Bool
mends b Kind.FastRetransmission = b.sender.resend || not (b.loss.probes || is_rescue b)
mends b other = false

abbrev pub is_payload : OfferKind → Bool
is_payload Kind.Payload = true
is_payload other = false

-- HOW FAR

-- how far past SND.UNA what was retransmitted ends, since a loss was told last; and what went as payload, since the timer ran out last
pub record Marks : Type 0 where
  pub again : ℕ
  pub payload : ℕ

abbrev pub no_marks : Marks
no_marks = record { again = 0; payload = 0 }

abbrev pub una_risen_by : Tcb → Tcb → ℕ
una_risen_by old new = distance_of old.sender.una new.sender.una

-- as they are when a segment goes with this event
abbrev pub before : TcpValue → Event → Marks → Marks
before v it m = record {
  again = if is_loss v it then 0 else m.again - una_risen_by v.tcb (after v it).tcb;
  payload = if is_timeout v it then 0 else m.payload - una_risen_by v.tcb (after v it).tcb;
}

-- with a segment that went
abbrev pub with_gone : Tcb → Option OpenOffer → Marks → Marks
with_gone b None m = m
with_gone b (Some o) m = record {
  again = if mends b o.kind then max m.again (end_of b o) else m.again;
  payload = if is_payload o.kind then max m.payload (end_of b o) else m.payload;
}

-- where there is no connection nothing went
abbrev pub marked : TcpValue → Event → Marks → Marks
marked v it m = if is_over (after v it).tcb.state then no_marks else with_gone (offering v it) (gone v it) (before v it m)

-- it begins where what went before ends, or after
abbrev pub BeginsFollowing : Marks → Tcb → Option OpenOffer → Type 0
BeginsFollowing m b None = Unit {0}
BeginsFollowing m b (Some o) = (mends b o.kind ≡ true → m.again ≤ start_of b o) × (is_payload o.kind ≡ true → m.payload ≤ start_of b o)

-- so does each segment that goes with these events
abbrev pub GoOnce : TcpValue → Marks → List Event → Type 0
GoOnce v m [] = Unit {0}
GoOnce v m (it ∷ more) = BeginsFollowing (before v it m) (offering v it) (gone v it) × GoOnce (after v it) (marked v it m) more
