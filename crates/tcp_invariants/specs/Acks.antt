-- When an acknowledgement is due, and that it goes (RFC 9293, 3.8.6.3).
use Rattle.std.specs.Prelude.{◌≡◌, ◌⊎◌, ◌*◌, ◌<◌, ◌≤ℤ◌, ℤ, int_le, Bool, true, false, Option, Some, None, is_some}
use Rattle.ip_wire.specs.IpRepr.{IpRepr}
use Rattle.ip_wire.specs.Seq.{distance_of}
use Rattle.ip_wire.specs.TcpControl.TheVariants as Control
use Rattle.tcp_state.specs.Endpoints.{addresses_in}
use Rattle.tcp_state.specs.Moments.{is_due}
use Rattle.tcp_state.specs.declared.offer.OpenOffer.{OpenOffer}
use Rattle.tcp_state.specs.declared.offer.Reply.{Reply}
use Rattle.tcp_block.specs.Arrival.{arrives}
use Rattle.tcp_block.specs.TcbRules.{snd_max}
use Rattle.tcp_block.specs.Context.{ContextValue}
use Rattle.tcp_block.specs.Offers.{offer_of}
use Rattle.tcp_block.specs.Rules.{size_limit}
use Rattle.tcp_block.specs.Value.{TcpValue, Arrived}
use Rattle.tcp_block.specs.declared.tcb.Tcb.{Tcb}
use Rattle.tcp_invariants.specs.Events.{Event, after, is_past}
use Rattle.tcp_invariants.specs.Events.Event.{Comes, Asked}

-- there is an instant, no later than this one
pub record IsDueWithin (at : Option ℤ) (limit : ℤ) : Type 0 where
  pub instant : ℤ
  pub due : at ≡ Some instant
  pub soon : instant ≤ℤ limit

-- all that came is acknowledged, so none is due, and what comes next is counted from here on
pub record OwesNone (b : Tcb) : Type 0 where
  pub last : b.receiver.last_ack ≡ b.receiver.next
  pub due : b.timers.ack_at ≡ None
  pub payload : b.timers.data_unacked ≡ false

-- It is answered at once: a bare acknowledgement of all that came goes, past all that was sent.
pub record IsAcknowledged (a : Arrived) : Type 0 where
  pub reply : Reply
  pub answer : a.answer ≡ Some reply
  pub acknowledges : reply.segment.ack_number ≡ Some a.socket.tcb.receiver.next
  pub bare : reply.segment.seq_number ≡ snd_max a.socket.tcb
  pub plain : reply.segment.control ≡ Control.None
  pub none : OwesNone a.socket.tcb

-- nothing answers it at once, and by this instant an acknowledgement of it is due
pub record IsOwed (a : Arrived) (limit : ℤ) : Type 0 where
  pub silent : a.answer ≡ None
  pub due : IsDueWithin a.socket.tcb.timers.ack_at limit

-- a segment is acknowledged at once, or its acknowledgement is due by this instant
abbrev pub IsAcknowledgedBy : Arrived → ℤ → Type 0
IsAcknowledgedBy a limit = IsAcknowledged a ⊎ IsOwed a limit

-- a segment is acknowledged at once, or less came since the last acknowledgement than two full segments take
abbrev pub IsAcknowledgedTwice : ContextValue → IpRepr → Arrived → Type 0
IsAcknowledgedTwice cx ip a =
    IsAcknowledged a
    ⊎ (distance_of a.socket.tcb.receiver.last_ack a.socket.tcb.receiver.next < 2 * size_limit a.socket.tcb (addresses_in ip) cx.ip_mtu)

-- the segment that is offered acknowledges all that came
pub record OffersAck (v : TcpValue) (b : Tcb) : Type 0 where
  pub offer : OpenOffer
  pub offered : v.offered ≡ Some offer
  pub acknowledges : offer.segment.ack_number ≡ Some b.receiver.next

abbrev pub answer_acks : Option Reply → Bool
answer_acks None = false
answer_acks (Some reply) = is_some reply.segment.ack_number

abbrev pub offer_acks : Option OpenOffer → Bool
offer_acks None = false
offer_acks (Some o) = is_some o.segment.ack_number

-- with this event a segment goes that has an acknowledgement
abbrev pub acks : TcpValue → Event → Bool
acks v (Comes cx ip header bytes) = answer_acks (arrives cx v ip header bytes).answer
acks v (Asked cx true) = offer_acks (offer_of cx v).socket.offered
acks v other = false

-- it happens no later than this; a call of the user happens at any time
abbrev pub IsBy : ℤ → Event → Type 0
IsBy t (Comes cx ip header bytes) = int_le cx.instant t ≡ true
IsBy t (Asked cx sent) = int_le cx.instant t ≡ true
IsBy t call = Unit {0}

-- by this instant an acknowledgement is due
abbrev pub IsDueBy : ℤ → Tcb → Type 0
IsDueBy t b = is_due t b.timers.ack_at ≡ true

-- it stays due, or one went with the event, or the event ended the connection
abbrev pub StaysDue : ℤ → TcpValue → Event → Type 0
StaysDue t v it = (is_past (after v it).tcb.state ≡ false) ⊎ ((acks v it ≡ true) ⊎ IsDueBy t (after v it).tcb)
