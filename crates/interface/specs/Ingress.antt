-- What a frame that came makes of a host and its sockets.
use Rattle.std.specs.Prelude.{◌≡◌, ℕ, nat_lt, not, ◌&&◌, ℤ, Bool, true, false, ◌⊎◌, List, length, Option, None, Some, is_some}
use Rattle.net_base.specs.Device.{Move, Took, Empty}
use Rattle.iface_egress.specs.Departure as Departures
use Rattle.iface_egress.specs.IsTransmitted.{Departs, IsTransmitted}
use Rattle.iface_ingress.specs.Packet.{PacketValue}
use Rattle.iface_ingress.specs.WellFormed.{IsWellFormed}
use Rattle.iface_egress.specs.Plan.{plan_of}
use Rattle.iface_egress.specs.Parked.{parks, sender_after}
use Rattle.iface_egress.specs.declared.plan.Plan.{Plan}
use Rattle.iface_egress.specs.declared.plan.Plan.TheVariants as Way
use Rattle.iface_egress.specs.declared.egress_path.Sent.{Sent}
use Rattle.iface_ingress.specs.Incoming.{IncomingValue, IsContent}
use Rattle.iface_ingress.specs.Arrives as Replies
use Rattle.iface_ingress.specs.Arrives.{ReplyValue, Arrived, ArrivesAs}
use Rattle.interface.specs.Awaited.{turn_of}
use Rattle.interface.specs.Reports.{heard_if}
use Rattle.interface.specs.Host.{Sender, sender, maintained}
use Rattle.interface.specs.State.{State, state, at_device}

-- the longest frame that is read: an Ethernet header before the longest IP packet
abbrev pub longest_frame : ℕ
longest_frame = 65_549

abbrev pub is_read : List ℕ → Bool
is_read frame = nat_lt 0 (length frame) && not (nat_lt longest_frame (length frame))

-- its next hop isn't known, and may be asked for
abbrev pub is_solicitation : Plan → Bool
is_solicitation (Way.Ask neighbor_query) = true
is_solicitation plan = false

abbrev pub would_solicit : {D : Type 0} → Sender D → PacketValue → Bool
would_solicit s p = is_solicitation (plan_of s.inner (is_some s.left) p.header)

-- a socket waits for a neighbour after an arrival
abbrev pub is_awaited : Arrived → Bool
is_awaited a = is_some (turn_of a.inner a.slots)

module _ {D : Type 0} (moves : D → Move → D → Type 0) where
  -- An answer goes by its plan. With host requirements one that waits for its next hop is parked.
  abbrev pub AnswerGoes : (many : Bool) → PacketValue → (kept_back : Bool) → Sender D → Sender D → Type 0
  AnswerGoes false p kept_back s s' =
      (sent : Sent) × IsTransmitted moves s.device s.inner s.left p (plan_of s.inner (is_some s.left) p.header) sent s'.device s'.inner s'.left
      × IsWellFormed p × (kept_back ≡ false)
  AnswerGoes true p kept_back s s' =
      (sent : Sent) × (mid : Sender D) × IsTransmitted moves s.device s.inner s.left p (plan_of s.inner (is_some s.left) p.header) sent mid.device mid.inner mid.left
      × (s' ≡ sender_after (parks mid.inner p (plan_of s.inner (is_some s.left) p.header) sent) p mid) × IsWellFormed p × (kept_back ≡ false)

  -- An answer, which can be sent, is transmitted if it can go now; else there is none. A request for its next hop may go in its slot, where
  -- no socket waits for a neighbour.
  abbrev pub Replied : Bool → Option ReplyValue → Sender D → Sender D → Type 0
  Replied awaited None s s' = s' ≡ s
  Replied awaited (Some (Replies.Tells packet)) s s' =
      (gone : Bool) × Departs moves s.device s.inner (Departures.Tells packet) gone s'.device × (s'.inner ≡ s.inner) × (s'.left ≡ s.left)
  Replied awaited (Some (Replies.Answers p)) s s' =
      ((s' ≡ s) × ((awaited && would_solicit s p) ≡ true)) ⊎ AnswerGoes s.inner.host_requirements p (awaited && would_solicit s p) s s'

  abbrev pub sender_with : State D → Arrived → Sender D
  sender_with s a = sender s.device a.inner s.host.left

  abbrev pub sender_of : State D → Sender D
  sender_of s = sender s.device s.host.inner s.host.left

  -- what a frame carries arrives and is answered
  abbrev pub Receives : Option IncomingValue → State D → State D → Type 0
  Receives content s s' =
      (a : Arrived) × ArrivesAs s.host.inner s.host.timeout s.host.assemblers s.slots content s'.host.assemblers a
      × (s'.slots ≡ a.slots) × Replied (is_awaited a) a.reply (sender_with s a) (sender_of s') × (s'.host.timeout ≡ s.host.timeout)

  -- what it says of multicast groups is heard where anything is told of them
  abbrev pub Reads : List ℕ → State D → State D → Type 0
  Reads frame s s' =
      (content : Option IncomingValue) × IsContent s.host.inner.hardware s.host.inner.checksums frame content × Receives content s s'
      × (s'.host.reports ≡ heard_if s.host.inner frame s.host.reports)

  -- At the host's instant no frame came; or one that isn't read; or one that is.
  abbrev pub Takes : State D → Option Bool → State D → Type 0
  Takes s None s' = moves s.device (Empty s.host.inner.instant) s'.device × (s' ≡ at_device s s'.device)
  Takes s (Some false) s' =
      (frame : List ℕ) × moves s.device (Took s.host.inner.instant frame) s'.device × (is_read frame ≡ false) × (s' ≡ at_device s s'.device)
  Takes s (Some true) s' =
      (frame : List ℕ) × (mid : D) × moves s.device (Took s.host.inner.instant frame) mid × (is_read frame ≡ true) × Reads frame (at_device s mid) s'

  -- a call begins with maintenance
  abbrev pub IngressStep : ℤ → State D → Option Bool → State D → Type 0
  IngressStep instant s answer s' = Takes (state s.device (maintained instant s.host) s.slots) answer s'
