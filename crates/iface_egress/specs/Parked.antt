-- What waits for its next hop doesn't stand before what follows it in its socket: on a network of many it waits beside the search (RFC 1122,
-- section 2.3.2.2).
use Rattle.std.specs.Prelude.{◌≡◌, ◌⊎◌, ℕ, Bool, true, false, ◌&&◌, not, if◌then◌else◌, List, [], ◌∷◌, ◌++◌, Option, None, Some, is_some}
use Rattle.net_base.specs.Device.{Move, Allowed}
use Rattle.iface_tables.specs.Inner.{InnerValue, with_packet_parked}
use Rattle.iface_tables.specs.Parking.{ParkedValue, empty_parking}
use Rattle.socket_context.specs.Packet.{PacketValue, PayloadValue, Bytes, Segment}
use Rattle.iface_egress.specs.IsTransmitted.{IsTransmitted}
use Rattle.iface_egress.specs.Plan.{plan_of}
use Rattle.iface_egress.specs.Sender.{Sender}
use Rattle.iface_egress.specs.declared.plan.Plan.{Plan}
use Rattle.iface_egress.specs.declared.plan.Plan.TheVariants as Way
use Rattle.iface_egress.specs.declared.egress_path.Sent.{Sent}
use Rattle.iface_egress.specs.declared.egress_path.Sent.TheVariants as Outcome

-- A PACKET IS PARKED

-- its next hop is searched for
abbrev pub is_searched : Plan → Bool
is_searched Way.Wait = true
is_searched (Way.Ask query) = true
is_searched plan = false

abbrev pub is_segment : PayloadValue → Bool
is_segment (Segment header bytes) = true
is_segment payload = false

abbrev pub waits : Sent → Bool
waits Outcome.Waits = true
waits sent = false

-- with host requirements what waits is parked, but a segment: its connection sends it again
abbrev pub parks : InnerValue → PacketValue → Plan → Sent → Bool
parks i p plan sent = i.host_requirements && (waits sent && (is_searched plan && not (is_segment p.payload)))

-- it counts as sent, so that the next one of its socket has its turn
abbrev pub outcome_of : Bool → Sent → Sent
outcome_of parks sent = if parks then Outcome.Gone else sent

abbrev pub inner_after : Bool → InnerValue → PacketValue → InnerValue
inner_after parks i p = if parks then with_packet_parked i p else i

abbrev pub sender_after : {D : Type 0} → Bool → PacketValue → Sender D → Sender D
sender_after parks p x = record x { inner = inner_after parks x.inner p }

-- PARKED PACKETS LEAVE

-- a parked packet as one that a raw socket would send
abbrev pub packet_in : ParkedValue → PacketValue
packet_in k = record { header = k.header; payload = Bytes k.payload }

-- What becomes of it: it is sent, or asked for, by its plan; dropped where its search has ended, or there is no route; and waits on where its
-- next hop isn't known yet.
module _ {D : Type 0} (moves : D → Move → D → Type 0) where
  -- where it may leave: the device has no leave to give, or what it does with the frame is the outcome
  abbrev pub Tries : Sender D → PacketValue → Plan → Sent → Sender D → Type 0
  Tries x p plan sent x' =
      (moves x.device (Allowed x.inner.instant false) x'.device × (x'.inner ≡ x.inner) × (x'.left ≡ x.left) × (sent ≡ Outcome.Refused))
      ⊎ ((mid : D) × moves x.device (Allowed x.inner.instant true) mid
      × IsTransmitted moves mid x.inner x.left p plan sent x'.device x'.inner x'.left)

  abbrev pub LeavesBy : Plan → Sender D → PacketValue → Sent → Sender D → Type 0
  LeavesBy Way.Wait x p sent x' = (sent ≡ Outcome.Waits) × (x' ≡ x)
  LeavesBy Way.Busy x p sent x' = (sent ≡ Outcome.Busy) × (x' ≡ x)
  LeavesBy Way.NoRoute x p sent x' = (sent ≡ Outcome.Dropped) × (x' ≡ x)
  LeavesBy Way.Drop x p sent x' = (sent ≡ Outcome.Dropped) × (x' ≡ x)
  LeavesBy (Way.Ask query) x p sent x' = Tries x p (Way.Ask query) sent x'
  LeavesBy (Way.Go to) x p sent x' = Tries x p (Way.Go to) sent x'
  LeavesBy (Way.Cut to) x p sent x' = Tries x p (Way.Cut to) sent x'

  abbrev pub Leaves : Sender D → PacketValue → Sent → Sender D → Type 0
  Leaves x p sent x' = LeavesBy (plan_of x.inner (is_some x.left) p.header) x p sent x'

  -- after the outcome of one: it is gone, it waits on, or the device takes nothing more
  abbrev pub GoesOn : Sent → (gone waits refused : Type 0) → Type 0
  GoesOn Outcome.Gone gone waits refused = gone
  GoesOn Outcome.Dropped gone waits refused = gone
  GoesOn Outcome.Waits gone waits refused = waits
  GoesOn Outcome.Busy gone waits refused = waits
  GoesOn Outcome.Refused gone waits refused = refused

  -- each in turn, from the oldest on: `kept` are those before it that wait on, and `left` are those that do at the end; `all` says that the
  -- device took all that went
  abbrev pub ServesEach : (rest kept : List ParkedValue) → Sender D → Bool → Sender D → List ParkedValue → Type 0
  ServesEach [] kept x all x' left = (all ≡ true) × (x' ≡ x) × (left ≡ kept)
  ServesEach (k ∷ rest) kept x all x' left =
      (sent : Sent) × (mid : Sender D) × Leaves x (packet_in k) sent mid
      × GoesOn sent (ServesEach rest kept mid all x' left) (ServesEach rest (kept ++ k ∷ []) mid all x' left)
      ((all ≡ false) × (x' ≡ mid) × (left ≡ kept ++ k ∷ rest))

  -- those that wait are taken out, and what waits on is put back
  abbrev pub lent : Sender D → Sender D
  lent x = record x { inner = record x.inner { parking = empty_parking 0 } }

  abbrev pub put_back : ℕ → List ParkedValue → Sender D → Sender D
  put_back room left x = record x { inner = record x.inner { parking = record { packets = left; room = room } } }

  abbrev pub ServesParked : Sender D → Bool → Sender D → Type 0
  ServesParked x all x' =
      (mid : Sender D) × (left : List ParkedValue) × ServesEach x.inner.parking.packets [] (lent x) all mid left
      × (x' ≡ put_back x.inner.parking.room left mid)

  -- on a network of many
  abbrev pub ServesIfMany : Bool → Sender D → Bool → Sender D → Type 0
  ServesIfMany true x all x' = ServesParked x all x'
  ServesIfMany false x all x' = (all ≡ true) × (x' ≡ x)

-- the packets of a list are some of another's, in its order
abbrev pub IsPartOf : (part whole : List ParkedValue) → Type 0
IsPartOf [] whole = Unit {0}
IsPartOf (k ∷ part) [] = ⊥
IsPartOf (k ∷ part) (h ∷ whole) = ((k ≡ h) × IsPartOf part whole) ⊎ IsPartOf (k ∷ part) whole
