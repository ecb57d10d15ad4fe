-- A socket's turn: it is asked for a packet, which is transmitted, or stays with it.
use Rattle.std.specs.Prelude.{◌≡◌, ℕ, ℤ, pos, ◌+ℤ◌, not, ◌&&◌, ◌||◌, Bool, true, false, if◌then◌else◌, ◌⊎◌, Option, None, Some, is_some}
use Rattle.net_base.specs.Device.{Move, Allowed}
use Rattle.ip_wire.specs.AddressTests.{is_same_address}
use Rattle.ip_wire.specs.Ip.{source_of, destination_of}
use Rattle.ip_wire.specs.HardwareAddress.{HardwareAddress}
use Rattle.ip_wire.specs.IpAddress.{IpAddress}
use Rattle.ip_wire.specs.IpAddress.TheVariants as Address
use Rattle.ip_wire.specs.IpRepr.{IpRepr}
use Rattle.ip_wire.specs.IpRepr.TheVariants as Ip
use Rattle.iface_ingress.specs.Packet.{PacketValue, PayloadValue, ControlV4, ControlV6, Bytes, Datagram, Segment}
use Rattle.iface_ingress.specs.Offer as Answer
use Rattle.iface_ingress.specs.Offer.TheVariants as Offer
use Rattle.iface_tables.specs.Inner.{InnerValue, has_neighbor, may_be_source, is_crowded, next_request}
use Rattle.iface_tables.specs.Source.{source_for}
use Rattle.iface_egress.specs.Departure.{Whole, target_of}
use Rattle.iface_egress.specs.Meta.{silent_time, neighbor_of, waits, freed, missed, has_waited, unmarked}
use Rattle.iface_egress.specs.declared.socket_meta.Meta.{Meta}
use Rattle.iface_egress.specs.declared.socket_set.Item.{Item}
use Rattle.iface_egress.specs.declared.socket_set.SocketStorage.{SocketStorage}
use Rattle.iface_ingress.specs.Sockets.{Offers, offered_by, settled}
use Rattle.iface_ingress.specs.Socket.{Socket}
use Rattle.iface_egress.specs.IsTransmitted.{IsTransmitted, WasSent, numbered}
use Rattle.iface_egress.specs.Parked.{parks, outcome_of, sender_after}
use Rattle.iface_ingress.specs.WellFormed.{IsWellFormed}
use Rattle.iface_egress.specs.Plan.{plan_of}
use Rattle.iface_egress.specs.declared.plan.Plan.{Plan}
use Rattle.iface_egress.specs.declared.plan.Plan.TheVariants as Way
use Rattle.iface_egress.specs.declared.egress_path.Sent.{Sent}
use Rattle.iface_egress.specs.declared.egress_path.Sent.TheVariants as Outcome
use Rattle.interface.specs.Host.{Sender}
use Rattle.interface.specs.Remote.{context_for}
use Rattle.interface.specs.declared.serve.Served.{Served}
use Rattle.interface.specs.declared.serve.Served.TheVariants as Turn

-- WAITING

abbrev pub is_known : InnerValue → Option IpAddress → Bool
is_known i None = false
is_known i (Some neighbor) = has_neighbor i neighbor

-- the neighbour that a marked socket waits for is known
abbrev pub passes_filter : InnerValue → Meta → Bool
passes_filter i m = is_known i (neighbor_of m)

-- the socket has no turn until its neighbour is known, or its waiting ends
abbrev pub is_waiting : InnerValue → Meta → Bool
is_waiting i m = waits m (passes_filter i m) i.instant

-- the mark goes where the neighbour is known
abbrev pub let_through : InnerValue → Item Socket → Item Socket
let_through i item = record item { meta = freed item.meta (passes_filter i item.meta) }

-- WHAT DOESN'T GO

-- how long a packet waits for a route; and for its neighbour where more are asked for than the host keeps count of
abbrev pub lost_time : ℕ
lost_time = 3_000_000

abbrev pub crowded_time : ℕ
crowded_time = 30_000_000

-- a packet is given up whose plan is this: it has had no route, or its neighbour hasn't been asked for often enough, for so long
abbrev pub is_given_up : Meta → InnerValue → IpAddress → Plan → Bool
is_given_up m i destination Way.NoRoute = i.host_requirements || has_waited m destination lost_time i.instant
is_given_up m i destination Way.Wait = is_crowded i && has_waited m destination crowded_time i.instant
is_given_up m i destination (Way.Ask neighbor_query) = is_crowded i && has_waited m destination crowded_time i.instant
is_given_up m i destination plan = false

abbrev pub is_other : Option IpAddress → IpAddress → Bool
is_other None hop = false
is_other (Some turn) hop = not (is_same_address turn hop)

-- it isn't the turn of the neighbour that a packet would ask for
abbrev pub is_out_of_turn : Option IpAddress → Plan → Bool
is_out_of_turn turn (Way.Ask neighbor_query) = is_other turn (target_of neighbor_query)
is_out_of_turn turn plan = false

-- What becomes of a packet that doesn't go: it is given up, or waits for its turn.
abbrev pub held : Option IpAddress → Meta → InnerValue → IpAddress → Plan → Option Sent
held turn m i destination plan =
    if is_given_up m i destination plan then Some Outcome.Dropped
    else if is_out_of_turn turn plan then Some Outcome.Waits else None

-- WHAT BECAME OF A PACKET

-- it leaves the socket where it went, or can't go at all
abbrev pub is_done : Sent → Bool
is_done Outcome.Gone = true
is_done Outcome.Dropped = true
is_done Outcome.Waits = false
is_done Outcome.Busy = false
is_done Outcome.Refused = false

-- until when a packet waits that has no route, or waits for its neighbour
abbrev pub waits_until : Plan → InnerValue → ℤ
waits_until Way.NoRoute i = i.instant +ℤ pos silent_time
waits_until plan i = next_request i

-- a socket whose packet has to wait for its next hop is marked, and one whose packet is done with doesn't wait any more
abbrev pub marked : Sent → ℤ → ℤ → IpAddress → Meta → Meta
marked Outcome.Waits instant until destination m = missed m instant destination until
marked Outcome.Gone instant until destination m = unmarked
marked Outcome.Dropped instant until destination m = unmarked
marked Outcome.Busy instant until destination m = m
marked Outcome.Refused instant until destination m = m

abbrev pub settled_by : Sent → ℤ → ℤ → IpAddress → Item Socket → Item Socket
settled_by sent instant until destination item =
    record { meta = marked sent instant until destination item.meta; socket = settled (is_done sent) item.socket }

-- A packet that is done with is a change. A refusal ends the pass; else the next socket has its turn.
abbrev pub turned_by : Sent → Bool → Served
turned_by Outcome.Gone changed = Turn.Next true
turned_by Outcome.Dropped changed = Turn.Next true
turned_by Outcome.Waits changed = Turn.Next changed
turned_by Outcome.Busy changed = Turn.Next changed
turned_by Outcome.Refused changed = Turn.Stop changed

-- WHERE A PACKET COMES FROM

-- a raw socket's packet has the header that was written
abbrev pub is_raw : PayloadValue → Bool
is_raw (Bytes bytes) = true
is_raw (ControlV4 message bytes) = false
is_raw (ControlV6 message bytes) = false
is_raw (Datagram udp bytes) = false
is_raw (Segment tcp bytes) = false

-- the header with another source of its family
abbrev pub with_source : IpRepr → Option IpAddress → IpRepr
with_source (Ip.Ipv4 v) (Some (Address.Ipv4 a)) = Ip.Ipv4 (record v { src_addr = a })
with_source (Ip.Ipv6 v) (Some (Address.Ipv6 a)) = Ip.Ipv6 (record v { src_addr = a })
with_source header source = header

-- the source stays: a raw socket's, and one that can be a source
abbrev pub keeps_source : InnerValue → PacketValue → Bool
keeps_source i p = is_raw p.payload || may_be_source i (source_of p.header) (destination_of p.header)

-- A packet whose source can't be one leaves from the address that is chosen for its destination, if there is one (RFC 1122,
-- sections 3.2.1.3 and 3.3.4.3).
abbrev pub sourced_header : InnerValue → PacketValue → IpRepr
sourced_header i p =
    if keeps_source i p then p.header else with_source p.header (source_for i.addresses (destination_of p.header))

abbrev pub sourced : InnerValue → PacketValue → PacketValue
sourced i p = record p { header = sourced_header i p }

-- THE TURN

abbrev pub plan_at : {D : Type 0} → Sender D → PacketValue → Plan
plan_at s p = plan_of s.inner (is_some s.left) p.header

-- what becomes of a packet that the device gives leave to send, or doesn't
abbrev pub outcome_by : Bool → Option Sent → Option Sent
outcome_by false held = Some Outcome.Refused
outcome_by true held = held

-- a packet goes whole to a hardware address, if the device gives leave and takes its frame; then its socket waits for nobody
abbrev pub LeavesDirect : {D : Type 0} → (D → Move → D → Type 0) → HardwareAddress → PacketValue → D → InnerValue → Meta → Sent → D →
    InnerValue → Meta → Type 0
LeavesDirect {D} moves to p old i m sent new i' m' =
    (moves old (Allowed i.instant false) new × (i' ≡ i) × (sent ≡ Outcome.Refused) × (m' ≡ m))
    ⊎ ((mid : D) × moves old (Allowed i.instant true) mid × WasSent moves mid i p.header (Whole to (numbered i p)) sent new i'
    × (m' ≡ (if is_done sent then unmarked else m)))

-- `turn` is the neighbour whose turn it is to be asked for, if a socket waits for one.
module _ {D : Type 0} (moves : D → Move → D → Type 0) (turn : Option IpAddress) where
  abbrev pub held_at : Sender D → Meta → PacketValue → Option Sent
  held_at s m p = held turn m s.inner (destination_of p.header) (plan_at s p)

  -- the device gives no leave to send, which is as if it refused; or the packet doesn't go
  abbrev pub Rests : Sender D → Meta → PacketValue → Sent → Sender D → Type 0
  Rests s m p sent s' =
      (given : Bool) × moves s.device (Allowed s.inner.instant given) s'.device × (s'.inner ≡ s.inner) × (s'.left ≡ s.left)
      × (outcome_by given (held_at s m p) ≡ Some sent)

  -- it gives leave, and the packet goes its egress path
  abbrev pub Admits : Sender D → Meta → PacketValue → Sent → Sender D → Type 0
  Admits s m p sent s' =
      (mid : D) × moves s.device (Allowed s.inner.instant true) mid
      × IsTransmitted moves mid s.inner s.left p (plan_at s p) sent s'.device s'.inner s'.left
      × (held_at s m p ≡ None)

  abbrev pub Leaves : Sender D → Meta → PacketValue → Sent → Sender D → Type 0
  Leaves s m p sent s' = Rests s m p sent s' ⊎ Admits s m p sent s'

  -- the same; and with host requirements what waits for its next hop is parked, and counts as sent
  abbrev pub LeavesIf : (many : Bool) → Sender D → Meta → PacketValue → Sent → Sender D → Type 0
  LeavesIf false s m p sent s' = Leaves s m p sent s'
  LeavesIf true s m p sent s' =
      (came : Sent) × (mid : Sender D) × Leaves s m p came mid × (sent ≡ outcome_of (parks mid.inner p (plan_at s p) came) came)
      × (s' ≡ sender_after (parks mid.inner p (plan_at s p) came) p mid)

  abbrev pub LeavesOrParks : Sender D → Meta → PacketValue → Sent → Sender D → Type 0
  LeavesOrParks s m p sent s' = LeavesIf s.inner.host_requirements s m p sent s'

  -- a packet left, or stays, and what that makes of the mark of its socket
  abbrev pub LeavesAs : Sender D → Meta → PacketValue → Sent → Sender D → Meta → Type 0
  LeavesAs s m leaving sent s' m' =
      LeavesOrParks s m leaving sent s' × IsWellFormed leaving
      × (m' ≡ marked sent s.inner.instant (waits_until (plan_at s leaving) s'.inner) (destination_of leaving.header) m)

  -- the same from its source
  abbrev pub HasLeft : Sender D → Meta → PacketValue → Sent → Sender D → Meta → Type 0
  HasLeft s m p sent s' m' = (leaving : PacketValue) × (leaving ≡ sourced s.inner p) × LeavesAs s m leaving sent s' m'

  -- the same of the packet of an open offer, which is one that can be sent
  abbrev pub OfferLeaves : Option PacketValue → Sender D → Meta → Sent → Sender D → Meta → Type 0
  OfferLeaves None s m sent s' m' = ⊥
  OfferLeaves (Some p) s m sent s' m' = IsWellFormed p × HasLeft s m p sent s' m'

  -- the packet leaves, and its socket is told what became of it
  abbrev pub SendsAs : PacketValue → Sender D → Item Socket → Bool → Served → Sender D → Item Socket → Type 0
  SendsAs p s item changed turned s' item' =
      (sent : Sent) × LeavesOrParks s item.meta p sent s' × (turned ≡ turned_by sent changed)
      × (item' ≡ settled_by sent s.inner.instant (waits_until (plan_at s p) s'.inner) (destination_of p.header) item) × IsWellFormed p

  -- the packet of the open offer, which is one that can be sent, leaves from its source
  abbrev pub SendsBy : Option PacketValue → Sender D → Item Socket → Bool → Served → Sender D → Item Socket → Type 0
  SendsBy None s item changed turned s' item' = ⊥
  SendsBy (Some p) s item changed turned s' item' =
      (leaving : PacketValue) × (leaving ≡ sourced s.inner p) × IsWellFormed p × SendsAs leaving s item changed turned s' item'

  abbrev pub Sends : Sender D → Item Socket → Bool → Served → Sender D → Item Socket → Type 0
  Sends s item changed turned s' item' = SendsBy (offered_by item.socket) s item changed turned s' item'

  -- a socket that answered has a packet, or has none, waits for nobody, and the next one has its turn
  abbrev pub Answers : Answer.Offer → Sender D → Item Socket → Served → Sender D → Item Socket → Type 0
  Answers (Offer.Silent changed) s item turned s' item' =
      (turned ≡ Turn.Next changed) × (s' ≡ s) × (item' ≡ record item { meta = unmarked })
  Answers (Offer.Packet changed) s item turned s' item' = Sends s item changed turned s' item'

  abbrev pub Asks : Sender D → Item Socket → Served → Sender D → Item Socket → Type 0
  Asks s item turned s' item' =
      (answer : Answer.Offer) × (offered : Socket) × Offers (context_for s.inner item.socket) item.socket answer offered
      × Answers answer s (record item { socket = offered }) turned s' item'

  abbrev pub TurnsIf : Bool → Sender D → Item Socket → Served → Sender D → Item Socket → Type 0
  TurnsIf true s item turned s' item' = (turned ≡ Turn.Next false) × (s' ≡ s) × (item' ≡ item)
  TurnsIf false s item turned s' item' = Asks s item turned s' item'

  -- a socket that doesn't wait is asked
  abbrev pub Turns : Sender D → Item Socket → Served → Sender D → Item Socket → Type 0
  Turns s item turned s' item' = TurnsIf (is_waiting s.inner item.meta) s (let_through s.inner item) turned s' item'

  abbrev pub ItemTurns : Option (Item Socket) → Sender D → Served → Sender D → Option (Item Socket) → Type 0
  ItemTurns None s turned s' None = (turned ≡ Turn.Next false) × (s' ≡ s)
  ItemTurns (Some item) s turned s' (Some item') = Turns s item turned s' item'
  ItemTurns None s turned s' (Some item') = ⊥
  ItemTurns (Some item) s turned s' None = ⊥

  -- a free slot stays free
  abbrev pub ServesSlot : Sender D → SocketStorage Socket → Served → Sender D → SocketStorage Socket → Type 0
  ServesSlot s slot turned s' slot' = ItemTurns slot.inner s turned s' slot'.inner
