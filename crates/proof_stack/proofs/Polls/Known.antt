-- What a turn leaves of what the host knows of neighbours.
use Rattle.std.proofs.Common.{◌≡◌, Bool, true, false, ◌⊎◌, inl, inr, int_lt, Option, Some, None, is_some, refl, sym, ap, subst}
use Rattle.net_base.specs.Device.{Move}
use Rattle.ip_wire.specs.Ip.{destination_of}
use Rattle.ip_wire.specs.IpAddress.{IpAddress}
use Rattle.ip_wire.specs.IpRepr.{IpRepr}
use Rattle.iface_ingress.specs.Offer as Answer
use Rattle.iface_ingress.specs.Offer.TheVariants as Offer
use Rattle.iface_ingress.specs.Packet.{PacketValue}
use Rattle.iface_ingress.specs.Socket.{Socket}
use Rattle.iface_ingress.specs.Sockets.{offered_by}
use Rattle.iface_tables.specs.Inner.{InnerValue}
use Rattle.iface_tables.specs.Neighbor.{CacheValue, requested}
use Rattle.iface_egress.specs.Departing.{host_after}
use Rattle.iface_egress.specs.Departure.{target_of}
use Rattle.iface_egress.specs.Plan.{plan_of}
use Rattle.iface_egress.specs.declared.frame.NeighborQuery.{NeighborQuery}
use Rattle.iface_egress.specs.declared.plan.Plan.{Plan}
use Rattle.iface_egress.specs.declared.plan.Plan.TheVariants as Way
use Rattle.iface_egress.specs.declared.socket_meta.Meta.{Meta}
use Rattle.iface_egress.specs.declared.socket_set.Item.{Item}
use Rattle.iface_egress.specs.declared.socket_set.SocketStorage.{SocketStorage}
use Rattle.iface_egress.specs.declared.egress_path.Sent.{Sent}
use Rattle.iface_egress.specs.declared.egress_path.Sent.TheVariants as Outcome
use Rattle.iface_egress.proofs.Changes.{changes}
use Rattle.interface.specs.Host.{Sender}
use Rattle.interface.specs.Serve.{Leaves, is_waiting, let_through}
use Rattle.interface.specs.declared.serve.Served.{Served}
use Rattle.proof_stack.proofs.Polls.Silenced.{sought, loud}
use Rattle.proof_stack.proofs.Polls.Asks.{plan_for}
use Rattle.proof_stack.proofs.Parkless.{Answers, ItemTurns, SendsBy, ServesSlot, TurnsIf}

-- all of it; or the silence was over, and somebody was asked for
abbrev pub KeepsOrAsks : InnerValue → CacheValue → Type 0
KeepsOrAsks i c =
    (c ≡ i.neighbors)
    ⊎ ((other : IpAddress) × (int_lt i.instant i.neighbors.silent ≡ false) × (c ≡ requested i.neighbors other i.instant))

module _ (i : InnerValue) (busy : Bool) (h : IpRepr) (alone : i.host_requirements ≡ false) where
  over : (q : NeighborQuery) → plan_of i busy h ≡ Way.Ask q → int_lt i.instant i.neighbors.silent ≡ false
  over q is =
      loud i.neighbors (target_of q) i.instant i.neighbors (target_of q) (sought i (destination_of h) (target_of q) alone (plan_for i busy h q is)).unknown

  after : (plan : Plan) (sent : Sent) → plan_of i busy h ≡ plan → KeepsOrAsks i (host_after plan sent h i).neighbors
  after (Way.Ask q) Outcome.Waits is = inr (target_of q, over q is, refl)
  after (Way.Ask q) Outcome.Gone is = inl refl
  after (Way.Ask q) Outcome.Dropped is = inl refl
  after (Way.Ask q) Outcome.Busy is = inl refl
  after (Way.Ask q) Outcome.Refused is = inl refl
  after Way.Drop sent is = inl refl
  after Way.NoRoute sent is = inl refl
  after Way.Wait sent is = inl refl
  after Way.Busy sent is = inl refl
  after (Way.Go to) sent is = inl refl
  after (Way.Cut to) sent is = inl refl

module _ {D : Type 0} (moves : D → Move → D → Type 0) (turn : Option IpAddress) (s s' : Sender D) (alone : s.inner.host_requirements ≡ false) where
  abbrev Leave : Type 0
  Leave = KeepsOrAsks s.inner s'.inner.neighbors

  same_state : s' ≡ s → Leave
  same_state is = inl (ap (λ (x : Sender D). x.inner.neighbors) is)

  leaves_leave : (m : Meta) (p : PacketValue) (sent : Sent) → Leaves moves turn s m p sent s' → Leave
  leaves_leave m p sent (inl rests) = inl (ap (λ (i : InnerValue). i.neighbors) rests.2)
  leaves_leave m p sent (inr goes) =
      subst (λ (c : CacheValue). KeepsOrAsks s.inner c)
      (sym (ap (λ (i : InnerValue). i.neighbors) (changes moves goes.0 s'.device s.inner s'.inner s.left s'.left p (is_some s.left) sent goes.2).1))
      (after s.inner (is_some s.left) p.header alone (plan_of s.inner (is_some s.left) p.header) sent refl)

  sends_leave : (o : Option PacketValue) (item item' : Item Socket) (changed : Bool) (turned : Served)
      → SendsBy moves turn o s item changed turned s' item' → Leave
  sends_leave None item item' changed turned sends = absurd sends
  sends_leave (Some p) item item' changed turned sends = leaves_leave item.meta sends.0 sends.3.0 sends.3.1

  answers_leave : (answer : Answer.Offer) (item item' : Item Socket) (turned : Served) → Answers moves turn answer s item turned s' item' → Leave
  answers_leave (Offer.Silent changed) item item' turned answers = same_state answers.1
  answers_leave (Offer.Packet changed) item item' turned answers = sends_leave (offered_by item.socket) item item' changed turned answers

  turns_leave : (waits : Bool) (item item' : Item Socket) (turned : Served) → TurnsIf moves turn waits s item turned s' item' → Leave
  turns_leave true item item' turned turns = same_state turns.1
  turns_leave false item item' turned turns = answers_leave turns.0 (record item { socket = turns.1 }) item' turned turns.3

  item_leaves : (o o' : Option (Item Socket)) (turned : Served) → ItemTurns moves turn o s turned s' o' → Leave
  item_leaves None None turned turns = same_state turns.1
  item_leaves (Some item) (Some item') turned turns = turns_leave (is_waiting s.inner item.meta) (let_through s.inner item) item' turned turns
  item_leaves None (Some item') turned turns = absurd turns
  item_leaves (Some item) None turned turns = absurd turns

  pub slot_leaves : (p p' : SocketStorage Socket) (turned : Served) → ServesSlot moves turn s p turned s' p' → Leave
  slot_leaves p p' turned turns = item_leaves p.inner p'.inner turned turns
