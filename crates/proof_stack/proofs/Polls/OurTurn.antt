-- The turn of a socket that offers a packet which can go.
use Rattle.std.proofs.Common.{◌≡◌, Bool, true, false, ◌⊎◌, inl, inr, List, [], ◌∷◌, Option, Some, None, is_some, refl, sym}
use Rattle.std.proofs.Common.{ap, ◌∙◌, subst}
use Rattle.std.specs.List.{list_any}
use Rattle.net_base.specs.Device.{Move, Allowed, Emitted, Denied}
use Rattle.ip_wire.specs.HardwareAddress.{HardwareAddress}
use Rattle.ip_wire.specs.Ip.{destination_of}
use Rattle.ip_wire.specs.IpAddress.{IpAddress}
use Rattle.iface_ingress.specs.Packet.{PacketValue}
use Rattle.iface_ingress.specs.Socket.{Socket}
use Rattle.iface_ingress.specs.Offer as Answer
use Rattle.iface_ingress.specs.Offer.TheVariants as Offer
use Rattle.iface_ingress.specs.Sockets as Sockets
use Rattle.iface_ingress.specs.Sockets.{offered_by, settled}
use Rattle.iface_ingress.specs.WellFormed.{IsWellFormed}
use Rattle.iface_egress.specs.Departure.{Whole}
use Rattle.iface_egress.specs.Parked.{is_searched}
use Rattle.iface_egress.specs.IsTransmitted.{IsTransmitted, WasSent, numbered, frame_of, frame_len_of}
use Rattle.iface_egress.specs.declared.plan.Plan.{Plan}
use Rattle.iface_egress.specs.declared.plan.Plan.TheVariants as Way
use Rattle.iface_egress.specs.declared.socket_meta.Meta.{Meta}
use Rattle.iface_egress.specs.declared.socket_set.Item.{Item}
use Rattle.iface_egress.specs.declared.socket_set.SocketStorage.{SocketStorage}
use Rattle.iface_egress.specs.declared.egress_path.Sent.{Sent}
use Rattle.iface_egress.specs.declared.egress_path.Sent.TheVariants as Outcome
use Rattle.interface.specs.Host.{Sender}
use Rattle.interface.specs.Remote.{context_for}
use Rattle.interface.specs.Serve as Turning
use Rattle.interface.specs.Serve.{is_waiting, let_through, waits_until, held, outcome_by, plan_at, settled_by, sourced, turned_by, Leaves, LeavesOrParks}
use Rattle.interface.proofs.Alone.{leaves_unsearched}
use Rattle.interface.specs.declared.serve.Served.{Served}
use Rattle.interface.specs.declared.serve.Served.TheVariants as Turn
use Rattle.proof_stack.specs.Progress.Moves.{AreMoves, is_refused}
use Rattle.proof_stack.specs.Progress.Queued.{Sends}
use Rattle.proof_stack.specs.Progress.Segments.{CanTransmit}
use Rattle.proof_stack.proofs.Polls.AnyLeave.{OffersLeaves, OffersOnly, any_leave, source_stays}
use Rattle.proof_stack.proofs.Polls.Ways.{goes_by_plan}
use Rattle.proof_stack.proofs.Parkless.{Answers, ItemTurns, SendsBy, TurnsIf}

abbrev no_one : Option Sent
no_one = None

module _ {D : Type 0} (moves : D → Move → D → Type 0) (turn : Option IpAddress) (x x' : Sender D) (offering : Socket) (to : HardwareAddress)
    (p : PacketValue) where
  -- the packet went, and the socket is told so
  pub record Ours (all : List Move) (turned : Served) (o : Option (Item Socket)) : Type 0 where
    pub sent : Sends (frame_of x.inner (Whole to (numbered x.inner p))) all
    pub formed : IsWellFormed p
    pub stands : o ≡ Some (record { meta = record { waiting = None }; socket = settled true offering })
    pub next : turned ≡ Turn.Next true

  pub record OurEnds (turned : Served) (o : Option (Item Socket)) : Type 0 where
    pub all : List Move
    pub are : AreMoves moves all x.device x'.device
    pub what : (list_any is_refused all ≡ true) ⊎ Ours all turned o

  module _ (changed : Bool) (can : CanTransmit x.inner to p) where
    module _ (item' : Item Socket) (turned : Served) (meta : Meta) (formed : IsWellFormed p) where
      abbrev offered_item : Item Socket
      offered_item = record { meta = meta; socket = offering }

      went : (mid : D) (sent : Sent) → moves x.device (Allowed x.inner.instant true) mid
          → WasSent moves mid x.inner p.header (Whole to (numbered x.inner p)) sent x'.device x'.inner
          → turned ≡ turned_by sent changed → item' ≡ settled_by sent x.inner.instant (waits_until (plan_at x p) x'.inner) (destination_of p.header) offered_item
          → OurEnds turned (Some item')
      went mid Outcome.Gone leave goes next became = record {
        all = Allowed x.inner.instant true ∷ Emitted (frame_of x.inner (Whole to (numbered x.inner p))) ∷ [];
        are = (mid, leave, (x'.device, goes.0.0, refl));
        what = inr (record { sent = inr (inl refl); formed = formed; stands = ap (λ (it : Item Socket). Some it) became; next = next });
      }
      went mid Outcome.Refused leave goes next became = record {
        all = Allowed x.inner.instant true ∷ Denied (frame_len_of x.inner (Whole to (numbered x.inner p))) ∷ [];
        are = (mid, leave, (x'.device, goes.0, refl));
        what = inl refl;
      }
      went mid Outcome.Waits leave goes next became = absurd goes
      went mid Outcome.Dropped leave goes next became = absurd goes
      went mid Outcome.Busy leave goes next became = absurd goes

      rests : (given : Bool) (sent : Sent) → moves x.device (Allowed x.inner.instant given) x'.device
          → outcome_by given (held turn meta x.inner (destination_of p.header) (Way.Go to)) ≡ Some sent → OurEnds turned (Some item')
      rests false sent move is = record { all = Allowed x.inner.instant false ∷ []; are = (x'.device, move, refl); what = inl refl }
      rests true sent move is = absurd (let never : no_one ≡ Some sent = is in cc)

      leaves : (sent : Sent) → Leaves moves turn x meta p sent x' → turned ≡ turned_by sent changed
          → item' ≡ settled_by sent x.inner.instant (waits_until (plan_at x p) x'.inner) (destination_of p.header) offered_item → OurEnds turned (Some item')
      leaves sent (inl stays) next became =
          rests stays.0 sent stays.1
          (subst (λ (plan : Plan). outcome_by stays.0 (held turn meta x.inner (destination_of p.header) plan) ≡ Some sent)
          (goes_by_plan x.inner (is_some x.left) to p can) stays.4)
      leaves sent (inr goes) next became =
          let out : IsTransmitted moves goes.0 x.inner x.left p (Way.Go to) sent x'.device x'.inner x'.left =
          subst (λ (plan : Plan). IsTransmitted moves goes.0 x.inner x.left p plan sent x'.device x'.inner x'.left)
          (goes_by_plan x.inner (is_some x.left) to p can) goes.2 in
          went goes.0 sent goes.1 out.0 next became

    -- its plan isn't to ask for anybody, so it isn't parked
    unparked : (sent : Sent) (item : Item Socket) → LeavesOrParks moves turn x item.meta p sent x' → Leaves moves turn x item.meta p sent x'
    unparked sent item goes =
        leaves_unsearched moves turn x item.meta p sent x' (ap is_searched (goes_by_plan x.inner (is_some x.left) to p can)) goes

    -- so the turn is one of a host that parks nothing
    module _ (s : Socket) (only : OffersOnly x.inner s changed offering p) where
      offers : (o : Option PacketValue) → o ≡ Some p → (item item' : Item Socket) (said : Bool) (turned : Served)
          → Turning.SendsBy moves turn o x item said turned x' item' → SendsBy moves turn o x item said turned x' item'
      offers None is item item' said turned goes = absurd goes
      offers (Some q) is item item' said turned goes =
          let its : q ≡ p = (let same : Some q ≡ Some p = is in cc) in
          let leaving : goes.0 ≡ p = goes.1 ∙ ap (sourced x.inner) its ∙ source_stays x.inner p can.may in (
            goes.0,
            goes.1,
            goes.2,
            (
              goes.3.0,
              subst (λ (r : PacketValue). Leaves moves turn x item.meta r goes.3.0 x') (sym leaving)
                  (unparked goes.3.0 item (subst (λ (r : PacketValue). LeavesOrParks moves turn x item.meta r goes.3.0 x') leaving goes.3.1)),
              goes.3.2,
              goes.3.3,
              goes.3.4,
            ),
          )

      answers : (answer : Answer.Offer) (item item' : Item Socket) (turned : Served) → offered_by item.socket ≡ Some p
          → Turning.Answers moves turn answer x item turned x' item' → Answers moves turn answer x item turned x' item'
      answers (Offer.Silent said) item item' turned is goes = goes
      answers (Offer.Packet said) item item' turned is goes = offers (offered_by item.socket) is item item' said turned goes

      turns_if : (waits : Bool) (item item' : Item Socket) (turned : Served) → item.socket ≡ s → Turning.TurnsIf moves turn waits x item turned x' item'
          → TurnsIf moves turn waits x item turned x' item'
      turns_if true item item' turned is goes = goes
      turns_if false item item' turned is goes =
          let given : Sockets.Offers (context_for x.inner s) s goes.0 goes.1 =
          subst (λ (k : Socket). Sockets.Offers (context_for x.inner k) k goes.0 goes.1) is goes.2 in (
            goes.0,
            goes.1,
            goes.2,
            answers goes.0 (record item { socket = goes.1 }) item' turned
                (ap offered_by (only.asked goes.0 goes.1 given).1 ∙ only.packet) goes.3,
          )

      item_turns : (meta : Meta) (o : Option (Item Socket)) (turned : Served) → Turning.ItemTurns moves turn (Some (record { meta = meta; socket = s })) x turned x' o
          → ItemTurns moves turn (Some (record { meta = meta; socket = s })) x turned x' o
      item_turns meta None turned goes = absurd goes
      item_turns meta (Some item') turned goes =
          turns_if (is_waiting x.inner meta) (let_through x.inner (record { meta = meta; socket = s })) item' turned refl goes

    pub our_turn : (s : Socket) → OffersOnly x.inner s changed offering p → (meta : Meta) (slot : SocketStorage Socket) (turned : Served)
        → is_waiting x.inner meta ≡ false
        → Turning.ServesSlot moves turn x (record { inner = Some (record { meta = meta; socket = s }) }) turned x' slot → OurEnds turned slot.inner
    our_turn s only meta slot turned ready goes =
        let left : OffersLeaves moves turn x x' changed offering p meta turned slot.inner =
        any_leave moves turn x x' changed offering p s only can.may meta slot turned ready (item_turns s only meta slot.inner turned goes) in
        subst (λ (o : Option (Item Socket)). OurEnds turned o) (sym left.became)
        (leaves (settled_by left.sent x.inner.instant (waits_until (plan_at x p) x'.inner) (destination_of p.header)
        (record { meta = left.meta; socket = offering }))
        turned left.meta left.formed left.sent left.leaves left.next refl)
