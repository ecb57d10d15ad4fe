-- A step of the egress path while sockets wait: the neighbour whose turn it is is asked for, and no other.
use Rattle.std.proofs.Common.{◌≡◌, ℕ, zero, suc, Bool, true, false, ◌||◌, ◌⊎◌, inl, inr, ℤ, List, [], ◌∷◌, ◌++◌, Option, Some, None, is_some}
use Rattle.std.proofs.Common.{refl, sym, ap, ◌∙◌, subst}
use Rattle.std.specs.Prelude.{not, slice_get}
use Rattle.std.specs.List.{list_any}
use Rattle.net_base.specs.Device.{Move, Allowed, Emitted, Denied}
use Rattle.ip_wire.specs.Ip.{destination_of}
use Rattle.ip_wire.specs.IpAddress.{IpAddress}
use Rattle.socket_datagram.specs.Offers.{HasPacket}
use Rattle.sockets.proofs.AnyKind.{has_packet}
use Rattle.iface_ingress.specs.Context.{ContextValue}
use Rattle.iface_ingress.specs.Offer as Answer
use Rattle.iface_ingress.specs.Offer.TheVariants as Offer
use Rattle.iface_ingress.specs.Packet.{PacketValue}
use Rattle.iface_ingress.specs.Socket.{Socket}
use Rattle.iface_ingress.specs.Sockets.{Offers, offered_by}
use Rattle.iface_tables.specs.Inner.{InnerValue, is_crowded, link_address}
use Rattle.iface_tables.specs.Neighbor.{CacheValue, requested}
use Rattle.iface_tables.proofs.PathMtu.{itself}
use Rattle.iface_egress.specs.Departure.{Asks, target_of}
use Rattle.iface_egress.specs.Fragments.{LeftValue, departure_from}
use Rattle.iface_egress.specs.IsTransmitted.{IsTransmitted, Asked, frame_of, frame_len_of}
use Rattle.iface_egress.specs.declared.frame.NeighborQuery.{NeighborQuery}
use Rattle.iface_egress.specs.declared.plan.Plan.{Plan}
use Rattle.iface_egress.specs.declared.plan.Plan.TheVariants as Way
use Rattle.iface_egress.specs.declared.socket_meta.Meta.{Meta}
use Rattle.iface_egress.specs.declared.socket_set.Item.{Item}
use Rattle.iface_egress.specs.declared.socket_set.SocketStorage.{SocketStorage}
use Rattle.iface_egress.specs.declared.egress_path.Sent.{Sent}
use Rattle.iface_egress.specs.declared.egress_path.Sent.TheVariants as Outcome
use Rattle.interface.specs.Awaited.{hop_of, next_awaited, turn_of}
use Rattle.interface.specs.declared.awaited.Awaited.{Awaited}
use Rattle.interface.specs.Egress.{sending}
use Rattle.interface.specs.Host.{Sender}
use Rattle.interface.specs.Pass.{Passed}
use Rattle.interface.specs.Remote.{context_for}
use Rattle.interface.specs.SameHost.{IsSameHost}
use Rattle.interface.specs.State.{State}
use Rattle.interface.specs.Serve.{is_other, held, outcome_by, plan_at, let_through, sourced}
use Rattle.interface.specs.Serve.{Leaves}
use Rattle.interface.specs.EgressPath.{FragmentLeaves, Clears}
use Rattle.interface.specs.declared.serve.Served.{Served}
use Rattle.interface.specs.declared.serve.Served.TheVariants as Turn
use Rattle.interface.proofs.Alone.{turn_alone}
use Rattle.interface.proofs.SameHost.{same_flag, same_where, same_then}
use Rattle.interface.proofs.Sourced.{sourced_same}
use Rattle.proof_stack.specs.Progress.NeighborResolution.{IsFrom}
use Rattle.proof_stack.specs.Progress.Exchanged.{AsksFor}
use Rattle.proof_stack.specs.Progress.Moves.{AreMoves, is_refused}
use Rattle.proof_stack.specs.Progress.Queued.{Sends}
use Rattle.proof_stack.specs.Progress.EgressSteps.{AsksThen, GoesFreely, IsNeedy, NeedsHop, OutStep, StillNeeds, WaitsOn, host_in}
use Rattle.proof_stack.proofs.Polls.Asking.{AreSuch, AskedSo, Tail, TurnWalks, tail, walks}
use Rattle.proof_stack.proofs.Polls.Asks.{held_none, may_under, plan_asks, plan_for, plan_from, sought_under}
use Rattle.proof_stack.proofs.Polls.First.{host_then, offers_under, one_turn}
use Rattle.proof_stack.proofs.Polls.Passes.{FragmentEnds, clears, clears_same}
use Rattle.proof_stack.proofs.Polls.Searches.{WaitsAt, next_offset}
use Rattle.proof_stack.proofs.Polls.Silenced.{nobody_sought}
use Rattle.proof_stack.proofs.Polls.Walks.{joined, refused_before, refused_following, sends_before, sends_following}
use Rattle.proof_stack.proofs.Polls.Ways.{waits_still, with_ident_same}
use Rattle.proof_stack.proofs.Parkless.{Answers, Egress, ItemTurns, Pass, SendsBy, ServesSlot, TurnsIf, egress_alone, slot_same}

abbrev Place : Type 0
Place = SocketStorage Socket

abbrev no_slot : Option Place
no_slot = None

abbrev no_one : Option Sent
no_one = None

next_not : (b c : Bool) → Turn.Stop b ≡ Turn.Next c → ⊥
next_not b c same = cc

-- WHAT STAYS of a socket's need after the turns of others

module _ (i : InnerValue) (ident : ℕ) (hop : IpAddress) where
  abbrev later : InnerValue
  later = record i { ident = ident }

  packet_under : (p : PacketValue) → NeedsHop i hop p → NeedsHop later hop p
  packet_under p needs = record {
    may = needs.may;
    unknown = sought_under later i.ident (destination_of p.header) hop needs.unknown;
    asks = may_under i ident hop needs.asks;
  }

  needy_under : (o : Option PacketValue) → IsNeedy i hop o → IsNeedy later hop o
  needy_under None needy = absurd needy
  needy_under (Some p) needy = packet_under p needy

  needs_under : (o : Option (Item Socket)) → StillNeeds i hop o → StillNeeds later hop o
  needs_under None needs = absurd needs
  needs_under (Some item) needs = (waits_still i later item.meta (with_ident_same i ident) needs.0, with_packet) where
    with_packet : (answer : Answer.Offer) (s : Socket) → Offers (context_for later item.socket) item.socket answer s → IsNeedy later hop (offered_by s)
    with_packet answer s offers =
        needy_under (offered_by s)
        (needs.1 answer s (subst (λ (cx : ContextValue). Offers cx item.socket answer s) (offers_under i ident item.socket) offers))

module _ {D : Type 0} (moves : D → Move → D → Type 0) (hop : IpAddress) where
  abbrev turn : Option IpAddress
  turn = Some hop

  its_turn : is_other (Some hop) hop ≡ false
  its_turn = ap not (itself hop)

  abbrev ForHop : InnerValue → NeighborQuery → Type 0
  ForHop j q = IsFrom j.hardware j.addresses q × (target_of q ≡ hop)

  -- whatever asks in its turn asks for it
  for_hop : (x : Sender D) (o : Option (Item Socket)) → AreSuch moves turn (ForHop x.inner) x o
  for_hop x o p q offered plan whose =
      (plan_from x.inner (is_some x.left) (sourced x.inner p).header q plan, one_turn hop hop (target_of q) its_turn whose)

  -- OUR TURN

  -- the device refused, or the question went
  record AsksOnce (i : InnerValue) (old new : D) (i' : InnerValue) : Type 0 where
    all : List Move
    are : AreMoves moves all old new
    what : (list_any is_refused all ≡ true) ⊎ AskedSo moves turn (ForHop i) i all i'

  module _ (x x' : Sender D) (room : is_crowded x.inner ≡ false) where
    abbrev AsksNow : Type 0
    AsksNow = AsksOnce x.inner x.device x'.device x'.inner

    asks_now : (mid : D) (q : NeighborQuery) (sent : Sent) → moves x.device (Allowed x.inner.instant true) mid → ForHop x.inner q
        → Asked moves mid x.inner q sent x'.device x'.inner → AsksNow
    asks_now mid q Outcome.Waits leave such goes = record {
      all = Allowed x.inner.instant true ∷ Emitted (frame_of x.inner (Asks q)) ∷ [];
      are = (mid, leave, (x'.device, goes.0.0, refl));
      what = inr (record { question = q; such = such; sent = inr (inl refl); counts = ap (λ (i : InnerValue). i.neighbors) goes.1 });
    }
    asks_now mid q Outcome.Refused leave such goes = record {
      all = Allowed x.inner.instant true ∷ Denied (frame_len_of x.inner (Asks q)) ∷ [];
      are = (mid, leave, (x'.device, goes.0, refl));
      what = inl refl;
    }
    asks_now mid q Outcome.Gone leave such goes = absurd goes
    asks_now mid q Outcome.Dropped leave such goes = absurd goes
    asks_now mid q Outcome.Busy leave such goes = absurd goes

    not_held : (m : Meta) (to : IpAddress) (q : NeighborQuery) (given : Bool) (sent : Sent) → target_of q ≡ hop
        → moves x.device (Allowed x.inner.instant given) x'.device → outcome_by given (held turn m x.inner to (Way.Ask q)) ≡ Some sent → AsksNow
    not_held m to q false sent whom move is = record { all = Allowed x.inner.instant false ∷ []; are = (x'.device, move, refl); what = inl refl }
    not_held m to q true sent whom move is =
        absurd (let never : no_one ≡ Some sent = sym (held_none turn m x.inner to q room (ap (is_other turn) whom ∙ its_turn)) ∙ is in cc)

    leaving : (m : Meta) (p : PacketValue) (q : NeighborQuery) (sent : Sent) → plan_at x p ≡ Way.Ask q → target_of q ≡ hop → Leaves moves turn x m p sent x'
        → AsksNow
    leaving m p q sent plan whom (inl rests) =
        not_held m (destination_of p.header) q rests.0 sent whom rests.1
        (subst (λ (it : Plan). outcome_by rests.0 (held turn m x.inner (destination_of p.header) it) ≡ Some sent) plan rests.4)
    leaving m p q sent plan whom (inr out) =
        asks_now out.0 q sent out.1 (plan_from x.inner (is_some x.left) p.header q plan, whom)
        (subst (λ (it : Plan). IsTransmitted moves out.0 x.inner x.left p it sent x'.device x'.inner x'.left) plan out.2).0

    its_plan : (p leaves : PacketValue) → leaves ≡ sourced x.inner p → NeedsHop x.inner hop p
        → (q : NeighborQuery) × (plan_at x leaves ≡ Way.Ask q) × (target_of q ≡ hop)
    its_plan p leaves is needs =
        let asks : (q : NeighborQuery) × (plan_at x (sourced x.inner p) ≡ Way.Ask q) × (target_of q ≡ hop) =
        plan_asks x.inner (is_some x.left) (sourced x.inner p).header hop needs.may
        (ap (link_address x.inner) (sourced_same x.inner p).0 ∙ needs.unknown) needs.asks in
        (asks.0, ap (plan_at x) is ∙ asks.1, asks.2)

    sends : (o : Option PacketValue) (item item' : Item Socket) (changed : Bool) (turned : Served) → IsNeedy x.inner hop o
        → SendsBy moves turn o x item changed turned x' item' → AsksNow
    sends None item item' changed turned needy goes = absurd needy
    sends (Some p) item item' changed turned needy goes =
        let asks : (q : NeighborQuery) × (plan_at x goes.0 ≡ Way.Ask q) × (target_of q ≡ hop) = its_plan p goes.0 goes.1 needy in
        leaving item.meta goes.0 asks.0 goes.3.0 asks.1 asks.2 goes.3.1

    -- who has a packet says so
    not_silent : (o : Option PacketValue) (changed : Bool) → IsNeedy x.inner hop o → HasPacket (Offer.Silent changed) o → ⊥
    not_silent None changed needy has = needy
    not_silent (Some p) changed needy has = has

    answers : (answer : Answer.Offer) (item item' : Item Socket) (turned : Served) → IsNeedy x.inner hop (offered_by item.socket)
        → HasPacket answer (offered_by item.socket) → Answers moves turn answer x item turned x' item' → AsksNow
    answers (Offer.Silent changed) item item' turned needy has goes = absurd (not_silent (offered_by item.socket) changed needy has)
    answers (Offer.Packet changed) item item' turned needy has goes = sends (offered_by item.socket) item item' changed turned needy goes

    turns : (o o' : Option (Item Socket)) (turned : Served) → StillNeeds x.inner hop o → ItemTurns moves turn o x turned x' o' → AsksNow
    turns None o' turned needs goes = absurd needs
    turns (Some item) None turned needs goes = absurd goes
    turns (Some item) (Some item') turned needs goes =
        let asked : TurnsIf moves turn false x (let_through x.inner item) turned x' item' =
        subst (λ (waits : Bool). TurnsIf moves turn waits x (let_through x.inner item) turned x' item') needs.0 goes in
        answers asked.0 (record (let_through x.inner item) { socket = asked.1 }) item' turned (needs.1 asked.0 asked.1 asked.2)
        (has_packet item.socket asked.1 (context_for x.inner item.socket) asked.0 asked.2) asked.3

    our_turn : (slot slot' : Place) (turned : Served) → StillNeeds x.inner hop slot.inner → ServesSlot moves turn x slot turned x' slot' → AsksNow
    our_turn slot slot' turned needs goes = turns slot.inner slot'.inner turned needs goes

  -- BEHIND THE QUESTION nobody is asked for

  -- of what is left of a pass: the device refused, or this is known of neighbours
  record Keeps (old : D) (e : Passed D) (c : CacheValue) : Type 0 where
    all : List Move
    are : AreMoves moves all old e.sender.device
    what : (list_any is_refused all ≡ true) ⊎ (e.sender.inner.neighbors ≡ c)

  module _ (c : CacheValue) (m : ℤ) where
    abbrev then_known : CacheValue
    then_known = requested c hop m

    nobody : (s : Sender D) (slot : Place) → s.inner.host_requirements ≡ false → s.inner.instant ≡ m → s.inner.neighbors ≡ then_known → AreSuch moves turn (λ (q : NeighborQuery). ⊥) s slot.inner
    nobody s slot alone now known p q offered plan whose =
        nobody_sought s.inner hop (target_of q) (destination_of (sourced s.inner p).header) c alone (known ∙ ap (requested c hop) (sym now))
        (plan_for s.inner (is_some s.left) (sourced s.inner p).header q plan)

    still : (s s' : Sender D) (turned : Served) → s.inner.neighbors ≡ then_known → TurnWalks moves turn (λ (q : NeighborQuery). ⊥) s s' turned
        → (all : List Move) × AreMoves moves all s.device s'.device × ((list_any is_refused all ≡ true) ⊎ (s'.inner.neighbors ≡ then_known))
    still s s' turned known took = (took.walked.all, took.walked.are, by took.walked.what) where
      by : (list_any is_refused took.walked.all ≡ true)
          ⊎ (AskedSo moves turn (λ (q : NeighborQuery). ⊥) s.inner took.walked.all s'.inner ⊎ (s'.inner.neighbors ≡ s.inner.neighbors))
          → (list_any is_refused took.walked.all ≡ true) ⊎ (s'.inner.neighbors ≡ then_known)
      by (inl refused) = inl refused
      by (inr (inl asked)) = absurd asked.such
      by (inr (inr kept)) = inr (kept ∙ known)

    keeps : (s : Sender D) (before : List Place) (changed : Bool) (ps : List Place) (e : Passed D) → s.inner.host_requirements ≡ false
        → s.inner.instant ≡ m → s.inner.neighbors ≡ then_known
        → Pass moves turn s before changed ps e → Keeps s.device e then_known
    keeps s before changed [] e alone now known ends = record {
      all = [];
      are = ap (λ (x : Passed D). x.sender.device) ends;
      what = inr (ap (λ (x : Passed D). x.sender.inner.neighbors) ends ∙ known);
    }
    keeps s before changed (p ∷ ps) e alone now known (inl goes) =
        let same : IsSameHost s.inner goes.1.inner = slot_same moves turn s goes.1 p goes.2 (Turn.Next goes.0) goes.3 in
        by (still s goes.1 (Turn.Next goes.0) known
        (walks moves turn (λ (q : NeighborQuery). ⊥) s goes.1 p goes.2 (Turn.Next goes.0) (nobody s p alone now known) goes.3))
        (λ known'. keeps goes.1 (before ++ goes.2 ∷ []) (changed || goes.0) ps e (same_flag s.inner goes.1.inner same ∙ alone) (ap (λ (j : InnerValue). j.instant) same ∙ now) known' goes.4)
      where
        rest : Tail moves turn goes.1.device e.sender.device
        rest = tail moves turn goes.1 (before ++ goes.2 ∷ []) (changed || goes.0) ps e goes.4

        by : (all : List Move) × AreMoves moves all s.device goes.1.device
            × ((list_any is_refused all ≡ true) ⊎ (goes.1.inner.neighbors ≡ then_known))
            → (goes.1.inner.neighbors ≡ then_known → Keeps goes.1.device e then_known) → Keeps s.device e then_known
        by took more = so took.2 where
          so : (list_any is_refused took.0 ≡ true) ⊎ (goes.1.inner.neighbors ≡ then_known) → Keeps s.device e then_known
          so (inl refused) = record {
            all = took.0 ++ rest.all;
            are = joined moves took.0 rest.all s.device goes.1.device e.sender.device took.1 rest.are;
            what = inl (refused_before took.0 rest.all refused);
          }
          so (inr known') =
              let later : Keeps goes.1.device e then_known = more known' in
              record {
                all = took.0 ++ later.all;
                are = joined moves took.0 later.all s.device goes.1.device e.sender.device took.1 later.are;
                what = then_so later.all later.what;
              }
            where
              then_so : (ys : List Move) → (list_any is_refused ys ≡ true) ⊎ (e.sender.inner.neighbors ≡ then_known)
                  → (list_any is_refused (took.0 ++ ys) ≡ true) ⊎ (e.sender.inner.neighbors ≡ then_known)
              then_so ys (inl refused) = inl (refused_following took.0 ys refused)
              then_so ys (inr is) = inr is
    keeps s before changed (p ∷ ps) e alone now known (inr stops) =
        let took : (all : List Move) × AreMoves moves all s.device stops.1.device
        × ((list_any is_refused all ≡ true) ⊎ (stops.1.inner.neighbors ≡ then_known)) =
        still s stops.1 (Turn.Stop stops.0) known
        (walks moves turn (λ (q : NeighborQuery). ⊥) s stops.1 p stops.2 (Turn.Stop stops.0) (nobody s p alone now known) stops.3) in
        record {
          all = took.0;
          are = subst (λ (d : D). AreMoves moves took.0 s.device d) (sym (ap (λ (x : Passed D). x.sender.device) stops.4)) took.1;
          what = by took.0 took.2;
        }
      where
        by : (xs : List Move) → (list_any is_refused xs ≡ true) ⊎ (stops.1.inner.neighbors ≡ then_known)
            → (list_any is_refused xs ≡ true) ⊎ (e.sender.inner.neighbors ≡ then_known)
        by xs (inl refused) = inl refused
        by xs (inr is) = inr (ap (λ (x : Passed D). x.sender.inner.neighbors) stops.4 ∙ is)

  -- THE PASS

  module _ (i : InnerValue) (slot : Place) (needs : StillNeeds i hop slot.inner) (room : is_crowded i ≡ false)
      (alone : i.host_requirements ≡ false) where
    abbrev asked_for : CacheValue
    asked_for = requested i.neighbors hop i.instant

    -- the device refused, or a question for the hop went, and nothing else of neighbours changed
    record PassAsks (old : D) (e : Passed D) : Type 0 where
      all : List Move
      are : AreMoves moves all old e.sender.device
      what : (list_any is_refused all ≡ true) ⊎ (AsksFor i hop all × (e.sender.inner.neighbors ≡ asked_for))

    -- a question of the host as it is in this turn is one of the host
    as_asked : (j j' : InnerValue) (all : List Move) → IsSameHost i j → AskedSo moves turn (ForHop j) j all j' → AsksFor i hop all
    as_asked j j' all same asked = record {
      question = asked.question;
      from = subst (λ (k : InnerValue). IsFrom k.hardware k.addresses asked.question) same asked.such.0;
      sent = subst (λ (k : InnerValue). Sends (frame_of k (Asks asked.question)) all) same asked.sent;
      whom = asked.such.1;
    }

    counts : (j j' : InnerValue) (all : List Move) → IsSameHost i j → j.neighbors ≡ i.neighbors → AskedSo moves turn (ForHop j) j all j'
        → j'.neighbors ≡ asked_for
    counts j j' all same known asked =
        asked.counts ∙ ap (λ (a : IpAddress). requested j.neighbors a j.instant) asked.such.1
        ∙ ap (λ (c : CacheValue). requested c hop j.instant) known ∙ ap (λ (k : InnerValue). requested i.neighbors hop k.instant) same

    grows : (xs ys : List Move) → AsksFor i hop xs → AsksFor i hop (xs ++ ys)
    grows xs ys asks = record {
      question = asks.question;
      from = asks.from;
      sent = sends_before (frame_of i (Asks asks.question)) xs ys asks.sent;
      whom = asks.whom;
    }

    grows_following : (xs ys : List Move) → AsksFor i hop ys → AsksFor i hop (xs ++ ys)
    grows_following xs ys asks = record {
      question = asks.question;
      from = asks.from;
      sent = sends_following (frame_of i (Asks asks.question)) xs ys asks.sent;
      whom = asks.whom;
    }

    refused_then : (s mid : Sender D) (xs : List Move) (before : List Place) (changed : Bool) (ps : List Place) (e : Passed D)
        → AreMoves moves xs s.device mid.device → list_any is_refused xs ≡ true → Pass moves turn mid before changed ps e → PassAsks s.device e
    refused_then s mid xs before changed ps e are refused goes =
        let rest : Tail moves turn mid.device e.sender.device = tail moves turn mid before changed ps e goes in
        record {
          all = xs ++ rest.all;
          are = joined moves xs rest.all s.device mid.device e.sender.device are rest.are;
          what = inl (refused_before xs rest.all refused);
        }

    -- a question went in a turn, and the others have theirs
    asked_then : (s mid : Sender D) (xs : List Move) (before : List Place) (changed : Bool) (ps : List Place) (e : Passed D) → IsSameHost i s.inner
        → s.inner.neighbors ≡ i.neighbors → IsSameHost s.inner mid.inner → AreMoves moves xs s.device mid.device
        → AskedSo moves turn (ForHop s.inner) s.inner xs mid.inner → Pass moves turn mid before changed ps e → PassAsks s.device e
    asked_then s mid xs before changed ps e same known then_same are asked goes =
        let rest : Keeps mid.device e asked_for =
        keeps i.neighbors i.instant mid before changed ps e (same_flag s.inner mid.inner then_same ∙ same_flag i s.inner same ∙ alone)
        (ap (λ (j : InnerValue). j.instant) then_same ∙ ap (λ (j : InnerValue). j.instant) same) (counts s.inner mid.inner xs same known asked) goes in
        record {
          all = xs ++ rest.all;
          are = joined moves xs rest.all s.device mid.device e.sender.device are rest.are;
          what = by rest.all rest.what;
        }
      where
        by : (ys : List Move) → (list_any is_refused ys ≡ true) ⊎ (e.sender.inner.neighbors ≡ asked_for)
            → (list_any is_refused (xs ++ ys) ≡ true) ⊎ (AsksFor i hop (xs ++ ys) × (e.sender.inner.neighbors ≡ asked_for))
        by ys (inl refused) = inl (refused_following xs ys refused)
        by ys (inr is) = inr (grows xs ys (as_asked s.inner mid.inner xs same asked), is)

    -- a turn ended the pass
    at_stop : (s mid : Sender D) (xs : List Move) (e : Passed D) → IsSameHost i s.inner → s.inner.neighbors ≡ i.neighbors
        → AreMoves moves xs s.device mid.device → e.sender ≡ mid
        → (list_any is_refused xs ≡ true) ⊎ AskedSo moves turn (ForHop s.inner) s.inner xs mid.inner → PassAsks s.device e
    at_stop s mid xs e same known are is what = record {
      all = xs;
      are = subst (λ (d : D). AreMoves moves xs s.device d) (sym (ap (λ (x : Sender D). x.device) is)) are;
      what = by what;
    } where
      by : (list_any is_refused xs ≡ true) ⊎ AskedSo moves turn (ForHop s.inner) s.inner xs mid.inner
          → (list_any is_refused xs ≡ true) ⊎ (AsksFor i hop xs × (e.sender.inner.neighbors ≡ asked_for))
      by (inl refused) = inl refused
      by (inr asked) =
          inr (as_asked s.inner mid.inner xs same asked, ap (λ (x : Sender D). x.inner.neighbors) is ∙ counts s.inner mid.inner xs same known asked)

    -- none was asked for in a turn, and the others have theirs
    kept_then : (s mid : Sender D) (xs : List Move) (e : Passed D) → AreMoves moves xs s.device mid.device → PassAsks mid.device e → PassAsks s.device e
    kept_then s mid xs e are rest = record {
      all = xs ++ rest.all;
      are = joined moves xs rest.all s.device mid.device e.sender.device are rest.are;
      what = by rest.all rest.what;
    } where
      by : (ys : List Move) → (list_any is_refused ys ≡ true) ⊎ (AsksFor i hop ys × (e.sender.inner.neighbors ≡ asked_for))
          → (list_any is_refused (xs ++ ys) ≡ true) ⊎ (AsksFor i hop (xs ++ ys) × (e.sender.inner.neighbors ≡ asked_for))
      by ys (inl refused) = inl (refused_following xs ys refused)
      by ys (inr is) = inr (grows_following xs ys is.0, is.1)

    module _ (s : Sender D) (same : IsSameHost i s.inner) (known : s.inner.neighbors ≡ i.neighbors) where
      is_begun : s.inner ≡ record i { ident = s.inner.ident }
      is_begun = host_then i s.inner i.neighbors alone same refl known

      needs_now : StillNeeds s.inner hop slot.inner
      needs_now = subst (λ (j : InnerValue). StillNeeds j hop slot.inner) (sym is_begun) (needs_under i s.inner.ident hop slot.inner needs)

      room_now : is_crowded s.inner ≡ false
      room_now = subst (λ (j : InnerValue). is_crowded j ≡ false) (sym is_begun) room

      ours : (q : Place) → Some q ≡ Some slot → (mid : Sender D) (q' : Place) (turned : Served) → ServesSlot moves turn s q turned mid q'
          → AsksOnce s.inner s.device mid.device mid.inner
      ours q stands mid q' turned goes =
          our_turn s mid room_now slot q' turned needs_now
          (subst (λ (p : Place). ServesSlot moves turn s p turned mid q')
          (let both : Some q ≡ Some slot = stands in let at : q ≡ slot = cc in at) goes)

    pass_asks : (s : Sender D) (before : List Place) (changed : Bool) (ps : List Place) (n : ℕ) (e : Passed D) → slice_get ps n ≡ Some slot
        → IsSameHost i s.inner → s.inner.neighbors ≡ i.neighbors → Pass moves turn s before changed ps e → PassAsks s.device e
    pass_asks s before changed [] n e stands same known goes = absurd (let never : no_slot ≡ Some slot = stands in cc)
    pass_asks s before changed (q ∷ ps) zero e stands same known (inl goes) =
        by (ours s same known q stands goes.1 goes.2 (Turn.Next goes.0) goes.3)
      where
        by : AsksOnce s.inner s.device goes.1.device goes.1.inner → PassAsks s.device e
        by took = so took.what where
          so : (list_any is_refused took.all ≡ true) ⊎ AskedSo moves turn (ForHop s.inner) s.inner took.all goes.1.inner → PassAsks s.device e
          so (inl refused) = refused_then s goes.1 took.all (before ++ goes.2 ∷ []) (changed || goes.0) ps e took.are refused goes.4
          so (inr asked) =
              asked_then s goes.1 took.all (before ++ goes.2 ∷ []) (changed || goes.0) ps e same known
              (slot_same moves turn s goes.1 q goes.2 (Turn.Next goes.0) goes.3) took.are asked goes.4
    pass_asks s before changed (q ∷ ps) zero e stands same known (inr stops) =
        let took : AsksOnce s.inner s.device stops.1.device stops.1.inner = ours s same known q stands stops.1 stops.2 (Turn.Stop stops.0) stops.3 in
        at_stop s stops.1 took.all e same known took.are (ap (λ (x : Passed D). x.sender) stops.4) took.what
    pass_asks s before changed (q ∷ ps) (suc n) e stands same known (inl goes) =
        let took : TurnWalks moves turn (ForHop s.inner) s goes.1 (Turn.Next goes.0) =
        walks moves turn (ForHop s.inner) s goes.1 q goes.2 (Turn.Next goes.0) (for_hop s q.inner) goes.3 in
        let then_same : IsSameHost s.inner goes.1.inner = slot_same moves turn s goes.1 q goes.2 (Turn.Next goes.0) goes.3 in
        by took.walked.all took.walked.are then_same
        (λ known'. pass_asks goes.1 (before ++ goes.2 ∷ []) (changed || goes.0) ps n e stands (same_then i s.inner goes.1.inner same then_same) known' goes.4)
        took.walked.what
      where
        by : (xs : List Move) → AreMoves moves xs s.device goes.1.device → IsSameHost s.inner goes.1.inner
            → (goes.1.inner.neighbors ≡ i.neighbors → PassAsks goes.1.device e)
            → (list_any is_refused xs ≡ true) ⊎ (AskedSo moves turn (ForHop s.inner) s.inner xs goes.1.inner ⊎ (goes.1.inner.neighbors ≡ s.inner.neighbors))
            → PassAsks s.device e
        by xs are then_same more (inl refused) =
            refused_then s goes.1 xs (before ++ goes.2 ∷ []) (changed || goes.0) ps e are refused goes.4
        by xs are then_same more (inr (inl asked)) =
            asked_then s goes.1 xs (before ++ goes.2 ∷ []) (changed || goes.0) ps e same known then_same are asked goes.4
        by xs are then_same more (inr (inr kept)) = kept_then s goes.1 xs e are (more (kept ∙ known))
    pass_asks s before changed (q ∷ ps) (suc n) e stands same known (inr stops) =
        let took : TurnWalks moves turn (ForHop s.inner) s stops.1 (Turn.Stop stops.0) =
        walks moves turn (ForHop s.inner) s stops.1 q stops.2 (Turn.Stop stops.0) (for_hop s q.inner) stops.3 in
        at_stop s stops.1 took.walked.all e same known took.walked.are (ap (λ (x : Passed D). x.sender) stops.4)
        (inl (refused stops.0 took.walked.all took.stops))
      where
        refused : (b : Bool) (xs : List Move) → (list_any is_refused xs ≡ true) ⊎ ((c : Bool) × (Turn.Stop b ≡ Turn.Next c)) → list_any is_refused xs ≡ true
        refused b xs (inl is) = is
        refused b xs (inr next) = absurd (next_not b next.0 next.1)

    -- THE STEP

    stays : (left : Option LeftValue) (s mid : Sender D) (e : Passed D) → Clears moves left s false mid → e.sender ≡ mid → PassAsks s.device e
    stays None s mid e goes is = absurd (let clash : false ≡ true = goes.0 in cc)
    stays (Some l) s mid e goes is = refused goes.0 where
      ends : e.sender.device ≡ mid.device
      ends = ap (λ (x : Sender D). x.device) is

      refused : FragmentLeaves moves l s false mid → PassAsks s.device e
      refused (inl kept) = record { all = Allowed s.inner.instant false ∷ []; are = (mid.device, kept.0, ends); what = inl refl }
      refused (inr denied) = record {
        all = Allowed s.inner.instant true ∷ Denied (frame_len_of s.inner (departure_from s.inner l)) ∷ [];
        are = (denied.0, denied.1, (mid.device, denied.2.0, ends));
        what = inl refl;
      }

    egress : (s : Sender D) (ps : List Place) (n : ℕ) (e : Passed D) → s.inner ≡ i → turn_of i ps ≡ turn → slice_get ps n ≡ Some slot
        → Egress moves s ps e → PassAsks s.device e
    egress s ps n e is whose stands (inl rests) = stays s.left s rests.0 e rests.1 (ap (λ (x : Passed D). x.sender) rests.2)
    egress s ps n e is whose stands (inr goes) =
        let fragment : FragmentEnds moves s goes.0 true = clears moves s.left s goes.0 true refl goes.1 in
        let same : goes.0.inner ≡ i = clears_same moves s.left s goes.0 true goes.1 ∙ is in
        let pass : Pass moves turn goes.0 [] false ps e =
        subst (λ (o : Option IpAddress). Pass moves o goes.0 [] false ps e) (ap (λ (j : InnerValue). turn_of j ps) same ∙ whose) goes.2 in
        kept_then s goes.0 fragment.all e fragment.are
        (pass_asks goes.0 [] false ps n e stands (same_where i goes.0.inner same) (ap (λ (j : InnerValue). j.neighbors) same) pass)

module _ {D : Type 0} (moves : D → Move → D → Type 0) (hops : List IpAddress) (x : OutStep moves) (a : Awaited) (freely : GoesFreely moves hops x) where
  abbrev now : InnerValue
  now = host_in moves x

  unrefused : {X : Type 0} (all : List Move) → AreMoves moves all x.old.device x.new.device → (list_any is_refused all ≡ true) ⊎ X → X
  unrefused {X} all are (inl refused) = absurd (let clash : true ≡ false = sym refused ∙ freely.free all are in cc)
  unrefused {X} all are (inr it) = it

  pub step_asks_in_turn : next_awaited (host_in moves x) x.old.slots ≡ Some a → AsksThen moves x a.hop
  step_asks_in_turn is =
      let at : WaitsAt now (WaitsOn now hops) x.old.slots a = next_offset now (WaitsOn now hops) x.old.slots a freely.waiting is in
      let e : Passed D = x.goes.0 in
      let asks : PassAsks moves a.hop now at.slot (at.such a at.waits).1 freely.room freely.alone x.old.device e =
      egress moves a.hop now at.slot (at.such a at.waits).1 freely.room freely.alone (sending x.instant x.old) x.old.slots at.n e refl
      (turn_alone now x.old.slots freely.alone ∙ ap hop_of is) at.stands (egress_alone moves (sending x.instant x.old) x.old.slots e freely.alone x.goes.1) in
      let are : AreMoves moves asks.all x.old.device x.new.device =
      subst (λ (d : D). AreMoves moves asks.all x.old.device d) (sym (ap (λ (s : State D). s.device) x.goes.2)) asks.are in
      let both : AsksFor now a.hop asks.all × (e.sender.inner.neighbors ≡ requested now.neighbors a.hop now.instant) =
      unrefused asks.all are asks.what in
      record { all = asks.all; are = are; asks = both.0; counts = ap (λ (s : State D). s.host.inner.neighbors) x.goes.2 ∙ both.1 }
