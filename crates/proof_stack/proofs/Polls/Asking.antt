-- A turn, a pass over the sockets, and a step of the egress path, in which a question for a neighbour goes.
use Rattle.std.proofs.Common.{◌≡◌, ℕ, zero, suc, Bool, true, false, ◌||◌, if◌then◌else◌, ◌⊎◌, inl, inr, ℤ, List, [], ◌∷◌, ◌++◌, Option, Some, None}
use Rattle.std.proofs.Common.{refl, sym, ap, ◌∙◌, subst}
use Rattle.std.specs.Prelude.{slice_get, is_some}
use Rattle.std.specs.List.{list_any}
use Rattle.net_base.specs.Device.{Move, Allowed, Emitted, Denied}
use Rattle.net_base.specs.Packets.{contents}
use Rattle.ip_wire.specs.Ip.{destination_of}
use Rattle.ip_wire.specs.IpAddress.{IpAddress}
use Rattle.ip_wire.specs.IpRepr.{IpRepr}
use Rattle.ip_wire.specs.IpRepr.TheVariants as Ip
use Rattle.socket_datagram.specs.Udp.{UdpValue}
use Rattle.socket_datagram.specs.declared.udp.UdpMetadata.{UdpMetadata}
use Rattle.iface_ingress.specs.Offer as Answer
use Rattle.iface_ingress.specs.Offer.TheVariants as Offer
use Rattle.iface_ingress.specs.Packet.{PacketValue}
use Rattle.iface_ingress.specs.Socket.{Socket}
use Rattle.iface_ingress.specs.Socket.TheVariants as Kind
use Rattle.iface_ingress.specs.Sockets.{offered_by}
use Rattle.iface_tables.specs.Inner.{InnerValue, at_instant}
use Rattle.iface_tables.specs.Neighbor.{requested}
use Rattle.iface_egress.specs.Departure.{Departure, Asks, Whole, target_of}
use Rattle.iface_egress.specs.Fragments.{LeftValue, departure_from}
use Rattle.iface_egress.specs.IsTransmitted.{IsTransmitted, Asked, WasSent, WasCut, numbered, cut_of, frame_of, frame_len_of, after_header}
use Rattle.iface_egress.specs.declared.frame.NeighborQuery.{NeighborQuery}
use Rattle.iface_egress.specs.declared.plan.Plan.{Plan}
use Rattle.iface_egress.specs.declared.plan.Plan.TheVariants as Way
use Rattle.iface_egress.specs.declared.socket_meta.Meta.{Meta}
use Rattle.iface_egress.specs.declared.socket_set.Item.{Item}
use Rattle.iface_egress.specs.declared.socket_set.SocketStorage.{SocketStorage}
use Rattle.iface_egress.specs.declared.egress_path.Sent.{Sent}
use Rattle.iface_egress.specs.declared.egress_path.Sent.TheVariants as Outcome
use Rattle.interface.specs.Awaited.{turn_of}
use Rattle.interface.specs.Egress.{EgressStep, sending}
use Rattle.interface.specs.Host.{Sender}
use Rattle.interface.specs.Pass.{Passed}
use Rattle.interface.specs.SameHost.{IsSameHost}
use Rattle.interface.specs.State.{State}
use Rattle.interface.specs.Serve.{is_waiting, is_given_up, is_other, is_out_of_turn, held, outcome_by, plan_at, turned_by, Leaves}
use Rattle.interface.specs.Serve.{let_through, sourced}
use Rattle.interface.specs.EgressPath.{FragmentLeaves, Clears}
use Rattle.interface.specs.declared.serve.Served.{Served}
use Rattle.interface.specs.declared.serve.Served.TheVariants as Turn
use Rattle.interface.proofs.SameHost.{same_where}
use Rattle.proof_stack.specs.Progress.Moves.{AreMoves, is_refused}
use Rattle.proof_stack.specs.Progress.NeighborResolution.{HasToAsk, IsFrom, AsksInTurn, AsksAtOnce, MayOffer}
use Rattle.proof_stack.specs.Progress.Queued.{HasTurn, Sends}
use Rattle.proof_stack.proofs.Polls.OurLeave.{OursLeaves, our_leave}
use Rattle.proof_stack.proofs.Polls.Asks.{asks_plan, held_none, held_not, kept_in, plan_from}
use Rattle.proof_stack.proofs.Polls.Passes.{FragmentEnds, clears, clears_same}
use Rattle.proof_stack.proofs.Polls.Walks.{joined, refused_before, refused_following, sends_before, sends_following}
use Rattle.proof_stack.proofs.Parkless.{Answers, Egress, ItemTurns, Pass, SendsBy, ServesSlot, TurnsIf, egress_alone, slot_same}

abbrev Place : Type 0
Place = SocketStorage Socket

abbrev no_slot : Option Place
no_slot = None

abbrev no_one : Option Sent
no_one = None

module _ {D : Type 0} (moves : D → Move → D → Type 0) (turn : Option IpAddress) where
  -- such a question went, and counts
  pub record AskedSo (Such : NeighborQuery → Type 0) (i : InnerValue) (all : List Move) (i' : InnerValue) : Type 0 where
    pub question : NeighborQuery
    pub such : Such question
    pub sent : Sends (frame_of i (Asks question)) all
    pub counts : i'.neighbors ≡ requested i.neighbors (target_of question) i.instant

  -- what one or more turns asked of the device: it refused, or a question went, or what is known of neighbours is as it was
  pub record Walked (Such : NeighborQuery → Type 0) (i : InnerValue) (old new : D) (i' : InnerValue) : Type 0 where
    pub all : List Move
    pub are : AreMoves moves all old new
    pub what : (list_any is_refused all ≡ true) ⊎ (AskedSo Such i all i' ⊎ (i'.neighbors ≡ i.neighbors))

  -- of one turn: unless the device refused, the next socket has its turn
  pub record TurnWalks (Such : NeighborQuery → Type 0) (x x' : Sender D) (turned : Served) : Type 0 where
    pub walked : Walked Such x.inner x.device x'.device x'.inner
    pub stops : (list_any is_refused walked.all ≡ true) ⊎ ((b : Bool) × (turned ≡ Turn.Next b))

  -- a question for the neighbour of a packet that is offered is such, where it is its turn
  abbrev pub AreSuch : (NeighborQuery → Type 0) → Sender D → Option (Item Socket) → Type 0
  AreSuch Such x o =
      (p : PacketValue) (q : NeighborQuery) → MayOffer x.inner o p → plan_at x (sourced x.inner p) ≡ Way.Ask q → is_other turn (target_of q) ≡ false → Such q

  module _ (Such : NeighborQuery → Type 0) (x x' : Sender D) where
    -- nothing was asked of the device
    still : (turned : Served) (b : Bool) → x' ≡ x → turned ≡ Turn.Next b → TurnWalks Such x x' turned
    still turned b same next = record {
      walked = record { all = []; are = ap (λ (y : Sender D). y.device) same; what = inr (inr (ap (λ (y : Sender D). y.inner.neighbors) same)) };
      stops = inr (b, next);
    }

    module _ (turned : Served) where
      -- it gave leave, or not, and no frame went
      admitted : (b : Bool) → moves x.device (Allowed x.inner.instant true) x'.device → x'.inner ≡ x.inner → turned ≡ Turn.Next b → TurnWalks Such x x' turned
      admitted b leave same next = record {
        walked = record { all = Allowed x.inner.instant true ∷ []; are = (x'.device, leave, refl); what = inr (inr (ap (λ (i : InnerValue). i.neighbors) same)) };
        stops = inr (b, next);
      }

      no_leave : moves x.device (Allowed x.inner.instant false) x'.device → TurnWalks Such x x' turned
      no_leave move = record {
        walked = record { all = Allowed x.inner.instant false ∷ []; are = (x'.device, move, refl); what = inl refl };
        stops = inl refl;
      }

      module _ (mid : D) (leave : moves x.device (Allowed x.inner.instant true) mid) where
        was_refused : (len : ℕ) → moves mid (Denied len) x'.device → TurnWalks Such x x' turned
        was_refused len move = record {
          walked = record { all = Allowed x.inner.instant true ∷ Denied len ∷ []; are = (mid, leave, (x'.device, move, refl)); what = inl refl };
          stops = inl refl;
        }

        -- a frame that is no question
        went : (frame : List ℕ) (b : Bool) → moves mid (Emitted frame) x'.device → x'.inner.neighbors ≡ x.inner.neighbors → turned ≡ Turn.Next b
            → TurnWalks Such x x' turned
        went frame b move same next = record {
          walked = record {
            all = Allowed x.inner.instant true ∷ Emitted frame ∷ [];
            are = (mid, leave, (x'.device, move, refl));
            what = inr (inr same);
          };
          stops = inr (b, next);
        }

        asked : (q : NeighborQuery) (sent : Sent) (changed : Bool) → Such q → Asked moves mid x.inner q sent x'.device x'.inner
            → turned ≡ turned_by sent changed → TurnWalks Such x x' turned
        asked q Outcome.Waits changed such goes next = record {
          walked = record {
            all = Allowed x.inner.instant true ∷ Emitted (frame_of x.inner (Asks q)) ∷ [];
            are = (mid, leave, (x'.device, goes.0.0, refl));
            what = inr (inl (record { question = q; such = such; sent = inr (inl refl); counts = ap (λ (i : InnerValue). i.neighbors) goes.1 }));
          };
          stops = inr (changed, next);
        }
        asked q Outcome.Refused changed such goes next = was_refused (frame_len_of x.inner (Asks q)) goes.0
        asked q Outcome.Gone changed such goes next = absurd goes
        asked q Outcome.Dropped changed such goes next = absurd goes
        asked q Outcome.Busy changed such goes next = absurd goes

        numbers : (header : IpRepr) → x'.inner ≡ after_header header x.inner → x'.inner.neighbors ≡ x.inner.neighbors
        numbers (Ip.Ipv4 v) is = ap (λ (i : InnerValue). i.neighbors) is
        numbers (Ip.Ipv6 v) is = ap (λ (i : InnerValue). i.neighbors) is

        whole : (header : IpRepr) (d : Departure) (sent : Sent) (changed : Bool) → WasSent moves mid x.inner header d sent x'.device x'.inner
            → turned ≡ turned_by sent changed → TurnWalks Such x x' turned
        whole header d Outcome.Gone changed goes next = went (frame_of x.inner d) true goes.0.0 (numbers header goes.1) next
        whole header d Outcome.Refused changed goes next = was_refused (frame_len_of x.inner d) goes.0
        whole header d Outcome.Waits changed goes next = absurd goes
        whole header d Outcome.Dropped changed goes next = absurd goes
        whole header d Outcome.Busy changed goes next = absurd goes

        cut : (c : LeftValue) (sent : Sent) (changed : Bool) → WasCut moves mid x.inner x.left c sent x'.device x'.inner x'.left
            → turned ≡ turned_by sent changed → TurnWalks Such x x' turned
        cut c Outcome.Gone changed goes next =
            went (frame_of x.inner (departure_from x.inner c)) true goes.0.0 (ap (λ (i : InnerValue). i.neighbors) goes.1) next
        cut c Outcome.Refused changed goes next = was_refused (frame_len_of x.inner (departure_from x.inner c)) goes.0
        cut c Outcome.Waits changed goes next = absurd goes
        cut c Outcome.Dropped changed goes next = absurd goes
        cut c Outcome.Busy changed goes next = absurd goes

        here : x'.device ≡ mid → moves x.device (Allowed x.inner.instant true) x'.device
        here is = subst (λ (d : D). moves x.device (Allowed x.inner.instant true) d) (sym is) leave

        out : (p : PacketValue) (changed : Bool) (plan : Plan) (sent : Sent)
            → ((q : NeighborQuery) → plan ≡ Way.Ask q → Such q) → IsTransmitted moves mid x.inner x.left p plan sent x'.device x'.inner x'.left
            → turned ≡ turned_by sent changed → TurnWalks Such x x' turned
        out p changed Way.Drop sent such goes next =
            admitted true (here goes.1.0) goes.1.1 (next ∙ ap (λ (s : Sent). turned_by s changed) goes.0)
        out p changed Way.NoRoute sent such goes next =
            admitted changed (here goes.1.0) goes.1.1 (next ∙ ap (λ (s : Sent). turned_by s changed) goes.0)
        out p changed Way.Wait sent such goes next =
            admitted changed (here goes.1.0) goes.1.1 (next ∙ ap (λ (s : Sent). turned_by s changed) goes.0)
        out p changed Way.Busy sent such goes next =
            admitted changed (here goes.1.0) goes.1.1 (next ∙ ap (λ (s : Sent). turned_by s changed) goes.0)
        out p changed (Way.Ask q) sent such goes next = asked q sent changed (such q refl) goes.0 next
        out p changed (Way.Go to) sent such goes next = whole p.header (Whole to (numbered x.inner p)) sent changed goes.0 next
        out p changed (Way.Cut to) sent such goes next = cut (cut_of x.inner to p) sent changed goes next

      -- what doesn't go is dropped, or waits
      rests : (sent : Sent) (given_up other changed : Bool) → moves x.device (Allowed x.inner.instant true) x'.device → x'.inner ≡ x.inner
          → (if given_up then Some Outcome.Dropped else if other then Some Outcome.Waits else None) ≡ Some sent → turned ≡ turned_by sent changed
          → TurnWalks Such x x' turned
      rests sent true other changed move same is next =
          let dropped : sent ≡ Outcome.Dropped = (let so : Some Outcome.Dropped ≡ Some sent = is in sym cc) in
          admitted true move same (next ∙ ap (λ (s : Sent). turned_by s changed) dropped)
      rests sent false true changed move same is next =
          let waits : sent ≡ Outcome.Waits = (let so : Some Outcome.Waits ≡ Some sent = is in sym cc) in
          admitted changed move same (next ∙ ap (λ (s : Sent). turned_by s changed) waits)
      rests sent false false changed move same is next = absurd (let never : no_one ≡ Some sent = is in cc)

      leaves : (p : PacketValue) (meta : Meta) (sent : Sent) (changed : Bool)
          → ((q : NeighborQuery) → plan_at x p ≡ Way.Ask q → is_other turn (target_of q) ≡ false → Such q) → Leaves moves turn x meta p sent x'
          → turned ≡ turned_by sent changed → TurnWalks Such x x' turned
      leaves p meta sent changed such (inl stays) next = by stays.0 stays.1 stays.4 where
        by : (given : Bool) → moves x.device (Allowed x.inner.instant given) x'.device
            → outcome_by given (held turn meta x.inner (destination_of p.header) (plan_at x p)) ≡ Some sent → TurnWalks Such x x' turned
        by false move is = no_leave move
        by true move is =
            rests sent (is_given_up meta x.inner (destination_of p.header) (plan_at x p)) (is_out_of_turn turn (plan_at x p)) changed move stays.2 is next
      leaves p meta sent changed such (inr goes) next =
          out goes.0 goes.1 p changed (plan_at x p) sent
          (λ q is. such q is (ap (is_out_of_turn turn) (sym is) ∙ held_not turn meta x.inner (destination_of p.header) (plan_at x p) goes.3)) goes.2 next

    sends : (o : Option PacketValue) (item item' : Item Socket) (changed : Bool) (turned : Served)
        → ((p : PacketValue) (q : NeighborQuery) → o ≡ Some p → plan_at x (sourced x.inner p) ≡ Way.Ask q → is_other turn (target_of q) ≡ false → Such q)
        → SendsBy moves turn o x item changed turned x' item' → TurnWalks Such x x' turned
    sends None item item' changed turned such goes = absurd goes
    sends (Some p) item item' changed turned such goes =
        leaves turned goes.0 item.meta goes.3.0 changed
        (λ q is. such p q refl (ap (plan_at x) (sym goes.1) ∙ is)) goes.3.1 goes.3.2

    answers : (answer : Answer.Offer) (item item' : Item Socket) (turned : Served)
        → ((p : PacketValue) (q : NeighborQuery) → offered_by item.socket ≡ Some p → plan_at x (sourced x.inner p) ≡ Way.Ask q → is_other turn (target_of q) ≡ false
        → Such q)
        → Answers moves turn answer x item turned x' item' → TurnWalks Such x x' turned
    answers (Offer.Packet changed) item item' turned such goes = sends (offered_by item.socket) item item' changed turned such goes
    answers (Offer.Silent changed) item item' turned such goes = still turned changed goes.1 goes.0

    turns_if : (waits : Bool) (item item' : Item Socket) (turned : Served) → is_waiting x.inner item.meta ≡ waits → AreSuch Such x (Some item)
        → TurnsIf moves turn waits x (let_through x.inner item) turned x' item' → TurnWalks Such x x' turned
    turns_if true item item' turned is such goes = still turned false goes.1 goes.0
    turns_if false item item' turned is such goes =
        answers goes.0 (record (let_through x.inner item) { socket = goes.1 }) item' turned
        (λ p q offered. such p q (is, (goes.0, goes.1, goes.2, offered))) goes.3

    item_turns : (o o' : Option (Item Socket)) (turned : Served) → AreSuch Such x o → ItemTurns moves turn o x turned x' o' → TurnWalks Such x x' turned
    item_turns None None turned such goes = still turned false goes.1 goes.0
    item_turns (Some item) (Some item') turned such goes = turns_if (is_waiting x.inner item.meta) item item' turned refl such goes
    item_turns None (Some item') turned such goes = absurd goes
    item_turns (Some item) None turned such goes = absurd goes

    pub walks : (p p' : Place) (turned : Served) → AreSuch Such x p.inner → ServesSlot moves turn x p turned x' p' → TurnWalks Such x x' turned
    walks p p' turned such goes = item_turns p.inner p'.inner turned such goes

  -- a question in its turn
  abbrev InTurn : InnerValue → NeighborQuery → Type 0
  InTurn i q = IsFrom i.hardware i.addresses q × (is_other turn (target_of q) ≡ false)

  walks_in_turn : (x x' : Sender D) (p p' : Place) (turned : Served) → ServesSlot moves turn x p turned x' p' → TurnWalks (InTurn x.inner) x x' turned
  walks_in_turn x x' p p' turned goes =
      walks (InTurn x.inner) x x' p p' turned
      (λ packet q offered is whose. (plan_from x.inner (is_some x.left) (sourced x.inner packet).header q is, whose)) goes

  asked_in_turn : (i i' : InnerValue) (xs : List Move) → AskedSo (InTurn i) i xs i' → AsksInTurn i turn xs
  asked_in_turn i i' xs asked = record { question = asked.question; from = asked.such.0; sent = asked.sent; whose = asked.such.1 }

  -- OUR TURN

  -- the device refused, or a question went
  record AsksOnce (i : InnerValue) (old new : D) : Type 0 where
    all : List Move
    are : AreMoves moves all old new
    what : (list_any is_refused all ≡ true) ⊎ AsksInTurn i turn all

  module _ (x x' : Sender D) (v : UdpValue) (d : UdpMetadata × List ℕ) (hop : IpAddress) (p : PacketValue) (has : HasToAsk x.inner v.settings d hop p)
      (ours : is_other turn hop ≡ false) where
    asks_now : (mid : D) (q : NeighborQuery) (sent : Sent) → moves x.device (Allowed x.inner.instant true) mid
        → IsFrom x.inner.hardware x.inner.addresses q → is_other turn (target_of q) ≡ false
        → Asked moves mid x.inner q sent x'.device x'.inner → AsksOnce x.inner x.device x'.device
    asks_now mid q Outcome.Waits leave from whose goes = record {
      all = Allowed x.inner.instant true ∷ Emitted (frame_of x.inner (Asks q)) ∷ [];
      are = (mid, leave, (x'.device, goes.0.0, refl));
      what = inr (record { question = q; from = from; sent = inr (inl refl); whose = whose });
    }
    asks_now mid q Outcome.Refused leave from whose goes = record {
      all = Allowed x.inner.instant true ∷ Denied (frame_len_of x.inner (Asks q)) ∷ [];
      are = (mid, leave, (x'.device, goes.0, refl));
      what = inl refl;
    }
    asks_now mid q Outcome.Gone leave from whose goes = absurd goes
    asks_now mid q Outcome.Dropped leave from whose goes = absurd goes
    asks_now mid q Outcome.Busy leave from whose goes = absurd goes

    not_held : (meta : Meta) (q : NeighborQuery) (given : Bool) (sent : Sent) → is_other turn (target_of q) ≡ false
        → moves x.device (Allowed x.inner.instant given) x'.device → outcome_by given (held turn meta x.inner (destination_of p.header) (Way.Ask q)) ≡ Some sent
        → AsksOnce x.inner x.device x'.device
    not_held meta q false sent whose move is = record { all = Allowed x.inner.instant false ∷ []; are = (x'.device, move, refl); what = inl refl }
    not_held meta q true sent whose move is =
        absurd (let never : no_one ≡ Some sent = sym (held_none turn meta x.inner (destination_of p.header) q has.room whose) ∙ is in cc)

    asks_leaving : (meta : Meta) (sent : Sent) → Leaves moves turn x meta p sent x' → AsksOnce x.inner x.device x'.device
    asks_leaving meta sent goes =
        let asks : (q : NeighborQuery) × (plan_at x p ≡ Way.Ask q) × (target_of q ≡ hop) = asks_plan x.inner (is_some x.left) v.settings d hop p has in
        let whose : is_other turn (target_of asks.0) ≡ false = ap (is_other turn) asks.2 ∙ ours in
        by asks.0 asks.1 whose goes
      where
        by : (q : NeighborQuery) → plan_at x p ≡ Way.Ask q → is_other turn (target_of q) ≡ false → Leaves moves turn x meta p sent x'
            → AsksOnce x.inner x.device x'.device
        by q plan whose (inl stays) =
            not_held meta q stays.0 sent whose stays.1
            (subst (λ (plan : Plan). outcome_by stays.0 (held turn meta x.inner (destination_of p.header) plan) ≡ Some sent) plan stays.4)
        by q plan whose (inr goes) =
            asks_now goes.0 q sent goes.1 (plan_from x.inner (is_some x.left) p.header q plan) whose
            (subst (λ (plan : Plan). IsTransmitted moves goes.0 x.inner x.left p plan sent x'.device x'.inner x'.left) plan goes.2).0

    our_asking : (more : List (UdpMetadata × List ℕ)) → contents v.queued ≡ d ∷ more → (meta : Meta) (slot : Place) (turned : Served)
        → is_waiting x.inner meta ≡ false
        → ServesSlot moves turn x (record { inner = Some (record { meta = meta; socket = Kind.Udp v }) }) turned x' slot → AsksOnce x.inner x.device x'.device
    our_asking more queued meta slot turned ready goes =
        let left : OursLeaves moves turn x x' v d p has.takes has.may meta turned slot.inner =
        our_leave moves turn x x' v d p has.takes has.may more queued meta slot turned ready goes in
        asks_leaving left.meta left.sent left.leaves

  -- THE PASS

  next_not : (b c : Bool) → Turn.Stop b ≡ Turn.Next c → ⊥
  next_not b c same = cc

  -- a pass only adds moves
  pub record Tail (old new : D) : Type 0 where
    pub all : List Move
    pub are : AreMoves moves all old new

  pub tail : (s : Sender D) (before : List Place) (changed : Bool) (ps : List Place) (e : Passed D) → Pass moves turn s before changed ps e
      → Tail s.device e.sender.device
  tail s before changed [] e ends = record { all = []; are = ap (λ (x : Passed D). x.sender.device) ends }
  tail s before changed (p ∷ ps) e (inl goes) =
      let took : TurnWalks (InTurn s.inner) s goes.1 (Turn.Next goes.0) = walks_in_turn s goes.1 p goes.2 (Turn.Next goes.0) goes.3 in
      let rest : Tail goes.1.device e.sender.device = tail goes.1 (before ++ goes.2 ∷ []) (changed || goes.0) ps e goes.4 in
      record {
        all = took.walked.all ++ rest.all;
        are = joined moves took.walked.all rest.all s.device goes.1.device e.sender.device took.walked.are rest.are;
      }
  tail s before changed (p ∷ ps) e (inr stops) =
      let took : TurnWalks (InTurn s.inner) s stops.1 (Turn.Stop stops.0) = walks_in_turn s stops.1 p stops.2 (Turn.Stop stops.0) stops.3 in
      record {
        all = took.walked.all;
        are = subst (λ (x : D). AreMoves moves took.walked.all s.device x) (sym (ap (λ (x : Passed D). x.sender.device) stops.4)) took.walked.are;
      }

  asked_before : (i : InnerValue) (xs ys : List Move) → AsksInTurn i turn xs → AsksInTurn i turn (xs ++ ys)
  asked_before i xs ys asks =
      record {
        question = asks.question;
        from = asks.from;
        sent = sends_before (frame_of i (Asks asks.question)) xs ys asks.sent;
        whose = asks.whose;
      }

  asked_following : (i j : InnerValue) (xs ys : List Move) → IsSameHost i j → AsksInTurn j turn ys → AsksInTurn i turn (xs ++ ys)
  asked_following i j xs ys same asks = record {
    question = asks.question;
    from = subst (λ (x : InnerValue). IsFrom x.hardware x.addresses asks.question) same asks.from;
    sent = sends_following (frame_of i (Asks asks.question)) xs ys
        (subst (λ (x : InnerValue). Sends (frame_of x (Asks asks.question)) ys) same asks.sent);
    whose = asks.whose;
  }

  module _ (v : UdpValue) (d : UdpMetadata × List ℕ) (more : List (UdpMetadata × List ℕ)) (queued : contents v.queued ≡ d ∷ more) (hop : IpAddress)
      (p : PacketValue) (meta : Meta) (ours : is_other turn hop ≡ false) where
    abbrev our_slot : Place
    our_slot = record { inner = Some (record { meta = meta; socket = Kind.Udp v }) }

    with_tail : (i : InnerValue) (old mid new : D) → AsksOnce i old mid → Tail mid new → AsksOnce i old new
    with_tail i old mid new asks rest = record {
      all = asks.all ++ rest.all;
      are = joined moves asks.all rest.all old mid new asks.are rest.are;
      what = by asks.what;
    } where
      by : (list_any is_refused asks.all ≡ true) ⊎ AsksInTurn i turn asks.all
          → (list_any is_refused (asks.all ++ rest.all) ≡ true) ⊎ AsksInTurn i turn (asks.all ++ rest.all)
      by (inl refused) = inl (refused_before asks.all rest.all refused)
      by (inr asked) = inr (asked_before i asks.all rest.all asked)

    pass_asks : (s : Sender D) (before : List Place) (changed : Bool) (ps : List Place) (n : ℕ) (e : Passed D) → slice_get ps n ≡ Some our_slot
        → HasToAsk s.inner v.settings d hop p → is_waiting s.inner meta ≡ false → Pass moves turn s before changed ps e
        → AsksOnce s.inner s.device e.sender.device
    pass_asks s before changed [] n e stands has ready goes = absurd (let never : no_slot ≡ Some our_slot = stands in cc)
    pass_asks s before changed (q ∷ ps) zero e stands has ready (inl goes) =
        with_tail s.inner s.device goes.1.device e.sender.device
        (our_asking s goes.1 v d hop p has ours more queued meta goes.2 (Turn.Next goes.0) ready
        (subst (λ (slot : Place). ServesSlot moves turn s slot (Turn.Next goes.0) goes.1 goes.2)
        (let same : Some q ≡ Some our_slot = stands in let at : q ≡ our_slot = cc in at) goes.3))
        (tail goes.1 (before ++ goes.2 ∷ []) (changed || goes.0) ps e goes.4)
    pass_asks s before changed (q ∷ ps) zero e stands has ready (inr stops) =
        subst (λ (x : D). AsksOnce s.inner s.device x) (sym (ap (λ (x : Passed D). x.sender.device) stops.4))
        (our_asking s stops.1 v d hop p has ours more queued meta stops.2 (Turn.Stop stops.0) ready
        (subst (λ (slot : Place). ServesSlot moves turn s slot (Turn.Stop stops.0) stops.1 stops.2)
        (let same : Some q ≡ Some our_slot = stands in let at : q ≡ our_slot = cc in at) stops.3))
    pass_asks s before changed (q ∷ ps) (suc n) e stands has ready (inl goes) =
        let took : TurnWalks (InTurn s.inner) s goes.1 (Turn.Next goes.0) = walks_in_turn s goes.1 q goes.2 (Turn.Next goes.0) goes.3 in
        let same : IsSameHost s.inner goes.1.inner = slot_same moves turn s goes.1 q goes.2 (Turn.Next goes.0) goes.3 in
        by took.walked same (λ has' ready'. pass_asks goes.1 (before ++ goes.2 ∷ []) (changed || goes.0) ps n e stands has' ready' goes.4) took.walked.what
      where
        later : IsSameHost s.inner goes.1.inner → (xs ys : List Move) → (list_any is_refused ys ≡ true) ⊎ AsksInTurn goes.1.inner turn ys
            → (list_any is_refused (xs ++ ys) ≡ true) ⊎ AsksInTurn s.inner turn (xs ++ ys)
        later same xs ys (inl refused) = inl (refused_following xs ys refused)
        later same xs ys (inr asked) = inr (asked_following s.inner goes.1.inner xs ys same asked)

        by : (walked : Walked (InTurn s.inner) s.inner s.device goes.1.device goes.1.inner) → IsSameHost s.inner goes.1.inner
            → (HasToAsk goes.1.inner v.settings d hop p → is_waiting goes.1.inner meta ≡ false → AsksOnce goes.1.inner goes.1.device e.sender.device)
            → (list_any is_refused walked.all ≡ true) ⊎ (AskedSo (InTurn s.inner) s.inner walked.all goes.1.inner ⊎ (goes.1.inner.neighbors ≡ s.inner.neighbors))
            → AsksOnce s.inner s.device e.sender.device
        by walked same more (inl refused) =
            with_tail s.inner s.device goes.1.device e.sender.device (record { all = walked.all; are = walked.are; what = inl refused })
            (tail goes.1 (before ++ goes.2 ∷ []) (changed || goes.0) ps e goes.4)
        by walked same more (inr (inl asked)) =
            with_tail s.inner s.device goes.1.device e.sender.device (record { all = walked.all; are = walked.are; what = inr (asked_in_turn s.inner goes.1.inner walked.all asked) })
            (tail goes.1 (before ++ goes.2 ∷ []) (changed || goes.0) ps e goes.4)
        by walked same more (inr (inr kept)) =
            let still : (HasToAsk goes.1.inner v.settings d hop p) × (is_waiting goes.1.inner meta ≡ false) =
            kept_in s.inner goes.1.inner v.settings d hop p meta same kept has ready in
            let rest : AsksOnce goes.1.inner goes.1.device e.sender.device = more still.0 still.1 in
            record {
              all = walked.all ++ rest.all;
              are = joined moves walked.all rest.all s.device goes.1.device e.sender.device walked.are rest.are;
              what = later same walked.all rest.all rest.what;
            }
    pass_asks s before changed (q ∷ ps) (suc n) e stands has ready (inr stops) =
        let took : TurnWalks (InTurn s.inner) s stops.1 (Turn.Stop stops.0) = walks_in_turn s stops.1 q stops.2 (Turn.Stop stops.0) stops.3 in
        record {
          all = took.walked.all;
          are = subst (λ (x : D). AreMoves moves took.walked.all s.device x) (sym (ap (λ (x : Passed D). x.sender.device) stops.4)) took.walked.are;
          what = inl (refused stops.0 took.walked.all took.stops);
        }
      where
        refused : (b : Bool) (xs : List Move) → (list_any is_refused xs ≡ true) ⊎ ((c : Bool) × (Turn.Stop b ≡ Turn.Next c)) → list_any is_refused xs ≡ true
        refused b xs (inl is) = is
        refused b xs (inr next) = absurd (next_not b next.0 next.1)

-- THE STEP

module _ {D : Type 0} (moves : D → Move → D → Type 0) (v : UdpValue) (d : UdpMetadata × List ℕ) (more : List (UdpMetadata × List ℕ))
    (queued : contents v.queued ≡ d ∷ more) (hop : IpAddress) (p : PacketValue) (meta : Meta) where
  stays : (turn : Option IpAddress) (left : Option LeftValue) (s mid : Sender D) → Clears moves left s false mid → AsksOnce moves turn s.inner s.device mid.device
  stays turn None s mid goes = absurd (let clash : false ≡ true = goes.0 in cc)
  stays turn (Some l) s mid goes = refused goes.0 where
    refused : FragmentLeaves moves l s false mid → AsksOnce moves turn s.inner s.device mid.device
    refused (inl stays) = record { all = Allowed s.inner.instant false ∷ []; are = (mid.device, stays.0, refl); what = inl refl }
    refused (inr goes) = record {
      all = Allowed s.inner.instant true ∷ Denied (frame_len_of s.inner (departure_from s.inner l)) ∷ [];
      are = (goes.0, goes.1, (mid.device, goes.2.0, refl));
      what = inl refl;
    }

  following : (turn : Option IpAddress) (i : InnerValue) (xs : List Move) (old mid new : D) → AreMoves moves xs old mid → AsksOnce moves turn i mid new
      → AsksOnce moves turn i old new
  following turn i xs old mid new are rest = record {
    all = xs ++ rest.all;
    are = joined moves xs rest.all old mid new are rest.are;
    what = by rest.what;
  } where
    by : (list_any is_refused rest.all ≡ true) ⊎ AsksInTurn i turn rest.all
        → (list_any is_refused (xs ++ rest.all) ≡ true) ⊎ AsksInTurn i turn (xs ++ rest.all)
    by (inl refused) = inl (refused_following xs rest.all refused)
    by (inr asked) = inr (asked_following moves turn i i xs rest.all (same_where i i refl) asked)

  egress_asks : (s : Sender D) (ps : List Place) (n : ℕ) (e : Passed D) → slice_get ps n ≡ Some (record { inner = Some (record { meta = meta; socket = Kind.Udp v }) })
      → HasToAsk s.inner v.settings d hop p → is_waiting s.inner meta ≡ false → is_other (turn_of s.inner ps) hop ≡ false → Egress moves s ps e
      → AsksOnce moves (turn_of s.inner ps) s.inner s.device e.sender.device
  egress_asks s ps n e stands has ready ours (inl waits) =
      subst (λ (x : D). AsksOnce moves (turn_of s.inner ps) s.inner s.device x) (sym (ap (λ (x : Passed D). x.sender.device) waits.2))
      (stays (turn_of s.inner ps) s.left s waits.0 waits.1)
  egress_asks s ps n e stands has ready ours (inr goes) =
      let fragment : FragmentEnds moves s goes.0 true = clears moves s.left s goes.0 true refl goes.1 in
      by goes.0 fragment (clears_same moves s.left s goes.0 true goes.1) goes.2
    where
      by : (mid : Sender D) → FragmentEnds moves s mid true → mid.inner ≡ s.inner → Pass moves (turn_of mid.inner ps) mid [] false ps e
          → AsksOnce moves (turn_of s.inner ps) s.inner s.device e.sender.device
      by mid fragment same passes =
          let pass : Pass moves (turn_of s.inner ps) mid [] false ps e =
          subst (λ (i : InnerValue). Pass moves (turn_of i ps) mid [] false ps e) same passes in
          let has' : HasToAsk mid.inner v.settings d hop p = subst (λ (i : InnerValue). HasToAsk i v.settings d hop p) (sym same) has in
          let ready' : is_waiting mid.inner meta ≡ false = subst (λ (i : InnerValue). is_waiting i meta ≡ false) (sym same) ready in
          following (turn_of s.inner ps) s.inner fragment.all s.device mid.device e.sender.device fragment.are
          (subst (λ (i : InnerValue). AsksOnce moves (turn_of s.inner ps) i mid.device e.sender.device) same
          (pass_asks moves (turn_of s.inner ps) v d more queued hop p meta ours mid [] false ps n e stands has' ready' pass))

pub step_asks : {D : Type 0} (moves : D → Move → D → Type 0) (t : ℤ) (s s' : State D) (answer : Option Bool) (n : ℕ) (v : UdpValue)
    (d : UdpMetadata × List ℕ) (more : List (UdpMetadata × List ℕ)) (hop : IpAddress) (p : PacketValue)
    → HasTurn (at_instant t s.host.inner) s.slots n v → contents v.queued ≡ d ∷ more → HasToAsk (at_instant t s.host.inner) v.settings d hop p
    → is_other (turn_of (at_instant t s.host.inner) s.slots) hop ≡ false → EgressStep moves t s answer s'
    → AsksAtOnce moves (at_instant t s.host.inner) (turn_of (at_instant t s.host.inner) s.slots) s.device s'.device
step_asks {D} moves t s s' answer n v d more hop p turn queued has ours step =
    let asks : AsksOnce moves (turn_of (at_instant t s.host.inner) s.slots) (at_instant t s.host.inner) s.device step.0.sender.device =
    egress_asks moves v d more queued hop p turn.meta (sending t s) s.slots n step.0 turn.stands has turn.ready ours
    (egress_alone moves (sending t s) s.slots step.0 has.alone step.1) in
    record {
      all = asks.all;
      are = subst (λ (x : D). AreMoves moves asks.all s.device x) (sym (ap (λ (x : State D). x.device) step.2)) asks.are;
      what = asks.what;
    }
