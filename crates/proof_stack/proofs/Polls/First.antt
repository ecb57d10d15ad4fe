-- A step of the egress path in which a datagram's next hop is asked for: the question is for that one, and the datagram stays the first of its socket.
use Rattle.std.proofs.Common.{◌≡◌, ℕ, zero, suc, ◌+◌, Bool, true, false, ◌&&◌, ◌||◌, if◌then◌else◌, ◌⊎◌, inl, inr, ℤ, List, [], ◌∷◌, ◌++◌, length}
use Rattle.std.proofs.Common.{Option, Some, None, is_some, refl, sym, ap, ◌∙◌, subst, arith, append_assoc, length-append}
use Rattle.std.specs.Prelude.{not, slice_get, take}
use Rattle.std.specs.List.{list_any, AllByRecursion}
use Rattle.std.proofs.lemmas.Slice.Eq.{bytes_eq-Decides}
use Rattle.net_base.specs.Device.{Move, Allowed, Emitted, Denied}
use Rattle.net_base.specs.Packets.{contents}
use Rattle.base_buffer.proofs.PacketLaws.{contents-unpadded}
use Rattle.ip_wire.specs.AddressTests.{is_same_address}
use Rattle.ip_wire.specs.Ip.{destination_of}
use Rattle.ip_wire.specs.IpAddress.{IpAddress}
use Rattle.ip_wire.specs.IpAddress.TheVariants as Address
use Rattle.socket_datagram.specs.Offers.{left_with}
use Rattle.socket_datagram.specs.SocketValue as Datagrams
use Rattle.socket_datagram.specs.Udp.{UdpValue, TakesDatagram}
use Rattle.socket_datagram.specs.declared.udp.UdpMetadata.{UdpMetadata}
use Rattle.iface_ingress.specs.Context.{ContextValue}
use Rattle.iface_ingress.specs.Packet.{PacketValue}
use Rattle.iface_ingress.specs.Socket.{Socket}
use Rattle.iface_ingress.specs.Socket.TheVariants as Kind
use Rattle.iface_ingress.specs.Sockets.{Offers}
use Rattle.iface_tables.specs.Inner.{InnerValue, at_instant, context_of, context_towards, is_crowded, link_address, with_request}
use Rattle.iface_tables.specs.Neighbor.{CacheValue, requested}
use Rattle.iface_tables.specs.declared.link.LinkAddress.{LinkAddress}
use Rattle.iface_tables.specs.declared.link.LinkAddress.TheVariants as Link
use Rattle.iface_egress.specs.Departure.{Asks, target_of}
use Rattle.iface_egress.specs.Fragments.{LeftValue, departure_from}
use Rattle.iface_egress.specs.IsTransmitted.{IsTransmitted, Asked, frame_of, frame_len_of}
use Rattle.iface_egress.specs.Meta.{freed, missed}
use Rattle.iface_egress.specs.Plan.{never_leaves, plan_by}
use Rattle.iface_egress.specs.declared.frame.NeighborQuery.{NeighborQuery}
use Rattle.iface_egress.specs.declared.plan.Plan.{Plan}
use Rattle.iface_egress.specs.declared.plan.Plan.TheVariants as Way
use Rattle.iface_egress.specs.declared.socket_meta.Meta.{Meta}
use Rattle.iface_egress.specs.declared.socket_set.Item.{Item}
use Rattle.iface_egress.specs.declared.socket_set.SocketStorage.{SocketStorage}
use Rattle.iface_egress.specs.declared.egress_path.Sent.{Sent}
use Rattle.iface_egress.specs.declared.egress_path.Sent.TheVariants as Outcome
use Rattle.interface.specs.Awaited.{turn_of}
use Rattle.interface.specs.Egress.{EgressStep, following, sending}
use Rattle.interface.specs.Host.{Sender}
use Rattle.interface.specs.Pass.{Passed}
use Rattle.interface.specs.Remote.{context_for, remote_of}
use Rattle.interface.specs.SameHost.{IsSameHost}
use Rattle.interface.specs.State.{State}
use Rattle.interface.specs.Serve.{is_given_up, passes_filter, is_other, is_out_of_turn, is_waiting, held, outcome_by, plan_at, settled_by, sourced}
use Rattle.interface.specs.Serve.{turned_by, waits_until, Leaves}
use Rattle.interface.specs.EgressPath.{FragmentLeaves, Clears}
use Rattle.interface.specs.declared.serve.Served.{Served}
use Rattle.interface.specs.declared.serve.Served.TheVariants as Turn
use Rattle.interface.proofs.Alone.{same_alone}
use Rattle.interface.proofs.SameHost.{same_flag, same_where, same_then}
use Rattle.interface.proofs.Sourced.{sourced_same}
use Rattle.proof_stack.specs.Progress.NeighborResolution.{HasToAsk, IsFrom, AsksFirst, MayOffer, NeedsNoOther}
use Rattle.proof_stack.specs.Progress.Exchanged.{AsksFor, AsksForIt, IsMarkFor, IsStillFirst}
use Rattle.proof_stack.specs.Progress.Moves.{AreMoves, is_refused}
use Rattle.proof_stack.proofs.Polls.Asking.{AreSuch, AskedSo, Tail, TurnWalks, tail, walks}
use Rattle.proof_stack.proofs.Polls.Asks.{asks_plan, asks_under, held_none, plan_for, plan_from, sought_under}
use Rattle.proof_stack.proofs.Polls.Goes.{stands_at}
use Rattle.proof_stack.proofs.Polls.OurLeave.{OursLeaves, our_leave}
use Rattle.proof_stack.proofs.Polls.Passes.{FragmentEnds, clears, clears_same}
use Rattle.proof_stack.proofs.Polls.Silenced.{nobody_sought, silent_link, sought}
use Rattle.proof_stack.proofs.Polls.Walks.{joined, refused_before, refused_following, sends_before, sends_following}
use Rattle.proof_stack.proofs.Polls.Ways.{waits_still, with_ident_same}
use Rattle.proof_stack.proofs.Parkless.{Egress, Pass, ServesSlot, egress_alone, kept, slot_same}

abbrev Place : Type 0
Place = SocketStorage Socket

abbrev no_slot : Option Place
no_slot = None

abbrev no_one : Option Sent
no_one = None

abbrev slot_with : Option (Item Socket) → Place
slot_with o = record { inner = o }

pub same_address : (a b : IpAddress) → is_same_address a b ≡ true → a ≡ b
same_address (Address.Ipv4 a) (Address.Ipv4 b) is = ap (λ (bs : List ℕ). Address.Ipv4 (record { 0 = bs })) ((bytes_eq-Decides a.0 b.0).0 is)
same_address (Address.Ipv6 a) (Address.Ipv6 b) is = ap (λ (bs : List ℕ). Address.Ipv6 (record { 0 = bs })) ((bytes_eq-Decides a.0 b.0).0 is)
same_address (Address.Ipv4 a) (Address.Ipv6 b) is = absurd (let no : false ≡ true = is in cc)
same_address (Address.Ipv6 a) (Address.Ipv4 b) is = absurd (let no : false ≡ true = is in cc)

not_other : (b : Bool) → not b ≡ false → b ≡ true
not_other true is = refl
not_other false is = absurd (let clash : true ≡ false = is in cc)

-- of two that it is the turn of the one is the other
pub one_turn : (turn hop other : IpAddress) → is_other (Some turn) hop ≡ false → is_other (Some turn) other ≡ false → other ≡ hop
one_turn turn hop other ours its =
    sym (same_address turn other (not_other (is_same_address turn other) its)) ∙ same_address turn hop (not_other (is_same_address turn hop) ours)

and_none : (b : Bool) → (b && false) ≡ false
and_none true = refl
and_none false = refl

stops_not : (b c : Bool) → Turn.Stop b ≡ Turn.Next c → ⊥
stops_not b c same = cc

-- THE HOST OF A TURN

-- what the turns so far left of a host, as a number and what is known of neighbours
pub host_then : (i j : InnerValue) (c : CacheValue) → i.host_requirements ≡ false → IsSameHost i j → c.entries ≡ i.neighbors.entries → j.neighbors ≡ c
    → j ≡ record i { ident = j.ident; neighbors = record i.neighbors { silent = c.silent; searches = c.searches } }
host_then i j c alone same entries is =
    same_alone i j alone same ∙ ap (λ (k : CacheValue). record i { ident = j.ident; neighbors = record i.neighbors { silent = k.silent; searches = k.searches } }) is

pub offers_under : (i : InnerValue) (ident : ℕ) (s : Socket) → context_for (record i { ident = ident }) s ≡ context_for i s
offers_under i ident s = by (remote_of s) where
  by : (o : Option IpAddress) → context_towards (record i { ident = ident }) o ≡ context_towards i o
  by None = refl
  by (Some address) = refl

may_offer : (i : InnerValue) (ident : ℕ) (o : Option (Item Socket)) (p : PacketValue) → MayOffer (record i { ident = ident }) o p → MayOffer i o p
may_offer i ident None p is = absurd is
may_offer i ident (Some item) p is = (
  waits_still (record i { ident = ident }) i item.meta (with_ident_same (record i { ident = ident }) i.ident) is.0,
  (
    is.1.0,
    is.1.1,
    subst (λ (cx : ContextValue). Offers cx item.socket is.1.0 is.1.1)
        (offers_under i ident item.socket) is.1.2,
    is.1.3,
  ),
)

module _ {D : Type 0} (moves : D → Move → D → Type 0) (turn : Option IpAddress) (v : UdpValue) (d : UdpMetadata × List ℕ)
    (more : List (UdpMetadata × List ℕ)) (queued : contents v.queued ≡ d ∷ more) (hop : IpAddress) (p : PacketValue) (meta : Meta) (i : InnerValue)
    (has : HasToAsk i v.settings d hop p) (ready : is_waiting i meta ≡ false)
    (spared : is_given_up meta (with_request i hop) (destination_of p.header) Way.Wait ≡ false) (whose : is_other turn hop ≡ false) where
  abbrev to : IpAddress
  to = destination_of p.header

  abbrev our_slot : Place
  our_slot = record { inner = Some (record { meta = meta; socket = Kind.Udp v }) }

  abbrev following_it : CacheValue
  following_it = requested i.neighbors hop i.instant

  -- OUR TURN

  -- the socket stays as it was, marked for the destination
  record Stays (turned : Served) (o : Option (Item Socket)) : Type 0 where
    mark : Meta
    value : UdpValue
    stands : o ≡ Some (record { meta = mark; socket = Kind.Udp value })
    settings : value.settings ≡ v.settings
    first : contents value.queued ≡ d ∷ more
    marked : IsMarkFor mark.waiting to
    next : turned ≡ Turn.Next false

  record OurEnds (Also : List Move → Type 0) (old new : D) (turned : Served) (o : Option (Item Socket)) : Type 0 where
    all : List Move
    are : AreMoves moves all old new
    what : (list_any is_refused all ≡ true) ⊎ (Also all × Stays turned o)

  abbrev Anything : List Move → Type 0
  Anything all = Unit {0}

  module _ (x x' : Sender D) where
    -- it is told that its packet waits
    waits : (was : Meta) (until : ℤ) (turned : Served) (o : Option (Item Socket)) → turned ≡ turned_by Outcome.Waits false
        → o ≡ Some (settled_by Outcome.Waits x.inner.instant until to (record { meta = was; socket = Kind.Udp (left_with (Some p) v) })) → Stays turned o
    waits was until turned o next became = record {
      mark = missed was x.inner.instant to until;
      value = Datagrams.settled false (left_with (Some p) v);
      stands = became;
      settings = refl;
      first = contents-unpadded v.queued ∙ queued;
      marked = refl;
      next = next;
    }

    -- ASKED FOR NOW

    module _ (asks : HasToAsk x.inner v.settings d hop p) (turned : Served) (o : Option (Item Socket)) where
      abbrev AsksNow : Type 0
      AsksNow = OurEnds (AsksFor x.inner hop) x.device x'.device turned o

      asked : (mid : D) (q : NeighborQuery) (sent : Sent) → target_of q ≡ hop → IsFrom x.inner.hardware x.inner.addresses q
          → moves x.device (Allowed x.inner.instant true) mid → Asked moves mid x.inner q sent x'.device x'.inner → (sent ≡ Outcome.Waits → Stays turned o)
          → AsksNow
      asked mid q Outcome.Waits whom from leave goes stays = record {
        all = Allowed x.inner.instant true ∷ Emitted (frame_of x.inner (Asks q)) ∷ [];
        are = (mid, leave, (x'.device, goes.0.0, refl));
        what = inr (record { question = q; from = from; sent = inr (inl refl); whom = whom }, stays refl);
      }
      asked mid q Outcome.Refused whom from leave goes stays = record {
        all = Allowed x.inner.instant true ∷ Denied (frame_len_of x.inner (Asks q)) ∷ [];
        are = (mid, leave, (x'.device, goes.0, refl));
        what = inl refl;
      }
      asked mid q Outcome.Gone whom from leave goes stays = absurd goes
      asked mid q Outcome.Dropped whom from leave goes stays = absurd goes
      asked mid q Outcome.Busy whom from leave goes stays = absurd goes

      asks_held : (was : Meta) (q : NeighborQuery) (given : Bool) (sent : Sent) → target_of q ≡ hop → moves x.device (Allowed x.inner.instant given) x'.device
          → outcome_by given (held turn was x.inner to (Way.Ask q)) ≡ Some sent → AsksNow
      asks_held was q false sent whom move is = record { all = Allowed x.inner.instant false ∷ []; are = (x'.device, move, refl); what = inl refl }
      asks_held was q true sent whom move is =
          absurd (let never : no_one ≡ Some sent = sym (held_none turn was x.inner to q asks.room (ap (is_other turn) whom ∙ whose)) ∙ is in cc)

      asks_leaving : (was : Meta) (sent : Sent) → Leaves moves turn x was p sent x' → (sent ≡ Outcome.Waits → Stays turned o) → AsksNow
      asks_leaving was sent goes stays =
          let plan : (q : NeighborQuery) × (plan_at x p ≡ Way.Ask q) × (target_of q ≡ hop) = asks_plan x.inner (is_some x.left) v.settings d hop p asks in
          by plan.0 plan.1 plan.2 goes
        where
          by : (q : NeighborQuery) → plan_at x p ≡ Way.Ask q → target_of q ≡ hop → Leaves moves turn x was p sent x' → AsksNow
          by q plan whom (inl rests) =
              asks_held was q rests.0 sent whom rests.1
              (subst (λ (plan : Plan). outcome_by rests.0 (held turn was x.inner to plan) ≡ Some sent) plan rests.4)
          by q plan whom (inr out) =
              asked out.0 q sent whom (plan_from x.inner (is_some x.left) p.header q plan) out.1
              (subst (λ (plan : Plan). IsTransmitted moves out.0 x.inner x.left p plan sent x'.device x'.inner x'.left) plan out.2).0 stays

    -- ASKED FOR ALREADY

    module _ (plan : plan_at x p ≡ Way.Wait) (may : never_leaves x.inner p.header ≡ false) (turned : Served) (o : Option (Item Socket)) where
      abbrev WaitsOn : Type 0
      WaitsOn = OurEnds Anything x.device x'.device turned o

      wait_held : (was : Meta) (given : Bool) (sent : Sent) → is_given_up was x.inner to Way.Wait ≡ false
          → moves x.device (Allowed x.inner.instant given) x'.device → outcome_by given (held turn was x.inner to Way.Wait) ≡ Some sent → WaitsOn
      wait_held was false sent kept move is = record { all = Allowed x.inner.instant false ∷ []; are = (x'.device, move, refl); what = inl refl }
      wait_held was true sent kept move is =
          absurd (let never : no_one ≡ Some sent =
          sym (ap (λ (b : Bool). if b then Some Outcome.Dropped else if is_out_of_turn turn Way.Wait then Some Outcome.Waits else None) kept) ∙ is in cc)

      wait_leaving : (was : Meta) (sent : Sent) → is_given_up was x.inner to Way.Wait ≡ false → Leaves moves turn x was p sent x'
          → (sent ≡ Outcome.Waits → Stays turned o) → WaitsOn
      wait_leaving was sent kept (inl rests) stays =
          wait_held was rests.0 sent kept rests.1
          (subst (λ (plan : Plan). outcome_by rests.0 (held turn was x.inner to plan) ≡ Some sent) plan rests.4)
      wait_leaving was sent kept (inr out) stays =
          let goes : IsTransmitted moves out.0 x.inner x.left p Way.Wait sent x'.device x'.inner x'.left =
          subst (λ (plan : Plan). IsTransmitted moves out.0 x.inner x.left p plan sent x'.device x'.inner x'.left) plan out.2 in
          record { all = Allowed x.inner.instant true ∷ []; are = (out.0, out.1, goes.1.0); what = inr (tt, stays goes.0) }

    -- where its neighbour is known the mark is gone, and it didn't wait for long
    still_spared : (known : Bool) → is_given_up meta x.inner to Way.Wait ≡ false → is_given_up (freed meta known) x.inner to Way.Wait ≡ false
    still_spared true kept = and_none (is_crowded x.inner)
    still_spared false kept = kept

    abbrev Took : Served → Place → Type 0
    Took turned slot = ServesSlot moves turn x our_slot turned x' slot

    our_stays : (takes : TakesDatagram (context_of x.inner) v.settings d p)
        (may : never_leaves x.inner p.header ≡ false) (turned : Served) (o : Option (Item Socket))
        (left : OursLeaves moves turn x x' v d p takes may meta turned o) → left.sent ≡ Outcome.Waits → Stays turned o
    our_stays takes may turned o left is =
        waits left.meta (waits_until (plan_at x p) x'.inner) turned o (left.next ∙ ap (λ (s : Sent). turned_by s false) is)
        (left.became ∙ ap (λ (s : Sent). Some (settled_by s x.inner.instant (waits_until (plan_at x p) x'.inner) to
        (record { meta = left.meta; socket = Kind.Udp (left_with (Some p) v) }))) is)

    our_asks : HasToAsk x.inner v.settings d hop p → is_waiting x.inner meta ≡ false → (slot : Place) (turned : Served) → Took turned slot
        → OurEnds (AsksFor x.inner hop) x.device x'.device turned slot.inner
    our_asks asks now slot turned goes =
        let left : OursLeaves moves turn x x' v d p asks.takes asks.may meta turned slot.inner =
        our_leave moves turn x x' v d p asks.takes asks.may more queued meta slot turned now goes in
        asks_leaving asks turned slot.inner left.meta left.sent left.leaves (our_stays asks.takes asks.may turned slot.inner left)

    our_waits : (takes : TakesDatagram (context_of x.inner) v.settings d p)
        (may : never_leaves x.inner p.header ≡ false) → plan_at x p ≡ Way.Wait → is_given_up meta x.inner to Way.Wait ≡ false
        → is_waiting x.inner meta ≡ false → (slot : Place) (turned : Served) → Took turned slot
        → OurEnds Anything x.device x'.device turned slot.inner
    our_waits takes may plan kept now slot turned goes =
        let left : OursLeaves moves turn x x' v d p takes may meta turned slot.inner =
        our_leave moves turn x x' v d p takes may more queued meta slot turned now goes in
        wait_leaving plan may turned slot.inner left.meta left.sent
        (subst (λ (m : Meta). is_given_up m x.inner to Way.Wait ≡ false) (sym left.let_in) (still_spared (passes_filter x.inner meta) kept)) left.leaves
        (our_stays takes may turned slot.inner left)

  -- THE PASS

  -- of a pass: the device refused, or this went and the datagram is still first
  record Ends (Also : List Move → Type 0) (k : ℕ) (old : D) (e : Passed D) : Type 0 where
    all : List Move
    are : AreMoves moves all old e.sender.device
    what : (list_any is_refused all ≡ true) ⊎ (Also all × IsStillFirst e.slots k v d to)

  -- what a longer list has where a part of it does
  record Grows (Also : List Move → Type 0) : Type 0 where
    before : (xs ys : List Move) → Also xs → Also (xs ++ ys)
    following : (xs ys : List Move) → Also ys → Also (xs ++ ys)

  anything_grows : Grows Anything
  anything_grows = record { before = λ xs ys is. tt; following = λ xs ys is. tt }

  asks_grows : (j : InnerValue) → Grows (AsksFor j hop)
  asks_grows j = record {
    before = λ xs ys is. record { question = is.question; from = is.from; sent = sends_before (frame_of j (Asks is.question)) xs ys is.sent; whom = is.whom };
    following = λ xs ys is. record { question = is.question; from = is.from; sent = sends_following (frame_of j (Asks is.question)) xs ys is.sent; whom = is.whom };
  }

  -- a host of the same host and addresses asks with the same frames
  as_asked : (j : InnerValue) (all : List Move) → IsSameHost i j → AsksFor j hop all → AsksFor i hop all
  as_asked j all same is = subst (λ (k : InnerValue). AsksFor k hop all → AsksFor i hop all) (sym same) (λ it. record {
    question = it.question;
    from = it.from;
    sent = it.sent;
    whom = it.whom;
  }) is

  refused_then : (Also : List Move → Type 0) (s mid : Sender D) (k : ℕ) (xs : List Move) (before : List Place) (changed : Bool) (ps : List Place) (e : Passed D)
      → AreMoves moves xs s.device mid.device → list_any is_refused xs ≡ true → Pass moves turn mid before changed ps e → Ends Also k s.device e
  refused_then Also s mid k xs before changed ps e are refused goes =
      let rest : Tail moves turn mid.device e.sender.device = tail moves turn mid before changed ps e goes in
      record {
        all = xs ++ rest.all;
        are = joined moves xs rest.all s.device mid.device e.sender.device are rest.are;
        what = inl (refused_before xs rest.all refused);
      }

  -- our turn, and those after it
  at_our_slot : (Also : List Move → Type 0) → Grows Also → (s mid : Sender D) (before : List Place) (changed b : Bool) (p' : Place) (ps : List Place)
      (k : ℕ) (e : Passed D) → OurEnds Also s.device mid.device (Turn.Next b) p'.inner → k ≡ length before
      → Pass moves turn mid (before ++ p' ∷ []) (changed || b) ps e → Ends Also k s.device e
  at_our_slot Also grows s mid before changed b p' ps k e took is goes =
      let rest : Tail moves turn mid.device e.sender.device = tail moves turn mid (before ++ p' ∷ []) (changed || b) ps e goes in
      record {
        all = took.all ++ rest.all;
        are = joined moves took.all rest.all s.device mid.device e.sender.device took.are rest.are;
        what = by took.all rest.all took.what;
      }
    where
      by : (xs ys : List Move) → (list_any is_refused xs ≡ true) ⊎ (Also xs × Stays (Turn.Next b) p'.inner)
          → (list_any is_refused (xs ++ ys) ≡ true) ⊎ (Also (xs ++ ys) × IsStillFirst e.slots k v d to)
      by xs ys (inl refused) = inl (refused_before xs ys refused)
      by xs ys (inr it) =
          let end = kept moves turn mid (before ++ p' ∷ []) (changed || b) ps e goes in
          let here : slice_get e.slots k ≡ Some p' =
          ap (λ (all : List Place). slice_get all k) (end.1 ∙ append_assoc before (p' ∷ []) end.0)
          ∙ ap (λ (n : ℕ). slice_get (before ++ p' ∷ end.0) n) is ∙ stands_at before end.0 p' in
          inr (
            grows.before xs ys it.0,
            record {
              meta = it.1.mark;
              value = it.1.value;
              more = more;
              stands = here ∙ ap (λ (o : Option (Item Socket)). Some (slot_with o)) it.1.stands;
              settings = it.1.settings;
              first = it.1.first;
              mark = it.1.marked;
            },
          )

  -- a turn that ends the pass is one that the device refused
  at_stop : (Also : List Move → Type 0) (s mid : Sender D) (b : Bool) (p' : Place) (k : ℕ) (e : Passed D)
      → OurEnds Also s.device mid.device (Turn.Stop b) p'.inner → e.sender.device ≡ mid.device → Ends Also k s.device e
  at_stop Also s mid b p' k e took is = record {
    all = took.all;
    are = subst (λ (x : D). AreMoves moves took.all s.device x) (sym is) took.are;
    what = by took.all took.what;
  } where
    by : (xs : List Move) → (list_any is_refused xs ≡ true) ⊎ (Also xs × Stays (Turn.Stop b) p'.inner)
        → (list_any is_refused xs ≡ true) ⊎ (Also xs × IsStillFirst e.slots k v d to)
    by xs (inl refused) = inl refused
    by xs (inr it) = absurd (stops_not b false it.1.next)

  stopped : (Also : List Move → Type 0) (Such : NeighborQuery → Type 0) (s mid : Sender D) (b : Bool) (k : ℕ) (e : Passed D)
      → TurnWalks moves turn Such s mid (Turn.Stop b) → e.sender.device ≡ mid.device → Ends Also k s.device e
  stopped Also Such s mid b k e took is = record {
    all = took.walked.all;
    are = subst (λ (x : D). AreMoves moves took.walked.all s.device x) (sym is) took.walked.are;
    what = inl (by took.walked.all took.stops);
  } where
    by : (xs : List Move) → (list_any is_refused xs ≡ true) ⊎ ((c : Bool) × (Turn.Stop b ≡ Turn.Next c)) → list_any is_refused xs ≡ true
    by xs (inl refused) = refused
    by xs (inr next) = absurd (stops_not b next.0 next.1)

  then_ends : (Also : List Move → Type 0) → Grows Also → (s mid : Sender D) (k : ℕ) (xs : List Move) (e : Passed D) → AreMoves moves xs s.device mid.device
      → Ends Also k mid.device e → Ends Also k s.device e
  then_ends Also grows s mid k xs e are rest = record {
    all = xs ++ rest.all;
    are = joined moves xs rest.all s.device mid.device e.sender.device are rest.are;
    what = by rest.what;
  } where
    by : (list_any is_refused rest.all ≡ true) ⊎ (Also rest.all × IsStillFirst e.slots k v d to)
        → (list_any is_refused (xs ++ rest.all) ≡ true) ⊎ (Also (xs ++ rest.all) × IsStillFirst e.slots k v d to)
    by (inl refused) = inl (refused_following xs rest.all refused)
    by (inr it) = inr (grows.following xs rest.all it.0, it.1)

  one_more : (xs : List Place) (x : Place) (n : ℕ) → length xs + suc n ≡ length (xs ++ x ∷ []) + n
  one_more xs x n = let both = length-append xs (x ∷ []) in omega (arith, both)

  none_more : (m : ℕ) → m + 0 ≡ m
  none_more m = omega arith

  is_ours : (q : Place) → Some q ≡ Some our_slot → q ≡ our_slot
  is_ours q is = let at : q ≡ our_slot = cc in at

  -- BEHIND THE QUESTION

  module _ (s : Sender D) (same : IsSameHost i s.inner) (known : s.inner.neighbors ≡ following_it) where
    is_following : s.inner ≡ record i { ident = s.inner.ident; neighbors = following_it }
    is_following = host_then i s.inner following_it has.alone same refl known

    wait_may : never_leaves s.inner p.header ≡ false
    wait_may = subst (λ (j : InnerValue). never_leaves j p.header ≡ false) (sym is_following) has.may

    wait_takes : TakesDatagram (context_of s.inner) v.settings d p
    wait_takes =
        subst (λ (j : InnerValue). TakesDatagram (context_of j) v.settings d p) (sym is_following)
        has.takes

    wait_plan : plan_at s p ≡ Way.Wait
    wait_plan =
        ap (λ (never : Bool). if never then Way.Drop else plan_by (link_address s.inner to) s.inner (is_some s.left) p.header) wait_may
        ∙ ap (λ (l : LinkAddress). plan_by l s.inner (is_some s.left) p.header)
        (ap (λ (j : InnerValue). link_address j to) is_following ∙ silent_link i to hop has.alone s.inner.ident (sought i to hop has.alone has.unknown))

    wait_spared : is_given_up meta s.inner to Way.Wait ≡ false
    wait_spared = subst (λ (j : InnerValue). is_given_up meta j to Way.Wait ≡ false) (sym is_following) spared

    wait_ready : is_waiting s.inner meta ≡ false
    wait_ready = waits_still i s.inner meta same ready

    nobody : (slot : Place) → AreSuch moves turn (λ (q : NeighborQuery). ⊥) s slot.inner
    nobody slot packet q offered plan its =
        nobody_sought s.inner hop (target_of q) (destination_of (sourced s.inner packet).header) i.neighbors (same_flag i s.inner same ∙ has.alone)
        (known ∙ ap (λ (j : InnerValue). requested i.neighbors hop j.instant) (sym same))
        (plan_for s.inner (is_some s.left) (sourced s.inner packet).header q plan)

  pass_second : (s : Sender D) (before : List Place) (changed : Bool) (ps : List Place) (n k : ℕ) (e : Passed D) → slice_get ps n ≡ Some our_slot
      → k ≡ length before + n → IsSameHost i s.inner → s.inner.neighbors ≡ following_it → Pass moves turn s before changed ps e
      → Ends Anything k s.device e
  pass_second s before changed [] n k e stands is same known goes = absurd (let never : no_slot ≡ Some our_slot = stands in cc)
  pass_second s before changed (q ∷ ps) zero k e stands is same known (inl goes) =
      at_our_slot Anything anything_grows s goes.1 before changed goes.0 goes.2 ps k e
      (our_waits s goes.1 (wait_takes s same known) (wait_may s same known) (wait_plan s same known) (wait_spared s same known) (wait_ready s same known)
      goes.2 (Turn.Next goes.0)
      (subst (λ (slot : Place). ServesSlot moves turn s slot (Turn.Next goes.0) goes.1 goes.2) (is_ours q stands) goes.3))
      (is ∙ none_more (length before)) goes.4
  pass_second s before changed (q ∷ ps) zero k e stands is same known (inr stops) =
      at_stop Anything s stops.1 stops.0 stops.2 k e
      (our_waits s stops.1 (wait_takes s same known) (wait_may s same known) (wait_plan s same known) (wait_spared s same known) (wait_ready s same known)
      stops.2 (Turn.Stop stops.0)
      (subst (λ (slot : Place). ServesSlot moves turn s slot (Turn.Stop stops.0) stops.1 stops.2) (is_ours q stands) stops.3))
      (ap (λ (x : Passed D). x.sender.device) stops.4)
  pass_second s before changed (q ∷ ps) (suc n) k e stands is same known (inl goes) =
      let took : TurnWalks moves turn (λ (it : NeighborQuery). ⊥) s goes.1 (Turn.Next goes.0) =
      walks moves turn (λ (it : NeighborQuery). ⊥) s goes.1 q goes.2 (Turn.Next goes.0) (nobody s same known q) goes.3 in
      by took.walked.all took.walked.are took.walked.what
      (λ known'. pass_second goes.1 (before ++ goes.2 ∷ []) (changed || goes.0) ps n k e stands (is ∙ one_more before goes.2 n)
      (same_then i s.inner goes.1.inner same (slot_same moves turn s goes.1 q goes.2 (Turn.Next goes.0) goes.3)) known' goes.4)
    where
      by : (xs : List Move) → AreMoves moves xs s.device goes.1.device
          → (list_any is_refused xs ≡ true) ⊎ (AskedSo moves turn (λ (it : NeighborQuery). ⊥) s.inner xs goes.1.inner ⊎ (goes.1.inner.neighbors ≡ s.inner.neighbors))
          → (goes.1.inner.neighbors ≡ following_it → Ends Anything k goes.1.device e) → Ends Anything k s.device e
      by xs are (inl refused) rest = refused_then Anything s goes.1 k xs (before ++ goes.2 ∷ []) (changed || goes.0) ps e are refused goes.4
      by xs are (inr (inl asked)) rest = absurd asked.such
      by xs are (inr (inr kept)) rest = then_ends Anything anything_grows s goes.1 k xs e are (rest (kept ∙ known))
  pass_second s before changed (q ∷ ps) (suc n) k e stands is same known (inr stops) =
      stopped Anything (λ (it : NeighborQuery). ⊥) s stops.1 stops.0 k e
      (walks moves turn (λ (it : NeighborQuery). ⊥) s stops.1 q stops.2 (Turn.Stop stops.0) (nobody s same known q) stops.3)
      (ap (λ (x : Passed D). x.sender.device) stops.4)

  -- BEFORE IT

  abbrev ForHop : InnerValue → NeighborQuery → Type 0
  ForHop j q = IsFrom j.hardware j.addresses q × (target_of q ≡ hop)

  module _ (s : Sender D) (same : IsSameHost i s.inner) (known : s.inner.neighbors ≡ i.neighbors) where
    is_begun : s.inner ≡ record i { ident = s.inner.ident }
    is_begun = host_then i s.inner i.neighbors has.alone same refl known

    asks_then : HasToAsk s.inner v.settings d hop p
    asks_then = subst (λ (j : InnerValue). HasToAsk j v.settings d hop p) (sym is_begun) (asks_under i s.inner.ident v.settings d hop p has)

    -- whatever a slot before ours asks for is this hop
    for_hop : (slot : Place) → (turn ≡ None → NeedsNoOther i hop slot) → AreSuch moves turn (ForHop s.inner) s slot.inner
    for_hop slot alone packet q offered plan its = (plan_from s.inner (is_some s.left) (sourced s.inner packet).header q plan, by turn refl whose its) where
      unknown : link_address i (destination_of packet.header) ≡ Link.Unknown (target_of q)
      unknown =
          sought_under i s.inner.ident (destination_of packet.header) (target_of q)
          (subst (λ (j : InnerValue). link_address j (destination_of packet.header) ≡ Link.Unknown (target_of q)) is_begun
          (ap (link_address s.inner) (sym (sourced_same s.inner packet).0) ∙ plan_for s.inner (is_some s.left) (sourced s.inner packet).header q plan))

      by : (o : Option IpAddress) → turn ≡ o → is_other o hop ≡ false → is_other o (target_of q) ≡ false → target_of q ≡ hop
      by (Some t) is ours theirs = one_turn t hop (target_of q) ours theirs
      by None is ours theirs =
          alone is packet (target_of q) (may_offer i s.inner.ident slot.inner packet (subst (λ (j : InnerValue). MayOffer j slot.inner packet) is_begun offered))
          unknown

  pass_first : (s : Sender D) (before : List Place) (changed : Bool) (ps : List Place) (n k : ℕ) (e : Passed D) → slice_get ps n ≡ Some our_slot
      → k ≡ length before + n → (turn ≡ None → AllByRecursion (NeedsNoOther i hop) (take n ps)) → IsSameHost i s.inner → s.inner.neighbors ≡ i.neighbors
      → Pass moves turn s before changed ps e → Ends (AsksFor i hop) k s.device e
  pass_first s before changed [] n k e stands is alone same known goes = absurd (let never : no_slot ≡ Some our_slot = stands in cc)
  pass_first s before changed (q ∷ ps) zero k e stands is alone same known (inl goes) =
      at_our_slot (AsksFor i hop) (asks_grows i) s goes.1 before changed goes.0 goes.2 ps k e
      (ours (our_asks s goes.1 (asks_then s same known) (waits_still i s.inner meta same ready) goes.2 (Turn.Next goes.0)
      (subst (λ (slot : Place). ServesSlot moves turn s slot (Turn.Next goes.0) goes.1 goes.2) (is_ours q stands) goes.3)))
      (is ∙ none_more (length before)) goes.4
    where
      ours : OurEnds (AsksFor s.inner hop) s.device goes.1.device (Turn.Next goes.0) goes.2.inner
          → OurEnds (AsksFor i hop) s.device goes.1.device (Turn.Next goes.0) goes.2.inner
      ours took = record { all = took.all; are = took.are; what = by took.all took.what } where
        by : (xs : List Move) → (list_any is_refused xs ≡ true) ⊎ (AsksFor s.inner hop xs × Stays (Turn.Next goes.0) goes.2.inner)
            → (list_any is_refused xs ≡ true) ⊎ (AsksFor i hop xs × Stays (Turn.Next goes.0) goes.2.inner)
        by xs (inl refused) = inl refused
        by xs (inr it) = inr (as_asked s.inner xs same it.0, it.1)
  pass_first s before changed (q ∷ ps) zero k e stands is alone same known (inr stops) =
      refuses (at_stop (AsksFor s.inner hop) s stops.1 stops.0 stops.2 k e
      (our_asks s stops.1 (asks_then s same known) (waits_still i s.inner meta same ready) stops.2 (Turn.Stop stops.0)
      (subst (λ (slot : Place). ServesSlot moves turn s slot (Turn.Stop stops.0) stops.1 stops.2) (is_ours q stands) stops.3))
      (ap (λ (x : Passed D). x.sender.device) stops.4))
    where
      refuses : Ends (AsksFor s.inner hop) k s.device e → Ends (AsksFor i hop) k s.device e
      refuses ends = record { all = ends.all; are = ends.are; what = by ends.what } where
        by : (list_any is_refused ends.all ≡ true) ⊎ (AsksFor s.inner hop ends.all × IsStillFirst e.slots k v d to)
            → (list_any is_refused ends.all ≡ true) ⊎ (AsksFor i hop ends.all × IsStillFirst e.slots k v d to)
        by (inl refused) = inl refused
        by (inr it) = inr (as_asked s.inner ends.all same it.0, it.1)
  pass_first s before changed (q ∷ ps) (suc n) k e stands is alone same known (inl goes) =
      let took : TurnWalks moves turn (ForHop s.inner) s goes.1 (Turn.Next goes.0) =
      walks moves turn (ForHop s.inner) s goes.1 q goes.2 (Turn.Next goes.0) (for_hop s same known q (λ none. (alone none).0)) goes.3 in
      let later : IsSameHost i goes.1.inner = same_then i s.inner goes.1.inner same (slot_same moves turn s goes.1 q goes.2 (Turn.Next goes.0) goes.3) in
      by took.walked.all took.walked.are took.walked.what
      (λ known'. pass_first goes.1 (before ++ goes.2 ∷ []) (changed || goes.0) ps n k e stands (is ∙ one_more before goes.2 n) (λ none. (alone none).1) later
      known' goes.4)
      (λ known'. pass_second goes.1 (before ++ goes.2 ∷ []) (changed || goes.0) ps n k e stands (is ∙ one_more before goes.2 n) later known' goes.4)
    where
      with_question : (xs : List Move) → AskedSo moves turn (ForHop s.inner) s.inner xs goes.1.inner → AsksFor i hop xs
      with_question xs asked =
          as_asked s.inner xs same (record { question = asked.question; from = asked.such.0; sent = asked.sent; whom = asked.such.1 })

      counts : (xs : List Move) → (asked : AskedSo moves turn (ForHop s.inner) s.inner xs goes.1.inner) → goes.1.inner.neighbors ≡ following_it
      counts xs asked =
          asked.counts ∙ ap (λ (a : IpAddress). requested s.inner.neighbors a s.inner.instant) asked.such.1
          ∙ ap (λ (c : CacheValue). requested c hop s.inner.instant) known ∙ ap (λ (j : InnerValue). requested i.neighbors hop j.instant) same

      asked_ends : (xs : List Move) → AreMoves moves xs s.device goes.1.device → AsksFor i hop xs → Ends Anything k goes.1.device e
          → Ends (AsksFor i hop) k s.device e
      asked_ends xs are asks rest = record {
        all = xs ++ rest.all;
        are = joined moves xs rest.all s.device goes.1.device e.sender.device are rest.are;
        what = so rest.what;
      } where
        so : (list_any is_refused rest.all ≡ true) ⊎ (Anything rest.all × IsStillFirst e.slots k v d to)
            → (list_any is_refused (xs ++ rest.all) ≡ true) ⊎ (AsksFor i hop (xs ++ rest.all) × IsStillFirst e.slots k v d to)
        so (inl refused) = inl (refused_following xs rest.all refused)
        so (inr it) = inr ((asks_grows i).before xs rest.all asks, it.1)

      by : (xs : List Move) → AreMoves moves xs s.device goes.1.device
          → (list_any is_refused xs ≡ true) ⊎ (AskedSo moves turn (ForHop s.inner) s.inner xs goes.1.inner ⊎ (goes.1.inner.neighbors ≡ s.inner.neighbors))
          → (goes.1.inner.neighbors ≡ i.neighbors → Ends (AsksFor i hop) k goes.1.device e)
          → (goes.1.inner.neighbors ≡ following_it → Ends Anything k goes.1.device e) → Ends (AsksFor i hop) k s.device e
      by xs are (inl refused) first second =
          refused_then (AsksFor i hop) s goes.1 k xs (before ++ goes.2 ∷ []) (changed || goes.0) ps e are refused goes.4
      by xs are (inr (inl asked)) first second = asked_ends xs are (with_question xs asked) (second (counts xs asked))
      by xs are (inr (inr kept)) first second = then_ends (AsksFor i hop) (asks_grows i) s goes.1 k xs e are (first (kept ∙ known))
  pass_first s before changed (q ∷ ps) (suc n) k e stands is alone same known (inr stops) =
      stopped (AsksFor i hop) (ForHop s.inner) s stops.1 stops.0 k e
      (walks moves turn (ForHop s.inner) s stops.1 q stops.2 (Turn.Stop stops.0) (for_hop s same known q (λ none. (alone none).0)) stops.3)
      (ap (λ (x : Passed D). x.sender.device) stops.4)

  -- THE STEP

  stays : (left : Option LeftValue) (s mid : Sender D) (k : ℕ) (e : Passed D) → Clears moves left s false mid → e.sender.device ≡ mid.device
      → Ends (AsksFor i hop) k s.device e
  stays None s mid k e goes is = absurd (let clash : false ≡ true = goes.0 in cc)
  stays (Some l) s mid k e goes is = refused goes.0 where
    refused : FragmentLeaves moves l s false mid → Ends (AsksFor i hop) k s.device e
    refused (inl kept) = record {
      all = Allowed s.inner.instant false ∷ [];
      are = (mid.device, kept.0, is);
      what = inl refl;
    }
    refused (inr denied) = record {
      all = Allowed s.inner.instant true ∷ Denied (frame_len_of s.inner (departure_from s.inner l)) ∷ [];
      are = (denied.0, denied.1, (mid.device, denied.2.0, is));
      what = inl refl;
    }

none_before : (k : ℕ) → k ≡ 0 + k
none_before k = omega arith

module _ {D : Type 0} (moves : D → Move → D → Type 0) (t : ℤ) (s s' : State D) (n : ℕ) (v : UdpValue) (d : UdpMetadata × List ℕ)
    (more : List (UdpMetadata × List ℕ)) (hop : IpAddress) (p : PacketValue)
    (asks : AsksFirst (at_instant t s.host.inner) s.slots n v hop (destination_of p.header)) (queued : contents v.queued ≡ d ∷ more)
    (has : HasToAsk (at_instant t s.host.inner) v.settings d hop p) where
  abbrev now : InnerValue
  now = at_instant t s.host.inner

  abbrev whose_turn : Option IpAddress
  whose_turn = turn_of now s.slots

  abbrev Through : Passed D → Type 0
  Through e = Ends moves whose_turn v d more queued hop p asks.turn.meta now has asks.turn.ready asks.spared asks.whose (AsksFor now hop) n s.device e

  egress : (e : Passed D) → Egress moves (sending t s) s.slots e → Through e
  egress e (inl rests) =
      stays moves whose_turn v d more queued hop p asks.turn.meta now has asks.turn.ready asks.spared asks.whose s.host.left (sending t s) rests.0 n e rests.1
      (ap (λ (x : Passed D). x.sender.device) rests.2)
  egress e (inr goes) =
      let fragment : FragmentEnds moves (sending t s) goes.0 true = clears moves s.host.left (sending t s) goes.0 true refl goes.1 in
      let same : goes.0.inner ≡ now =
      clears_same moves s.host.left (sending t s) goes.0 true goes.1 in
      let pass : Pass moves whose_turn goes.0 [] false s.slots e =
      subst (λ (j : InnerValue). Pass moves (turn_of j s.slots) goes.0 [] false s.slots e) same goes.2 in
      then_ends moves whose_turn v d more queued hop p asks.turn.meta now has asks.turn.ready asks.spared asks.whose (AsksFor now hop)
      (asks_grows moves whose_turn v d more queued hop p asks.turn.meta now has asks.turn.ready asks.spared asks.whose now) (sending t s) goes.0 n fragment.all e
      fragment.are
      (pass_first moves whose_turn v d more queued hop p asks.turn.meta now has asks.turn.ready asks.spared asks.whose goes.0 [] false s.slots n n e
      asks.turn.stands (none_before n) asks.alone (same_where now goes.0.inner same) (ap (λ (j : InnerValue). j.neighbors) same) pass)

  step_ends : (e : Passed D) → Through e → (s' ≡ following s.host e)
      → AsksForIt moves now hop (destination_of p.header) n v d s.device s'.device s'.slots
  step_ends e through is = record {
    all = through.all;
    are = subst (λ (x : D). AreMoves moves through.all s.device x) (sym (ap (λ (x : State D). x.device) is)) through.are;
    what = subst (λ (ps : List Place). (list_any is_refused through.all ≡ true)
        ⊎ (AsksFor now hop through.all × IsStillFirst ps n v d (destination_of p.header)))
        (sym (ap (λ (x : State D). x.slots) is)) through.what;
  }

pub step_asks_for_it : {D : Type 0} (moves : D → Move → D → Type 0) (t : ℤ) (s s' : State D) (answer : Option Bool) (n : ℕ) (v : UdpValue)
    (d : UdpMetadata × List ℕ) (more : List (UdpMetadata × List ℕ)) (hop : IpAddress) (p : PacketValue)
    → AsksFirst (at_instant t s.host.inner) s.slots n v hop (destination_of p.header) → contents v.queued ≡ d ∷ more
    → HasToAsk (at_instant t s.host.inner) v.settings d hop p → EgressStep moves t s answer s'
    → AsksForIt moves (at_instant t s.host.inner) hop (destination_of p.header) n v d s.device s'.device s'.slots
step_asks_for_it {D} moves t s s' answer n v d more hop p asks queued has step =
    step_ends moves t s s' n v d more hop p asks queued has step.0
    (egress moves t s s' n v d more hop p asks queued has step.0 (egress_alone moves (sending t s) s.slots step.0 has.alone step.1)) step.2
