-- A fragment that waits goes, and nothing begins another datagram meanwhile.
use Rattle.std.proofs.Common.{◌≡◌, ℕ, ◌+◌, ◌-◌, ◌*◌, ◌/◌, ◌≤◌, Bool, true, false, ◌||◌, if◌then◌else◌, inl, inr, ℤ, List, [], ◌∷◌, ◌++◌, length}
use Rattle.std.proofs.Common.{Option, Some, None, is_some, refl, sym, ap, ◌∙◌, subst, arith}
use Rattle.std.specs.Prelude.{nat_le, nat_lt}
use Rattle.std.proofs.lemmas.Bool.{cond_both}
use Rattle.std.proofs.lemmas.Bool.Decides.{nat_tests}
use Rattle.net_base.specs.Device.{Move, Allowed, Emitted, Denied}
use Rattle.ip_wire.specs.EthernetAddress.{EthernetAddress}
use Rattle.ip_wire.specs.HardwareAddress.{HardwareAddress}
use Rattle.ip_wire.specs.HardwareAddress.TheVariants as Hardware
use Rattle.ip_wire.specs.Ip.{destination_of}
use Rattle.ip_wire.specs.IpAddress.{IpAddress}
use Rattle.ip_wire.specs.IpAddress.TheVariants as Address
use Rattle.ip_wire.specs.IpRepr.{IpRepr}
use Rattle.ip_wire.specs.Ipv4Address.{Ipv4Address}
use Rattle.iface_ingress.specs.Offer as Answer
use Rattle.iface_ingress.specs.Offer.TheVariants as Offer
use Rattle.iface_ingress.specs.Packet.{PacketValue}
use Rattle.iface_ingress.specs.Socket.{Socket}
use Rattle.iface_ingress.specs.Sockets.{offered_by}
use Rattle.iface_tables.specs.Inner.{InnerValue, at_instant, link_address, mtu_to}
use Rattle.iface_tables.specs.Source.{source_v4}
use Rattle.iface_tables.specs.declared.link.LinkAddress.{LinkAddress}
use Rattle.iface_tables.specs.declared.link.LinkAddress.TheVariants as Link
use Rattle.iface_egress.specs.Departure.{fragment_header_len}
use Rattle.iface_egress.specs.Fragments.{LeftValue, cut_mtu, departure_from, left_from, fragment_room}
use Rattle.iface_egress.specs.IsTransmitted.{IsTransmitted, frame_of, frame_len_of}
use Rattle.iface_egress.specs.Plan.{can_be_cut, cut_if_idle, long_plan, total_len, solicit_v4, solicit_from, solicit_on, may_solicit, plan_by, plan_of}
use Rattle.iface_egress.specs.Plan.{never_leaves}
use Rattle.iface_egress.specs.declared.plan.Plan.{Plan}
use Rattle.iface_egress.specs.declared.plan.Plan.TheVariants as Way
use Rattle.iface_egress.specs.declared.socket_meta.Meta.{Meta}
use Rattle.iface_egress.specs.declared.socket_set.Item.{Item}
use Rattle.iface_egress.specs.declared.socket_set.SocketStorage.{SocketStorage}
use Rattle.iface_egress.specs.declared.egress_path.Sent.{Sent}
use Rattle.interface.specs.Awaited.{turn_of}
use Rattle.interface.specs.Egress.{EgressStep, sending}
use Rattle.interface.specs.Host.{Sender}
use Rattle.interface.specs.Pass.{Pass, Passed}
use Rattle.interface.specs.State.{State}
use Rattle.interface.specs.Serve.{is_waiting, let_through, plan_at, Answers, ItemTurns, Leaves, LeavesIf, SendsBy, ServesSlot, TurnsIf}
use Rattle.interface.specs.EgressPath.{Clears, ClearsIf, Egress, FragmentLeaves}
use Rattle.interface.specs.declared.serve.Served.{Served}
use Rattle.interface.specs.declared.serve.Served.TheVariants as Turn
use Rattle.iface_egress.specs.Parked.{ServesParked}
use Rattle.interface.proofs.Parked.{HasLeft, parked_keep}
use Rattle.lan.proofs.Worlds.Moves.Devices.{parked, slot_turns}
use Rattle.lan.proofs.Worlds.Moves.Frames.{IsNoTake}
use Rattle.proof_stack.specs.Progress.Moves.{AreMoves}
use Rattle.proof_stack.specs.Progress.Queued.{FragmentWent}
use Rattle.proof_stack.proofs.Polls.Walks.{joined}

abbrev Place : Type 0
Place = SocketStorage Socket

-- WHILE A PIECE WAITS NOTHING IS CUT

abbrev is_cut : Plan → Bool
is_cut (Way.Cut to) = true
is_cut (Way.Go to) = false
is_cut (Way.Ask question) = false
is_cut Way.NoRoute = false
is_cut Way.Wait = false
is_cut Way.Drop = false
is_cut Way.Busy = false

module _ (i : InnerValue) (h : IpRepr) where
  abbrev Whole : Plan → Type 0
  Whole plan = is_cut plan ≡ false

  asks_v4 : (own : EthernetAddress) (o : Option Ipv4Address) (hop : Ipv4Address) → Whole (solicit_v4 own o hop)
  asks_v4 own None hop = refl
  asks_v4 own (Some source) hop = refl

  asks_from : (own : EthernetAddress) (hop : IpAddress) → Whole (solicit_from own i hop)
  asks_from own (Address.Ipv4 hop) = asks_v4 own (source_v4 i.addresses hop) hop
  asks_from own (Address.Ipv6 hop) = refl

  asks_on : (hardware : HardwareAddress) (hop : IpAddress) → Whole (solicit_on hardware i hop)
  asks_on Hardware.Ip hop = refl
  asks_on (Hardware.Ethernet own) hop = asks_from own hop

  by_link : (l : LinkAddress) → Whole (plan_by l i true h)
  by_link (Link.Known to) =
      cond_both (nat_le (total_len h) (mtu_to i (destination_of h))) (Way.Go to) (long_plan true to h) Whole (λ _. refl)
      (λ _. cond_both (can_be_cut h) (cut_if_idle true to) Way.Drop Whole (λ _. refl) (λ _. refl))
  by_link Link.NoRoute = refl
  by_link Link.Silent = refl
  by_link Link.Unanswered = refl
  by_link (Link.Unknown hop) = cond_both (may_solicit i hop) (solicit_on i.hardware i hop) Way.NoRoute Whole (λ _. asks_on i.hardware hop) (λ _. refl)

  not_cut : Whole (plan_of i true h)
  not_cut =
      cond_both (never_leaves i h) Way.Drop (plan_by (link_address i (destination_of h)) i true h) Whole (λ _. refl)
      (λ _. by_link (link_address i (destination_of h)))

-- THE REST STAYS

module _ {D : Type 0} (moves : D → Move → D → Type 0) (turn : Option IpAddress) (rest : LeftValue) where
  module _ (x x' : Sender D) (busy : x.left ≡ Some rest) where
    abbrev Kept : Type 0
    Kept = x'.left ≡ Some rest

    out : (mid : D) (p : PacketValue) (plan : Plan) (sent : Sent) → is_cut plan ≡ false
        → IsTransmitted moves mid x.inner x.left p plan sent x'.device x'.inner x'.left → Kept
    out mid p Way.Drop sent whole goes = goes.1.2 ∙ busy
    out mid p Way.NoRoute sent whole goes = goes.1.2 ∙ busy
    out mid p Way.Wait sent whole goes = goes.1.2 ∙ busy
    out mid p Way.Busy sent whole goes = goes.1.2 ∙ busy
    out mid p (Way.Ask q) sent whole goes = goes.1 ∙ busy
    out mid p (Way.Go to) sent whole goes = goes.1 ∙ busy
    out mid p (Way.Cut to) sent whole goes = absurd (let clash : true ≡ false = whole in cc)

    whole_at : (p : PacketValue) → is_cut (plan_at x p) ≡ false
    whole_at p =
        ap (λ (o : Option LeftValue). is_cut (plan_of x.inner (is_some o) p.header)) busy ∙ not_cut x.inner p.header

    leaves : (p : PacketValue) (meta : Meta) (sent : Sent) → Leaves moves turn x meta p sent x' → Kept
    leaves p meta sent (inl stays) = stays.3 ∙ busy
    leaves p meta sent (inr goes) = out goes.0 p (plan_at x p) sent (whole_at p) goes.2

    -- a packet that waited for its next hop
    left_keeps : (p : PacketValue) (sent : Sent) → HasLeft moves x p sent x' → Kept
    left_keeps p sent (inl is) = ap (λ (y : Sender D). y.left) is ∙ busy
    left_keeps p sent (inr (inl stays)) = stays.2 ∙ busy
    left_keeps p sent (inr (inr goes)) = out goes.0 p (plan_at x p) sent (whole_at p) goes.2

  module _ (x x' : Sender D) (busy : x.left ≡ Some rest) where
    abbrev Stays : Type 0
    Stays = x'.left ≡ Some rest

    leaves_if : (many : Bool) (p : PacketValue) (meta : Meta) (sent : Sent) → LeavesIf moves turn many x meta p sent x' → Stays
    leaves_if false p meta sent goes = leaves x x' busy p meta sent goes
    leaves_if true p meta sent goes = ap (λ (y : Sender D). y.left) goes.4 ∙ leaves x goes.1 busy p meta goes.0 goes.2

    sends : (o : Option PacketValue) (item item' : Item Socket) (changed : Bool) (turned : Served) → SendsBy moves turn o x item changed turned x' item' → Stays
    sends None item item' changed turned goes = absurd goes
    sends (Some p) item item' changed turned goes = leaves_if x.inner.host_requirements goes.0 item.meta goes.3.0 goes.3.1

    answers : (answer : Answer.Offer) (item item' : Item Socket) (turned : Served) → Answers moves turn answer x item turned x' item' → Stays
    answers (Offer.Packet changed) item item' turned goes = sends (offered_by item.socket) item item' changed turned goes
    answers (Offer.Silent changed) item item' turned goes = ap (λ (y : Sender D). y.left) goes.1 ∙ busy

    turns_if : (waits : Bool) (item item' : Item Socket) (turned : Served) → TurnsIf moves turn waits x item turned x' item' → Stays
    turns_if true item item' turned goes = ap (λ (y : Sender D). y.left) goes.1 ∙ busy
    turns_if false item item' turned goes = answers goes.0 (record item { socket = goes.1 }) item' turned goes.3

    item_turns : (o o' : Option (Item Socket)) (turned : Served) → ItemTurns moves turn o x turned x' o' → Stays
    item_turns None None turned goes = ap (λ (y : Sender D). y.left) goes.1 ∙ busy
    item_turns (Some item) (Some item') turned goes = turns_if (is_waiting x.inner item.meta) (let_through x.inner item) item' turned goes
    item_turns None (Some item') turned goes = absurd goes
    item_turns (Some item) None turned goes = absurd goes

    slot_keeps : (p p' : Place) (turned : Served) → ServesSlot moves turn x p turned x' p' → Stays
    slot_keeps p p' turned goes = item_turns p.inner p'.inner turned goes

  pass_keeps : (s : Sender D) (before : List Place) (changed : Bool) (ps : List Place) (e : Passed D) → s.left ≡ Some rest
      → Pass moves turn s before changed ps e → e.sender.left ≡ Some rest
  pass_keeps s before changed [] e busy ends = ap (λ (x : Passed D). x.sender.left) ends ∙ busy
  pass_keeps s before changed (p ∷ ps) e busy (inl goes) =
      pass_keeps goes.1 (before ++ goes.2 ∷ []) (changed || goes.0) ps e (slot_keeps s goes.1 busy p goes.2 (Turn.Next goes.0) goes.3) goes.4
  pass_keeps s before changed (p ∷ ps) e busy (inr stops) =
      ap (λ (x : Passed D). x.sender.left) stops.4 ∙ slot_keeps s stops.1 busy p stops.2 (Turn.Stop stops.0) stops.3

  parked_keeps : (s s' : Sender D) (all : Bool) → s.left ≡ Some rest → ServesParked moves s all s' → s'.left ≡ Some rest
  parked_keeps s s' all busy serves =
      parked_keep moves (λ (y : Sender D). y.left ≡ Some rest) (λ y y' p sent holds left. left_keeps y y' holds p sent left) (λ y k holds. holds)
      s s' all busy serves

-- MOVES, one after the other

record Walk {D : Type 0} (moves : D → Move → D → Type 0) (old new : D) : Type 0 where
  all : List Move
  are : AreMoves moves all old new

module _ {D : Type 0} (moves : D → Move → D → Type 0) (start : D) where
  abbrev Led : D → Type 0
  Led d = Walk moves start d

  led_on : (d d' : D) (m : Move) → IsNoTake m → moves d m d' → Led d → Led d'
  led_on d d' m none goes walk = record {
    all = walk.all ++ m ∷ [];
    are = joined moves walk.all (m ∷ []) start d d' walk.are (d', goes, refl);
  }

  pass_leads : (turn : Option IpAddress) (s : Sender D) (before : List Place) (changed : Bool) (ps : List Place) (e : Passed D) → Led s.device
      → Pass moves turn s before changed ps e → Led e.sender.device
  pass_leads turn s before changed [] e walk ends = subst Led (sym (ap (λ (x : Passed D). x.sender.device) ends)) walk
  pass_leads turn s before changed (p ∷ ps) e walk (inl goes) =
      pass_leads turn goes.1 (before ++ goes.2 ∷ []) (changed || goes.0) ps e
      (slot_turns moves Led led_on turn s goes.1 walk p goes.2 (Turn.Next goes.0) goes.3) goes.4
  pass_leads turn s before changed (p ∷ ps) e walk (inr stops) =
      subst Led (sym (ap (λ (x : Passed D). x.sender.device) stops.4))
      (slot_turns moves Led led_on turn s stops.1 walk p stops.2 (Turn.Stop stops.0) stops.3)

-- THE STEP

module _ {D : Type 0} (moves : D → Move → D → Type 0) (l : LeftValue) (s : Sender D) (waits : s.left ≡ Some l) where
  abbrev Went : D → Option LeftValue → Type 0
  Went new left = FragmentWent moves s.inner l s.device new left

  refused : (mid : Sender D) (left : Option LeftValue) → FragmentLeaves moves l s false mid → Went mid.device left
  refused mid left (inl stays) = record { all = Allowed s.inner.instant false ∷ []; are = (mid.device, stays.0, refl); what = inl refl }
  refused mid left (inr goes) = record {
    all = Allowed s.inner.instant true ∷ Denied (frame_len_of s.inner (departure_from s.inner l)) ∷ [];
    are = (goes.0, goes.1, (mid.device, goes.2.0, refl));
    what = inl refl;
  }

  -- it went, and what is left of it waits
  record Gone (x : Sender D) : Type 0 where
    mid : Sender D
    fragment : FragmentLeaves moves l s true mid
    walk : Walk moves mid.device x.device
    rests : (rest : LeftValue) → mid.left ≡ Some rest → x.left ≡ Some rest

  went : (x : Sender D) → Gone x → Went x.device x.left
  went x gone = by gone.fragment where
    by : FragmentLeaves moves l s true gone.mid → Went x.device x.left
    by (inl stays) = absurd (let clash : true ≡ false = stays.1 in cc)
    by (inr goes) = record {
      all = (Allowed s.inner.instant true ∷ Emitted (frame_of s.inner (departure_from s.inner l)) ∷ []) ++ gone.walk.all;
      are = joined moves (Allowed s.inner.instant true ∷ Emitted (frame_of s.inner (departure_from s.inner l)) ∷ []) gone.walk.all s.device
          gone.mid.device x.device (goes.0, goes.1, (gone.mid.device, goes.2.0.0, refl)) gone.walk.are;
      what = inr (inr (inl refl), λ rest is. gone.rests rest (goes.2.1 ∙ is));
    }

  leaves_so : (mid : Sender D) (clear : Bool) → Clears moves s.left s clear mid → FragmentLeaves moves l s clear mid
  leaves_so mid clear clears =
      let fragment : Clears moves (Some l) s clear mid = subst (λ (o : Option LeftValue). Clears moves o s clear mid) waits clears in fragment.0

  gone_then : (mid x : Sender D) (all : Bool) → Clears moves s.left s true mid → ServesParked moves mid all x → Gone x
  gone_then mid x all clears serves = record {
    mid = mid;
    fragment = leaves_so mid true clears;
    walk = parked moves (Walk moves mid.device) (led_on moves mid.device) mid x all (record { all = []; are = refl }) serves;
    rests = λ rest busy. parked_keeps moves None rest mid x all busy serves;
  }

  clears_gone : (many : Bool) (x : Sender D) → ClearsIf moves many s true x → Gone x
  clears_gone false x clears = record {
    mid = x;
    fragment = leaves_so x true clears;
    walk = record { all = []; are = refl };
    rests = λ rest busy. busy;
  }
  clears_gone true x (inl stays) = absurd (let clash : true ≡ false = stays.1 in cc)
  clears_gone true x (inr serves) = gone_then serves.0 x true serves.1 serves.2

  clears_stopped : (many : Bool) (x : Sender D) → ClearsIf moves many s false x → Went x.device x.left
  clears_stopped false x clears = refused x x.left (leaves_so x false clears)
  clears_stopped true x (inl stays) = refused x x.left (leaves_so x false stays.0)
  clears_stopped true x (inr serves) = went x (gone_then serves.0 x false serves.1 serves.2)

  egress : (ps : List Place) (e : Passed D) → Egress moves s ps e → Went e.sender.device e.sender.left
  egress ps e (inl stops) =
      subst (λ (x : Sender D). Went x.device x.left) (sym (ap (λ (x : Passed D). x.sender) stops.2))
      (clears_stopped s.inner.host_requirements stops.0 stops.1)
  egress ps e (inr goes) =
      let gone : Gone goes.0 = clears_gone s.inner.host_requirements goes.0 goes.1 in
      went e.sender (record {
        mid = gone.mid;
        fragment = gone.fragment;
        walk = pass_leads moves gone.mid.device (turn_of goes.0.inner ps) goes.0 [] false ps e gone.walk goes.2;
        rests = λ rest busy. pass_keeps moves (turn_of goes.0.inner ps) rest goes.0 [] false ps e (gone.rests rest busy) goes.2;
      })

pub fragment_goes : {D : Type 0} (moves : D → Move → D → Type 0) (t : ℤ) (s s' : State D) (answer : Option Bool) (l : LeftValue) → s.host.left ≡ Some l
    → EgressStep moves t s answer s' → FragmentWent moves (at_instant t s.host.inner) l s.device s'.device s'.host.left
fragment_goes {D} moves t s s' answer l is step =
    let went : FragmentWent moves (at_instant t s.host.inner) l s.device step.0.sender.device step.0.sender.left =
    egress moves l (sending t s) is s.slots step.0 step.1 in
    subst (λ (x : State D). FragmentWent moves (at_instant t s.host.inner) l s.device x.device x.host.left) (sym step.2) went

-- WHAT IS LEFT

units : (mtu header : ℕ) → header + 8 ≤ mtu → 8 ≤ (mtu - header) / 8 * 8
units mtu header room = grind (arith, nat_tests)

abbrev next_of : InnerValue → LeftValue → LeftValue
next_of i l = record l { at = l.at + fragment_room l.header (cut_mtu i l) }

pub shorter : (i : InnerValue) (l rest : LeftValue) → fragment_header_len l.header + 8 ≤ cut_mtu i l → left_from i l ≡ Some rest
    → (rest.payload ≡ l.payload) × (l.at + 8 ≤ rest.at) × (rest.at + 1 ≤ length rest.payload)
shorter i l rest room is = by (nat_lt (l.at + fragment_room l.header (cut_mtu i l)) (length l.payload)) refl is where
  by : (b : Bool) → nat_lt (l.at + fragment_room l.header (cut_mtu i l)) (length l.payload) ≡ b → (if b then Some (next_of i l) else None) ≡ Some rest
      → (rest.payload ≡ l.payload) × (l.at + 8 ≤ rest.at) × (rest.at + 1 ≤ length rest.payload)
  by false less is = absurd (let never : (let nothing : Option LeftValue = None in nothing) ≡ Some rest = is in cc)
  by true less is =
      let same : next_of i l ≡ rest = (let so : Some (next_of i l) ≡ Some rest = is in cc) in
      let grows : 8 ≤ fragment_room l.header (cut_mtu i l) = units (cut_mtu i l) (fragment_header_len l.header) room in
      subst (λ (r : LeftValue). (r.payload ≡ l.payload) × (l.at + 8 ≤ r.at) × (r.at + 1 ≤ length r.payload)) same
      (refl, omega (arith, grows), before (l.at + fragment_room l.header (cut_mtu i l)) (length l.payload) less)
    where
      before : (a b : ℕ) → nat_lt a b ≡ true → a + 1 ≤ b
      before a b e = grind (arith, nat_tests)
