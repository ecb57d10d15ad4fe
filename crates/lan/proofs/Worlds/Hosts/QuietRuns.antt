-- Along a run: the routes of a host, the host as it was asked, and its polls.
use Rattle.std.proofs.Common.{◌≡◌, ◌≤ℤ◌, ◌⊎◌, inl, inr, ℕ, ℤ, Bool, true, false, not, ◌||◌, if◌then◌else◌, List, [], ◌∷◌, ◌++◌, length, map, Option, None, Some}
use Rattle.std.proofs.Common.{refl, sym, ap, ◌∙◌, subst, append_assoc, append-nil, arith}
use Rattle.std.specs.Prelude.{slice_get}
use Rattle.std.specs.List.{list_any}
use Rattle.iface_ingress.specs.EthernetAddress.{EthernetAddress}
use Rattle.iface_ingress.specs.HardwareAddress.TheVariants as Hardware
use Rattle.iface_ingress.specs.IpAddress.{IpAddress}
use Rattle.iface_ingress.specs.IpAddress.TheVariants as Address
use Rattle.wire_address.specs.declared.ip.IpCidr.{IpCidr}
use Rattle.interface.specs.Host.{HostValue}
use Rattle.interface.specs.Instant.{poll_instant}
use Rattle.interface.specs.QuietStep.{IsEarlier}
use Rattle.interface.proofs.QuietTurn.{DueAsBefore}
use Rattle.iface_egress.specs.declared.socket_set.Item.{Item}
use Rattle.iface_egress.specs.declared.socket_set.SocketStorage.{SocketStorage}
use Rattle.iface_tables.specs.Inner.{InnerValue, at_instant, context_of, drawn}
use Rattle.iface_tables.specs.Neighbor.{flushed}
use Rattle.iface_tables.specs.Route.{is_gateway_v4, is_gateway_v6, IsGateway, IsAdded, without}
use Rattle.iface_tables.specs.Settings.{hardware_refusal, if_none, is_stranger, routes_of}
use Rattle.iface_tables.specs.declared.config.HardwareAddrError.{HardwareAddrError}
use Rattle.iface_tables.specs.declared.route.Route.{Route}
use Rattle.lan.specs.Worlds.AtLink.Call.{SocketCall}
use Rattle.lan.specs.Worlds.AtLink.History.{Entry, Counts}
use Rattle.lan.specs.Worlds.AtLink.Kinds.{Act, Kind, Origin, Setting, same_side, kind_of}
use Rattle.lan.specs.Worlds.AtLink.Kinds as Set
use Rattle.lan.specs.Worlds.AtLink.Kinds.Act.{Calls, Sets, Opens, Asks, Polls}
use Rattle.lan.specs.Worlds.AtLink.Kinds.Kind.{OfHost, OfLink}
use Rattle.lan.specs.Worlds.AtLink.Kinds.LinkAct.{Hands, Cuts}
use Rattle.lan.specs.Worlds.AtLink.Answer.{Answer}
use Rattle.lan.specs.Worlds.AtLink.Answer.TheVariants as To
use Rattle.lan.specs.Worlds.AtLink.Fault.TheVariants as For
use Rattle.lan.specs.Worlds.AtLink.Side.{Side}
use Rattle.lan.specs.Worlds.AtLink.Side.TheVariants.{A, B}
use Rattle.lan.specs.Worlds.AtLink.Calls.{Did}
use Rattle.lan.specs.Worlds.AtLink.Port.{LinkEnd}
use Rattle.lan.specs.Worlds.AtLink.Does.{does, draws, DidAt, ItemDoes, SlotDoes, Does}
use Rattle.lan.specs.Worlds.AtLink.Origins.{frame_of_origin, goes_to, origins_of, sent_before, waiting_before}
use Rattle.lan.specs.Worlds.AtLink.Runs.{Starts, unused_both, Leads, WorldRun, counts_of, tables_in}
use Rattle.lan.specs.Worlds.AtLink.Sets.{SetsTo, setting_answer, RoutedIf, has_route_room, instant_at}
use Rattle.lan.specs.Worlds.AtLink.Refusals.{refusal}
use Rattle.lan.specs.Worlds.AtLink.Node.{NodeValue, Nodes, node}
use Rattle.lan.specs.Worlds.AtLink.Steps.{Acts, Happens}
use Rattle.sockets.specs.declared.socket.Socket.{Socket}
use Rattle.tcp_block.specs.State.{State}
use Rattle.lan.specs.Worlds.Hosts.HostRuns.{Deed, deed_in}
use Rattle.lan.specs.Worlds.Hosts.Machine.{Machine}
use Rattle.lan.specs.Worlds.Hosts.Quiet.{is_idle, leaves_alone, WasAsked, Undisturbed, routes_by, routes_after, routes_left, IsOutside, NoneExpires}
use Rattle.lan.specs.Worlds.Hosts.Quiet.{PollWasQuiet, PollsWereQuiet}
use Rattle.lan.proofs.Worlds.Hosts.Acting.{in_time}
use Rattle.lan.proofs.Worlds.Hosts.Moving.{HasActed, HasRested, moved}
use Rattle.lan.proofs.Worlds.Hosts.Polling.{polled}
use Rattle.lan.proofs.Worlds.Hosts.Quieting.{IsAsIt, idle_as_it, same_link}
use Rattle.lan.proofs.Worlds.Hosts.Routes.{AreForever, all_append, without_both}

-- ROUTES

-- these are left, and some were added
pub record RoutesAre (kept routes : List Route) : Type 0 where
  pub added : List Route
  pub is : routes ≡ kept ++ added
  pub forever : AreForever added

same_routes : (kept old new : List Route) → new ≡ old → RoutesAre kept old → RoutesAre kept new
same_routes kept old new is are = record { added = are.added; is = is ∙ are.is; forever = are.forever }

added_route : (test : Route → Bool) (any : List ℕ) (router : IpAddress) (kept old new : List Route) → RoutesAre kept old →
    IsAdded test (λ r. IsGateway r any router) old new → RoutesAre (without test kept) new
added_route test any router kept old new are is =
    let both = without_both test kept are.added are.forever in
    record {
      added = both.0 ++ is.0 ∷ [];
      is =
          is.2 ∙ ap (λ (rs : List Route). without test rs ++ is.0 ∷ []) are.is
          ∙ ap (λ (rs : List Route). rs ++ is.0 ∷ []) both.1 ∙ append_assoc (without test kept) both.0 (is.0 ∷ []);
      forever = all_append (λ r. r.expires_at ≡ None) both.0 (is.0 ∷ []) both.2 (is.1.expires, tt);
    }

routed : (b : Bool) (router : IpAddress) (answer : Answer) (kept old new : List Route) → answer ≡ (if b then To.Done else To.Error For.RouteTableFull) →
    RoutedIf b router old new → RoutesAre kept old
    → RoutesAre (routes_by (Set.Route router) answer kept) new
routed true (Address.Ipv4 router) answer kept old new said is are =
    subst (λ (a : Answer). RoutesAre (routes_by (Set.Route (Address.Ipv4 router)) a kept) new) (sym said)
    (added_route is_gateway_v4 _ (Address.Ipv4 router) kept old new are is)
routed true (Address.Ipv6 router) answer kept old new said is are =
    subst (λ (a : Answer). RoutesAre (routes_by (Set.Route (Address.Ipv6 router)) a kept) new) (sym said)
    (added_route is_gateway_v6 _ (Address.Ipv6 router) kept old new are is)
routed false (Address.Ipv4 router) answer kept old new said is are =
    subst (λ (a : Answer). RoutesAre (routes_by (Set.Route (Address.Ipv4 router)) a kept) new) (sym said) (same_routes kept old new is are)
routed false (Address.Ipv6 router) answer kept old new said is are =
    subst (λ (a : Answer). RoutesAre (routes_by (Set.Route (Address.Ipv6 router)) a kept) new) (sym said) (same_routes kept old new is are)

refused_routes : (i : InnerValue) (a : EthernetAddress) (refusal : Option HardwareAddrError) →
    (if_none refusal (record i { hardware = Hardware.Ethernet a }) i).routes ≡ i.routes
refused_routes i a None = refl
refused_routes i a (Some e) = refl

strange_routes : (i : InnerValue) (blocks : List IpCidr) (b : Bool) →
    (if b then i else record i { addresses = blocks; neighbors = flushed i.neighbors }).routes ≡ i.routes
strange_routes i blocks true = refl
strange_routes i blocks false = refl

setting_routes : (h h' : HostValue) (setting : Setting) (answer : Answer) (kept : List Route) → SetsTo h setting h' → answer ≡ setting_answer h setting →
    RoutesAre kept h.inner.routes
    → RoutesAre (routes_by setting answer kept) h'.inner.routes
setting_routes h h' (Set.HardwareAddr address) answer kept is said are =
    same_routes kept h.inner.routes h'.inner.routes
    (ap (λ (x : HostValue). x.inner.routes) is ∙ refused_routes h.inner address (hardware_refusal h.inner.hardware (Hardware.Ethernet address))) are
setting_routes h h' (Set.Addrs blocks) answer kept is said are =
    same_routes kept h.inner.routes h'.inner.routes (ap (λ (x : HostValue). x.inner.routes) is ∙
    strange_routes h.inner blocks (list_any is_stranger blocks)) are
setting_routes h h' (Set.Route router) answer kept is said are =
    let new : h'.inner.routes ≡ is.0 = ap (λ (x : HostValue). x.inner.routes) is.2 in
    subst (RoutesAre (routes_by (Set.Route router) answer kept)) (sym new)
    (routed (has_route_room router (routes_of h.inner)) router answer kept h.inner.routes is.0 said is.1 are)
setting_routes h h' (Set.AnyIp any) answer kept is said are = same_routes kept h.inner.routes h'.inner.routes (ap (λ (x : HostValue). x.inner.routes) is) are
setting_routes h h' (Set.ReassemblyTimeout timeout) answer kept is said are =
    same_routes kept h.inner.routes h'.inner.routes (ap (λ (x : HostValue). x.inner.routes) is) are

drawn_routes : (draw : Bool) (h : HostValue) → (if draw then record h { inner = drawn h.inner } else h).inner.routes ≡ h.inner.routes
drawn_routes true h = refl
drawn_routes false h = refl

module _ (s s' : NodeValue) (i : ℕ) (call : SocketCall) (answer : Answer) (found : Option State) where
  did_routes : (item : Item Socket) (d : Option (Did Socket)) → DidAt s i item call d answer found s' → s'.host.inner.routes ≡ s.host.inner.routes
  did_routes item None at = absurd at
  did_routes item (Some d) at = ap (λ (x : NodeValue). x.host.inner.routes) at.2 ∙ drawn_routes (draws (context_of s.host.inner) item.socket call) s.host

  item_routes : (o : Option (Item Socket)) → ItemDoes s i o call answer found s' → s'.host.inner.routes ≡ s.host.inner.routes
  item_routes None at = absurd at
  item_routes (Some item) at = did_routes item (does (context_of s.host.inner) item.socket call) at

  slot_routes : (o : Option (SocketStorage Socket)) → SlotDoes s i o call answer found s' → s'.host.inner.routes ≡ s.host.inner.routes
  slot_routes None at = absurd at
  slot_routes (Some slot) at = item_routes slot.inner at

  call_routes : Does s i call answer found s' → s'.host.inner.routes ≡ s.host.inner.routes
  call_routes at = slot_routes (slice_get s.slots i) at

own_setting : (side : Side) (setting : Setting) (answer : Answer) (kept : List Route) →
    routes_after side (OfHost side (Sets setting)) answer kept ≡ routes_by setting answer kept
own_setting A setting answer kept = refl
own_setting B setting answer kept = refl

acts_routes : (side : Side) (s s' : NodeValue) (act : Act) (answer : Answer) (found : Option State) (kept : List Route) → Acts s act answer found s' →
    RoutesAre kept s.host.inner.routes
    → RoutesAre (routes_after side (OfHost side act) answer kept) s'.host.inner.routes
acts_routes side s s' (Calls i call) answer found kept acts are =
    same_routes kept s.host.inner.routes s'.host.inner.routes (call_routes s s' i call answer found acts) are
acts_routes side s s' (Sets setting) answer found kept acts are =
    let c = acts.0 in
    let same : s'.host.inner.routes ≡ c.0.inner.routes = ap (λ (x : NodeValue). x.host.inner.routes) c.3 in
    subst (λ (rs : List Route). RoutesAre rs s'.host.inner.routes) (sym (own_setting side setting answer kept))
    (subst (RoutesAre (routes_by setting answer kept)) (sym same) (setting_routes s.host c.0 setting answer kept c.1 c.2 are))
acts_routes side s s' (Opens n) answer found kept acts are =
    same_routes kept s.host.inner.routes s'.host.inner.routes (ap (λ (x : NodeValue). x.host.inner.routes) acts.2) are
acts_routes side s s' (Asks instant) answer found kept acts are =
    same_routes kept s.host.inner.routes s'.host.inner.routes (ap (λ (x : NodeValue). x.host.inner.routes) acts.2) are
acts_routes side s s' (Polls instant budget) answer found kept acts are =
    same_routes kept s.host.inner.routes s'.host.inner.routes (polled s s' instant budget acts.0 acts.1).settings.routes are

module _ (side : Side) (answer : Answer) (kept : List Route) where
  apart_routes : (setting : Setting) (b : Bool) (d : Deed) → (if b then d ∷ [] else []) ≡ [] → (if b then routes_by setting answer kept else kept) ≡ kept
  apart_routes setting true d is = absurd (cc)
  apart_routes setting false d is = refl

  rested_routes : (k : Kind) (e : Entry) → deed_in side k e ≡ [] → routes_after side k answer kept ≡ kept
  rested_routes (OfHost s (Sets setting)) e none =
      apart_routes setting (same_side s side) (record { act = Sets setting; answer = e.answer; found = e.found }) none
  rested_routes (OfHost s (Calls i call)) e none = refl
  rested_routes (OfHost s (Opens n)) e none = refl
  rested_routes (OfHost s (Asks instant)) e none = refl
  rested_routes (OfHost s (Polls instant budget)) e none = refl
  rested_routes (OfLink act) e none = refl

  alone_setting : (setting : Setting) (b : Bool) → (not b || false) ≡ true → (if b then routes_by setting answer kept else kept) ≡ kept
  alone_setting setting true is = absurd (cc)
  alone_setting setting false is = refl

  alone_routes : (t : ℤ) (k : Kind) → leaves_alone side t k ≡ true → routes_after side k answer kept ≡ kept
  alone_routes t (OfHost s (Sets setting)) alone = alone_setting setting (same_side s side) alone
  alone_routes t (OfHost s (Calls i call)) alone = refl
  alone_routes t (OfHost s (Opens n)) alone = refl
  alone_routes t (OfHost s (Asks instant)) alone = refl
  alone_routes t (OfHost s (Polls instant budget)) alone = refl
  alone_routes t (OfLink act) alone = refl

first_routes : (starts : Starts) (side : Side) → RoutesAre (routes_left starts side []) (node (unused_both starts) side).host.inner.routes
first_routes starts A = record { added = []; is = sym (append-nil starts.a.host.inner.routes); forever = tt }
first_routes starts B = record { added = []; is = sym (append-nil starts.b.host.inner.routes); forever = tt }

routes_next : (starts : Starts) (past : List Entry) (e : Entry) (old new : Nodes) (side : Side) → HasActed old new side (kind_of e.event) e ⊎
    HasRested old new side (kind_of e.event) e
    → RoutesAre (routes_left starts side past) (node old side).host.inner.routes →
    RoutesAre (routes_left starts side (e ∷ past)) (node new side).host.inner.routes
routes_next starts past e old new side (inl acted) before =
    subst (λ (k : Kind). RoutesAre (routes_after side k e.answer (routes_left starts side past)) (node new side).host.inner.routes) (sym acted.is)
    (acts_routes side (node old side) (node new side) acted.act e.answer e.found (routes_left starts side past) acted.acts before)
routes_next starts past e old new side (inr rested) before =
    subst (λ (rs : List Route). RoutesAre rs (node new side).host.inner.routes)
    (sym (rested_routes side e.answer (routes_left starts side past) (kind_of e.event) e rested.deeds))
    (same_routes (routes_left starts side past) (node old side).host.inner.routes (node new side).host.inner.routes
    (ap (λ (m : Machine). m.host.inner.routes) rested.machine) before)

pub routes_are : (starts : Starts) (history : List Entry) (hosts : Nodes) (side : Side) → WorldRun history (unused_both starts) hosts
    → RoutesAre (routes_left starts side history) (node hosts side).host.inner.routes
routes_are starts [] hosts side run =
    subst (λ (x : Nodes). RoutesAre (routes_left starts side []) (node x side).host.inner.routes) (sym run) (first_routes starts side)
routes_are starts (e ∷ past) hosts side run =
    routes_next starts past e run.0 hosts side (moved run.0 e hosts (kind_of e.event) run.2.happens side) (routes_are starts past run.0 side run.1)

forever_outside : (from until : ℤ) (rs : List Route) → AreForever rs → NoneExpires from until rs
forever_outside from until [] all = tt
forever_outside from until (r ∷ rs) all = (subst (IsOutside from until) (sym all.0) tt, forever_outside from until rs all.1)

none_expires : (from until : ℤ) (kept routes : List Route) → RoutesAre kept routes → NoneExpires from until kept → NoneExpires from until routes
none_expires from until kept routes are out =
    subst (NoneExpires from until) (sym are.is)
    (all_append (λ r. IsOutside from until r.expires_at) kept are.added out (forever_outside from until are.added are.forever))

-- AS IT WAS ASKED

empty : (xs : List (List ℕ)) → length xs ≡ 0 → xs ≡ []
empty [] is = refl
empty (x ∷ xs) is = absurd (omega (arith, is))

waiting_count : (hosts : Nodes) (side : Side) → waiting_before (counts_of hosts) side ≡ length (node hosts side).link.waiting
waiting_count hosts A = refl
waiting_count hosts B = refl

sent_count : (hosts : Nodes) (side : Side) → sent_before (counts_of hosts) side ≡ length (node hosts side).link.sent
sent_count hosts A = refl
sent_count hosts B = refl

own_act : (side : Side) (t : ℤ) (act : Act) → leaves_alone side t (OfHost side act) ≡ true → is_idle t act ≡ true
own_act A t act is = is
own_act B t act is = is

module _ (side : Side) (t : ℤ) where
  not_handed : (b : Bool) (o : Origin) → not b ≡ true → (if b then o ∷ [] else []) ≡ []
  not_handed true o is = absurd (cc)
  not_handed false o is = refl

  none_handed : (k : Kind) → leaves_alone side t k ≡ true → origins_of side k ≡ []
  none_handed (OfHost s act) alone = refl
  none_handed (OfLink (Hands o)) alone = not_handed (same_side (goes_to o) side) o alone
  none_handed (OfLink (Cuts from k at)) alone = refl

  module _ (asked_at : ℤ) (answer : Option ℤ) where
    abbrev AsAsked : NodeValue → Type 0
    AsAsked s = (asked : InnerValue) × IsAsIt asked asked_at answer s

    just_asked : (past : List Entry) (old new : Nodes) (e : Entry) → Leads past old e new → WasAsked side asked_at answer e → AsAsked (node new side)
    just_asked past old new e leads was =
        let s : NodeValue = node old side in
        let s' : NodeValue = node new side in
        let at = subst (λ (k : Kind). Happens old k e.answer e.found new) was.event leads.happens in
        let is = at.acts.2 in
        let now : s'.host.inner.instant ≡ asked_at = ap (λ (x : NodeValue). x.host.inner.instant) is in
        let says : To.At answer ≡ To.At (instant_at s asked_at) = sym was.answered ∙ at.acts.0 in
        let same : instant_at s asked_at ≡ answer = cc in
        let none : length s.link.waiting ≡ 0 = sym (ap (λ (c : Counts). waiting_before c side) leads.counted ∙ waiting_count old side) ∙ was.waiting in (
          at_instant asked_at s.host.inner,
          record {
            instant = refl;
            inner = ap (λ (x : NodeValue). x.host.inner) is ∙ ap (λ (m : ℤ). at_instant m s.host.inner) (sym now);
            since = subst (λ (m : ℤ). asked_at ≤ℤ m) (sym now) (grind (arith));
            due_instant = ap (λ (x : NodeValue). poll_instant (at_instant asked_at s.host.inner) x.host.left x.slots) is ∙ same;
            waiting = ap (λ (x : NodeValue). x.link.waiting) is ∙ empty s.link.waiting none;
          },
        )

    rested_as_it : (asked : InnerValue) (old new : Nodes) (k : Kind) (e : Entry) → leaves_alone side t k ≡ true → HasRested old new side k e →
        IsAsIt asked asked_at answer (node old side)
        → IsAsIt asked asked_at answer (node new side)
    rested_as_it asked old new k e alone rested held =
        let m = rested.machine in
        record {
          instant = held.instant;
          inner = subst (λ (x : Machine). x.host.inner ≡ at_instant x.host.inner.instant asked) (sym m) held.inner;
          since = subst (λ (x : Machine). asked_at ≤ℤ x.host.inner.instant) (sym m) held.since;
          due_instant = ap (λ (x : Machine). poll_instant asked x.host.left x.slots) m ∙ held.due_instant;
          waiting =
              rested.waiting ∙ ap (λ (os : List Origin). (node old side).link.waiting ++ map (frame_of_origin old) os) (none_handed k alone)
              ∙ append-nil (node old side).link.waiting ∙ held.waiting;
        }

    module _ (due : DueAsBefore) (starts : Starts) (early : IsEarlier t answer) where
      asked_next : (past : List Entry) (e : Entry) (old new : Nodes) → WorldRun past (unused_both starts) old → Leads past old e new →
          leaves_alone side t (kind_of e.event) ≡ true
          → NoneExpires asked_at t (routes_left starts side past) → HasActed old new side (kind_of e.event) e ⊎ HasRested old new side (kind_of e.event) e →
          AsAsked (node old side) → AsAsked (node new side)
      asked_next past e old new run leads alone out (inr rested) before = (before.0, rested_as_it before.0 old new (kind_of e.event) e alone rested before.1)
      asked_next past e old new run leads alone out (inl acted) before = (
        before.0,
        idle_as_it due before.0 asked_at answer (node old side) (node new side) before.1 t acted.act e.answer e.found
            (own_act side t acted.act (subst (λ (k : Kind). leaves_alone side t k ≡ true) acted.is alone)) early
            (none_expires asked_at t (routes_left starts side past) (node old side).host.inner.routes (routes_are starts past old side run) out)
            (in_time old (tables_in past old) side acted.act (subst (λ (k : Kind). refusal old (tables_in past old) k ≡ None) acted.is leads.allowed))
            acted.acts,
      )

      pub as_asked : (history : List Entry) (hosts : Nodes) → WorldRun history (unused_both starts) hosts → Undisturbed side t asked_at answer history
          → NoneExpires asked_at t (routes_left starts side history) → AsAsked (node hosts side)
      as_asked [] hosts run undisturbed out = absurd undisturbed
      as_asked (e ∷ past) hosts run (inl was) out = just_asked past run.0 hosts e run.2 was
      as_asked (e ∷ past) hosts run (inr still) out =
          let out_before = subst (NoneExpires asked_at t) (alone_routes side e.answer (routes_left starts side past) t (kind_of e.event) still.0) out in
          asked_next past e run.0 hosts run.1 run.2 still.0 out_before (moved run.0 e hosts (kind_of e.event) run.2.happens side)
          (as_asked past run.0 run.1 still.1 out_before)

-- POLLS

module _ (due : DueAsBefore) (starts : Starts) where
  poll_quiet : (past : List Entry) (old new : Nodes) (e : Entry) (now : Counts) → WorldRun past (unused_both starts) old → e.before ≡ counts_of old →
      now ≡ counts_of new
      → (k : Kind) → refusal old (tables_in past old) k ≡ None → Happens old k e.answer e.found new → PollWasQuiet starts past e.before now k
  poll_quiet past old new e now run counted is (OfHost side (Polls t budget)) allowed happens = λ asked_at answer undisturbed early out.
      let held = as_asked side t asked_at answer due starts early past old run undisturbed out in
      let routes = none_expires asked_at t (routes_left starts side past) (node old side).host.inner.routes (routes_are starts past old side run) out in
      let link = same_link due held.0 asked_at answer (node old side) (node new side) held.1 t early routes
      (in_time old (tables_in past old) side (Polls t budget) allowed) budget happens.acts.0 happens.acts.1 in
      ap (λ (c : Counts). sent_before c side) is ∙ sent_count new side ∙ ap (λ (x : LinkEnd). length x.sent) link
      ∙ sym (sent_count old side) ∙ sym (ap (λ (c : Counts). sent_before c side) counted)
  poll_quiet past old new e now run counted is (OfHost side (Calls i call)) allowed happens = tt
  poll_quiet past old new e now run counted is (OfHost side (Sets setting)) allowed happens = tt
  poll_quiet past old new e now run counted is (OfHost side (Opens n)) allowed happens = tt
  poll_quiet past old new e now run counted is (OfHost side (Asks instant)) allowed happens = tt
  poll_quiet past old new e now run counted is (OfLink act) allowed happens = tt

  pub polls_quiet : (history : List Entry) (hosts : Nodes) (now : Counts) → now ≡ counts_of hosts → WorldRun history (unused_both starts) hosts →
      PollsWereQuiet starts history now
  polls_quiet [] hosts now is run = tt
  polls_quiet (e ∷ past) hosts now is run = (
    poll_quiet past run.0 hosts e now run.1 run.2.counted is (kind_of e.event) run.2.allowed run.2.happens,
    polls_quiet past run.0 e.before run.2.counted run.1,
  )
