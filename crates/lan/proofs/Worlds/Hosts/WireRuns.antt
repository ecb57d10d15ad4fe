-- A run of a new host by the frames that it sends: those that pass a test are a second apart.
use Rattle.std.proofs.Common.{◌≡◌, ℕ, ℤ, Bool, true, false, cond, if◌then◌else◌, List, [], ◌∷◌, ◌++◌, length, map, Option, Some, None, IfSome, refl}
use Rattle.std.proofs.Common.{sym, ◌∙◌, ap, subst}
use Rattle.std.specs.Prelude.{slice_get}
use Rattle.std.specs.List.{AllByRecursion, list_any}
use Rattle.sim_link.specs.DeviceCapabilities.{DeviceCapabilities}
use Rattle.sim_link.specs.Medium.{Medium}
use Rattle.iface_ingress.specs.AddressTests.{is_ethernet_unicast}
use Rattle.iface_ingress.specs.EthernetAddress.{EthernetAddress}
use Rattle.iface_ingress.specs.HardwareAddress.{HardwareAddress}
use Rattle.iface_ingress.specs.HardwareAddress.TheVariants as Hardware
use Rattle.interface.specs.IpRepr.{IpRepr}
use Rattle.iface_tables.specs.Inner.{context_of}
use Rattle.iface_tables.specs.Settings.{hardware_refusal, if_none, is_stranger, routes_of}
use Rattle.iface_tables.specs.Neighbor.{flushed}
use Rattle.iface_tables.specs.declared.config.HardwareAddrError.TheVariants as Refusals
use Rattle.iface_egress.specs.Fragments.{LeftValue}
use Rattle.iface_egress.specs.Set.{with_socket}
use Rattle.iface_egress.specs.declared.socket_set.Item.{Item}
use Rattle.iface_egress.specs.declared.socket_set.SocketStorage.{SocketStorage}
use Rattle.interface.specs.Host.{HostValue}
use Rattle.interface.specs.Made.{with_inner}
use Rattle.lan.specs.Worlds.AtLink.Answer.{Answer}
use Rattle.lan.specs.Worlds.AtLink.Call.{SocketCall}
use Rattle.lan.specs.Worlds.AtLink.Does.{DidAt, ItemDoes, SlotDoes, does}
use Rattle.lan.specs.Worlds.AtLink.Initial.{IsInitialWorld}
use Rattle.lan.specs.Worlds.AtLink.History.{Entry}
use Rattle.lan.specs.Worlds.AtLink.Kinds.{Act, Kind, Setting, kind_of, same_side}
use Rattle.lan.specs.Worlds.AtLink.Kinds as Settings
use Rattle.lan.specs.Worlds.AtLink.Kinds.Act.{Calls, Sets, Opens, Asks, Polls}
use Rattle.lan.specs.Worlds.AtLink.Kinds.Kind.{OfHost, OfLink}
use Rattle.lan.specs.Worlds.AtLink.Origins.{medium_of}
use Rattle.lan.specs.Worlds.AtLink.Port.{LinkEnd}
use Rattle.lan.specs.Worlds.AtLink.Runs.{Starts, WorldRun, start, unused, unused_both}
use Rattle.lan.specs.Worlds.AtLink.Sets.{SetsTo, has_route_room}
use Rattle.lan.specs.Worlds.AtLink.Side.{Side}
use Rattle.lan.specs.Worlds.AtLink.Side.TheVariants.{A, B}
use Rattle.lan.specs.Worlds.AtLink.Node.{NodeValue, Nodes, node}
use Rattle.lan.specs.Worlds.AtLink.Steps.{Acts}
use Rattle.lan.specs.Worlds.AtLink.Calls.{Did}
use Rattle.sockets.specs.Context.{ContextValue}
use Rattle.sockets.specs.Packet.{PayloadValue}
use Rattle.sockets.specs.declared.socket.Socket.{Socket}
use Rattle.tcp_block.specs.State as States
use Rattle.lan.specs.Worlds.Events.{AreTyped, HasRange, IsTyped}
use Rattle.lan.specs.Worlds.Hosts.RequestSilence.{AreApart}
use Rattle.lan.specs.Worlds.Hosts.HostRuns.{Deed, IsHostRun, deed_in, deed_of, deeds}
use Rattle.lan.specs.Worlds.Hosts.Machine.{HostRun, HostStep, Machine, Turn, at_link, machine_of, instant_of}
use Rattle.lan.specs.Worlds.Hosts.Wire.{FramesAreApart, HasPorts, asked, asked_in, asks, is_request, on_medium}
use Rattle.lan.specs.Worlds.Link.Frames.{medium_on}
use Rattle.lan.specs.Worlds.Link.Sides.{IsSound, IsNode}
use Rattle.lan.specs.Worlds.Moves.Raws.{OfItem, OfEach}
use Rattle.lan.proofs.Worlds.Acts.{IsSettled, asked_settled, call_settled, room_settled}
use Rattle.lan.proofs.Worlds.Beginnings.{first_joined}
use Rattle.lan.proofs.Worlds.Hosts.Asking.{AreSilent}
use Rattle.lan.proofs.Worlds.Hosts.Calling.{call_quiet, setting_quiet}
use Rattle.lan.proofs.Worlds.Hosts.WireAnswers.{port_replies}
use Rattle.lan.proofs.Worlds.Hosts.WireFrames.{IsTest}
use Rattle.lan.proofs.Worlds.Hosts.WireReplies.{RepliesMayGo}
use Rattle.lan.proofs.Worlds.Hosts.WireTests.{Any, AnyKind, AsksNobody, any_calls, any_offers, any_replies, any_sockets, asks_test, every, port_calls}
use Rattle.lan.proofs.Worlds.Hosts.WireTests.{port_offers}
use Rattle.lan.proofs.Worlds.Hosts.WireTests.{port_sockets, request_test}
use Rattle.lan.proofs.Worlds.Hosts.Wiring.{IsLeftSo, OffersMayGo, polled_so}
use Rattle.lan.proofs.Worlds.Moves.EachRun.{Keeps}
use Rattle.lan.proofs.Worlds.Moves.EachSocket.{IsOfSockets, found, with_set}
use Rattle.lan.proofs.Worlds.Moves.Slots.{Slots}
use Rattle.lan.proofs.Worlds.Settings.{flushed_sound, any_sound, used_sound, routed_sound, node_sound}

nothing_more : (xs ys : List (List ℕ)) → xs ++ ys ≡ xs → ys ≡ []
nothing_more [] ys same = same
nothing_more (x ∷ xs) ys same = nothing_more xs ys (let e : xs ++ ys ≡ xs = cc in e)

-- SETTINGS

-- what a setting leaves of a host
record IsSetSo (h h' : HostValue) : Type 0 where
  sound : IsSound h.inner → IsSound h'.inner
  own : IsNode h.inner.hardware → IsNode h'.inner.hardware
  left : h'.left ≡ h.left

as_it_was : (h : HostValue) → IsSetSo h h
as_it_was h = record { sound = λ s. s; own = λ is. is; left = refl }

addresses_by : (strange : Bool) (h : HostValue) (blocks : List Rattle.wire_address.specs.declared.ip.IpCidr.IpCidr) →
    IsSetSo h (with_inner h (cond strange h.inner (record h.inner { addresses = blocks; neighbors = flushed h.inner.neighbors })))
addresses_by true h blocks = as_it_was h
addresses_by false h blocks = record { sound = flushed_sound h.inner blocks; own = λ is. is; left = refl }

hardware_by : (h : HostValue) (hardware : HardwareAddress) (address : EthernetAddress) → h.inner.hardware ≡ hardware → length address.0 ≡ 6 →
    IsSetSo h (with_inner h
    (if_none (hardware_refusal hardware (Hardware.Ethernet address)) (record h.inner { hardware = Hardware.Ethernet address }) h.inner))
hardware_by h Hardware.Ip address is six = as_it_was h
hardware_by h (Hardware.Ethernet own) address is six =
    elim (is_ethernet_unicast address) as
    (λ b. IsSetSo h (with_inner h
    (if_none (cond b None (Some Refusals.NotUnicast)) (record h.inner { hardware = Hardware.Ethernet address }) h.inner))) [
      | true ↦ record { sound = node_sound h.inner own address is six; own = λ was. tt; left = refl }
      | false ↦ as_it_was h
    ]

set_so : (h h' : HostValue) (setting : Setting) → HasRange setting → SetsTo h setting h' → IsSetSo h h'
set_so h h' (Settings.HardwareAddr address) range is = subst (IsSetSo h) (sym is) (hardware_by h h.inner.hardware address refl range.0)
set_so h h' (Settings.Addrs blocks) range is = subst (IsSetSo h) (sym is) (addresses_by (list_any is_stranger blocks) h blocks)
set_so h h' (Settings.Route router) range is = subst (IsSetSo h) (sym is.2) (record {
  sound = routed_sound h.inner is.0 router (has_route_room router (routes_of h.inner)) range is.1;
  own = λ was. was;
  left = refl;
})
set_so h h' (Settings.AnyIp any) range is = subst (IsSetSo h) (sym is) (record { sound = any_sound h.inner any; own = λ was. was; left = refl })
set_so h h' (Settings.ReassemblyTimeout timeout) range is =
    subst (IsSetSo h) (sym is) (record { sound = used_sound h.inner; own = λ was. was; left = refl })

-- TURNS

-- what a host does has its numbers and addresses of their widths
abbrev IsTypedAct : Act → Type 0
IsTypedAct act = IsTyped (OfHost A act)

module _ (T : List ℕ → Bool) (May : IpRepr → PayloadValue → Type 0) (W : Socket → Type 0) (test : IsTest T May) (law : IsOfSockets W)
    (offers : OffersMayGo W May) (replies : RepliesMayGo May)
    (calls : (cx : ContextValue) (s : Socket) (call : SocketCall) → W s → Keeps W (does cx s call)) where
  -- a host after turns in which frames that pass left at these instants
  record IsHere (h : HostValue) (slots : Slots) (ts : List ℤ) : Type 0 where
    sound : IsSound h.inner
    own : IsNode h.inner.hardware
    left : IfSome h.left IsLeftSo
    all : OfEach W slots
    silent : AreSilent ts h.inner.neighbors.silent

  module _ (s s' : NodeValue) (i : ℕ) (call : SocketCall) (answer : Answer) (found_so : Option States.State) (all : OfEach W s.slots) where
    by_did : (item : Item Socket) (o : Option (Did Socket)) → Keeps W o → DidAt s i item call o answer found_so s' → OfEach W s'.slots
    by_did item None keeps did = absurd did
    by_did item (Some d) keeps did =
        subst (OfEach W) (sym (ap (λ (x : NodeValue). x.slots) did.2)) (with_set W s.slots i (with_socket item d.socket) keeps all)

    by_item : (o : Option (Item Socket)) → OfItem W o → ItemDoes s i o call answer found_so s' → OfEach W s'.slots
    by_item None holds did = absurd did
    by_item (Some item) holds did =
        by_did item (does (context_of s.host.inner) item.socket call) (calls (context_of s.host.inner) item.socket call holds) did

    by_slot : (o : Option (SocketStorage Socket)) → slice_get s.slots i ≡ o → SlotDoes s i o call answer found_so s' → OfEach W s'.slots
    by_slot None is did = absurd did
    by_slot (Some slot) is did = by_item slot.inner (found W s.slots i slot is all) did

  module _ (s s' : NodeValue) (sent : List (List ℕ)) (ts : List ℤ) (here : IsHere s.host s.slots ts) (joins : s'.link.sent ≡ s.link.sent ++ sent) where
    -- a turn that sends nothing
    sends_none : (t : ℤ) → s'.link.sent ≡ s.link.sent → IsHere s'.host s'.slots ts → IsHere s'.host s'.slots (asked_in T t sent ++ ts)
    sends_none t same now =
        let none : sent ≡ [] = nothing_more s.link.sent sent (sym joins ∙ same) in
        subst (λ (fs : List (List ℕ)). IsHere s'.host s'.slots (asked_in T t fs ++ ts)) (sym none) now

    settled : (t : ℤ) → IsSettled s s' → s'.host.inner.neighbors.silent ≡ s.host.inner.neighbors.silent → OfEach W s'.slots →
        IsHere s'.host s'.slots (asked_in T t sent ++ ts)
    settled t is silent all = sends_none t is.sent (record {
      sound = is.sound here.sound;
      own = subst IsNode (sym is.hardware) here.own;
      left = subst (λ (o : Option LeftValue). IfSome o IsLeftSo) (sym is.left) here.left;
      all = all;
      silent = subst (AreSilent ts) (sym silent) here.silent;
    })

    set_by : (t : ℤ) (h : HostValue) → IsSetSo s.host h → s' ≡ record s { host = h } → h.inner.neighbors.silent ≡ s.host.inner.neighbors.silent →
        IsHere s'.host s'.slots (asked_in T t sent ++ ts)
    set_by t h so is silent = sends_none t (ap (λ (x : NodeValue). x.link.sent) is)
        (subst (λ (x : NodeValue). IsHere x.host x.slots ts) (sym is) (record {
          sound = so.sound here.sound;
          own = so.own here.own;
          left = subst (λ (o : Option LeftValue). IfSome o IsLeftSo) (sym so.left) here.left;
          all = here.all;
          silent = subst (AreSilent ts) (sym silent) here.silent;
        }))

    acted : (act : Act) (answer : Answer) (found_so : Option States.State) → s.host.inner.host_requirements ≡ false → IsTypedAct act → Acts s act answer found_so s' →
        IsHere s'.host s'.slots (asked_in T (instant_of act) sent ++ ts)
    acted (Calls i call) answer found_so alone typed acts =
        settled (instant_of (Calls i call)) (call_settled s s' i call answer found_so acts) (call_quiet s s' i call answer found_so acts).clock.silent
        (by_slot s s' i call answer found_so here.all (slice_get s.slots i) refl acts)
    acted (Sets setting) answer found_so alone typed acts =
        let at = acts.0 in
        let silent : at.0.inner.neighbors.silent ≡ s.host.inner.neighbors.silent =
        sym (ap (λ (x : NodeValue). x.host.inner.neighbors.silent) at.3) ∙ (setting_quiet s s' setting answer at).clock.silent in
        set_by (instant_of (Sets setting)) at.0 (set_so s.host at.0 setting typed at.1) at.3 silent
    acted (Opens n) answer found_so alone typed acts =
        let is = acts.2 in
        settled (instant_of (Opens n)) (subst (IsSettled s) (sym is) (room_settled s n))
        (ap (λ (x : NodeValue). x.host.inner.neighbors.silent) is)
        (subst (OfEach W) (sym (ap (λ (x : NodeValue). x.slots) is)) here.all)
    acted (Asks instant) answer found_so alone typed acts =
        let is = acts.2 in
        settled (instant_of (Asks instant)) (subst (IsSettled s) (sym is) (asked_settled s instant))
        (ap (λ (x : NodeValue). x.host.inner.neighbors.silent) is)
        (subst (OfEach W) (sym (ap (λ (x : NodeValue). x.slots) is)) here.all)
    acted (Polls instant budget) answer found_so alone typed acts =
        let polled = polled_so T May W test law offers replies instant s.link.sent ts s s' budget acts.0 alone acts.1 refl here.sound here.own here.left here.silent
        here.all in
        let so = polled.2 in
        let same : so.more ≡ sent =
        following s.link.sent so.more sent (sym so.sent ∙ ap (λ (x : LinkEnd). x.sent) polled.1 ∙ joins) in
        record {
          sound = so.sound;
          own = so.own;
          left = so.left;
          all = polled.3;
          silent = subst (λ (fs : List (List ℕ)). AreSilent (asked_in T instant fs ++ ts) s'.host.inner.neighbors.silent) same so.silent;
        } where
          following : (xs ys zs : List (List ℕ)) → xs ++ ys ≡ xs ++ zs → ys ≡ zs
          following [] ys zs same = same
          following (x ∷ xs) ys zs same = following xs ys zs (let e : xs ++ ys ≡ xs ++ zs = cc in e)

  -- RUNS

  abbrev AreTypedTurns : List Turn → Type 0
  AreTypedTurns turns = AllByRecursion (λ (turn : Turn). IsTypedAct turn.act) turns

  here_now : (first : Machine) (room : ℕ) (turns : List Turn) (now : Machine) → IsHere first.host first.slots [] → AreTypedTurns turns →
      HostRun first room turns now → IsHere now.host now.slots (asked T turns)
  here_now first room [] now here typed run = subst (λ (m : Machine). IsHere m.host m.slots []) (sym run) here
  here_now first room (turn ∷ past) now here typed run =
      let step : HostStep run.0 turn now = run.3 in
      acted (at_link run.0 step.link) (at_link now step.link_after) turn.sent (asked T past) (here_now first room past run.0 here typed.1 run.1) step.joins
      turn.act turn.answer turn.found step.alone typed.0 step.acts

  pub apart_now : (first : Machine) (room : ℕ) (turns : List Turn) (now : Machine) → IsSound first.host.inner → IsNode first.host.inner.hardware →
      first.host.left ≡ None → OfEach W first.slots → AreTypedTurns turns → HostRun first room turns now → AreApart (asked T turns)
  apart_now first room turns now sound own left all typed run =
      (here_now first room turns now
      (record {
        sound = sound;
        own = own;
        left = subst (λ (o : Option LeftValue). IfSome o IsLeftSo) (sym left) tt;
        all = all;
        silent = record { apart = tt; over = tt };
      }) typed run).silent.apart

-- WORLDS

typed_act : (side : Side) (act : Act) → IsTyped (OfHost side act) → IsTypedAct act
typed_act side (Calls i call) typed = tt
typed_act side (Sets setting) typed = typed
typed_act side (Opens n) typed = tt
typed_act side (Asks t) typed = tt
typed_act side (Polls t budget) typed = tt

abbrev AreTypedDeeds : List Deed → Type 0
AreTypedDeeds ds = AllByRecursion (λ (d : Deed). IsTypedAct d.act) ds

deed_typed : (side : Side) (k : Kind) (e : Entry) (rest : List Deed) → IsTyped k → AreTypedDeeds rest → AreTypedDeeds (deed_in side k e ++ rest)
deed_typed side (OfHost s act) e rest is typed =
    if_same (same_side s side) (record { act = act; answer = e.answer; found = e.found }) (typed_act s act is) where
      if_same : (same : Bool) (d : Deed) → IsTypedAct d.act → AreTypedDeeds ((if same then d ∷ [] else []) ++ rest)
      if_same true d is = (is, typed)
      if_same false d is = typed
deed_typed side (OfLink act) e rest is typed = typed

deeds_typed : (side : Side) (history : List Entry) → AreTyped history → AreTypedDeeds (deeds side history)
deeds_typed side [] typed = tt
deeds_typed side (e ∷ past) typed = deed_typed side (kind_of e.event) e (deeds side past) typed.0 (deeds_typed side past typed.1)

turns_typed : (turns : List Turn) → AreTypedDeeds (map deed_of turns) → AllByRecursion (λ (turn : Turn). IsTypedAct turn.act) turns
turns_typed [] typed = tt
turns_typed (turn ∷ past) typed = (typed.0, turns_typed past typed.1)

same_device : (first : Machine) (room : ℕ) (turns : List Turn) (now : Machine) → HostRun first room turns now → now.capabilities ≡ first.capabilities
same_device first room [] now run = ap (λ (m : Machine). m.capabilities) run
same_device first room (turn ∷ past) now run = run.3.stays ∙ same_device first room past run.0 run.1

none_in : (T : List ℕ → Bool) (t : ℤ) (frames : List (List ℕ)) → asked_in (on_medium Medium.Ip T) t frames ≡ []
none_in T t [] = refl
none_in T t (frame ∷ frames) = none_in T t frames

none_asked : (T : List ℕ → Bool) (turns : List Turn) → asked (on_medium Medium.Ip T) turns ≡ []
none_asked T [] = refl
none_asked T (turn ∷ past) =
    ap (λ (ts : List ℤ). ts ++ asked (on_medium Medium.Ip T) past) (none_in T (instant_of turn.act) turn.sent) ∙ none_asked T past

-- on a medium without hardware addresses nothing asks
apart_by : (T : List ℕ → Bool) (turns : List Turn) (m : Medium) (h : HardwareAddress) → m ≡ medium_on h → (IsNode h → AreApart (asked T turns)) →
    AreApart (asked (on_medium m T) turns)
apart_by T turns Medium.Ethernet (Hardware.Ethernet own) is apart = apart tt
apart_by T turns Medium.Ethernet Hardware.Ip is apart = absurd cc
apart_by T turns Medium.Ip h is apart = subst AreApart (sym (none_asked T turns)) tt

started : (starts : Starts) → IsInitialWorld starts → (side : Side) →
    IsSound (start starts side).host.inner × ((start starts side).capabilities.medium ≡ medium_on (start starts side).host.inner.hardware)
    × ((start starts side).host.left ≡ None)
started starts initial A =
    let joined = first_joined starts initial in ((joined.sends A).sound, joined.device A, initial.a.idle.0)
started starts initial B =
    let joined = first_joined starts initial in ((joined.sends B).sound, joined.device B, initial.b.idle.0)

pub frames_apart : (starts : Starts) (history : List Entry) (hosts : Nodes) (side : Side) → IsInitialWorld starts → AreTyped history →
    WorldRun history (unused_both starts) hosts
    → (r : IsHostRun (record { hosts = hosts; starts = starts; history = history }) side) →
    FramesAreApart (medium_of (node hosts side)) (start starts side).slots r.turns
frames_apart starts history hosts side initial typed ran r = record {
  requests = by is_request Any AnyKind request_test any_sockets any_offers any_replies (λ cx s call holds. any_calls (does cx s call))
      (every (start starts side).slots);
  all = λ ports. by asks AsksNobody HasPorts asks_test port_sockets port_offers port_replies port_calls ports;
} where
  first : Machine
  first = machine_of (unused (start starts side))

  began : IsSound (start starts side).host.inner × ((start starts side).capabilities.medium ≡ medium_on (start starts side).host.inner.hardware)
      × ((start starts side).host.left ≡ None)
  began = started starts initial side

  by : (T : List ℕ → Bool) (May : IpRepr → PayloadValue → Type 0) (W : Socket → Type 0) → IsTest T May → IsOfSockets W → OffersMayGo W May → RepliesMayGo May
      → ((cx : ContextValue) (s : Socket) (call : SocketCall) → W s → Keeps W (does cx s call)) → OfEach W (start starts side).slots
      → AreApart (asked (on_medium (medium_of (node hosts side)) T) r.turns)
  by T May W test law offers replies calls all =
      apart_by T r.turns (medium_of (node hosts side)) (start starts side).host.inner.hardware
      (ap (λ (c : DeviceCapabilities). c.medium) (same_device first (unused (start starts side)).link.room r.turns (machine_of (node hosts side)) r.run)
      ∙ began.1)
      (λ own. apart_now T May W test law offers replies calls first (unused (start starts side)).link.room r.turns (machine_of (node hosts side)) began.0 own
      began.2 all
      (turns_typed r.turns (subst AreTypedDeeds (sym r.deeds_are) (deeds_typed side history typed))) r.run)
