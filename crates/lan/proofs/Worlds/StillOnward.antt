-- What no event changes of a host, whose clock never goes back; and a host in a run in which both stay.
use Rattle.std.proofs.Common.{◌≡◌, ℕ, ℤ, ◌≤ℤ◌, Bool, true, false, if◌then◌else◌, List, [], ◌∷◌, Option, Some, None, refl, sym, ap, ◌∙◌, subst, arith}
use Rattle.std.specs.Prelude.{slice_get}
use Rattle.std.specs.List.{list_any}
use Rattle.std.proofs.lemmas.Int.{ints}
use Rattle.interface.specs.Host.{HostValue}
use Rattle.iface_egress.specs.declared.socket_set.Item.{Item}
use Rattle.iface_egress.specs.declared.socket_set.SocketStorage.{SocketStorage}
use Rattle.iface_tables.specs.Inner.{InnerValue, context_of, drawn}
use Rattle.iface_tables.specs.Settings.{hardware_refusal, if_none, is_stranger}
use Rattle.iface_ingress.specs.HardwareAddress.TheVariants as Hardware
use Rattle.sockets.specs.declared.socket.Socket.{Socket}
use Rattle.tcp_block.specs.State as States
use Rattle.lan.specs.Worlds.AtLink.Answer.{Answer}
use Rattle.lan.specs.Worlds.AtLink.Call.{SocketCall}
use Rattle.lan.specs.Worlds.AtLink.Calls.{Did}
use Rattle.lan.specs.Worlds.AtLink.Does.{DidAt, ItemDoes, SlotDoes, does, draws}
use Rattle.lan.specs.Worlds.AtLink.History.{Entry}
use Rattle.lan.specs.Worlds.AtLink.Kinds.{Kind, LinkAct, Setting, kind_of, other}
use Rattle.lan.specs.Worlds.AtLink.Kinds as Sets
use Rattle.lan.specs.Worlds.AtLink.Kinds.Act.{Asks, Calls, Opens, Polls, Sets}
use Rattle.lan.specs.Worlds.AtLink.Kinds.Kind.{OfHost, OfLink}
use Rattle.lan.specs.Worlds.AtLink.Kinds.LinkAct.{Cuts, Hands}
use Rattle.lan.specs.Worlds.AtLink.Origins.{goes_to}
use Rattle.lan.specs.Worlds.AtLink.Port.{LinkEnd}
use Rattle.lan.specs.Worlds.AtLink.Refusals.{is_too_early, may_run_out, refusal, table}
use Rattle.lan.specs.Worlds.AtLink.Refused.TheVariants as For
use Rattle.lan.specs.Worlds.AtLink.Runs.{Leads, Starts, WorldRun, start, tables_in, unused_both}
use Rattle.lan.specs.Worlds.AtLink.Sets.{SetsTo}
use Rattle.lan.specs.Worlds.AtLink.Side.{Side}
use Rattle.lan.specs.Worlds.AtLink.Side.TheVariants.{A, B}
use Rattle.lan.specs.Worlds.AtLink.Node.{NodeValue, Nodes, node, with_link, with_node}
use Rattle.lan.specs.Worlds.AtLink.Steps.{Happens, linked}
use Rattle.lan.specs.Worlds.Still.{AreStill, StillRun}
use Rattle.lan.proofs.Worlds.Hosts.Polling.{polled}
use Rattle.lan.proofs.Worlds.Moves.EachRun.{none_if}
use Rattle.lan.proofs.Worlds.Moves.Held.{IsSeenAs}
use Rattle.lan.proofs.Worlds.Moves.Nets.{either_side}

-- WHAT NO EVENT CHANGES, and that no clock goes back

pub record IsOnward (i i' : InnerValue) : Type 0 where
  pub mtu : i'.mtu ≡ i.mtu
  pub checksums : i'.checksums ≡ i.checksums
  pub isn_key : i'.isn_key ≡ i.isn_key
  pub host_requirements : i'.host_requirements ≡ i.host_requirements
  pub later : i.instant ≤ℤ i'.instant

no_earlier : (t : ℤ) → t ≤ℤ t
no_earlier t = omega (arith, ints)

itself : (i : InnerValue) → IsOnward i i
itself i = record { mtu = refl; checksums = refl; isn_key = refl; host_requirements = refl; later = no_earlier i.instant }

where_same : (i i' : InnerValue) → i' ≡ i → IsOnward i i'
where_same i i' is = subst (IsOnward i) (sym is) (itself i)

abbrev inner_of : NodeValue → InnerValue
inner_of s = s.host.inner

-- a call may draw a word
drawn_so : (draws : Bool) (h : HostValue) → IsOnward h.inner (if draws then record h { inner = drawn h.inner } else h).inner
drawn_so true h = record { mtu = refl; checksums = refl; isn_key = refl; host_requirements = refl; later = no_earlier h.inner.instant }
drawn_so false h = itself h.inner

module _ (s s' : NodeValue) (i : ℕ) (call : SocketCall) (answer : Answer) (found : Option States.State) where
  did_so : (item : Item Socket) (o : Option (Did Socket)) → DidAt s i item call o answer found s' → IsOnward (inner_of s) (inner_of s')
  did_so item None did = absurd did
  did_so item (Some d) did =
      subst (λ (x : NodeValue). IsOnward (inner_of s) (inner_of x)) (sym did.2) (drawn_so (draws (context_of s.host.inner) item.socket call) s.host)

  item_so : (o : Option (Item Socket)) → ItemDoes s i o call answer found s' → IsOnward (inner_of s) (inner_of s')
  item_so None did = absurd did
  item_so (Some item) did = did_so item (does (context_of s.host.inner) item.socket call) did

  slot_so : (o : Option (SocketStorage Socket)) → SlotDoes s i o call answer found s' → IsOnward (inner_of s) (inner_of s')
  slot_so None did = absurd did
  slot_so (Some slot) did = item_so slot.inner did

-- a setting
hardware_so : {E : Type 0} (o : Option E) (i new : InnerValue) → IsOnward i new → IsOnward i (if_none o new i)
hardware_so None i new on = on
hardware_so (Some e) i new on = itself i

addresses_so : (strange : Bool) (i new : InnerValue) → IsOnward i new → IsOnward i (if strange then i else new)
addresses_so true i new on = itself i
addresses_so false i new on = on

host_so : (h h' : HostValue) (new : HostValue) → h' ≡ new → IsOnward h.inner new.inner → IsOnward h.inner h'.inner
host_so h h' new is on = subst (λ (x : HostValue). IsOnward h.inner x.inner) (sym is) on

sets_so : (h : HostValue) (setting : Setting) (h' : HostValue) → SetsTo h setting h' → IsOnward h.inner h'.inner
sets_so h (Sets.HardwareAddr address) h' sets =
    host_so h h' _ sets (hardware_so (hardware_refusal h.inner.hardware (Hardware.Ethernet address)) h.inner _
    (record { mtu = refl; checksums = refl; isn_key = refl; host_requirements = refl; later = no_earlier h.inner.instant }))
sets_so h (Sets.Addrs blocks) h' sets =
    host_so h h' _ sets (addresses_so (list_any is_stranger blocks) h.inner _
    (record { mtu = refl; checksums = refl; isn_key = refl; host_requirements = refl; later = no_earlier h.inner.instant }))
sets_so h (Sets.Route router) h' sets =
    host_so h h' _ sets.2 (record { mtu = refl; checksums = refl; isn_key = refl; host_requirements = refl; later = no_earlier h.inner.instant })
sets_so h (Sets.AnyIp any) h' sets =
    host_so h h' _ sets (record { mtu = refl; checksums = refl; isn_key = refl; host_requirements = refl; later = no_earlier h.inner.instant })
sets_so h (Sets.ReassemblyTimeout timeout) h' sets =
    host_so h h' _ sets (record { mtu = refl; checksums = refl; isn_key = refl; host_requirements = refl; later = no_earlier h.inner.instant })

-- an instant that is allowed
not_early : (s : NodeValue) (t : ℤ) → is_too_early s t ≡ false → s.host.inner.instant ≤ℤ t
not_early s t is = grind (arith, ints, is)

-- the link
at_end : (hosts : Nodes) (side : Side) (end : LinkEnd) (s : Side) →
    inner_of (node (with_node hosts side (with_link (node hosts side) end)) s) ≡ inner_of (node hosts s)
at_end hosts A end A = refl
at_end hosts A end B = refl
at_end hosts B end A = refl
at_end hosts B end B = refl

link_so : (hosts : Nodes) (act : LinkAct) (s : Side) → inner_of (node (linked hosts act) s) ≡ inner_of (node hosts s)
link_so hosts (Hands origin) s = at_end hosts (goes_to origin) _ s
link_so hosts (Cuts from k at) s = at_end hosts from _ s

module _ (old new : Nodes) (past : List Entry) (e : Entry) where
  abbrev On : Side → Type 0
  On s = IsOnward (inner_of (node old s)) (inner_of (node new s))

  on_side : (side : Side) → node new (other side) ≡ node old (other side) → On side → (s : Side) → On s
  on_side side rests this =
      either_side side On this (where_same (inner_of (node old (other side))) (inner_of (node new (other side))) (ap inner_of rests))

  kind_onward : (k : Kind) → refusal old (tables_in past old) k ≡ None → Happens old k e.answer e.found new → (s : Side) → On s
  kind_onward (OfHost side (Calls i call)) none acts =
      on_side side acts.rests (slot_so (node old side) (node new side) i call e.answer e.found (slice_get (node old side).slots i) acts.acts)
  kind_onward (OfHost side (Sets setting)) none acts =
      on_side side acts.rests (subst (λ (x : NodeValue). IsOnward (inner_of (node old side)) (inner_of x)) (sym acts.acts.0.3)
      (sets_so (node old side).host setting acts.acts.0.0 acts.acts.0.1))
  kind_onward (OfHost side (Opens n)) none acts =
      on_side side acts.rests (where_same (inner_of (node old side)) (inner_of (node new side)) (ap inner_of acts.acts.2))
  kind_onward (OfHost side (Asks t)) none acts =
      let early = none_if (is_too_early (node old side) t) For.Moment None none in
      on_side side acts.rests (subst (λ (x : NodeValue). IsOnward (inner_of (node old side)) (inner_of x)) (sym acts.acts.2)
      (record { mtu = refl; checksums = refl; isn_key = refl; host_requirements = refl; later = not_early (node old side) t early.0 }))
  kind_onward (OfHost side (Polls t budget)) none acts =
      let s = node old side in
      let many = may_run_out s (table (tables_in past old) side) budget in
      let rest : Option Rattle.lan.specs.Worlds.AtLink.Refused.Refused = if is_too_early s t then Some For.Moment else None in
      let early = none_if (is_too_early s t) For.Moment None (none_if many For.TooManyCut rest none).1 in
      let is = polled s (node new side) t budget acts.acts.0 acts.acts.1 in
      on_side side acts.rests (record {
        mtu = is.settings.mtu;
        checksums = is.settings.checksums;
        isn_key = is.settings.isn_key;
        host_requirements = is.settings.host_requirements;
        later = subst (λ (u : ℤ). s.host.inner.instant ≤ℤ u) (sym is.now) (not_early s t early.0);
      })
  kind_onward (OfLink act) none acts = λ s.
      where_same (inner_of (node old s)) (inner_of (node new s)) (ap (λ (h : Nodes). inner_of (node h s)) acts.2 ∙ link_so old act s)

-- RUNS

module _ (starts : Starts) where
  abbrev pub first : Side → InnerValue
  first s = (start starts s).host.inner

  abbrev pub instants : Nodes → Side → ℤ
  instants hosts s = (node hosts s).host.inner.instant

  abbrev pub ran : (history : List Entry) (hosts : Nodes) → StillRun starts history hosts → WorldRun history (unused_both starts) hosts
  ran [] hosts still = still.0
  ran (e ∷ past) hosts (before, still, leads, all) = (before, ran past before still, leads)

  pub now_still : (history : List Entry) (hosts : Nodes) → StillRun starts history hosts → AreStill starts hosts
  now_still [] hosts still = still.1
  now_still (e ∷ past) hosts (before, still, leads, all) = all

  pub onward : (old new : Nodes) (past : List Entry) (e : Entry) → Leads past old e new → (s : Side) →
      IsOnward (inner_of (node old s)) (inner_of (node new s))
  onward old new past e leads = kind_onward old new past e (kind_of e.event) leads.allowed leads.happens

  unused_inner : (s : Side) → inner_of (node (unused_both starts) s) ≡ first s
  unused_inner A = refl
  unused_inner B = refl

  seen_at_first : (hosts : Nodes) → hosts ≡ unused_both starts → (s : Side) → IsSeenAs (first s) (inner_of (node hosts s))
  seen_at_first hosts is s =
      let same : inner_of (node hosts s) ≡ first s = ap (λ (h : Nodes). inner_of (node h s)) is ∙ unused_inner s in
      record {
        addresses = ap (λ (i : InnerValue). i.addresses) same;
        any_ip = ap (λ (i : InnerValue). i.any_ip) same;
        groups = ap (λ (i : InnerValue). i.groups) same;
        mtu = ap (λ (i : InnerValue). i.mtu) same;
        checksums = ap (λ (i : InnerValue). i.checksums) same;
        isn_key = ap (λ (i : InnerValue). i.isn_key) same;
        host_requirements = ap (λ (i : InnerValue). i.host_requirements) same;
      }

  pub seen_in_run : (history : List Entry) (hosts : Nodes) → StillRun starts history hosts → (s : Side) → IsSeenAs (first s) (inner_of (node hosts s))
  seen_in_run [] hosts still s = seen_at_first hosts still.0 s
  seen_in_run (e ∷ past) hosts (before, still, leads, all) s =
      let was = seen_in_run past before still s in
      let on = onward before hosts past e leads s in
      record {
        addresses = (all s).addresses;
        any_ip = (all s).any_ip;
        groups = (all s).groups;
        mtu = on.mtu ∙ was.mtu;
        checksums = on.checksums ∙ was.checksums;
        isn_key = on.isn_key ∙ was.isn_key;
        host_requirements = on.host_requirements ∙ was.host_requirements;
      }
