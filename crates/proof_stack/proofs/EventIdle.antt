-- In a run over a medium that has no hardware addresses no socket waits for a neighbour.
use Rattle.std.proofs.Common.{◌≡◌, ℕ, List, [], ◌∷◌, ◌++◌, Option, Some, None, refl, sym, ap, ◌∙◌, subst}
use Rattle.std.specs.Prelude.{slice_get}
use Rattle.net_base.specs.DeviceCapabilities.{DeviceCapabilities}
use Rattle.ip_wire.specs.HardwareAddress.TheVariants as Hardware
use Rattle.iface_egress.specs.Meta.{unmarked}
use Rattle.iface_egress.specs.declared.socket_meta.Meta.{Meta}
use Rattle.iface_egress.specs.declared.socket_set.Item.{Item}
use Rattle.iface_egress.specs.declared.socket_set.SocketStorage.{SocketStorage}
use Rattle.iface_ingress.specs.Socket.{Socket}
use Rattle.interface.specs.Serve.{is_waiting}
use Rattle.iface_tables.specs.Inner.{context_of}
use Rattle.tcp_block.specs.State as States
use Rattle.sim_link.specs.Medium.TheVariants as Medium
use Rattle.sim_link.specs.Port.{LinkEnd, PortMove}
use Rattle.lan.specs.declared.at_link.history.answer.Answer.{Answer}
use Rattle.lan.specs.declared.at_link.history.event.Side.{Side}
use Rattle.lan.specs.declared.at_link.history.event.Side.TheVariants.{A, B}
use Rattle.lan.specs.Worlds.AtLink.Call.{SocketCall}
use Rattle.lan.specs.Worlds.AtLink.Calls.{Did}
use Rattle.lan.specs.Worlds.AtLink.Does.{DidAt, ItemDoes, SlotDoes, does}
use Rattle.lan.specs.Worlds.AtLink.Initial.{IsInitialWorld}
use Rattle.lan.specs.Worlds.AtLink.History.{Entry}
use Rattle.lan.specs.Worlds.AtLink.Kinds.{Act, Kind, LinkAct, kind_of, other}
use Rattle.lan.specs.Worlds.AtLink.Kinds.Act.{Asks, Calls, Opens, Polls, Sets}
use Rattle.lan.specs.Worlds.AtLink.Kinds.Kind.{OfHost, OfLink}
use Rattle.lan.specs.Worlds.AtLink.Kinds.LinkAct.{Cuts, Hands}
use Rattle.lan.specs.Worlds.AtLink.Origins.{goes_to}
use Rattle.lan.specs.Worlds.AtLink.Runs.{Starts, start, unused_both}
use Rattle.lan.specs.Worlds.AtLink.Node.{NodeValue, Nodes, at_port, node, with_link, with_node}
use Rattle.lan.specs.Worlds.AtLink.Steps.{Acts, Happens, linked}
use Rattle.lan.specs.Worlds.Events.{AreTyped}
use Rattle.lan.specs.Worlds.Still.{StillRun}
use Rattle.lan.proofs.Worlds.Moves.Nets.{either_side}
use Rattle.lan.proofs.Worlds.Runs.{has_come}
use Rattle.lan.proofs.Worlds.StillOnward.{ran}
use Rattle.proof_stack.proofs.EventLeave.{on_ip, same_link}
use Rattle.proof_stack.proofs.EventUnmarked.{found, polled_unmarked, with_set}
use Rattle.proof_stack.proofs.SentOff.{is_ip}
use Rattle.proof_stack.specs.Progress.AtOnce.{AreUnmarked, IsUnmarked}
use Rattle.proof_stack.specs.Progress.KnownHopLimit.{IsUnmarkedAt}
use Rattle.proof_stack.specs.Progress.Reach.{hosts_before}
use Rattle.proof_stack.specs.Progress.Serving.{WaitsForNone}
use Rattle.proof_stack.specs.Progress.Within.{NobodyWaits}

-- ONE EVENT

abbrev Unmarked : NodeValue → Type 0
Unmarked s = AreUnmarked s.slots

abbrev Bare : NodeValue → Type 0
Bare s = s.host.inner.hardware ≡ Hardware.Ip

module _ (s s' : NodeValue) (i : ℕ) (call : SocketCall) (answer : Answer) (found_it : Option States.State) (all : Unmarked s) where
  did_so : (item : Item Socket) (o : Option (Did Socket)) → item.meta ≡ unmarked → DidAt s i item call o answer found_it s' → Unmarked s'
  did_so item None is did = absurd did
  did_so item (Some d) is did = subst Unmarked (sym did.2) (with_set s.slots i _ is all)

  item_so : (o : Option (Item Socket)) → IsUnmarked o → ItemDoes s i o call answer found_it s' → Unmarked s'
  item_so None is did = absurd did
  item_so (Some item) is did = did_so item (does (context_of s.host.inner) item.socket call) is did

  slot_so : (o : Option (SocketStorage Socket)) → slice_get s.slots i ≡ o → SlotDoes s i o call answer found_it s' → Unmarked s'
  slot_so None at did = absurd did
  slot_so (Some slot) at did = item_so slot.inner (found s.slots i slot at all) did

acts_so : (s s' : NodeValue) (act : Act) (answer : Answer) (found_it : Option States.State) → Acts s act answer found_it s' → Bare s → Unmarked s → Unmarked s'
acts_so s s' (Calls i call) answer found_it acts bare all = slot_so s s' i call answer found_it all (slice_get s.slots i) refl acts
acts_so s s' (Sets setting) answer found_it acts bare all = subst Unmarked (sym acts.0.3) all
acts_so s s' (Opens n) answer found_it acts bare all = subst Unmarked (sym acts.2) all
acts_so s s' (Asks instant) answer found_it acts bare all = subst Unmarked (sym acts.2) all
acts_so s s' (Polls instant budget) answer found_it (changed, at, told, none) bare all =
    polled_unmarked PortMove instant budget (at_port at.port s) (at_port at.port_after s') changed bare all at.polls

at_end : (hosts : Nodes) (side : Side) (end : LinkEnd) (s : Side) →
    (node (with_node hosts side (with_link (node hosts side) end)) s).slots ≡ (node hosts s).slots
at_end hosts A end A = refl
at_end hosts A end B = refl
at_end hosts B end A = refl
at_end hosts B end B = refl

pub link_so : (hosts : Nodes) (act : LinkAct) (s : Side) → (node (linked hosts act) s).slots ≡ (node hosts s).slots
link_so hosts (Hands origin) s = at_end hosts (goes_to origin) _ s
link_so hosts (Cuts from k at) s = at_end hosts from _ s

kind_so : (old new : Nodes) (k : Kind) (answer : Answer) (found_it : Option States.State) → Happens old k answer found_it new → ((s : Side) → Bare (node old s)) →
    ((s : Side) → Unmarked (node old s)) → (s : Side) → Unmarked (node new s)
kind_so old new (OfHost side act) answer found_it happens bare all =
    either_side side (λ s. Unmarked (node new s)) (acts_so (node old side) (node new side) act answer found_it happens.acts (bare side) (all side))
    (subst Unmarked (sym happens.rests) (all (other side)))
kind_so old new (OfLink act) answer found_it happens bare all = λ s.
    subst AreUnmarked (sym (ap (λ (hosts : Nodes). (node hosts s).slots) happens.2 ∙ link_so old act s)) (all s)

-- ALL EVENTS

module _ (starts : Starts) (initial : IsInitialWorld starts) (ip : starts.a.capabilities.medium ≡ Medium.Ip) (first : (s : Side) → AreUnmarked (start starts s).slots) where
  bare : (history : List Entry) (hosts : Nodes) → AreTyped history → StillRun starts history hosts → (s : Side) → Bare (node hosts s)
  bare history hosts typed still s =
      let came = has_come starts history hosts initial typed (ran starts history hosts still) in
      is_ip (node hosts s).host.inner.hardware
      (sym (came.joined.joined.device s) ∙ ap (λ (c : DeviceCapabilities). c.medium) (same_link starts history hosts still s) ∙ on_ip starts initial ip s)

  unused_so : (s : Side) → Unmarked (node (unused_both starts) s)
  unused_so A = first A
  unused_so B = first B

  all_unmarked : (history : List Entry) (hosts : Nodes) → AreTyped history → StillRun starts history hosts → (s : Side) → Unmarked (node hosts s)
  all_unmarked [] hosts typed still s = subst (λ (h : Nodes). Unmarked (node h s)) (sym still.0) (unused_so s)
  all_unmarked (e ∷ past) hosts typed (before, still, leads, are) s =
      kind_so before hosts (kind_of e.event) e.answer e.found leads.happens (bare past before typed.1 still) (all_unmarked past before typed.1 still) s

  pub unmarked_at : (history : List Entry) (hosts : Nodes) → AreTyped history → StillRun starts history hosts → (s : Side) (slot : ℕ)
      → IsUnmarkedAt slot (node hosts s)
  unmarked_at history hosts typed still s slot at item here is =
      let of_item : IsUnmarked at.inner = found (node hosts s).slots slot at here (all_unmarked history hosts typed still s) in
      subst IsUnmarked is of_item

  pub waits_for_none : (history : List Entry) (hosts : Nodes) → AreTyped history → StillRun starts history hosts → (s : Side) (slot : ℕ) → WaitsForNone slot (node hosts s)
  waits_for_none history hosts typed still s slot at item here is =
      let mark : item.meta ≡ unmarked = unmarked_at history hosts typed still s slot at item here is in
      ap (λ (m : Meta). is_waiting (node hosts s).host.inner m) mark

  -- after each event
  pub none_wait : (past more : List Entry) (hosts : Nodes) (still : StillRun starts (more ++ past) hosts) (slots : Side → ℕ) → AreTyped (more ++ past)
      → NobodyWaits starts slots past more hosts still
  none_wait past [] hosts still slots typed = λ s. waits_for_none past hosts typed still s (slots s)
  none_wait past (e ∷ more) hosts still slots typed =
      (none_wait past more still.0 still.1 slots typed.1, λ s. waits_for_none (e ∷ more ++ past) hosts typed still s (slots s))

  -- and at the hosts between
  pub first_unmarked : (past more : List Entry) (hosts : Nodes) (still : StillRun starts (more ++ past) hosts) → AreTyped (more ++ past) → (s : Side)
      (slot : ℕ) → IsUnmarkedAt slot (node (hosts_before starts past more hosts still) s)
  first_unmarked past [] hosts still typed s slot = unmarked_at past hosts typed still s slot
  first_unmarked past (e ∷ more) hosts still typed s slot = first_unmarked past more still.0 still.1 typed.1 s slot
