-- What polls, calls and a new start keep of each socket holds of all sockets of a world, wherever its events led.
use Rattle.std.proofs.Common.{◌≡◌, ℕ, zero, suc, Bool, true, false, if◌then◌else◌, not, List, [], ◌∷◌, Option, Some, None, is_some, refl, sym, ap, subst}
use Rattle.std.specs.Prelude.{slice_get}
use Rattle.sim_link.specs.Medium.TheVariants as Medium
use Rattle.sockets.specs.Context.{ContextValue}
use Rattle.tcp_block.specs.State as States
use Rattle.sockets.specs.declared.socket.Socket.{Socket}
use Rattle.iface_tables.specs.Inner.{context_of}
use Rattle.iface_egress.specs.Set.{socket_at, socket_in, with_socket}
use Rattle.iface_egress.specs.declared.socket_set.Item.{Item}
use Rattle.iface_egress.specs.declared.socket_set.SocketStorage.{SocketStorage}
use Rattle.sim_link.specs.PacketInFrame.{names_tcp_or_udp}
use Rattle.lan.specs.Worlds.AtLink.Call as Call
use Rattle.lan.specs.Worlds.AtLink.Call.{SocketCall}
use Rattle.lan.specs.Worlds.AtLink.History.{Entry}
use Rattle.lan.specs.Worlds.AtLink.Kinds.{other, kind_of, calls, Kind, LinkAct}
use Rattle.lan.specs.Worlds.AtLink.Kinds.Act.{Calls, Sets, Opens, Asks, Polls}
use Rattle.lan.specs.Worlds.AtLink.Kinds.Kind.{OfHost, OfLink}
use Rattle.lan.specs.Worlds.AtLink.Kinds.LinkAct.{Hands, Cuts}
use Rattle.lan.specs.Worlds.AtLink.Tables.{is_wrong_kind}
use Rattle.lan.specs.Worlds.AtLink.Answer.{Answer}
use Rattle.lan.specs.Worlds.AtLink.Refused.{Refused}
use Rattle.lan.specs.Worlds.AtLink.Refused.TheVariants as For
use Rattle.lan.specs.Worlds.AtLink.Side.{Side}
use Rattle.lan.specs.Worlds.AtLink.Side.TheVariants.{A, B}
use Rattle.lan.specs.Worlds.AtLink.Calls.{Did}
use Rattle.lan.specs.Worlds.AtLink.Port.{LinkEnd, PortMove}
use Rattle.lan.specs.Worlds.AtLink.Does.{SlotDoes, ItemDoes, DidAt, does, did_as}
use Rattle.lan.specs.Worlds.AtLink.Initial.{IsUnused, IsInitialWorld}
use Rattle.lan.specs.Worlds.AtLink.Origins.{goes_to}
use Rattle.lan.specs.Worlds.AtLink.Refusals.{Tables, refusal}
use Rattle.lan.specs.Worlds.AtLink.Runs.{Starts, tables_in, unused_both, WorldRun}
use Rattle.lan.specs.Worlds.AtLink.Node.{NodeValue, Nodes, node, kind_at, with_node, with_link, at_port}
use Rattle.lan.specs.Worlds.AtLink.Steps.{Happens, linked}
use Rattle.lan.specs.Worlds.Moves.Raws.{OfItem, OfEach}
use Rattle.lan.proofs.Worlds.Moves.EachSocket.{IsOfSockets, found, with_set, polls_of_each}
use Rattle.lan.proofs.Worlds.Moves.Nets.{either_side}
use Rattle.lan.proofs.Worlds.Moves.Slots.{Slots}

-- CALLS

-- a packet that is to be sent as it is names neither TCP nor UDP
abbrev pub SendsForeign : SocketCall → Type 0
SendsForeign (Call.SendRaw bytes) = names_tcp_or_udp Medium.Ip bytes ≡ false
SendsForeign call = Unit {0}

pub none_if : (test : Bool) (why : Refused) (rest : Option Refused) → (if test then Some why else rest) ≡ None → (test ≡ false) × (rest ≡ None)
none_if true why rest is = absurd (cc)
none_if false why rest is = (refl, is)

sends_foreign : (hosts : Nodes) (tables : Tables) (side : Side) (i : ℕ) (call : SocketCall) → refusal hosts tables (calls side i call) ≡ None →
    SendsForeign call
sends_foreign hosts tables side i (Call.SendRaw bytes) none =
    let kind = kind_at (node hosts side).slots i in
    let third : Option Refused = if names_tcp_or_udp Medium.Ip bytes then Some For.RawProtocol else None in
    let second : Option Refused = if is_wrong_kind kind (Call.SendRaw bytes) then Some For.WrongKind else third in
    (none_if (names_tcp_or_udp Medium.Ip bytes) For.RawProtocol None
    (none_if (is_wrong_kind kind (Call.SendRaw bytes)) For.WrongKind third (none_if (not (is_some kind)) For.NoSocket second none).1).1).0
sends_foreign hosts tables side i call none = tt

-- it holds of what a call leaves, if the socket has the call
abbrev pub Keeps : {V : Type 0} → (V → Type 0) → Option (Did V) → Type 0
Keeps W None = Unit {0}
Keeps W (Some d) = W d.socket

pub kept_as : {V : Type 0} (W : Socket → Type 0) (make : V → Socket) (o : Option (Did V)) → Keeps (λ v. W (make v)) o → Keeps W (did_as make o)
kept_as W make None keeps = tt
kept_as W make (Some d) keeps = keeps

pub all_as : {V : Type 0} (W : Socket → Type 0) (make : V → Socket) → ((v : V) → W (make v)) → (o : Option (Did V)) → Keeps W (did_as make o)
all_as W make all None = tt
all_as W make all (Some d) = all d.socket

-- what polls, calls and a new start keep of a socket
pub record IsOfRuns (W : Socket → Type 0) : Type 0 where
  pub polls : IsOfSockets W
  pub calls : (cx : ContextValue) (s : Socket) (call : SocketCall) → SendsForeign call → W s → Keeps W (does cx s call)
  pub unused : (s : Socket) → IsUnused s → W s

module _ (W : Socket → Type 0) (law : IsOfRuns W) where
  module _ (s s' : NodeValue) (i : ℕ) (call : SocketCall) (answer : Answer) (found_so : Option States.State) (foreign : SendsForeign call)
      (all : OfEach W s.slots) where
    by_did : (item : Item Socket) (o : Option (Did Socket)) → Keeps W o → DidAt s i item call o answer found_so s' → OfEach W s'.slots
    by_did item None keeps did = absurd did
    by_did item (Some d) keeps did =
        subst (OfEach W) (sym (ap (λ (x : NodeValue). x.slots) did.2)) (with_set W s.slots i (with_socket item d.socket) keeps all)

    by_item : (o : Option (Item Socket)) → OfItem W o → ItemDoes s i o call answer found_so s' → OfEach W s'.slots
    by_item None holds did = absurd did
    by_item (Some item) holds did =
        by_did item (does (context_of s.host.inner) item.socket call) (law.calls (context_of s.host.inner) item.socket call foreign holds) did

    by_slot : (o : Option (SocketStorage Socket)) → slice_get s.slots i ≡ o → SlotDoes s i o call answer found_so s' → OfEach W s'.slots
    by_slot None is did = absurd did
    by_slot (Some slot) is did = by_item slot.inner (found W s.slots i slot is all) did

  -- EVENTS

  abbrev At : Nodes → Side → Type 0
  At hosts side = OfEach W (node hosts side).slots

  at_end : (hosts : Nodes) (side : Side) (end : LinkEnd) → ((s : Side) → At hosts s) → (s : Side) →
      At (with_node hosts side (with_link (node hosts side) end)) s
  at_end hosts A end all A = all A
  at_end hosts A end all B = all B
  at_end hosts B end all A = all A
  at_end hosts B end all B = all B

  at_linked : (hosts : Nodes) (act : LinkAct) → ((s : Side) → At hosts s) → (s : Side) → At (linked hosts act) s
  at_linked hosts (Hands origin) all = at_end hosts (goes_to origin) _ all
  at_linked hosts (Cuts from k at) all = at_end hosts from _ all

  module _ (old new : Nodes) (past : List Entry) (e : Entry) (all : (s : Side) → At old s) where
    one_side : (side : Side) → node new (other side) ≡ node old (other side) → At new side → (s : Side) → At new s
    one_side side rests this = either_side side (At new) this (subst (λ (x : NodeValue). OfEach W x.slots) (sym rests) (all (other side)))

    same_slots : (side : Side) → node new (other side) ≡ node old (other side) → (node new side).slots ≡ (node old side).slots →
        (s : Side) → At new s
    same_slots side rests same = one_side side rests (subst (OfEach W) (sym same) (all side))

    by_kind : (k : Kind) → refusal old (tables_in past old) k ≡ None → Happens old k e.answer e.found new → (s : Side) → At new s
    by_kind (OfHost side (Calls i call)) none acts =
        one_side side acts.rests
        (by_slot (node old side) (node new side) i call e.answer e.found (sends_foreign old (tables_in past old) side i call none) (all side)
        (slice_get (node old side).slots i) refl acts.acts)
    by_kind (OfHost side (Sets setting)) none acts = same_slots side acts.rests (ap (λ (x : NodeValue). x.slots) acts.acts.0.3)
    by_kind (OfHost side (Opens n)) none acts = same_slots side acts.rests (ap (λ (x : NodeValue). x.slots) acts.acts.2)
    by_kind (OfHost side (Asks t)) none acts = same_slots side acts.rests (ap (λ (x : NodeValue). x.slots) acts.acts.2)
    by_kind (OfHost side (Polls t budget)) none acts =
        let polls = acts.acts.1 in
        one_side side acts.rests
        (polls_of_each W law.polls PortMove t budget (at_port polls.port (node old side)) (at_port polls.port_after (node new side)) acts.acts.0
        (all side) polls.polls)
    by_kind (OfLink act) none acts = λ s. subst (λ (h : Nodes). At h s) (sym acts.2) (at_linked old act all s)

  -- FROM THE START

  unused_item : (o : Option (Item Socket)) → ((socket : Socket) → socket_in (Some (record { inner = o })) ≡ Some socket → IsUnused socket) → OfItem W o
  unused_item None unused = tt
  unused_item (Some item) unused = law.unused item.socket (unused item.socket refl)

  unused_slots : (slots : Slots) → ((i : ℕ) (socket : Socket) → socket_at slots i ≡ Some socket → IsUnused socket) → OfEach W slots
  unused_slots [] unused = tt
  unused_slots (p ∷ ps) unused = (unused_item p.inner (unused zero), unused_slots ps (λ i. unused (suc i)))

  at_first : (starts : Starts) → IsInitialWorld starts → (s : Side) → At (unused_both starts) s
  at_first starts initial A = unused_slots starts.a.slots initial.a.sockets
  at_first starts initial B = unused_slots starts.b.slots initial.b.sockets

  pub runs_of_each : (starts : Starts) → IsInitialWorld starts → (history : List Entry) (hosts : Nodes) → WorldRun history (unused_both starts) hosts →
      (side : Side) → OfEach W (node hosts side).slots
  runs_of_each starts initial [] hosts is side = subst (λ (h : Nodes). At h side) (sym is) (at_first starts initial side)
  runs_of_each starts initial (e ∷ past) hosts (before, ran, leads) side =
      by_kind before hosts past e (runs_of_each starts initial past before ran) (kind_of e.event) leads.allowed leads.happens side
