-- A run of both hosts is a run of moves, and so is safe.
use Rattle.std.proofs.Common.{◌≡◌, ℕ, ℤ, ◌≤ℤ◌, zero, suc, arith, List, [], ◌∷◌, Option, Some, None, IfSome, refl, sym, ap, ◌∙◌, subst}
use Rattle.std.specs.Prelude.{pos, ◌-◌, ◌≤◌, slice_index_or}
use Rattle.tcp_theory.specs.Safe.{IsPrefixOf}
use Rattle.tcp_block.specs.Value.{TcpValue}
use Rattle.lan.specs.Worlds.AtLink.History.{Entry, written}
use Rattle.lan.specs.Worlds.AtLink.Kinds.{other, kind_of, Kind, LinkAct}
use Rattle.lan.specs.Worlds.AtLink.Kinds.Act.{Calls, Sets, Opens, Asks, Polls}
use Rattle.lan.specs.Worlds.AtLink.Kinds.Kind.{OfHost, OfLink}
use Rattle.lan.specs.Worlds.AtLink.Kinds.LinkAct.{Hands, Cuts}
use Rattle.lan.specs.Worlds.AtLink.Side.{Side}
use Rattle.lan.specs.Worlds.AtLink.Side.TheVariants.{A, B}
use Rattle.lan.specs.Worlds.AtLink.PeerSides.{ArePartners}
use Rattle.lan.specs.Worlds.AtLink.Moves.{IsNoCall, Step}
use Rattle.lan.specs.Worlds.AtLink.Parties as Parties
use Rattle.lan.specs.Worlds.AtLink.Parties.{Party, Net, party}
use Rattle.lan.specs.Worlds.AtLink.PacketsSafe.{IsInitialSocket, IsInitialParty, IsInitialNet, IsSafe, IsTcpAt, taken_in, HasNothing, HoldsRest}
use Rattle.lan.proofs.Worlds.AtLink.Runs.{runs_safe}
use Rattle.iface_egress.specs.Set.{socket_at}
use Rattle.sockets.specs.declared.socket.Socket.{Socket}
use Rattle.sockets.specs.declared.socket.Socket.TheVariants as Is
use Rattle.lan.specs.Worlds.AtLink.Initial.{IsUnused, IsInitialStart, IsInitialWorld}
use Rattle.lan.specs.Worlds.AtLink.Runs.{Start, Starts, unused, unused_both, Leads, refusal_in}
use Rattle.lan.specs.Worlds.AtLink.Safe.{seen, seen_in, party_of, net_of, port_of, first_port}
use Rattle.lan.specs.Worlds.AtLink.Node.{NodeValue, Nodes, node, with_node, with_link}
use Rattle.lan.specs.Worlds.AtLink.Steps.{Happens, linked}
use Rattle.lan.specs.Worlds.AtLink.Port.{LinkEnd}
use Rattle.lan.specs.Worlds.AtLink.Origins.{goes_to}
use Rattle.lan.specs.Worlds.Moves.Follows.{sockets_of, IsNetOf, Comes, IsNoPoll}
use Rattle.lan.specs.Worlds.Moves.Joined.{first_net}
use Rattle.lan.proofs.Worlds.Moves.Coming.{HasCome}
use Rattle.lan.proofs.Worlds.Moves.Calls.{names}
use Rattle.iface_tables.specs.Inner.{InnerValue}
use Rattle.net_base.specs.Time.{IsMoment}
use Rattle.sockets.specs.Context.{ContextValue}
use Rattle.std.proofs.lemmas.Int.{ints}
use Rattle.tcp_refinement.specs.Pair.Values.{context_on}
use Rattle.lan.specs.Worlds.AtLink.Call.{SocketCall}
use Rattle.lan.specs.Worlds.AtLink.Moves as Moves
use Rattle.lan.specs.Worlds.Still.{host_in}
use Rattle.lan.proofs.Worlds.Moves.Calls.{IsCalled}
use Rattle.lan.proofs.Worlds.Moves.Events.{call_comes, call_steps, still_comes, still_steps}
use Rattle.lan.proofs.Worlds.Moves.Held.{IsSeenAs, IsShownAt, hosts_same}
use Rattle.lan.proofs.Worlds.Moves.Nets.{either_side, step_of}
use Rattle.lan.proofs.Worlds.StillSteps.{AreAllHeld, one-held}
use Rattle.lan.proofs.Worlds.Moves.Slots.{Slots}

-- EVENTS BUT FOR POLLS

same_hosts : (old new : Nodes) (side : Side) → sockets_of (node new side).slots ≡ sockets_of (node old side).slots →
    node new (other side) ≡ node old (other side)
    → (s : Side) → sockets_of (node new s).slots ≡ sockets_of (node old s).slots
same_hosts old new side same rests =
    either_side side (λ s. sockets_of (node new s).slots ≡ sockets_of (node old s).slots) same (ap (λ (x : NodeValue). sockets_of x.slots) rests)

with_end : (hosts : Nodes) (side : Side) (end : LinkEnd) (s : Side) →
    sockets_of (node (with_node hosts side (with_link (node hosts side) end)) s).slots ≡ sockets_of (node hosts s).slots
with_end hosts A end A = refl
with_end hosts A end B = refl
with_end hosts B end A = refl
with_end hosts B end B = refl

link_same : (hosts : Nodes) (act : LinkAct) (s : Side) → sockets_of (node (linked hosts act) s).slots ≡ sockets_of (node hosts s).slots
link_same hosts (Hands origin) s = with_end hosts (goes_to origin) _ s
link_same hosts (Cuts from k at) s = with_end hosts from _ s

module _ (net : Net) (old new : Nodes) (past : List Entry) (e : Entry) (of : IsNetOf net old past) where
  still : (k : Kind) → kind_of e.event ≡ k → IsNoCall k → ((s : Side) → sockets_of (node new s).slots ≡ sockets_of (node old s).slots) →
      Comes names net new (e ∷ past)
  still k is none same = still_comes (node old A).host.inner (pos 0) net old new past e of (subst IsNoCall (sym is) none) same

  by_kind : (k : Kind) → kind_of e.event ≡ k → IsNoPoll k → refusal_in past old e.event ≡ None → Happens old k e.answer e.found new →
      Comes names net new (e ∷ past)
  by_kind (OfHost side (Calls i call)) is quiet none acts = call_comes net old new past e side i call of is none acts
  by_kind (OfHost side (Sets setting)) is quiet none acts =
      still (OfHost side (Sets setting)) is tt (same_hosts old new side (ap (λ (x : NodeValue). sockets_of x.slots) acts.acts.0.3) acts.rests)
  by_kind (OfHost side (Opens n)) is quiet none acts =
      still (OfHost side (Opens n)) is tt (same_hosts old new side (ap (λ (x : NodeValue). sockets_of x.slots) acts.acts.2) acts.rests)
  by_kind (OfHost side (Asks t)) is quiet none acts =
      still (OfHost side (Asks t)) is tt (same_hosts old new side (ap (λ (x : NodeValue). sockets_of x.slots) acts.acts.2) acts.rests)
  by_kind (OfHost side (Polls t budget)) is quiet none acts = absurd quiet
  by_kind (OfLink act) is quiet none acts =
      still (OfLink act) is tt (λ s. ap (λ (h : Nodes). sockets_of (node h s).slots) acts.2 ∙ link_same old act s)

pub rest_comes : (net : Net) (old new : Nodes) (past : List Entry) (e : Entry) → IsNetOf net old past → IsNoPoll (kind_of e.event) → Leads past old e new →
    Comes names net new (e ∷ past)
rest_comes net old new past e of quiet leads = by_kind net old new past e of (kind_of e.event) refl quiet leads.allowed leads.happens

-- HELD STEPS: a call shows the host as it is, and any other event shows nothing

module _ (firsts : Side → InnerValue) (net : Net) (old new : Nodes) (past : List Entry) (e : Entry) (of : IsNetOf net old past)
    (seen : (s : Side) → IsSeenAs (firsts s) (node old s).host.inner) (was : (s : Side) → IsMoment (node old s).host.inner.instant)
    (now : (s : Side) → IsMoment (node new s).host.inner.instant)
    (up : (s : Side) → (node old s).host.inner.instant ≤ℤ (node new s).host.inner.instant) where
  abbrev before : Side → ℤ
  before s = (node old s).host.inner.instant

  abbrev following : Side → ℤ
  following s = (node new s).host.inner.instant

  no_earlier : (t : ℤ) → t ≤ℤ t
  no_earlier t = omega (arith, ints)

  passes_held : (side : Side) → AreAllHeld firsts before net (step_of side (Moves.Passes e) ∷ []) following
  passes_held side = one-held firsts before net (step_of side (Moves.Passes e)) following (following side) (now side) (up side) (no_earlier (following side)) up tt

  shown_so : (side : Side) (i : ℕ) (call : SocketCall)
      (c : IsCalled (node old side).host.inner (party net side) (node new side).slots i call e.answer e.found) → IsShownAt (firsts side) (before side) c.cx
  shown_so side i call c =
      let i0 = (node old side).host.inner in
      c.shown ∙ (λ k. context_on (hosts_same (firsts side) i0 (seen side) k) i0.instant i0.random)
      ∙ ap (λ (cx : ContextValue). context_on (host_in (firsts side)) i0.instant cx.random) (sym c.shown)

  abbrev Held : List Step → Type 0
  Held steps = AreAllHeld firsts before net steps following

  still_held : (k : Kind) (is : kind_of e.event ≡ k) (none : IsNoCall k)
      (same : (s : Side) → sockets_of (node new s).slots ≡ sockets_of (node old s).slots) → Held (still net old new past e of k is none same).steps
  unfolding still
  still_held k is none same =
      subst Held (sym (still_steps (node old A).host.inner (pos 0) net old new past e of (subst IsNoCall (sym is) none) same)) (passes_held A)

  kind_held : (k : Kind) (is : kind_of e.event ≡ k) (quiet : IsNoPoll k) (none : refusal_in past old e.event ≡ None) (acts : Happens old k e.answer e.found new)
      → Held (by_kind net old new past e of k is quiet none acts).steps
  unfolding by_kind
  kind_held (OfHost side (Calls i call)) is quiet none acts =
      let (c, steps) = call_steps net old new past e side i call of is none acts in
      subst Held (sym steps) (one-held firsts before net (step_of side (Moves.Invokes i c.cx c.old e call c.new)) following (before side) (was side)
      (no_earlier (before side)) (up side) up (shown_so side i call c))
  kind_held (OfHost side (Sets setting)) is quiet none acts =
      still_held (OfHost side (Sets setting)) is tt (same_hosts old new side (ap (λ (x : NodeValue). sockets_of x.slots) acts.acts.0.3) acts.rests)
  kind_held (OfHost side (Opens n)) is quiet none acts =
      still_held (OfHost side (Opens n)) is tt (same_hosts old new side (ap (λ (x : NodeValue). sockets_of x.slots) acts.acts.2) acts.rests)
  kind_held (OfHost side (Asks t)) is quiet none acts =
      still_held (OfHost side (Asks t)) is tt (same_hosts old new side (ap (λ (x : NodeValue). sockets_of x.slots) acts.acts.2) acts.rests)
  kind_held (OfHost side (Polls t budget)) is quiet none acts = absurd quiet
  kind_held (OfLink act) is quiet none acts =
      still_held (OfLink act) is tt (λ s. ap (λ (h : Nodes). sockets_of (node h s).slots) acts.2 ∙ link_same old act s)

  pub rest_held : (quiet : IsNoPoll (kind_of e.event)) (leads : Leads past old e new) →
      AreAllHeld firsts before net (rest_comes net old new past e of quiet leads).steps following
  unfolding rest_comes
  rest_held quiet leads = kind_held (kind_of e.event) refl quiet leads.allowed leads.happens

-- RUNS

pub first_of : (starts : Starts) (s : Side) → (party (first_net starts) s).sockets ≡ sockets_of (node (unused_both starts) s).slots
first_of starts A = refl
first_of starts B = refl

-- FRESH

seen_index : (slots : Slots) (i : ℕ) → slice_index_or (sockets_of slots) i None ≡ seen_in (socket_at slots i)
seen_index [] zero = refl
seen_index [] (suc i) = refl
seen_index (p ∷ ps) zero = refl
seen_index (p ∷ ps) (suc i) = seen_index ps i

abbrev IfInitial : ℕ → Option Parties.Socket → Type 0
IfInitial port o = IfSome o (λ s. IsInitialSocket port s)

unused_initial : (socket : Socket) → IsUnused socket → IfInitial (port_of (Some socket)) (seen socket)
unused_initial (Is.Raw v) unused = tt
unused_initial (Is.Icmp v) unused = tt
unused_initial (Is.Udp v) unused = (refl, unused.0, unused.1)
unused_initial (Is.Tcp v) unused = unused
unused_initial (Is.Dhcpv4 v) unused = absurd unused
unused_initial (Is.Dns v) unused = absurd unused

initial_socket : (o : Option Socket) (s : Parties.Socket) → ((socket : Socket) → o ≡ Some socket → IsUnused socket) → seen_in o ≡ Some s →
    IsInitialSocket (port_of o) s
initial_socket None s unused is = absurd (cc)
initial_socket (Some socket) s unused is = subst (IfInitial (port_of (Some socket))) is (unused_initial socket (unused socket refl))

initial_party : (s : Start) (p : Party) (ports : ℕ → ℕ) → IsInitialStart s → p ≡ party_of (unused s) → ((i : ℕ) → ports i ≡ port_of (socket_at s.slots i)) →
    IsInitialParty ports p
initial_party s p ports initial is named = record {
  sockets = λ i x at.
      let there : seen_in (socket_at s.slots i) ≡ Some x = sym (seen_index s.slots i) ∙ ap (λ (y : Party). slice_index_or y.sockets i None) (sym is) ∙ at in
      subst (λ (n : ℕ). IsInitialSocket n x) (sym (named i)) (initial_socket (socket_at s.slots i) x (λ socket at. initial.sockets i socket at) there);
  segments = ap (λ (y : Party). y.segments) is;
  datagrams = ap (λ (y : Party). y.datagrams) is;
}

pub initial_net : (starts : Starts) → IsInitialWorld starts → IsInitialNet (first_port starts) (first_net starts)
initial_net starts initial = record {
  a = initial_party starts.a (party_of (unused starts.a)) (first_port starts A) initial.a refl (λ i. refl);
  b = initial_party starts.b (party_of (unused starts.b)) (first_port starts B) initial.b refl (λ i. refl);
  history = refl;
}

-- SAFE, whatever was made

abbrev pub unmade : Net → Net
unmade net = record { a = record net.a { segments = []; datagrams = [] }; b = record net.b { segments = []; datagrams = [] }; history = net.history }

module _ (ports : Side → ℕ → ℕ) (net : Net) (safe : IsSafe ports net) where
  prefix : (side : Side) (i j : ℕ) (v : TcpValue) → ArePartners net.history side i j → IsTcpAt (unmade net) side i v →
      IsPrefixOf (taken_in net side i v) (written net.history (other side) j)
  prefix A i j v peer_sides at = safe.prefix A i j v peer_sides at
  prefix B i j v peer_sides at = safe.prefix B i j v peer_sides at

  freed : (side : Side) (i j : ℕ) (v w : TcpValue) → ArePartners net.history side i j → IsTcpAt (unmade net) side i v → IsTcpAt (unmade net) (other side) j w
      → HoldsRest (written net.history side i) v.queued.queue (taken_in net (other side) j w)
  freed A i j v w peer_sides at there = safe.freed A i j v w peer_sides at there
  freed B i j v w peer_sides at there = safe.freed B i j v w peer_sides at there

  still_nothing : (side : Side) (i : ℕ) (v : TcpValue) → HasNothing net side i v → HasNothing (unmade net) side i v
  still_nothing side i v nothing = record { taken = nothing.taken; queued = nothing.queued }

  alone : (side : Side) (i : ℕ) (v : TcpValue) → ((j : ℕ) → ¬ (ArePartners net.history side i j)) → IsTcpAt (unmade net) side i v →
      HasNothing (unmade net) side i v
  alone A i v none at = still_nothing A i v (safe.alone A i v none at)
  alone B i v none at = still_nothing B i v (safe.alone B i v none at)

  unmade_safe : IsSafe ports (unmade net)
  unmade_safe = record { prefix = prefix; freed = freed; alone = alone; ends = safe.ends; reads = safe.reads }

-- a world to which moves from new hosts have led is safe
pub came_safe : (starts : Starts) (J : Nodes → Net → Type 0) → IsInitialWorld starts → (history : List Entry) (hosts : Nodes)
    → HasCome starts J history hosts → IsSafe (first_port starts) (net_of (record { hosts = hosts; starts = starts; history = history }))
came_safe starts J initial history hosts came =
    let safe : IsSafe (first_port starts) came.net =
    subst (IsSafe (first_port starts)) came.ends (runs_safe (first_port starts) names (first_net starts) came.steps (initial_net starts initial) came.may) in
    let same : unmade came.net ≡ net_of (record { hosts = hosts; starts = starts; history = history }) =
    λ k. record {
      a = record { sockets = came.of.sockets A k; segments = []; datagrams = [] };
      b = record { sockets = came.of.sockets B k; segments = []; datagrams = [] };
      history = came.of.history k;
    } in
    subst (IsSafe (first_port starts)) same (unmade_safe (first_port starts) came.net safe)
