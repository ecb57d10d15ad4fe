-- Where the clock of rounds goes on far enough, all has arrived.
use Rattle.std.proofs.Common.{◌≡◌, ◌⊎◌, inl, inr, ℕ, suc, ◌+◌, ◌-◌, ◌*◌, ◌≤◌, ℤ, pos, ◌+ℤ◌, ◌<ℤ◌, true, false, List, [], ◌∷◌, ◌++◌, Option, Some, None, refl, sym, ap, ◌∙◌, subst, arith}
use Rattle.std.specs.Prelude.{max, slice_index_or}
use Rattle.std.proofs.lemmas.Int.{ints}
use Rattle.std.proofs.lemmas.List.{append_cancel_right}
use Rattle.std.proofs.lemmas.Nat.{mul-le}
use Rattle.tcp_state.specs.declared.endpoints.FourTuple.{FourTuple}
use Rattle.tcp_block.specs.TcbRules.{unacked}
use Rattle.tcp_block.specs.Value.{TcpValue, queued_in, room_of}
use Rattle.tcp_refinement.specs.Pair.History.{pasts}
use Rattle.tcp_refinement.specs.Pair.Sides.{at}
use Rattle.tcp_refinement.specs.Pair.Steps.{Steps}
use Rattle.tcp_refinement.specs.Pair.Values.{PairValue}
use Rattle.tcp_refinement.specs.declared.pair.event.PairEvent.{PairEvent}
use Rattle.tcp_refinement.specs.declared.pair.event.Side as Pairs
use Rattle.tcp_refinement.specs.declared.pair.event.Side.TheVariants as Of
use Rattle.tcp_liveness.specs.Arrivals.{is_synchronized}
use Rattle.tcp_liveness.specs.BothWays.{total_in}
use Rattle.tcp_liveness.specs.Exchange.{IsOpen}
use Rattle.tcp_liveness.specs.Pair.{left_in, socket_of}
use Rattle.tcp_liveness.specs.Reached.{IsReached}
use Rattle.tcp_liveness.specs.Rounds.{takes}
use Rattle.tcp_liveness.specs.Spans.{IsThroughAmong, most_reached, reached_in}
use Rattle.tcp_liveness.proofs.Kept.{reached_by}
use Rattle.tcp_liveness.proofs.OnwardPairs.{IsBegun, MovesIn, begun as begun_by, begun_after, by_steps, total_of}
use Rattle.lan.specs.declared.at_link.history.event.Side.{Side}
use Rattle.lan.specs.declared.at_link.history.event.Side.TheVariants.{A, B}
use Rattle.lan.specs.Worlds.AtLink.Happening.{Happening, events_of_moves, steps_of}
use Rattle.lan.specs.Worlds.AtLink.History.{Entry}
use Rattle.lan.specs.Worlds.AtLink.Kinds.{other}
use Rattle.lan.specs.Worlds.AtLink.Moves.{Step, run}
use Rattle.lan.specs.Worlds.AtLink.PacketsSafe.{IsTcpAt}
use Rattle.lan.specs.Worlds.AtLink.Paired.{NewSocket, Seat, side_in, told}
use Rattle.lan.specs.Worlds.AtLink.Parties.{Net, Socket}
use Rattle.lan.specs.Worlds.AtLink.Parties.Socket.{Icmp, Raw, Tcp, Udp}
use Rattle.lan.specs.Worlds.AtLink.Runs.{Starts, WorldRun, WorldValue, unused_both}
use Rattle.lan.specs.Worlds.AtLink.Safe.{net_of}
use Rattle.lan.specs.Worlds.AtLink.Node.{Nodes, node}
use Rattle.lan.specs.Worlds.Events.{AreTyped}
use Rattle.lan.specs.Worlds.Moves.Follows.{IsNetOf, sockets_of}
use Rattle.lan.specs.Worlds.Settling.{Settles}
use Rattle.lan.specs.Worlds.Still.{StillRun, seats_of}
use Rattle.lan.proofs.Worlds.StillOnward.{ran}
use Rattle.proof_stack.specs.Progress.Acquainted.{AreAcquainted}
use Rattle.proof_stack.specs.Progress.ByEvents.{ProceedByEvents}
use Rattle.proof_stack.specs.Progress.Edges.{edge_span}
use Rattle.proof_stack.specs.Progress.Days.{HasDays}
use Rattle.proof_stack.specs.Progress.Ends.{AreBoth, AreThroughout, AreUnstamped, IsConnected}
use Rattle.proof_stack.specs.Progress.Events.{clock_in, untimed}
use Rattle.proof_stack.specs.Progress.KnownHopLimit.{IsUnmarkedAt, KnowEachOther}
use Rattle.proof_stack.specs.Progress.Moving.{ArriveInTime, ProceedByMoves, IsTcp, end_in, moves_of}
use Rattle.proof_stack.specs.Progress.OneClock.{timed}
use Rattle.proof_stack.specs.Progress.Reach.{hosts_before}
use Rattle.proof_stack.specs.Progress.Serving.{AreEventsInTime, HasSpace, HasSpaceThroughout, IsAtHost, KeepsStreamBy}
use Rattle.proof_stack.specs.Progress.Settled.{HasArrived}
use Rattle.proof_stack.specs.Progress.Within.{AskForNone, GoAtOnce, MayBegin, MaySettle, NobodyWaits, StayAcquainted, enough_for, minutes_for, positions_in}
use Rattle.proof_stack.proofs.EventConnected.{StaysConnected, begins, of_one_net, stays_connected}
use Rattle.proof_stack.proofs.EventEnds.{end_timed, ends, ends_now}
use Rattle.proof_stack.proofs.EventFacts.{both_now, net_at}
use Rattle.proof_stack.proofs.EventHopLimit.{all_know, no_address}
use Rattle.proof_stack.proofs.EventIdle.{first_unmarked, none_wait}
use Rattle.proof_stack.proofs.EventPeerSides.{proceed_by_events}
use Rattle.proof_stack.proofs.EventReach.{ends_between}
use Rattle.proof_stack.proofs.EventRoomy.{space_throughout}
use Rattle.proof_stack.proofs.EventWaitless.{nobody_waits_throughout}
use Rattle.proof_stack.proofs.Polls.Connected.{late_at}
use Rattle.proof_stack.proofs.Polls.Fills.{fills_itself}
use Rattle.proof_stack.proofs.Rounds.OneRun.{Once, runs_once}
use Rattle.proof_stack.proofs.Rounds.Unchanged.{AreServices, Sized, Stays, both_throughout, leave_throughout, room_throughout, stay_throughout, streams_stay, told_stays}
use Rattle.proof_stack.proofs.Rounds.Walk.{HasSettled, Walk, walk_begins, walk_settled}
use Rattle.proof_stack.proofs.Settled.{came, none_unacked, of_host, world}
use Rattle.proof_stack.proofs.StillPeerSides.{peer_sides_stay}

upto : (a b c : ℕ) → a ≤ b → b ≤ c → a ≤ c
upto a b c one two = omega (arith, one, two)

-- WHAT WAS ACKNOWLEDGED STAYS SO, where nothing more is written

zero_left : (a b c d : ℕ) → a + d ≤ b + c → b ≤ a → c ≡ 0 → d ≡ 0
zero_left a b c d less few none = omega (arith, less, few, none)

none_left : (p : PairValue) (events : List PairEvent) (q : PairValue) (side : Pairs.Side) → IsReached p → IsBegun p Of.A → IsBegun p Of.B → Steps p events q
    → IsThroughAmong p side events → total_in q side ≤ total_in p side → left_in q side ≡ 0
none_left p [] q side r a b s is few = ap (λ (x : PairValue). left_in x side) s ∙ is
none_left p (event ∷ events) q side r a b s (inl is) few =
    zero_left (total_in p side) (total_in q side) (left_in p side) (left_in q side) (by_steps p (event ∷ events) q r a b s side).acked few is
none_left p (event ∷ events) q side r a b s (inr on) few =
    let m : PairValue = takes p event in
    let moves : (of : Pairs.Side) → MovesIn p m of = λ of. by_steps p (event ∷ []) m r a b (s.0, refl) of in
    none_left m events q side (reached_by p m (event ∷ []) r (s.0, refl)) (begun_after p m Of.A (moves Of.A) a) (begun_after p m Of.B (moves Of.B) b) s.1 on
    (upto (total_in q side) (total_in p side) (total_in m side) few (moves side).total)

-- HOW LONG IT TAKES

span_is : (m n : ℕ) → ((0 + 60_000_000 + 0 + 0) + ((m + 2 + 2) * 60_000_000 + 0 + 0 + 0)) + ((0 + 60_000_000 + 0 + 0) + ((n + 2 + 2) * 60_000_000 + 0 + 0 + 0))
    ≡ (n + 5 + (m + 5)) * 60_000_000
span_is m n = omega arith

swapped : (m n : ℕ) → (n + 5 + (m + 5)) * 60_000_000 ≡ (m + 5 + (n + 5)) * 60_000_000
swapped m n = omega arith

spans : (p : PairValue) (sockets : Side → TcpValue) → ((s : Side) → socket_of p (side_in s) ≡ sockets s) → (side : Side)
    → edge_span 0 0 0 p (side_in side) ≡ (minutes_for (sockets A) + minutes_for (sockets B)) * 60_000_000
spans p sockets are A =
    span_is (max 1 (room_of (socket_of p Of.B).received)) (max 1 (room_of (socket_of p Of.A).received))
    ∙ (λ k. (max 1 (room_of (are A k).received) + 5 + (max 1 (room_of (are B k).received) + 5)) * 60_000_000)
spans p sockets are B =
    span_is (max 1 (room_of (socket_of p Of.A).received)) (max 1 (room_of (socket_of p Of.B).received))
    ∙ swapped (max 1 (room_of (socket_of p Of.A).received)) (max 1 (room_of (socket_of p Of.B).received))
    ∙ (λ k. (max 1 (room_of (are A k).received) + 5 + (max 1 (room_of (are B k).received) + 5)) * 60_000_000)

fewer_spans : (reached total span minutes : ℕ) → span ≡ minutes → suc (2 * total - reached) * (2 * span) ≤ suc (2 * total) * (2 * minutes)
fewer_spans reached total span minutes is =
    mul-le (suc (2 * total - reached)) (2 * span) (suc (2 * total)) (2 * minutes) (omega arith) (omega (arith, is))

in_time : (now : ℤ) (few most : ℕ) (last : ℤ) → few ≤ most → (now +ℤ pos most) <ℤ last → (now +ℤ pos few) <ℤ last
in_time now few most last less long = first_of (omega (arith, ints, less, long), grind (arith, ints, less, long))

-- A WORLD

one_pair : (a b : FourTuple) → Some a ≡ Some b → a ≡ b
one_pair a b e = cc

pub rounds_go : (once : Once) (slots : Side → ℕ) (from : ℤ) (budget rounds : ℕ) (rested : Option ℤ) (old new : WorldValue) (begin : MayBegin slots from old)
    → Settles budget from rounds rested old new
    → Walk once old.starts begin.initial slots old.history (HasSettled once old.starts begin.initial slots old.history) new
rounds_go once slots from budget rounds rested old new begin settles =
    walk_settled once old.starts begin.initial slots old.history budget from rounds rested old new settles
    (walk_begins once old begin.initial slots from begin.typed begin.run begin.clock begin.in_time)

-- the hosts after the earlier events
before_ran : (starts : Starts) (past more : List Entry) (hosts : Nodes) (still : StillRun starts (more ++ past) hosts)
    → WorldRun past (unused_both starts) (hosts_before starts past more hosts still)
before_ran starts past [] hosts still = ran starts past hosts still
before_ran starts past (e ∷ more) hosts still = before_ran starts past more still.0 still.1

first_space : (starts : Starts) (slot : ℕ) (side : Side) (past more : List Entry) (hosts : Nodes) (still : StillRun starts (more ++ past) hosts)
    → HasSpaceThroughout starts slot side past more hosts still → IsAtHost slot (node (hosts_before starts past more hosts still) side) HasSpace
first_space starts slot side past [] hosts still are = are
first_space starts slot side past (e ∷ more) hosts still are = first_space starts slot side past more still.0 still.1 are.0

all_steps : (moves : List (ℤ × Happening)) → untimed (timed moves) ≡ steps_of (moves_of moves)
all_steps [] = refl
all_steps (x ∷ moves) = ap (λ (ss : List Step). x.1.step ∷ ss) (all_steps moves)

same_tcp : (v w : TcpValue) → Some (Tcp v) ≡ Some (Tcp w) → v ≡ w
same_tcp v w e = let one : Tcp v ≡ Tcp w = cc in of v w one where
  of : (v w : TcpValue) → Tcp v ≡ Tcp w → v ≡ w
  of v w is = cc

tcp_so : (o : Option Socket) (P Q : TcpValue → Type 0) → ((v : TcpValue) → P v → Q v) → IsTcp o P → IsTcp o Q
tcp_so None P Q so is = absurd is
tcp_so (Some (Tcp v)) P Q so is = so v is
tcp_so (Some (Udp v)) P Q so is = absurd is
tcp_so (Some Icmp) P Q so is = absurd is
tcp_so (Some Raw) P Q so is = absurd is

one_name : (o : Option Socket) (a b : FourTuple) → IsTcp o (λ v. v.tcb.names.pair ≡ Some a) → IsTcp o (IsConnected b) → a ≡ b
one_name None a b one two = absurd one
one_name (Some (Tcp v)) a b one two = one_pair a b (sym one ∙ two.1)
one_name (Some (Udp v)) a b one two = absurd one
one_name (Some Icmp) a b one two = absurd one
one_name (Some Raw) a b one two = absurd one

-- AT FIRST

module _ (once : Once) (slots : Side → ℕ) (news : Side → NewSocket) (from : ℤ) (sockets : Side → TcpValue) (old new : WorldValue)
    (may : MaySettle slots news from sockets old new) (more : List Entry) (still : StillRun old.starts (more ++ old.history) new.hosts) where
  pub first_same : hosts_before old.starts old.history more new.hosts still ≡ old.hosts
  first_same =
      runs_once once old.starts old.history (unused_both old.starts) (hosts_before old.starts old.history more new.hosts still) old.hosts
      (before_ran old.starts old.history more new.hosts still) may.begins.run

  old_socket : (s : Side) → slice_index_or (sockets_of (node old.hosts s).slots) (slots s) None ≡ Some (Tcp (sockets s))
  old_socket s = of_host old.starts old.history old.hosts s (slots s) (sockets s) (may.are s)

  at_first : (P : Side → TcpValue → Type 0) → ((s : Side) → P s (sockets s)) → AreBoth P slots (hosts_before old.starts old.history more new.hosts still)
  at_first P all =
      λ s. subst (λ (x : Nodes). IsAtHost (slots s) (node x s) (P s)) (sym first_same)
      (subst (λ (o : Option Socket). IsTcp o (P s)) (sym (old_socket s)) (all s))

  pub connects : AreTyped (more ++ old.history) → StaysConnected old.starts slots old.history more new.hosts still
  connects typed =
      stays_connected old.starts old.history more new.hosts slots news may.begins.initial typed still may.new_sockets may.keys may.text may.peer_sides
      (at_first (λ s v. IsOpen v.tcb) may.opened) may.stay

-- BETWEEN HOSTS THAT KNOW EACH OTHER

module _ (once : Once) (slots : Side → ℕ) (news : Side → NewSocket) (from : ℤ) (sockets : Side → TcpValue) (old new : WorldValue)
    (may : MaySettle slots news from sockets old new) (they : StayAcquainted slots old new) (services : AreServices they.more)
    (typed : AreTyped (they.more ++ old.history))
    (go : NobodyWaits old.starts slots old.history they.more new.hosts they.still
    → GoAtOnce old.starts slots old.history they.more new.hosts they.still) where
  abbrev starts : Starts
  starts = old.starts

  abbrev past : List Entry
  past = old.history

  abbrev more : List Entry
  more = they.more

  abbrev hosts : Nodes
  hosts = new.hosts

  abbrev still : StillRun starts (more ++ past) hosts
  still = they.still

  abbrev first : Nodes
  first = hosts_before starts past more hosts still

  abbrev same_first : first ≡ old.hosts
  same_first = first_same once slots news from sockets old new may more still

  abbrev first_so : (P : Side → TcpValue → Type 0) → ((s : Side) → P s (sockets s)) → AreBoth P slots first
  first_so P all = at_first once slots news from sockets old new may more still P all

  abbrev connection : StaysConnected starts slots past more hosts still
  connection = connects once slots news from sockets old new may more still typed

  -- NOBODY WAITS

  connected_now : AreBoth (λ s. IsConnected (connection.pairs s)) slots hosts
  connected_now = both_now (λ s. IsConnected (connection.pairs s)) starts slots past more hosts still connection.connected

  same_name : (s : Side) → they.pairs s ≡ connection.pairs s
  same_name s =
      one_name (slice_index_or (sockets_of (node hosts s).slots) (slots s) None) (they.pairs s) (connection.pairs s) (they.named s) (connected_now s)

  same_names : they.pairs ≡ connection.pairs
  same_names = λ k s. same_name s k

  known : KnowEachOther they.own connection.pairs starts past more hosts still
  known = subst (λ (names : Side → FourTuple). KnowEachOther they.own names starts past more hosts still) same_names they.known

  nobody : NobodyWaits starts slots past more hosts still
  nobody =
      nobody_waits_throughout starts past more hosts still slots they.own connection.pairs connection.connected known
      (λ s. subst (λ (x : Nodes). IsUnmarkedAt (slots s) (node x s)) (sym same_first) (they.unmarked s))

  abbrev goes : GoAtOnce starts slots past more hosts still
  goes = go nobody

  -- THE EVENTS

  abbrev events : (between : Nodes) × ProceedByEvents starts past between more hosts still slots
  events = proceed_by_events starts past more hosts slots news may.begins.initial typed still may.new_sockets may.keys may.text may.peer_sides

  abbrev between : Nodes
  between = events.0

  abbrev by : ProceedByEvents starts past between more hosts still slots
  by = events.1

  abbrev net : Net
  net = by.goes.net

  of_first : IsNetOf net first past
  of_first = begins starts net past more hosts still by.steps by.of_events

  then_between : (P : Side → TcpValue → Type 0) → AreBoth P slots first → AreBoth P slots between
  then_between P are = of_one_net net first between past of_first by.goes.of slots P are

  -- WHAT STAYS

  stays : AreThroughout (Stays slots sockets) starts slots past more hosts still
  stays =
      stay_throughout slots sockets starts net past more hosts still by.steps by.of_events services
      (first_so (Stays slots sockets)
      (λ s. record {
        late = late_at (sockets s).tcb.state (may.opened s).synchronized;
        closed = λ over. over;
        pair = inr refl;
        stamps = refl;
        fills = fills_itself (sockets s).received;
      }))

  unstamped : ((s : Side) → (sockets s).tcb.peer.timestamps ≡ false) → AreUnstamped starts slots past more hosts still
  unstamped none =
      both_throughout (Stays slots sockets) (λ s. IsConnected (connection.pairs s)) (λ s v. (is_synchronized v.tcb.state ≡ true) × (v.tcb.peer.timestamps ≡ false))
      (λ s v stay connected. (connected.0, stay.stamps ∙ none s)) starts slots past more hosts still stays connection.connected

  abbrev rooms : Side → ℕ
  rooms s = room_of (sockets s).received

  sized : AreThroughout (Sized rooms) starts slots past more hosts still
  sized =
      both_throughout (Stays slots sockets) (λ s. IsConnected (connection.pairs s)) (Sized rooms) (λ s v stay connected. (connected.0, stay.fills.room)) starts slots
      past more hosts still stays connection.connected

  space : (s : Side) → HasSpaceThroughout starts (slots s) s past more hosts still
  space s =
      space_throughout starts may.begins.initial slots s past more hosts still typed may.peer_sides
      (room_throughout starts slots s rooms past (may.rooms s).1 more hosts still services sized)

  some_room : AreBoth (λ s v. 1 ≤ room_of v.received) slots first
  some_room = λ s.
      tcp_so (slice_index_or (sockets_of (node first s).slots) (slots s) None) HasSpace (λ v. 1 ≤ room_of v.received)
      (λ v has. let free = has.1 in omega (arith, free)) (first_space starts (slots s) s past more hosts still (space s))

  -- IN TIME

  events_in_time : (s : Side) → AreEventsInTime starts slots 0 0 s past between more hosts still
  events_in_time s = record {
    opened = then_between (λ s v. IsOpen v.tcb) (first_so (λ s v. IsOpen v.tcb) may.opened);
    stay = may.stay;
    clock = may.clocks s;
    one_clock = goes.one_clock;
    are_served = inl goes.at_once;
    reads = inl (space (other s));
    stream = may.streams s;
    room = then_between (λ s v. 1 ≤ room_of v.received) some_room (other s);
  }

  acquainted : AreAcquainted starts slots 0 past more hosts still
  acquainted = record {
    own = they.own;
    medium = they.medium;
    pairs = connection.pairs;
    ends = ends_between starts past more hosts slots may.begins.initial typed still connection;
    known = known;
    connected = connection.connected;
    leave = leave_throughout starts past more hosts still services may.leave;
    on_way = goes.on_way;
    carried = goes.carried;
  }

  abbrev moves : List (ℤ × Happening)
  moves = by.numbers.0

  abbrev seats : Side → Seat
  seats = seats_of starts slots

  keep : (s : Side) → KeepsStreamBy (slots s) s past more
  keep s = streams_stay past more s (slots s) services (may.streams s)

  come : ArriveInTime 0 0 0 (clock_in past) seats by.goes.clocks net moves
  come = by_stamps may.stamps where
    by_stamps : ((s : Side) → (sockets s).tcb.peer.timestamps ≡ false) ⊎ ((s : Side) → HasDays new.history (slots s) s)
        → ArriveInTime 0 0 0 (clock_in past) seats by.goes.clocks net moves
    by_stamps (inl none) =
        by.in_time_where_known moves by.numbers.1 0 0 0 events_in_time keep acquainted (by.initial_without_timestamps moves by.numbers.1 (unstamped none))
    by_stamps (inr days) =
        by.in_time_within_days moves by.numbers.1 by.numbers.2 0 0 events_in_time keep acquainted
        (λ s. subst (λ (h : List Entry). HasDays h (slots s) s) they.history (days s))

  abbrev p : PairValue
  p = by.goes.reached.pair

  abbrev on : ProceedByMoves seats by.goes.clocks net p moves
  on = by.by_moves moves by.numbers.1 by.numbers.2

  abbrev q : PairValue
  q = on.on.next

  -- THE PAIR

  abbrev last : Net
  last = run net (steps_of (moves_of moves))

  of_last : IsNetOf last hosts (more ++ past)
  of_last =
      subst (λ (ss : List Step). IsNetOf (run net ss) hosts (more ++ past)) (ap untimed (sym by.numbers.1) ∙ all_steps moves)
      (net_at starts net past more hosts still by.steps by.of_events)

  first_past : (s : Side) → at (pasts p.history) (side_in s) ≡ told past s (slots s)
  first_past s = by.goes.reached.shows.past s ∙ ap (λ (h : List Entry). told h s (slots s)) by.goes.of.history

  last_past : (s : Side) → at (pasts q.history) (side_in s) ≡ told past s (slots s)
  last_past s =
      on.on.shows.past s ∙ ap (λ (h : List Entry). told h s (slots s)) of_last.history ∙ told_stays past more s (slots s) services

  same_total : (s : Side) → total_in q (side_in s) ≡ total_in p (side_in s)
  same_total s = ap total_of (last_past s ∙ sym (first_past s))

  total : (s : Side) → total_in q (side_in s) ≡ positions_in past s (slots s)
  total s = ap total_of (last_past s)

  most : most_reached q ≡ 2 * (positions_in past A (slots A) + positions_in past B (slots B))
  most = λ k. 2 * (total A k + total B k)

  socket : (s : Side) → socket_of p (side_in s) ≡ sockets s
  socket s =
      same_tcp (socket_of p (side_in s)) (sockets s)
      (sym (by.goes.reached.shows.socket s) ∙ ap (λ (xs : List (Option Socket)). slice_index_or xs (slots s) None) (of_first.sockets s)
      ∙ ap (λ (x : Nodes). slice_index_or (sockets_of (node x s).slots) (slots s) None) same_first
      ∙ old_socket once slots news from sockets old new may more still s)

  begun : (s : Side) → IsBegun p (side_in s)
  begun s = begun_by p (side_in s) by.goes.reached.reached (subst (λ (v : TcpValue). IsOpen v.tcb) (sym (socket s)) (may.opened s))

  -- IT LASTS LONG ENOUGH

  within : (side : Side) → suc (most_reached q - reached_in p) * (2 * edge_span 0 0 0 p (side_in side)) ≤ enough_for past slots sockets
  within side =
      subst (λ (m : ℕ). suc (m - reached_in p) * (2 * edge_span 0 0 0 p (side_in side)) ≤ enough_for past slots sockets) (sym most)
      (fewer_spans (reached_in p) (positions_in past A (slots A) + positions_in past B (slots B)) (edge_span 0 0 0 p (side_in side))
      ((minutes_for (sockets A) + minutes_for (sockets B)) * 60_000_000) (spans p sockets socket side))

  end_is : end_in (clock_in past) moves ≡ clock_in new.history
  end_is =
      end_timed moves (clock_in past) ∙ ap (ends (clock_in past)) by.numbers.1 ∙ ends_now starts net past more hosts still by.steps by.of_events
      ∙ ap clock_in (sym they.history)

  module _ (long : (clock_in past +ℤ pos (enough_for past slots sockets)) <ℤ clock_in new.history) where
    through : (side : Side) → IsThroughAmong p (side_in side) (events_of_moves seats by.goes.clocks (moves_of moves))
    through side =
        on.through_anywhere side 0 0 0 (clock_in past) come
        (in_time (clock_in past) (suc (most_reached q - reached_in p) * (2 * edge_span 0 0 0 p (side_in side))) (enough_for past slots sockets)
        (end_in (clock_in past) moves) (within side)
        (subst (λ (t : ℤ). (clock_in past +ℤ pos (enough_for past slots sockets)) <ℤ t) (sym end_is) long))

    left : (side : Side) → left_in q (side_in side) ≡ 0
    left side =
        none_left p (events_of_moves seats by.goes.clocks (moves_of moves)) q (side_in side) by.goes.reached.reached (begun A) (begun B) on.on.steps (through side)
        (let same = same_total side in omega (arith, same))

    abbrev At : List Entry → Side → TcpValue → Type 0
    At h side v = IsTcpAt (net_of (world starts h hosts)) side (slots side) v

    there : (side : Side) (v : TcpValue) → At (more ++ past) side v → socket_of q (side_in side) ≡ v
    there side v here =
        same_tcp (socket_of q (side_in side)) v
        (sym (on.on.shows.socket side) ∙ ap (λ (xs : List (Option Socket)). slice_index_or xs (slots side) None) (of_last.sockets side)
        ∙ of_host starts (more ++ past) hosts side (slots side) v here)

    has_arrived : (side : Side) (v w : TcpValue) → At (more ++ past) side v → At (more ++ past) (other side) w
        → HasArrived (net_of (world starts (more ++ past) hosts)) side (slots side) (slots (other side)) v w
    has_arrived side v w here other_here =
        came starts (more ++ past) hosts slots news may.begins.initial typed still may.new_sockets may.keys may.text
        (peer_sides_stay past more A (slots A) (slots B) may.peer_sides) side v w here other_here
        (none_unacked v
        (let none : unacked v.tcb (queued_in v) ≡ 0 = ap (λ (x : TcpValue). unacked x.tcb (queued_in x)) (sym (there side v here)) ∙ left side in
        omega (arith, none)))

    abbrev Comes : Side → TcpValue → TcpValue → List Entry → Type 0
    Comes side v w h = At h side v → At h (other side) w → HasArrived (net_of (world starts h hosts)) side (slots side) (slots (other side)) v w

    pub arrives : (side : Side) (v w : TcpValue) → IsTcpAt (net_of new) side (slots side) v → IsTcpAt (net_of new) (other side) (slots (other side)) w
        → HasArrived (net_of new) side (slots side) (slots (other side)) v w
    arrives side v w = subst (Comes side v w) (sym they.history) (has_arrived side v w)

-- WHAT THE ROUNDS SAY

module _ (once : Once) (slots : Side → ℕ) (from : ℤ) (budget rounds : ℕ) (rested : Option ℤ) (old new : WorldValue) (begin : MayBegin slots from old)
    (settles : Settles budget from rounds rested old new) where
  abbrev walked : Walk once old.starts begin.initial slots old.history (HasSettled once old.starts begin.initial slots old.history) new
  walked = rounds_go once slots from budget rounds rested old new begin settles

  at_once : (still : StillRun old.starts (walked.more ++ old.history) new.hosts) → NobodyWaits old.starts slots old.history walked.more new.hosts still
      → GoAtOnce old.starts slots old.history walked.more new.hosts still
  at_once still nobody =
      let it = walked.goes still nobody in
      record { one_clock = it.3.keeps; on_way = it.2.on_way; carried = it.2.carried; at_once = it.3.at_once }

  abbrev ServeAtOnce : List Entry → Type 0
  ServeAtOnce more =
      (still : StillRun old.starts (more ++ old.history) new.hosts) → NobodyWaits old.starts slots old.history more new.hosts still
      → GoAtOnce old.starts slots old.history more new.hosts still

  pub by_rounds : (more : List Entry) × (new.history ≡ more ++ old.history) × AreServices more × AreTyped (more ++ old.history)
      × WorldRun (more ++ old.history) (unused_both old.starts) new.hosts × (new.starts ≡ old.starts) × ServeAtOnce more
  by_rounds = (walked.more, walked.history, walked.services, walked.typed, walked.run, walked.same_starts, at_once)

  -- so it is of any events by which the one world became the other
  module _ (these : List Entry) (is : new.history ≡ these ++ old.history) where
    same_events : walked.more ≡ these
    same_events = append_cancel_right walked.more these old.history (sym walked.history ∙ is)

    pub of_services : AreServices these
    of_services = subst AreServices same_events walked.services

    pub of_typed : AreTyped (these ++ old.history)
    of_typed = subst (λ (m : List Entry). AreTyped (m ++ old.history)) same_events walked.typed

    pub of_course : ServeAtOnce these
    of_course = subst ServeAtOnce same_events at_once

pub arrives_where_known : (once : Once) (old new : WorldValue) (slots : Side → ℕ) (news : Side → NewSocket) (sockets : Side → TcpValue) (budget : ℕ) (from : ℤ)
    (rounds : ℕ) (rested : Option ℤ) (side : Side) (v w : TcpValue) → MaySettle slots news from sockets old new → StayAcquainted slots old new
    → Settles budget from rounds rested old new → (clock_in old.history +ℤ pos (enough_for old.history slots sockets)) <ℤ clock_in new.history
    → IsTcpAt (net_of new) side (slots side) v → IsTcpAt (net_of new) (other side) (slots (other side)) w
    → HasArrived (net_of new) side (slots side) (slots (other side)) v w
arrives_where_known once old new slots news sockets budget from rounds rested side v w may they settles long =
    arrives once slots news from sockets old new may they (of_services once slots from budget rounds rested old new may.begins settles they.more they.history)
    (of_typed once slots from budget rounds rested old new may.begins settles they.more they.history)
    (of_course once slots from budget rounds rested old new may.begins settles they.more they.history they.still) long side v w

-- OVER A MEDIUM WITHOUT HARDWARE ADDRESSES hosts know each other

pub stay_acquainted : (once : Once) (slots : Side → ℕ) (news : Side → NewSocket) (from : ℤ) (sockets : Side → TcpValue) (old new : WorldValue)
    (may : MaySettle slots news from sockets old new) → AskForNone old.starts → (more : List Entry) → new.history ≡ more ++ old.history
    → AreTyped (more ++ old.history) → StayAcquainted slots old new
stay_acquainted once slots news from sockets old new may none more is typed =
    let still : StillRun old.starts (more ++ old.history) new.hosts = subst (λ (h : List Entry). StillRun old.starts h new.hosts) is may.still in
    let connection = connects once slots news from sockets old new may more still typed in
    record {
      more = more;
      history = is;
      still = still;
      own = no_address;
      medium = λ side. record { from = tt; receiver = tt };
      pairs = connection.pairs;
      named = λ s.
          tcp_so (slice_index_or (sockets_of (node new.hosts s).slots) (slots s) None) (IsConnected (connection.pairs s))
          (λ v. v.tcb.names.pair ≡ Some (connection.pairs s)) (λ v connected. connected.1)
          (both_now (λ s. IsConnected (connection.pairs s)) old.starts slots old.history more new.hosts still connection.connected s);
      known = all_know old.starts may.begins.initial none.medium connection.pairs old.history more new.hosts still typed;
      unmarked = λ s.
          subst (λ (x : Nodes). IsUnmarkedAt (slots s) (node x s)) (first_same once slots news from sockets old new may more still)
          (first_unmarked old.starts may.begins.initial none.medium none.unmarked old.history more new.hosts still typed s (slots s));
    }

pub arrives_in_time : (once : Once) (old new : WorldValue) (slots : Side → ℕ) (news : Side → NewSocket) (sockets : Side → TcpValue) (budget : ℕ) (from : ℤ)
    (rounds : ℕ) (rested : Option ℤ) (side : Side) (v w : TcpValue) → MaySettle slots news from sockets old new → AskForNone old.starts
    → Settles budget from rounds rested old new → (clock_in old.history +ℤ pos (enough_for old.history slots sockets)) <ℤ clock_in new.history
    → IsTcpAt (net_of new) side (slots side) v → IsTcpAt (net_of new) (other side) (slots (other side)) w
    → HasArrived (net_of new) side (slots side) (slots (other side)) v w
arrives_in_time once old new slots news sockets budget from rounds rested side v w may none settles long =
    let (more, is, services, typed, run, same, go) = by_rounds once slots from budget rounds rested old new may.begins settles in
    arrives_where_known once old new slots news sockets budget from rounds rested side v w may
    (stay_acquainted once slots news from sockets old new may none more is typed) settles long

-- and nobody waits
pub by_rounds_at_once : (once : Once) (old new : WorldValue) (slots : Side → ℕ) (budget : ℕ) (from : ℤ) (rounds : ℕ) (rested : Option ℤ)
    → MayBegin slots from old → AskForNone old.starts → Settles budget from rounds rested old new
    → (more : List Entry) × (new.history ≡ more ++ old.history) × AreServices more × AreTyped (more ++ old.history)
    × WorldRun (more ++ old.history) (unused_both old.starts) new.hosts × (new.starts ≡ old.starts)
    × ((still : StillRun old.starts (more ++ old.history) new.hosts) → GoAtOnce old.starts slots old.history more new.hosts still)
by_rounds_at_once once old new slots budget from rounds rested begin none settles =
    let (more, is, services, typed, run, same, go) = by_rounds once slots from budget rounds rested old new begin settles in (
      more,
      is,
      services,
      typed,
      run,
      same,
      λ still. go still (none_wait old.starts begin.initial none.medium none.unmarked old.history more new.hosts still slots typed),
    )
