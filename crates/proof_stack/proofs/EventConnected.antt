-- Where two peers are open at first and there in the end, they are connected throughout.
use Rattle.std.proofs.Common.{◌≡◌, inl, inr, ℕ, ℤ, true, List, [], ◌∷◌, ◌++◌, Option, Some, None, refl, sym, ap, ◌∙◌, subst}
use Rattle.std.specs.Prelude.{slice_index_or}
use Rattle.tcp_state.specs.declared.endpoints.FourTuple.{FourTuple}
use Rattle.tcp_block.specs.Value.{TcpValue}
use Rattle.tcp_refinement.specs.Pair.Values.{PairValue}
use Rattle.tcp_refinement.specs.declared.pair.event.Side as Pairs
use Rattle.tcp_refinement.specs.declared.pair.event.Side.TheVariants as Of
use Rattle.tcp_liveness.specs.Arrivals.{is_synchronized}
use Rattle.tcp_liveness.specs.BothWays.{AreThere}
use Rattle.tcp_liveness.specs.Exchange.{IsOpen}
use Rattle.tcp_liveness.specs.Pair.{socket_of}
use Rattle.tcp_liveness.specs.Reached.{IsReached}
use Rattle.tcp_liveness.proofs.CourseParts.{there_before}
use Rattle.tcp_liveness.proofs.Kept.{reached_by}
use Rattle.tcp_liveness.proofs.LatePayload.{there_of}
use Rattle.tcp_liveness.proofs.Mirrored.{named_in}
use Rattle.tcp_liveness.proofs.OnwardPairs.{IsBegun, MovesIn, begun as begun_by, begun_after, by_steps}
use Rattle.lan.specs.declared.at_link.history.event.Side.{Side}
use Rattle.lan.specs.declared.at_link.history.event.Side.TheVariants.{A, B}
use Rattle.lan.specs.Worlds.AtLink.Initial.{IsInitialWorld}
use Rattle.lan.specs.Worlds.AtLink.History.{Entry}
use Rattle.lan.specs.Worlds.AtLink.Moves.{IsRun, Step, after, run}
use Rattle.lan.specs.Worlds.AtLink.Paired.{AreHosted, AreNew, Proceeds, HaveKeys, NewSocket, Seat, Shows, clocks_after, clocks_in, side_in}
use Rattle.lan.specs.Worlds.AtLink.Parties.{Net, Socket, party, socket_at}
use Rattle.lan.specs.Worlds.AtLink.Parties.Socket.{Tcp}
use Rattle.lan.specs.Worlds.AtLink.PeerSides.{ArePartners}
use Rattle.lan.specs.Worlds.AtLink.Runs.{Starts}
use Rattle.lan.specs.Worlds.AtLink.Safe.{first_port}
use Rattle.lan.specs.Worlds.AtLink.Node.{Nodes, node}
use Rattle.lan.specs.Worlds.Events.{AreTyped}
use Rattle.lan.specs.Worlds.Moves.Follows.{IsNetOf}
use Rattle.lan.specs.Worlds.Moves.Joined.{first_net}
use Rattle.lan.specs.Worlds.Still.{StillRun, seats_of}
use Rattle.lan.proofs.Worlds.AtLink.Extended.{IsRun-append, run-append}
use Rattle.lan.proofs.Worlds.AtLink.Paired.Runs.{peer_sides_proceed}
use Rattle.lan.proofs.Worlds.Moves.Calls.{names}
use Rattle.lan.proofs.Worlds.Moves.Worlds.{initial_net}
use Rattle.proof_stack.specs.Progress.Ends.{AreBoth, AreConnected, IsConnected}
use Rattle.proof_stack.specs.Progress.Events.{MoveBy, clock_in, untimed}
use Rattle.proof_stack.specs.Progress.Reach.{hosts_before}
use Rattle.proof_stack.specs.Progress.Moving.{IsTcp}
use Rattle.proof_stack.specs.Progress.PeerSides.{HoldText}
use Rattle.proof_stack.specs.Progress.Serving.{IsAtHost}
use Rattle.proof_stack.proofs.EventFacts.{moves_run, net_at}
use Rattle.proof_stack.proofs.EventMoves.{events_move, untimed_append}
use Rattle.proof_stack.proofs.EventSlots.{at_net}
use Rattle.proof_stack.proofs.PairStays.{KeepsPair, steps_keep, then_keeps}
use Rattle.proof_stack.proofs.StillPeerSides.{clocks as clocks_at, mid, peer_sides_stay, shown}

-- PARTS OF A RUN

hosted_first : (seats : Side → Seat) (clocks : Side → ℤ) (net : Net) (xs ys : List Step) → AreHosted seats clocks net (xs ++ ys) → AreHosted seats clocks net xs
hosted_first seats clocks net [] ys are = tt
hosted_first seats clocks net (x ∷ xs) ys are = (are.0, are.1, hosted_first seats (clocks_after seats clocks x) (after net x) xs ys are.2)

hosted_rest : (seats : Side → Seat) (clocks : Side → ℤ) (net : Net) (xs ys : List Step) → AreHosted seats clocks net (xs ++ ys)
    → AreHosted seats (clocks_in seats clocks xs) (run net xs) ys
hosted_rest seats clocks net [] ys are = are
hosted_rest seats clocks net (x ∷ xs) ys are = hosted_rest seats (clocks_after seats clocks x) (after net x) xs ys are.2

clocks-append : (seats : Side → Seat) (clocks : Side → ℤ) (xs ys : List Step)
    → clocks_in seats clocks (xs ++ ys) ≡ clocks_in seats (clocks_in seats clocks xs) ys
clocks-append seats clocks [] ys = refl
clocks-append seats clocks (x ∷ xs) ys = clocks-append seats (clocks_after seats clocks x) xs ys

pub begins : (starts : Starts) (net : Net) (past more : List Entry) (hosts : Nodes) (still : StillRun starts (more ++ past) hosts) (moves : List (ℤ × Step))
    → MoveBy starts net past more hosts still moves → IsNetOf net (hosts_before starts past more hosts still) past
begins starts net past [] hosts still moves by = by.1
begins starts net past (e ∷ more) hosts still moves by = begins starts net past more still.0 still.1 by.0 by.3

-- A HOST AND A NET OF IT

host_so : (net : Net) (hosts : Nodes) (history : List Entry) → IsNetOf net hosts history → (side : Side) (slot : ℕ) (v : TcpValue) (P : TcpValue → Type 0)
    → socket_at (party net side) slot ≡ Some (Tcp v) → P v → IsAtHost slot (node hosts side) P
host_so net hosts history of side slot v P stands is =
    subst (λ (o : Option Socket). IsTcp o P) (sym stands ∙ ap (λ (ss : List (Option Socket)). slice_index_or ss slot None) (of.sockets side)) is

-- two hosts of one net have the same sockets
pub of_one_net : (net : Net) (one another : Nodes) (history : List Entry) → IsNetOf net one history → IsNetOf net another history → (slots : Side → ℕ)
    (IsSo : Side → TcpValue → Type 0) → AreBoth IsSo slots one → AreBoth IsSo slots another
of_one_net net one another history of_one of_another slots IsSo are =
    λ side. (
    let it = at_net net one history side (slots side) (IsSo side) of_one (are side) in
    host_so net another history of_another side (slots side) it.0 (IsSo side) it.1 it.2
    )

same_tcp : (v w : TcpValue) → Some (Tcp v) ≡ Some (Tcp w) → v ≡ w
same_tcp v w e = let one : Tcp v ≡ Tcp w = cc in one_of v w one where
  one_of : (v w : TcpValue) → Tcp v ≡ Tcp w → v ≡ w
  one_of v w is = cc

-- what holds of the socket of a host holds of the side that shows it
shown_so : (seats : Side → Seat) (clocks : Side → ℤ) (net : Net) (p : PairValue) (hosts : Nodes) (history : List Entry) → Shows seats clocks net p
    → IsNetOf net hosts history → (side : Side) (P : TcpValue → Type 0) → IsAtHost (seats side).slot (node hosts side) P → P (socket_of p (side_in side))
shown_so seats clocks net p hosts history shows of side P is =
    let it = at_net net hosts history side (seats side).slot P of is in
    subst P (same_tcp it.0 (socket_of p (side_in side)) (sym it.1 ∙ shows.socket side)) it.2

of_both : (P : Pairs.Side → Type 0) → ((side : Side) → P (side_in side)) → (of : Pairs.Side) → P of
of_both P all Of.A = all A
of_both P all Of.B = all B

-- FROM A PAIR ON, which both opened

module _ (starts : Starts) (initial : IsInitialWorld starts) (slots : Side → ℕ) (keys : HaveKeys (seats_of starts slots)) (so_far : List Step)
    (ran : IsRun names (first_net starts) so_far) (past : List Entry) (peer_sides : ArePartners past A (slots A) (slots B)) (clocks : Side → ℤ) (p : PairValue)
    (led : IsReached p) (both_begun : (of : Pairs.Side) → IsBegun p of) (shown_by : Shows (seats_of starts slots) clocks (run (first_net starts) so_far) p)
    (pairs : Side → FourTuple) (named : (side : Side) → (socket_of p (side_in side)).tcb.names.pair ≡ Some (pairs side)) where
  abbrev seats : Side → Seat
  seats = seats_of starts slots

  abbrev from : Net
  from = run (first_net starts) so_far

  named_then : (m : PairValue) → IsReached m → AreThere m → (side : Side) → KeepsPair (socket_of p (side_in side)) (socket_of m (side_in side))
      → (socket_of m (side_in side)).tcb.names.pair ≡ Some (pairs side)
  named_then m r there side (inl same) = same ∙ named side
  named_then m r there side (inr none) =
      let some = named_in m (side_in side) r (there_of m (side_in side) there) in
      absurd (let clash : None ≡ Some some.0 = sym none ∙ some.1 in cc)

  -- a pair that shows the net after some events, and was there before if it is
  pub record Walked (more : List Entry) (hosts : Nodes) (still : StillRun starts (more ++ past) hosts) (moves : List (ℤ × Step)) : Type 0 where
    pub pair : PairValue
    pub reached : IsReached pair
    pub begun : (of : Pairs.Side) → IsBegun pair of
    pub keeps : (of : Pairs.Side) → KeepsPair (socket_of p of) (socket_of pair of)
    pub shows : Shows seats (clocks_in seats clocks (untimed moves)) (run from (untimed moves)) pair
    pub back : AreThere pair → AreConnected starts slots pairs past more hosts still

  both_there : (m : PairValue) (clocks : Side → ℤ) (net : Net) (hosts : Nodes) (history : List Entry) → IsReached m
      → ((of : Pairs.Side) → KeepsPair (socket_of p of) (socket_of m of)) → Shows seats clocks net m → IsNetOf net hosts history → AreThere m
      → AreBoth (λ side. IsConnected (pairs side)) slots hosts
  both_there m clocks net hosts history r keeps shows of there =
      λ side. host_so net hosts history of side (slots side) (socket_of m (side_in side)) (IsConnected (pairs side)) (shows.socket side)
      (there_of m (side_in side) there, named_then m r there side (keeps (side_in side)))

  -- the pair goes on by the moves of an event
  goes : (then_far : List Step) → IsRun names (first_net starts) then_far → (net : Net) → run (first_net starts) then_far ≡ net → (clocks : Side → ℤ) (m : PairValue)
      → Shows seats clocks net m → (steps : List Step) → IsRun names net steps → AreHosted seats clocks net steps
      → ArePartners (run net steps).history A (slots A) (slots B) → Proceeds seats (clocks_in seats clocks steps) (run net steps) m
  goes then_far may net is =
      subst (λ (net : Net). (clocks : Side → ℤ) (m : PairValue) → Shows seats clocks net m → (steps : List Step) → IsRun names net steps
      → AreHosted seats clocks net steps → ArePartners (run net steps).history A (slots A) (slots B)
      → Proceeds seats (clocks_in seats clocks steps) (run net steps) m) is
      (λ clocks m shows steps may_on hosted peer_sides.
      peer_sides_proceed (first_port starts) names (first_net starts) then_far steps seats clocks m (initial_net starts initial) may may_on hosted keys peer_sides shows)

  pub walk : (more : List Entry) (hosts : Nodes) (still : StillRun starts (more ++ past) hosts) (moves : List (ℤ × Step))
      → MoveBy starts from past more hosts still moves → AreHosted seats clocks from (untimed moves) → Walked more hosts still moves
  walk [] hosts still moves by hosted = record {
    pair = p;
    reached = led;
    begun = both_begun;
    keeps = λ of. inl refl;
    shows = subst (λ (xs : List (ℤ × Step)). Shows seats (clocks_in seats clocks (untimed xs)) (run from (untimed xs)) p) (sym by.0) shown_by;
    back = λ there. both_there p clocks from hosts past led (λ of. inl refl) shown_by by.1 there;
  }
  walk (e ∷ more) hosts still moves by hosted =
      let before : List (ℤ × Step) = by.0 in
      let these : List Step = by.1 in
      let net : Net = run from (untimed before) in
      let is : untimed moves ≡ untimed before ++ these = ap untimed by.2 ∙ untimed_append before (clock_in (e ∷ more ++ past)) these in
      let all = subst (AreHosted seats clocks from) is hosted in
      let was = walk more still.0 still.1 before by.3 (hosted_first seats clocks from (untimed before) these all) in
      let far = IsRun-append names (first_net starts) so_far (untimed before) ran (moves_run starts from past more still.0 still.1 before by.3) in
      let on =
      goes (so_far ++ untimed before) far net (run-append (first_net starts) so_far (untimed before)) (clocks_in seats clocks (untimed before)) was.pair was.shows
      these by.4.may (hosted_rest seats clocks from (untimed before) these all)
      (subst (λ (h : List Entry). ArePartners h A (slots A) (slots B)) (sym by.4.of.history)
      (peer_sides_stay past (e ∷ more) A (slots A) (slots B) peer_sides)) in
      let moved : (of : Pairs.Side) → MovesIn was.pair on.next of =
      by_steps was.pair on.events on.next was.reached (was.begun Of.A) (was.begun Of.B) on.steps in
      let keeps : (of : Pairs.Side) → KeepsPair (socket_of p of) (socket_of on.next of) =
      λ of. then_keeps (socket_of p of) (socket_of was.pair of) (socket_of on.next of) (was.keeps of)
      (steps_keep was.pair on.events on.next was.reached (was.begun Of.A) (was.begun Of.B) on.steps of) in
      let reached_now : IsReached on.next = reached_by was.pair on.next on.events was.reached on.steps in
      let there : AreThere on.next → (of : Pairs.Side) → is_synchronized (socket_of was.pair of).tcb.state ≡ true =
      λ then_there of. there_before was.pair on.next of (was.begun of) (moved of) (there_of on.next of then_there) in
      record {
        pair = on.next;
        reached = reached_now;
        begun = λ of. begun_after was.pair on.next of (moved of) (was.begun of);
        keeps = keeps;
        shows = subst (λ (ss : List Step). Shows seats (clocks_in seats clocks ss) (run from ss) on.next) (sym is)
            (subst (λ (c : Side → ℤ). Shows seats c (run from (untimed before ++ these)) on.next) (sym (clocks-append seats clocks (untimed before) these))
            (subst (λ (n : Net). Shows seats (clocks_in seats (clocks_in seats clocks (untimed before)) these) n on.next)
            (sym (run-append from (untimed before) these)) on.shows));
        back = λ then_there. (
          was.back (there then_there Of.A, there then_there Of.B),
          both_there on.next (clocks_in seats (clocks_in seats clocks (untimed before)) these) (run net these) hosts (e ∷ more ++ past) reached_now keeps on.shows
              by.4.of then_there,
        );
      }

-- IN A WORLD

-- the pair at first, with the endpoints of both, and both connected throughout
pub record StaysConnected (starts : Starts) (slots : Side → ℕ) (past more : List Entry) (hosts : Nodes) (still : StillRun starts (more ++ past) hosts)
    : Type 0 where
  pub pair : PairValue
  pub reached : IsReached pair
  pub there : AreThere pair
  pub pairs : Side → FourTuple
  pub named : (side : Side) → (socket_of pair (side_in side)).tcb.names.pair ≡ Some (pairs side)
  pub connected : AreConnected starts slots pairs past more hosts still

pub stays_connected : (starts : Starts) (past more : List Entry) (hosts : Nodes) (slots : Side → ℕ) (news : Side → NewSocket) → IsInitialWorld starts
    → AreTyped (more ++ past) → (still : StillRun starts (more ++ past) hosts) → AreNew (seats_of starts slots) news (first_net starts)
    → HaveKeys (seats_of starts slots) → HoldText (seats_of starts slots) → ArePartners past A (slots A) (slots B)
    → AreBoth (λ side v. IsOpen v.tcb) slots (hosts_before starts past more hosts still)
    → AreBoth (λ side v. is_synchronized v.tcb.state ≡ true) slots hosts → StaysConnected starts slots past more hosts still
stays_connected starts past more hosts slots news initial typed still new keys text peer_sides opened stay =
    let (between, was, them) = events_move starts past more hosts initial typed still in
    let ways = them.plainly in
    let seats = seats_of starts slots in
    let net : Net = mid starts past more between hosts slots news initial new keys text peer_sides was ways in
    let clocks : Side → ℤ = clocks_at starts past more between hosts slots news initial new keys text peer_sides was ways in
    let first = shown starts past more between hosts slots news initial new keys text peer_sides was ways in
    let p : PairValue = first.pair in
    let at_first : IsNetOf net (hosts_before starts past more hosts still) past = begins starts net past more hosts still them.moves them.of_events in
    let both_open : (of : Pairs.Side) → IsOpen (socket_of p of).tcb =
    of_both (λ (of : Pairs.Side). IsOpen (socket_of p of).tcb)
    (λ side. shown_so seats clocks net p (hosts_before starts past more hosts still) past first.shows at_first side (λ v. IsOpen v.tcb) (opened side)) in
    let known : (side : Side) → (pair : FourTuple) × ((socket_of p (side_in side)).tcb.names.pair ≡ Some pair) =
    λ side. named_in p (side_in side) first.reached (both_open (side_in side)).synchronized in
    let walked =
    walk starts initial slots keys ways.before ways.may past peer_sides clocks p first.reached (λ of. begun_by p of first.reached (both_open of)) first.shows
    (λ side. (known side).0) (λ side. (known side).1) more hosts still them.moves them.of_events
    (subst (AreHosted seats clocks net) (sym them.are_these) (ways.hosted_on slots)) in
    let at_end : IsNetOf (run net (untimed them.moves)) hosts (more ++ past) = net_at starts net past more hosts still them.moves them.of_events in
    let there : (of : Pairs.Side) → is_synchronized (socket_of walked.pair of).tcb.state ≡ true =
    of_both (λ (of : Pairs.Side). is_synchronized (socket_of walked.pair of).tcb.state ≡ true)
    (λ side. shown_so seats (clocks_in seats clocks (untimed them.moves)) (run net (untimed them.moves)) walked.pair hosts (more ++ past) walked.shows at_end side
    (λ v. is_synchronized v.tcb.state ≡ true) (stay side)) in
    record {
      pair = p;
      reached = first.reached;
      there = ((both_open Of.A).synchronized, (both_open Of.B).synchronized);
      pairs = λ side. (known side).0;
      named = λ side. (known side).1;
      connected = walked.back (there Of.A, there Of.B);
    }

pub connected_throughout : (starts : Starts) (past more : List Entry) (hosts : Nodes) (slots : Side → ℕ) (news : Side → NewSocket) → IsInitialWorld starts
    → AreTyped (more ++ past) → (still : StillRun starts (more ++ past) hosts) → AreNew (seats_of starts slots) news (first_net starts)
    → HaveKeys (seats_of starts slots) → HoldText (seats_of starts slots) → ArePartners past A (slots A) (slots B)
    → AreBoth (λ side v. IsOpen v.tcb) slots (hosts_before starts past more hosts still)
    → AreBoth (λ side v. is_synchronized v.tcb.state ≡ true) slots hosts
    → (pairs : Side → FourTuple) × AreConnected starts slots pairs past more hosts still
connected_throughout starts past more hosts slots news initial typed still new keys text peer_sides opened stay =
    let it = stays_connected starts past more hosts slots news initial typed still new keys text peer_sides opened stay in (it.pairs, it.connected)
