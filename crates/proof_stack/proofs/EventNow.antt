-- Within 24 days no segment that comes at the instant at which it went is older than TS.Recent.
use Rattle.std.proofs.Common.{◌≡◌, ℕ, ℤ, ◌≤ℤ◌, Bool, List, [], ◌∷◌, ◌++◌, append-nil, refl, sym, ap, ◌∙◌, subst, arith}
use Rattle.std.specs.Prelude.{pos}
use Rattle.std.proofs.lemmas.Int.{ints}
use Rattle.tcp_state.specs.Moments.{tsval_end_from}
use Rattle.tcp_refinement.specs.Pair.Steps.{Steps}
use Rattle.tcp_refinement.specs.Pair.Values.{PairValue}
use Rattle.tcp_refinement.specs.declared.pair.event.PairEvent.{PairEvent}
use Rattle.tcp_liveness.specs.Reached.{IsReached}
use Rattle.tcp_liveness.specs.Rounds.{takes}
use Rattle.lan.specs.declared.at_link.history.event.Side.{Side}
use Rattle.lan.specs.declared.at_link.history.event.Side.TheVariants.{A, B}
use Rattle.lan.specs.Worlds.AtLink.Happening.{AreNumbered, ProceedsBy, Happening, events_of_moves, steps_of}
use Rattle.lan.specs.Worlds.AtLink.Initial.{IsInitialWorld}
use Rattle.lan.specs.Worlds.AtLink.History.{Entry}
use Rattle.lan.specs.Worlds.AtLink.Moves.{IsRun, Move, Step, run}
use Rattle.lan.specs.Worlds.AtLink.Moves.Move.{Invokes, Passes, Offers, Gives, Takes, Receives, Resets, Changes}
use Rattle.lan.specs.Worlds.AtLink.PacketsSafe.{IsInitialNet}
use Rattle.lan.specs.Worlds.AtLink.Paired.{AreHosted, AreNew, HaveKeys, NewSocket, Seat, Shows, at_zero, begun, clocks_in}
use Rattle.lan.specs.Worlds.AtLink.Parties.{Net}
use Rattle.lan.specs.Worlds.AtLink.PeerSides.{ArePartners}
use Rattle.lan.specs.Worlds.AtLink.Runs.{Starts}
use Rattle.lan.specs.Worlds.AtLink.Safe.{first_port}
use Rattle.lan.specs.Worlds.AtLink.Node.{Nodes}
use Rattle.lan.specs.Worlds.Moves.Joined.{first_net}
use Rattle.lan.specs.Worlds.Still.{MovePlainly, StillRun, seats_of}
use Rattle.lan.proofs.Worlds.AtLink.Paired.Begins.{begins}
use Rattle.lan.proofs.Worlds.AtLink.Paired.Runs.{ShowsAlong, after_events, peer_sides_proceed_by, peer_sides_have_numbers, peer_sides_show_along}
use Rattle.lan.proofs.Worlds.Moves.Calls.{names}
use Rattle.lan.proofs.Worlds.Moves.Worlds.{initial_net}
use Rattle.proof_stack.specs.Progress.Days.{HasDays, KeepsTime}
use Rattle.proof_stack.specs.Progress.Events.{MoveBy, clock_in, untimed}
use Rattle.proof_stack.specs.Progress.Hearing.{AreSo, IsSoAt}
use Rattle.proof_stack.specs.Progress.Moving.{AreAtInstants, AreBrought, IsInitialFor, end_in, moves_of}
use Rattle.proof_stack.specs.Progress.OneClock.{KeepOneClock, timed}
use Rattle.proof_stack.specs.Progress.PeerSides.{HoldText}
use Rattle.proof_stack.proofs.EventClocks.{at_instants}
use Rattle.proof_stack.proofs.EventDays.{AllTimed, Timed, all_timed, pair_timed}
use Rattle.proof_stack.proofs.EventEnds.{end_timed, ends, ends_now}
use Rattle.proof_stack.proofs.EventMoves.{MovesBy}
use Rattle.proof_stack.proofs.MovedNow.{IsAnything, all_initial}
use Rattle.proof_stack.proofs.StillPeerSides.{peer_sides_stay}

no_later : (t : ℤ) → t ≤ℤ t
no_later t = omega (arith, ints)

steps_lead : (p next : PairValue) (events : List PairEvent) → Steps p events next → next ≡ after_events p events
steps_lead p next [] steps = steps
steps_lead p next (event ∷ events) steps = steps_lead (takes p event) next events steps.1

module _ (ports : Side → ℕ → ℕ) (named : List ℕ → Bool) (first : Net) (seats : Side → Seat) (news : Side → NewSocket) (initial : IsInitialNet ports first)
    (new : AreNew seats news first) (keys : HaveKeys seats) (text : HoldText seats) (since : Side → ℤ) (least : (s : Side) → pos 0 ≤ℤ since s) where
  abbrev slots : Side → ℕ
  slots s = (seats s).slot

  abbrev Paired : Net → Type 0
  Paired net = ArePartners net.history A (slots A) (slots B)

  -- What moves from a new net on led to, and what more moves at instants of one clock lead to.
  pub record Onward (before : List Step) (moves : List (ℤ × Happening)) (now : ℤ) : Type 0 where
    pub may : IsRun named first before
    pub hosted : AreHosted seats at_zero first before
    pub paired : Paired (run first before)
    pub timed : AllTimed since slots first before
    pub may_on : IsRun named (run first before) (steps_of (moves_of moves))
    pub hosted_on : AreHosted seats (clocks_in seats at_zero before) (run first before) (steps_of (moves_of moves))
    pub paired_on : Paired (run (run first before) (steps_of (moves_of moves)))
    pub timed_on : AllTimed since slots (run first before) (steps_of (moves_of moves))
    pub numbered : AreNumbered seats (run first before) (moves_of moves)
    pub instants : AreAtInstants seats (clocks_in seats at_zero before) now moves
    pub low : (s : Side) → clocks_in seats at_zero before s ≤ℤ now
    pub within : (s : Side) → end_in now moves ≤ℤ tsval_end_from (since s)

  -- with numbers for the segments that came before
  module _ (so_far : List Happening) (moves : List (ℤ × Happening)) (now : ℤ) (on : Onward (steps_of so_far) moves now)
      (numbered : AreNumbered seats first so_far) where
    abbrev p0 : PairValue
    p0 = begun seats news

    sh0 : Shows seats at_zero first p0
    sh0 = begins ports first seats news initial new

    abbrev net : Net
    net = run first (steps_of so_far)

    abbrev clocks : Side → ℤ
    clocks = clocks_in seats at_zero (steps_of so_far)

    one : ProceedsBy seats clocks net p0 (events_of_moves seats at_zero so_far)
    one = peer_sides_proceed_by ports named first [] so_far seats at_zero p0 initial tt on.may on.hosted keys on.paired numbered sh0

    abbrev p : PairValue
    p = one.next

    reached : IsReached p
    reached = record {
      a = record { host = (seats A).host; holds = text A; random = 0; room = (news A).room; ring = (news A).ring };
      b = record { host = (seats B).host; holds = text B; random = 0; room = (news B).room; ring = (news B).ring };
      events = events_of_moves seats at_zero so_far;
      steps = one.steps;
    }

    timed_p : Timed since p
    timed_p =
        subst (Timed since) (sym (steps_lead p0 p (events_of_moves seats at_zero so_far) one.steps))
        (pair_timed since seats so_far at_zero first p0
        (peer_sides_show_along ports named first [] so_far seats at_zero p0 initial tt on.may on.hosted keys on.paired numbered sh0) on.timed (λ s. tt))

    two : ProceedsBy seats (clocks_in seats clocks (steps_of (moves_of moves))) (run net (steps_of (moves_of moves))) p (events_of_moves seats clocks (moves_of moves))
    two =
        peer_sides_proceed_by ports named first (steps_of so_far) (moves_of moves) seats clocks p initial on.may on.may_on on.hosted_on keys on.paired_on on.numbered
        one.shows

    along : ShowsAlong seats clocks net p (moves_of moves)
    along = peer_sides_show_along ports named first (steps_of so_far) (moves_of moves) seats clocks p initial on.may on.may_on on.hosted_on keys on.paired_on
        on.numbered one.shows

    timed_q : Timed since two.next
    timed_q =
        subst (Timed since) (sym (steps_lead p two.next (events_of_moves seats clocks (moves_of moves)) two.steps))
        (pair_timed since seats (moves_of moves) clocks net p along on.timed_on timed_p)

    numbered_initial : AreBrought IsAnything seats 0 net moves → AreBrought IsInitialFor seats 0 net moves
    numbered_initial are =
        all_initial named seats since least (end_in now moves) on.within two.next timed_q moves clocks net p now
        (record {
          along = along;
          may = on.may_on;
          instants = on.instants;
          low = on.low;
          until = no_later (end_in now moves);
          reached = reached;
          steps = two.steps;
        }) are

  pub initial_on : (before : List Step) (moves : List (ℤ × Happening)) (now : ℤ) → Onward before moves now
      → AreBrought IsAnything seats 0 (run first before) moves → AreBrought IsInitialFor seats 0 (run first before) moves
  initial_on before moves now on =
      let numbers = peer_sides_have_numbers ports named first [] before seats at_zero (begun seats news) initial tt on.may on.hosted keys on.paired
      (begins ports first seats news initial new) in
      subst (λ (steps : List Step). Onward steps moves now → AreBrought IsAnything seats 0 (run first steps) moves → AreBrought IsInitialFor seats 0 (run first steps) moves)
      numbers.are_these (λ it. numbered_initial numbers.moves moves now it numbers.numbered) on

-- IN A WORLD

keeps_before : (since : ℤ) (side : Side) (slot : ℕ) (past more : List Entry) → KeepsTime since side slot (more ++ past) → KeepsTime since side slot past
keeps_before since side slot past [] keeps = keeps
keeps_before since side slot past (e ∷ more) keeps = keeps_before since side slot past more keeps.1

all_steps : (moves : List (ℤ × Happening)) → untimed (timed moves) ≡ steps_of (moves_of moves)
all_steps [] = refl
all_steps (x ∷ moves) = ap (λ (ss : List Step). x.1.step ∷ ss) (all_steps moves)

any_move : (slot : ℕ) (move : Move) → IsSoAt IsAnything slot move
any_move slot (Takes at cx v ip header bytes) = λ here. tt
any_move slot (Invokes at cx old entry call new) = tt
any_move slot (Passes entry) = tt
any_move slot (Offers at cx v from sent) = tt
any_move slot (Gives at cx v answer new sent) = tt
any_move slot (Receives at cx v ip udp bytes) = tt
any_move slot (Resets x) = tt
any_move slot (Changes at old new) = tt

pub anything : (seats : Side → Seat) (moves : List (ℤ × Happening)) → AreSo IsAnything seats moves
anything seats [] = tt
anything seats (x ∷ moves) = (any_move (seats x.1.step.side).slot x.1.step.move, anything seats moves)

module _ (starts : Starts) (past more : List Entry) (hosts : Nodes) (initial : IsInitialWorld starts) (still : StillRun starts (more ++ past) hosts)
    (slots : Side → ℕ) (news : Side → NewSocket) (new : AreNew (seats_of starts slots) news (first_net starts)) (keys : HaveKeys (seats_of starts slots))
    (text : HoldText (seats_of starts slots)) (peer_sides : ArePartners past A (slots A) (slots B)) (between : Nodes)
    (all : MovesBy starts initial past between more hosts still) (days : (s : Side) → HasDays (more ++ past) (slots s) s)
    (moves : List (ℤ × Happening)) (is : timed moves ≡ all.them.moves) where
  abbrev seats : Side → Seat
  seats = seats_of starts slots

  abbrev ways : MovePlainly starts past between (more ++ past) hosts
  ways = all.them.plainly

  abbrev mid : Net
  mid = run (first_net starts) ways.before

  abbrev shown : Side → ℤ
  shown = clocks_in seats at_zero ways.before

  abbrev Both : List Entry → Type 0
  Both history = ArePartners history A (slots A) (slots B)

  abbrev since : Side → ℤ
  since s = (days s).since

  these : untimed all.them.moves ≡ steps_of (moves_of moves)
  these = ap untimed (sym is) ∙ all_steps moves

  those : ways.steps ≡ steps_of (moves_of moves)
  those = sym all.them.are_these ∙ these

  ends_there : end_in (clock_in past) moves ≡ clock_in (more ++ past)
  ends_there = end_timed moves (clock_in past) ∙ ap (ends (clock_in past)) is ∙ ends_now starts mid past more hosts still all.them.moves all.them.of_events

  keeps_past : (s : Side) → KeepsTime (since s) s (slots s) (past ++ [])
  keeps_past s =
      subst (KeepsTime (since s) s (slots s)) (sym (append-nil past)) (keeps_before (since s) s (slots s) past more (days s).timed)

  onward : KeepOneClock starts slots past more → ((s : Side) → shown s ≤ℤ clock_in past) → AreNumbered seats mid (moves_of moves)
      → Onward (first_port starts) names (first_net starts) seats news (initial_net starts initial) new keys text since (λ s. (days s).begun) ways.before moves
      (clock_in past)
  onward keep low numbered = record {
    may = ways.may;
    hosted = ways.hosted slots;
    paired = subst Both (sym ways.of.history) peer_sides;
    timed = subst (AllTimed since slots (first_net starts)) (sym all.are_these)
        (all_timed since slots starts (first_net starts) [] past between all.began.still all.began.moves all.began.by_events keeps_past);
    may_on = subst (IsRun names mid) those ways.may_on;
    hosted_on = subst (AreHosted seats shown mid) those (ways.hosted_on slots);
    paired_on = subst (λ (ss : List Step). Both (run mid ss).history) those
        (subst Both (sym ways.of_these.history) (peer_sides_stay past more A (slots A) (slots B) peer_sides));
    timed_on = subst (AllTimed since slots mid) these
        (all_timed since slots starts mid past more hosts still all.them.moves all.them.of_events (λ s. (days s).timed));
    numbered = numbered;
    instants = at_instants starts mid past more hosts moves seats shown still (subst (MoveBy starts mid past more hosts still) (sym is) all.them.of_events) keep;
    low = low;
    within = λ s. subst (λ (t : ℤ). t ≤ℤ tsval_end_from (since s)) (sym ends_there) (days s).within;
  }

  pub initial_within : KeepOneClock starts slots past more → ((s : Side) → shown s ≤ℤ clock_in past) → AreNumbered seats mid (moves_of moves)
      → AreBrought IsAnything seats 0 mid moves → AreBrought IsInitialFor seats 0 mid moves
  initial_within keep low numbered =
      initial_on (first_port starts) names (first_net starts) seats news (initial_net starts initial) new keys text since (λ s. (days s).begun) ways.before moves
      (clock_in past) (onward keep low numbered)
