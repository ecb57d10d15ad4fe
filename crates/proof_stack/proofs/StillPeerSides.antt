-- Peers in a world whose hosts stay are a pair that goes on.
use Rattle.std.proofs.Common.{ℕ, ℤ, List, [], ◌∷◌, ◌++◌, sym, subst}
use Rattle.lan.specs.declared.at_link.history.event.Side.{Side}
use Rattle.lan.specs.declared.at_link.history.event.Side.TheVariants.{A, B}
use Rattle.lan.specs.Worlds.AtLink.Initial.{IsInitialWorld}
use Rattle.lan.specs.Worlds.AtLink.History.{Entry}
use Rattle.lan.specs.Worlds.AtLink.Kinds.{other}
use Rattle.lan.specs.Worlds.AtLink.Moves.{run}
use Rattle.lan.specs.Worlds.AtLink.Paired.{AreNew, HaveKeys, NewSocket, Seat, at_zero, clocks_in}
use Rattle.lan.specs.Worlds.AtLink.Parties.{Net}
use Rattle.lan.specs.Worlds.AtLink.PeerSides.{ArePartners}
use Rattle.lan.specs.Worlds.AtLink.Runs.{Starts}
use Rattle.lan.specs.Worlds.AtLink.Safe.{first_port}
use Rattle.lan.specs.Worlds.AtLink.Node.{Nodes}
use Rattle.lan.specs.Worlds.Events.{AreTyped}
use Rattle.lan.specs.Worlds.Moves.Joined.{first_net}
use Rattle.lan.specs.Worlds.Still.{MovePlainly, StillRun, seats_of}
use Rattle.lan.proofs.Worlds.AtLink.PeerSideLemmas.{opening_stays}
use Rattle.lan.proofs.Worlds.Moves.Calls.{names}
use Rattle.lan.proofs.Worlds.Moves.Worlds.{initial_net}
use Rattle.lan.proofs.Worlds.StillRuns.{still_hosts_move_plainly}
use Rattle.proof_stack.proofs.MovedOn.{by_steps}
use Rattle.proof_stack.proofs.Partnered.{proceeds, reached}
use Rattle.proof_stack.specs.Progress.PeerSides.{ProceedBetween, HoldText, ShowsReached}

pub peer_sides_stay : (past more : List Entry) (side : Side) (i j : ℕ) → ArePartners past side i j → ArePartners (more ++ past) side i j
peer_sides_stay past [] side i j p = p
peer_sides_stay past (e ∷ more) side i j p =
    let q = peer_sides_stay past more side i j p in
    record {
      one = q.one;
      another = q.another;
      opened = opening_stays (more ++ past) e side i q.one q.opened;
      peer_side_opened = opening_stays (more ++ past) e (other side) j q.another q.peer_side_opened;
      paired = q.paired;
    }

-- by whatever plain moves lead there
module _ (starts : Starts) (past more : List Entry) (between hosts : Nodes) (slots : Side → ℕ) (news : Side → NewSocket) (initial : IsInitialWorld starts)
    (new : AreNew (seats_of starts slots) news (first_net starts)) (keys : HaveKeys (seats_of starts slots)) (text : HoldText (seats_of starts slots))
    (peer_sides : ArePartners past A (slots A) (slots B)) (was : StillRun starts past between) (moves : MovePlainly starts past between (more ++ past) hosts) where
  abbrev pub seats : Side → Seat
  seats = seats_of starts slots

  abbrev net : Net
  net = first_net starts

  abbrev pub mid : Net
  mid = run net moves.before

  abbrev pub clocks : Side → ℤ
  clocks = clocks_in seats at_zero moves.before

  abbrev Paired : List Entry → Type 0
  Paired h = ArePartners h A (slots A) (slots B)

  pub still_peer_sides : Paired (run mid moves.steps).history
  still_peer_sides = subst Paired (sym moves.of_these.history) (peer_sides_stay past more A (slots A) (slots B) peer_sides)

  abbrev pub shown : ShowsReached seats clocks mid
  shown = reached (first_port starts) names net moves.before seats news (initial_net starts initial) new moves.may (moves.hosted slots) keys text
      (subst Paired (sym moves.of.history) peer_sides)

  abbrev pub on_between : ProceedBetween starts past between (more ++ past) hosts seats
  on_between = record {
    was_still = was;
    net = mid;
    of = moves.of;
    clocks = clocks;
    reached = shown;
    next = run mid moves.steps;
    of_these = moves.of_these;
    clocks_then = clocks_in seats clocks moves.steps;
    proceeds = proceeds (first_port starts) names net moves.before moves.steps seats clocks shown.pair (initial_net starts initial) moves.may shown.reached shown.shows
        moves.may_on (moves.hosted_on slots) keys still_peer_sides;
    by_steps = by_steps (first_port starts) names net moves.before moves.steps seats clocks shown.pair (initial_net starts initial) moves.may shown.reached shown.shows
        moves.may_on (moves.hosted_on slots) keys still_peer_sides;
  }

pub proceed : (starts : Starts) (past more : List Entry) (hosts : Nodes) (slots : Side → ℕ) (news : Side → NewSocket) → IsInitialWorld starts →
    AreTyped (more ++ past) → StillRun starts (more ++ past) hosts → AreNew (seats_of starts slots) news (first_net starts) →
    HaveKeys (seats_of starts slots) → HoldText (seats_of starts slots) → ArePartners past A (slots A) (slots B)
    → (between : Nodes) × ProceedBetween starts past between (more ++ past) hosts (seats_of starts slots)
proceed starts past more hosts slots news initial typed still new keys text peer_sides =
    let (between, was, moves) = still_hosts_move_plainly starts past more hosts initial typed still in
    (between, on_between starts past more between hosts slots news initial new keys text peer_sides was moves)
