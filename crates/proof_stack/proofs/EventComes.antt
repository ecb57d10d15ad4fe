-- Where frames are taken in time, each segment that the socket of an end sends in the moves of events comes to the other end in time.
use Rattle.std.proofs.Common.{◌≡◌, inl, inr, ℕ, ℤ, pos, ◌+ℤ◌, List, [], ◌∷◌, ◌++◌, Some, sym, ap, ◌∙◌, subst}
use Rattle.std.specs.Prelude.{slice_get}
use Rattle.std.specs.List.{AllByRecursion}
use Rattle.ip_wire.specs.HardwareAddress.{HardwareAddress}
use Rattle.ip_wire.specs.TcpHeader.{TcpHeader}
use Rattle.interface.specs.Delivered.{AreOfOneMedium}
use Rattle.tcp_state.specs.declared.endpoints.FourTuple.{FourTuple}
use Rattle.tcp_block.specs.Value.{TcpValue}
use Rattle.tcp_refinement.specs.Host.{Made}
use Rattle.lan.specs.declared.at_link.history.event.Side.{Side}
use Rattle.lan.specs.declared.at_link.history.event.Side.TheVariants.{A, B}
use Rattle.lan.specs.declared.at_link.history.record.Opening.{Opening}
use Rattle.lan.specs.Worlds.AtLink.Initial.{IsInitialWorld}
use Rattle.lan.specs.Worlds.AtLink.Happening.{Happening, sent_in}
use Rattle.lan.specs.Worlds.AtLink.History.{Entry, opening}
use Rattle.lan.specs.Worlds.AtLink.Kinds.{Kind, kind_of, other}
use Rattle.lan.specs.Worlds.AtLink.Kinds.Act.{Asks, Calls, Opens, Polls, Sets}
use Rattle.lan.specs.Worlds.AtLink.Kinds.Kind.{OfHost, OfLink}
use Rattle.lan.specs.Worlds.AtLink.Moves.{IsRun, Move, Step, after, run}
use Rattle.lan.specs.Worlds.AtLink.Moves.Move.{Invokes, Passes, Offers, Gives, Takes, Receives, Resets, Changes}
use Rattle.lan.specs.Worlds.AtLink.Paired.{Seat}
use Rattle.lan.specs.Worlds.AtLink.Parties.{Net}
use Rattle.lan.specs.Worlds.AtLink.PeerSides.{ArePartners}
use Rattle.lan.specs.Worlds.AtLink.Runs.{Starts}
use Rattle.lan.specs.Worlds.AtLink.Node.{Nodes}
use Rattle.lan.specs.Worlds.AtLink.Tables.{Slots}
use Rattle.lan.specs.Worlds.Events.{AreTyped}
use Rattle.lan.specs.Worlds.Moves.Joined.{first_net}
use Rattle.lan.specs.Worlds.Still.{StillRun, seats_of}
use Rattle.lan.proofs.Worlds.AtLink.Runs.{Kept, initial_kept, kept_run, step_by}
use Rattle.lan.proofs.Worlds.Moves.Calls.{names}
use Rattle.lan.proofs.Worlds.Moves.Worlds.{initial_net}
use Rattle.proof_stack.specs.Progress.FramesInTransit.{AreCarried}
use Rattle.proof_stack.specs.Progress.Ends.{AreConnected, AreEnds}
use Rattle.proof_stack.specs.Progress.Events.{AreOfEvent, IsOfPoll, MoveBy, clock_in, shown_in, untimed}
use Rattle.proof_stack.specs.Progress.Hearing.{AreSo, IsSoAt}
use Rattle.proof_stack.specs.Progress.Acquainted.{AreAcquainted}
use Rattle.proof_stack.specs.Progress.KnownHopLimit.{KnowEachOther}
use Rattle.proof_stack.specs.Progress.Linked.{AreLinked}
use Rattle.proof_stack.specs.Progress.Moving as Moving
use Rattle.proof_stack.specs.Progress.OneClock.{timed}
use Rattle.proof_stack.specs.Progress.Serving.{GiveTxToken}
use Rattle.proof_stack.proofs.EventCarried.{AreBrought, BroughtIn, all_are}
use Rattle.proof_stack.proofs.EventFacts as Facts
use Rattle.proof_stack.proofs.EventFacts.{call_none, moves_run}
use Rattle.proof_stack.proofs.EventFrames.{IsFrameOf}
use Rattle.proof_stack.proofs.EventHears.{Brings, IsBroughtBy, poll_quiet}
use Rattle.proof_stack.proofs.EventHopLimit.{acquainted}
use Rattle.proof_stack.proofs.EventMade.{AreOpened, IsNoReset, are_opened_then, stays_sent}
use Rattle.proof_stack.proofs.EventMoves.{untimed_append}

-- NO MOVE OF AN EVENT IS A RESET

abbrev AreQuiet : List Step → Type 0
AreQuiet steps = AllByRecursion (λ step. IsNoReset step.move) steps

quiet_append : (xs ys : List Step) → AreQuiet xs → AreQuiet ys → AreQuiet (xs ++ ys)
quiet_append [] ys first then_ = then_
quiet_append (x ∷ xs) ys first then_ = (first.0, quiet_append xs ys first.1 then_)

polls_quiet : (e : Entry) (t : ℤ) (side : Side) (steps : List Step) → AllByRecursion (λ step. (step.side ≡ side) × IsOfPoll e t step.move) steps → AreQuiet steps
polls_quiet e t side [] all = tt
polls_quiet e t side (step ∷ steps) all = (poll_quiet e t step.move all.0.1, polls_quiet e t side steps all.1)

passes_quiet : (e : Entry) (steps : List Step) (side : Side) → steps ≡ record { side = side; move = Passes e } ∷ [] → AreQuiet steps
passes_quiet e steps side is = subst AreQuiet (sym is) (tt, tt)

kind_quiet : (e : Entry) (k : Kind) (shown : Side → ℤ) (steps : List Step) → AreOfEvent e k shown steps → AreQuiet steps
kind_quiet e (OfHost side (Polls t budget)) shown steps all = polls_quiet e t side steps all
kind_quiet e (OfHost side (Calls at call)) shown steps (move, is, its) = subst AreQuiet (sym is) ((call_none e at call (shown side) move its).0, tt)
kind_quiet e (OfHost side (Sets setting)) shown steps are = passes_quiet e steps are.0 are.1
kind_quiet e (OfHost side (Opens n)) shown steps are = passes_quiet e steps are.0 are.1
kind_quiet e (OfHost side (Asks instant)) shown steps are = passes_quiet e steps are.0 are.1
kind_quiet e (OfLink act) shown steps are = passes_quiet e steps are.0 are.1

moves_quiet : (starts : Starts) (net : Net) (past more : List Entry) (hosts : Nodes) (still : StillRun starts (more ++ past) hosts) (moves : List (ℤ × Step))
    → MoveBy starts net past more hosts still moves → AreQuiet (untimed moves)
moves_quiet starts net past [] hosts still moves by = subst (λ (xs : List (ℤ × Step)). AreQuiet (untimed xs)) (sym by.0) tt
moves_quiet starts net past (e ∷ more) hosts still moves by =
    subst AreQuiet (sym (ap untimed by.2 ∙ untimed_append by.0 (clock_in (e ∷ more ++ past)) by.1))
    (quiet_append (untimed by.0) by.1 (moves_quiet starts net past more still.0 still.1 by.0 by.3)
    (kind_quiet e (kind_of e.event) (shown_in starts (more ++ past)) by.1 by.4.are))

-- the net from which they lead has the past
begins : (starts : Starts) (net : Net) (past more : List Entry) (hosts : Nodes) (still : StillRun starts (more ++ past) hosts) (moves : List (ℤ × Step))
    → MoveBy starts net past more hosts still moves → net.history ≡ past
begins starts net past [] hosts still moves by = by.1.history
begins starts net past (e ∷ more) hosts still moves by = begins starts net past more still.0 still.1 by.0 by.3

-- WITH NUMBERS

module _ (ports : Side → ℕ → ℕ) (pls : Slots) (seats : Side → Seat) (pairs : Side → FourTuple) (own : Side → HardwareAddress) (IsSo : TcpValue → TcpHeader → List ℕ → Type 0) where
  abbrev slots : Side → ℕ
  slots side = (seats side).slot

  abbrev Frame : Side → Made → List ℕ → Type 0
  Frame side x frame = IsFrameOf (pairs side) (own side) (own (other side)) x frame

  abbrev Bring : Side → Made → Step → Type 0
  Bring side x step = Brings slots side x step

  brings_so : (net : Net) (side : Side) (k : ℕ) (x : Made) (move : Move) → slice_get (sent_in seats net side) k ≡ Some x → IsBroughtBy (slots (other side)) x move
      → IsSoAt IsSo (slots (other side)) move → Moving.BringsAt IsSo (slots (other side)) (sent_in seats net side) k move
  brings_so net side k x (Takes at cx v ip header bytes) is (here, its) so = (here, is ∙ ap (λ (y : Made). Some y) its, so here)
  brings_so net side k x (Invokes at cx old entry call new) is brings so = absurd brings
  brings_so net side k x (Passes entry) is brings so = absurd brings
  brings_so net side k x (Offers at cx v from sent) is brings so = absurd brings
  brings_so net side k x (Gives at cx v answer new sent) is brings so = absurd brings
  brings_so net side k x (Receives at cx v ip udp bytes) is brings so = absurd brings
  brings_so net side k x (Resets y) is brings so = absurd brings
  brings_so net side k x (Changes at old new) is brings so = absurd brings

  module _ (last : ℤ) (side : Side) (k : ℕ) (x : Made) where
    brought_so : (moves : List (ℤ × Happening)) (net : Net) → Kept ports pls net → AreOpened ports pls seats net → IsRun pls.names net (untimed (timed moves))
        → AreQuiet (untimed (timed moves)) → AreSo IsSo seats moves → slice_get (sent_in seats net side) k ≡ Some x
        → BroughtIn Bring Frame (sent_in seats) last side x (timed moves) → Moving.IsBroughtBy IsSo seats last side k net moves
    brought_so [] net kept opened may quiet so is brought = tt
    brought_so (y ∷ moves) net kept opened may quiet so is (soon, inl brings) = (
      soon,
      inl (
        brings.0,
        brings_so net side k x y.1.step.move is brings.1 (subst (λ (s : Side). IsSoAt IsSo (seats s).slot y.1.step.move) brings.0 so.0),
      ),
    )
    brought_so (y ∷ moves) net kept opened may quiet so is (soon, inr on) = (
      soon,
      inr (brought_so moves (after net y.1.step) (step_by ports pls net y.1.step.side y.1.step.move kept may.0)
          (are_opened_then ports pls seats net kept opened y.1.step.side y.1.step.move may.0 quiet.0) may.1 quiet.1 so.1
          (stays_sent ports pls seats net kept opened y.1.step.side y.1.step.move may.0 quiet.0 side k x is) on),
    )

  all_so : (delay : ℕ) (moves : List (ℤ × Happening)) (net : Net) → Kept ports pls net → AreOpened ports pls seats net → IsRun pls.names net (untimed (timed moves))
      → AreQuiet (untimed (timed moves)) → AreSo IsSo seats moves → AreBrought Bring Frame (sent_in seats) delay net (timed moves)
      → Moving.AreBrought IsSo seats delay net moves
  all_so delay [] net kept opened may quiet so are = tt
  all_so delay (y ∷ moves) net kept opened may quiet so are =
      let next = step_by ports pls net y.1.step.side y.1.step.move kept may.0 in
      let next_opened = are_opened_then ports pls seats net kept opened y.1.step.side y.1.step.move may.0 quiet.0 in (
        λ side k least most. (
            let (x, is, brought) = are.0 side k (least, most) in
            brought_so (y.0 +ℤ pos delay) side k x moves (after net y.1.step) next next_opened may.1 quiet.1 so.1 is brought),
        all_so delay moves (after net y.1.step) next next_opened may.1 quiet.1 so.1 are.1,
      )

-- IN A WORLD

openings_of : (past : List Entry) (slots : Side → ℕ) → ArePartners past A (slots A) (slots B) → (side : Side) →
    (o : Opening) × (opening past side (slots side) ≡ Some o)
openings_of past slots peer_sides A = (peer_sides.one, peer_sides.opened)
openings_of past slots peer_sides B = (peer_sides.another, peer_sides.peer_side_opened)

are_brought : (starts : Starts) (so_far : List Step) (past more : List Entry) (hosts : Nodes) (still : StillRun starts (more ++ past) hosts)
    (slots : Side → ℕ) (pairs : Side → FourTuple) (moves : List (ℤ × Happening)) (delay : ℕ) (on_way : Side → List (ℤ × List ℕ))
    (IsSo : TcpValue → TcpHeader → List ℕ → Type 0) (own : Side → HardwareAddress) → IsInitialWorld starts
    → ((side : Side) → AreOfOneMedium (own side) (own (other side)) (own (other side))) → AreTyped (more ++ past)
    → IsRun names (first_net starts) so_far → ArePartners past A (slots A) (slots B) → AreEnds starts pairs
    → (by : MoveBy starts (run (first_net starts) so_far) past more hosts still (timed moves)) → GiveTxToken starts past more hosts still
    → AreConnected starts slots pairs past more hosts still → KnowEachOther own pairs starts past more hosts still
    → AreCarried starts delay past more hosts still on_way → AreSo IsSo (seats_of starts slots) moves
    → Moving.AreBrought IsSo (seats_of starts slots) delay (run (first_net starts) so_far) moves
are_brought starts so_far past more hosts still slots pairs moves delay on_way IsSo own initial of_one typed ran peer_sides ends by leave connected known carried so =
    let pls = Facts.pls starts initial own of_one slots pairs ends in
    let ports = Facts.ports starts initial own of_one slots pairs ends in
    let net : Net = run (first_net starts) so_far in
    let openings = openings_of past slots peer_sides in
    let facts = Facts.facts starts initial own of_one slots pairs ends so_far ran past openings more hosts still (timed moves) by typed leave connected known in
    let are = all_are (Brings slots) (λ side x frame. IsFrameOf (pairs side) (own side) (own (other side)) x frame) (sent_in (seats_of starts slots)) starts net past delay more hosts still
    (timed moves) on_way by facts carried in
    let kept : Kept ports pls net = kept_run ports pls (first_net starts) so_far (initial_kept ports names (first_net starts) (initial_net starts initial)) ran in
    all_so ports pls (seats_of starts slots) pairs own IsSo delay moves net kept
    (λ side. ((openings side).0, ap (λ (h : List Entry). opening h side (slots side)) (begins starts net past more hosts still (timed moves) by) ∙ (openings side).1))
    (moves_run starts net past more hosts still (timed moves) by) (moves_quiet starts net past more hosts still (timed moves) by) so are

-- WHERE HOSTS KNOW EACH OTHER

pub brought_there : (starts : Starts) (so_far : List Step) (past more : List Entry) (hosts : Nodes) (still : StillRun starts (more ++ past) hosts)
    (slots : Side → ℕ) (moves : List (ℤ × Happening)) (delay : ℕ) (IsSo : TcpValue → TcpHeader → List ℕ → Type 0) → IsInitialWorld starts
    → AreTyped (more ++ past) → IsRun names (first_net starts) so_far → ArePartners past A (slots A) (slots B)
    → MoveBy starts (run (first_net starts) so_far) past more hosts still (timed moves) → AreAcquainted starts slots delay past more hosts still
    → AreSo IsSo (seats_of starts slots) moves → Moving.AreBrought IsSo (seats_of starts slots) delay (run (first_net starts) so_far) moves
brought_there starts so_far past more hosts still slots moves delay IsSo initial typed ran peer_sides by linked so =
    are_brought starts so_far past more hosts still slots linked.pairs moves delay linked.on_way IsSo linked.own initial linked.medium typed ran peer_sides linked.ends
    by linked.leave linked.connected linked.known linked.carried so

pub come_there : (starts : Starts) (so_far : List Step) (past more : List Entry) (hosts : Nodes) (still : StillRun starts (more ++ past) hosts)
    (slots : Side → ℕ) (moves : List (ℤ × Happening)) (delay : ℕ) → IsInitialWorld starts → AreTyped (more ++ past) → IsRun names (first_net starts) so_far
    → ArePartners past A (slots A) (slots B) → MoveBy starts (run (first_net starts) so_far) past more hosts still (timed moves)
    → AreAcquainted starts slots delay past more hosts still → AreSo Moving.IsInitialFor (seats_of starts slots) moves
    → Moving.ComeInitial (seats_of starts slots) delay (run (first_net starts) so_far) moves
come_there starts so_far past more hosts still slots moves delay = brought_there starts so_far past more hosts still slots moves delay Moving.IsInitialFor

pub heard_there : (starts : Starts) (so_far : List Step) (past more : List Entry) (hosts : Nodes) (still : StillRun starts (more ++ past) hosts)
    (slots : Side → ℕ) (moves : List (ℤ × Happening)) (delay : ℕ) → IsInitialWorld starts → AreTyped (more ++ past) → IsRun names (first_net starts) so_far
    → ArePartners past A (slots A) (slots B) → MoveBy starts (run (first_net starts) so_far) past more hosts still (timed moves)
    → AreAcquainted starts slots delay past more hosts still → AreSo Moving.IsHeardBy (seats_of starts slots) moves
    → Moving.AreHeard (seats_of starts slots) delay (run (first_net starts) so_far) moves
heard_there starts so_far past more hosts still slots moves delay = brought_there starts so_far past more hosts still slots moves delay Moving.IsHeardBy

-- OVER LINKS of a medium that has no hardware addresses

pub brought_over : (starts : Starts) (so_far : List Step) (past more : List Entry) (hosts : Nodes) (still : StillRun starts (more ++ past) hosts)
    (slots : Side → ℕ) (moves : List (ℤ × Happening)) (delay : ℕ) (IsSo : TcpValue → TcpHeader → List ℕ → Type 0) → IsInitialWorld starts
    → AreTyped (more ++ past) → IsRun names (first_net starts) so_far → ArePartners past A (slots A) (slots B)
    → MoveBy starts (run (first_net starts) so_far) past more hosts still (timed moves) → AreLinked starts slots delay past more hosts still
    → AreSo IsSo (seats_of starts slots) moves → Moving.AreBrought IsSo (seats_of starts slots) delay (run (first_net starts) so_far) moves
brought_over starts so_far past more hosts still slots moves delay IsSo initial typed ran peer_sides by linked =
    brought_there starts so_far past more hosts still slots moves delay IsSo initial typed ran peer_sides by
    (acquainted starts slots delay past more hosts still initial typed linked)

pub come_over : (starts : Starts) (so_far : List Step) (past more : List Entry) (hosts : Nodes) (still : StillRun starts (more ++ past) hosts)
    (slots : Side → ℕ) (moves : List (ℤ × Happening)) (delay : ℕ) → IsInitialWorld starts → AreTyped (more ++ past) → IsRun names (first_net starts) so_far
    → ArePartners past A (slots A) (slots B) → MoveBy starts (run (first_net starts) so_far) past more hosts still (timed moves)
    → AreLinked starts slots delay past more hosts still → AreSo Moving.IsInitialFor (seats_of starts slots) moves
    → Moving.ComeInitial (seats_of starts slots) delay (run (first_net starts) so_far) moves
come_over starts so_far past more hosts still slots moves delay = brought_over starts so_far past more hosts still slots moves delay Moving.IsInitialFor

pub heard_over : (starts : Starts) (so_far : List Step) (past more : List Entry) (hosts : Nodes) (still : StillRun starts (more ++ past) hosts)
    (slots : Side → ℕ) (moves : List (ℤ × Happening)) (delay : ℕ) → IsInitialWorld starts → AreTyped (more ++ past) → IsRun names (first_net starts) so_far
    → ArePartners past A (slots A) (slots B) → MoveBy starts (run (first_net starts) so_far) past more hosts still (timed moves)
    → AreLinked starts slots delay past more hosts still → AreSo Moving.IsHeardBy (seats_of starts slots) moves
    → Moving.AreHeard (seats_of starts slots) delay (run (first_net starts) so_far) moves
heard_over starts so_far past more hosts still slots moves delay = brought_over starts so_far past more hosts still slots moves delay Moving.IsHeardBy
