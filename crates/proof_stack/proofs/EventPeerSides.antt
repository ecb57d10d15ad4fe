-- Peers in a world whose hosts stay go on by the moves of its events.
use Rattle.std.proofs.Common.{◌≡◌, ℕ, ◌≤◌, ℤ, ◌≤ℤ◌, true, List, [], ◌∷◌, ◌++◌, Option, None, refl, sym, ap, ◌∙◌, subst, arith}
use Rattle.std.specs.Prelude.{slice_index_or}
use Rattle.std.proofs.lemmas.Int.{ints}
use Rattle.ip_wire.specs.TcpHeader.{TcpHeader}
use Rattle.tcp_block.specs.Value.{TcpValue, room_of}
use Rattle.tcp_liveness.specs.Arrivals.{is_synchronized}
use Rattle.tcp_liveness.specs.Exchange.{IsOpen}
use Rattle.tcp_liveness.specs.Pair.{HasStream}
use Rattle.lan.specs.declared.at_link.history.event.Side.{Side}
use Rattle.lan.specs.declared.at_link.history.event.Side.TheVariants.{A, B}
use Rattle.lan.specs.Worlds.AtLink.Initial.{IsInitialWorld}
use Rattle.lan.specs.Worlds.AtLink.Happening.{AreNumbered, Happening, steps_of}
use Rattle.lan.specs.Worlds.AtLink.History.{Entry}
use Rattle.lan.specs.Worlds.AtLink.Kinds.{other}
use Rattle.lan.specs.Worlds.AtLink.Moves.{IsRun, Step, run}
use Rattle.lan.specs.Worlds.AtLink.Paired.{AreHosted, AreNew, HaveKeys, NewSocket, told}
use Rattle.lan.specs.Worlds.AtLink.Parties.{Net, Socket}
use Rattle.lan.specs.Worlds.AtLink.PeerSides.{ArePartners}
use Rattle.lan.specs.Worlds.AtLink.Runs.{Starts}
use Rattle.lan.specs.Worlds.AtLink.Safe.{first_port}
use Rattle.lan.specs.Worlds.AtLink.Node.{Nodes, node}
use Rattle.lan.specs.Worlds.Events.{AreTyped}
use Rattle.lan.specs.Worlds.Moves.Follows.{IsNetOf}
use Rattle.lan.specs.Worlds.Moves.Joined.{first_net}
use Rattle.lan.specs.Worlds.Still.{StillRun, seats_of}
use Rattle.lan.proofs.Worlds.AtLink.Paired.Runs.{peer_sides_have_numbers}
use Rattle.lan.proofs.Worlds.Moves.Calls.{names}
use Rattle.lan.proofs.Worlds.Moves.Worlds.{initial_net}
use Rattle.proof_stack.proofs.EventAtOnce.{are_asked_within}
use Rattle.proof_stack.proofs.EventClocks.{at_instants}
use Rattle.proof_stack.proofs.EventComes.{brought_over, brought_there}
use Rattle.proof_stack.proofs.EventHopLimit.{are_let_go_there}
use Rattle.proof_stack.specs.Progress.Acquainted.{AreAcquainted}
use Rattle.proof_stack.proofs.EventConnected.{begins, of_one_net}
use Rattle.proof_stack.proofs.EventLeave.{are_let_go}
use Rattle.proof_stack.proofs.EventMoves.{all_events_move}
use Rattle.proof_stack.proofs.EventNow.{anything, initial_within}
use Rattle.proof_stack.proofs.MovedNow.{IsAnything}
use Rattle.proof_stack.proofs.EventReach.{linked as linked_in_reach}
use Rattle.proof_stack.proofs.EventSpace.{read_within}
use Rattle.proof_stack.proofs.EventStamps.{initial_unstamped}
use Rattle.proof_stack.proofs.EventStreams.{keep_streams}
use Rattle.proof_stack.proofs.MovedOn as MovedOn
use Rattle.proof_stack.proofs.StillPeerSides.{clocks, mid, on_between, shown, still_peer_sides}
use Rattle.proof_stack.specs.Progress.ByEvents.{ProceedByEvents}
use Rattle.proof_stack.specs.Progress.Days.{HasDays}
use Rattle.proof_stack.specs.Progress.Ends.{AreBoth}
use Rattle.proof_stack.specs.Progress.Hearing.{AreSo}
use Rattle.proof_stack.specs.Progress.Linked.{AreLinked}
use Rattle.proof_stack.specs.Progress.Events.{MoveBy, clock_in, shown_in, untimed}
use Rattle.proof_stack.specs.Progress.Moving.{AreBrought, AreLetGo, ComeInitial, ArriveInTime, IsInitialFor, IsHeardBy, IsReadInTime, IsTcp, SocketIs, moves_of}
use Rattle.proof_stack.specs.Progress.OneClock.{timed}
use Rattle.proof_stack.specs.Progress.PeerSides.{HoldText}
use Rattle.proof_stack.specs.Progress.Reach.{AreInReach, hosts_before}
use Rattle.proof_stack.specs.Progress.Serving.{AreEventsInTime, IsAtHost, KeepsStreamBy}

upto : (a b c : ℤ) → a ≤ℤ b → b ≤ℤ c → a ≤ℤ c
upto a b c one two = omega (arith, ints, one, two)

-- moves with instants, and with numbers
with_numbers : (xs : List (ℤ × Step)) (ms : List Happening) → steps_of ms ≡ untimed xs → (moves : List (ℤ × Happening)) × (moves_of moves ≡ ms) × (timed moves ≡ xs)
with_numbers [] [] is = ([], refl, refl)
with_numbers [] (m ∷ ms) is = absurd cc
with_numbers (x ∷ xs) [] is = absurd cc
with_numbers (x ∷ xs) (m ∷ ms) is =
    let first : m.step ≡ x.1 = cc in
    let rest : steps_of ms ≡ untimed xs = cc in
    let on = with_numbers xs ms rest in (
      (x.0, m) ∷ on.0,
      ap (λ (ys : List Happening). m ∷ ys) on.1,
      ap (λ (s : Step). (x.0, s) ∷ timed on.0) first ∙ ap (λ (ys : List (ℤ × Step)). x ∷ ys) on.2,
    )

-- the moves without instants and numbers
all_steps : (moves : List (ℤ × Happening)) → untimed (timed moves) ≡ steps_of (moves_of moves)
all_steps [] = refl
all_steps (x ∷ moves) = ap (λ (ss : List Step). x.1.step ∷ ss) (all_steps moves)

-- what holds of the socket of a host holds of that of a net of it
to_net : (starts : Starts) (slots : Side → ℕ) (net : Net) (hosts : Nodes) (history : List Entry) (of : IsNetOf net hosts history) (side : Side)
    (IsSo : TcpValue → Type 0) → IsAtHost (slots side) (node hosts side) IsSo → SocketIs (seats_of starts slots) net side IsSo
to_net starts slots net hosts history of side IsSo is =
    subst (λ (sockets : List (Option Socket)). IsTcp (slice_index_or sockets (slots side) None) IsSo) (sym (of.sockets side)) is

back : (s : Side) → other (other s) ≡ s
back A = refl
back B = refl

pub proceed_by_events : (starts : Starts) (past more : List Entry) (hosts : Nodes) (slots : Side → ℕ) (news : Side → NewSocket) → IsInitialWorld starts →
    AreTyped (more ++ past) → (still : StillRun starts (more ++ past) hosts) → AreNew (seats_of starts slots) news (first_net starts) →
    HaveKeys (seats_of starts slots) → HoldText (seats_of starts slots) → ArePartners past A (slots A) (slots B)
    → (between : Nodes) × ProceedByEvents starts past between more hosts still slots
proceed_by_events starts past more hosts slots news initial typed still new keys text peer_sides =
    let (between, all) = all_events_move starts past more hosts initial typed still in
    let was = all.was in
    let them = all.them in
    let seats = seats_of starts slots in
    let net = first_net starts in
    let ways = them.plainly in
    let at = mid starts past more between hosts slots news initial new keys text peer_sides was ways in
    let at_clocks = clocks starts past more between hosts slots news initial new keys text peer_sides was ways in
    let pair = shown starts past more between hosts slots news initial new keys text peer_sides was ways in
    let paired = still_peer_sides starts past more between hosts slots news initial new keys text peer_sides was ways in
    let numbers = peer_sides_have_numbers (first_port starts) names net ways.before ways.steps seats at_clocks pair.pair (initial_net starts initial) ways.may
    ways.may_on (ways.hosted_on slots) keys paired pair.shows in
    let given = with_numbers them.moves numbers.moves (numbers.are_these ∙ sym them.are_these) in
    let these : (moves : List (ℤ × Happening)) → timed moves ≡ them.moves → ways.steps ≡ steps_of (moves_of moves) =
    λ moves is. sym them.are_these ∙ ap untimed (sym is) ∙ all_steps moves in
    let by : (moves : List (ℤ × Happening)) → timed moves ≡ them.moves → MoveBy starts at past more hosts still (timed moves) =
    λ moves is. subst (MoveBy starts at past more hosts still) (sym is) them.of_events in
    let anywhere : (moves : List (ℤ × Happening)) → timed moves ≡ them.moves → (read wait delay : ℕ)
    → ((s : Side) → AreEventsInTime starts slots read wait s past between more hosts still) → ((s : Side) → KeepsStreamBy (slots s) s past more)
    → AreLetGo seats moves → ComeInitial seats delay at moves → ArriveInTime read wait delay (clock_in past) seats at_clocks at moves =
    λ moves is read wait delay so streams let_go come.
    record {
      opened = λ s. to_net starts slots at between past ways.of s (λ v. IsOpen v.tcb) ((so A).opened s);
      stay = λ s.
          to_net starts slots (run at (steps_of (moves_of moves))) hosts (more ++ past)
          (subst (λ (ss : List Step). IsNetOf (run at ss) hosts (more ++ past)) (these moves is) ways.of_these) s
          (λ v. is_synchronized v.tcb.state ≡ true) ((so A).stay s);
      clock = λ s. upto (at_clocks s) (shown_in starts past s) (clock_in past) (them.showed slots s) (so s).clock;
      instants = at_instants starts at past more hosts moves seats at_clocks still (by moves is) (so A).one_clock;
      asked = are_asked_within starts at past more hosts still slots moves wait (by moves is) (so A).one_clock (so A).are_served;
      let_go = let_go;
      come = come;
      read_in_time = λ s.
          subst (λ (of : Side). IsReadInTime seats read (clock_in past) at of moves) (back s)
          (read_within starts at past more hosts still seats moves (other (other s)) read (by moves is) (so (other s)).one_clock (so (other s)).reads);
      streams = λ s. keep_streams starts at past more hosts still seats moves s (by moves is) (streams s);
      rooms = λ s.
          subst (λ (of : Side). SocketIs seats at of (λ v. 1 ≤ room_of v.received)) (back s)
          (to_net starts slots at between past ways.of (other (other s)) (λ v. 1 ≤ room_of v.received) (so (other s)).room);
    } in
    let brought : (moves : List (ℤ × Happening)) → timed moves ≡ them.moves → (delay : ℕ) → AreLinked starts slots delay past more hosts still
    → (IsSo : TcpValue → TcpHeader → List ℕ → Type 0) → AreSo IsSo seats moves → AreBrought IsSo seats delay at moves =
    λ moves is delay linked IsSo fit.
    brought_over starts ways.before past more hosts still slots moves delay IsSo initial typed ways.may peer_sides (by moves is) linked fit in
    let over_links : (moves : List (ℤ × Happening)) → timed moves ≡ them.moves → (read wait delay : ℕ)
    → ((s : Side) → AreEventsInTime starts slots read wait s past between more hosts still) → ((s : Side) → KeepsStreamBy (slots s) s past more)
    → AreLinked starts slots delay past more hosts still → AreSo IsInitialFor seats moves
    → ArriveInTime read wait delay (clock_in past) seats at_clocks at moves =
    λ moves is read wait delay so streams linked fit.
    anywhere moves is read wait delay so streams (are_let_go starts initial linked.medium seats at past more hosts still moves (by moves is) linked.leave)
    (brought moves is delay linked IsInitialFor fit) in
    let where_known : (moves : List (ℤ × Happening)) → timed moves ≡ them.moves → (read wait delay : ℕ)
    → ((s : Side) → AreEventsInTime starts slots read wait s past between more hosts still) → ((s : Side) → KeepsStreamBy (slots s) s past more)
    → AreAcquainted starts slots delay past more hosts still → AreSo IsInitialFor seats moves
    → ArriveInTime read wait delay (clock_in past) seats at_clocks at moves =
    λ moves is read wait delay so streams they fit.
    anywhere moves is read wait delay so streams
    (are_let_go_there starts slots they.own they.pairs at past more hosts still moves (by moves is) they.leave they.connected they.known)
    (brought_there starts ways.before past more hosts still slots moves delay IsInitialFor initial typed ways.may peer_sides (by moves is) they fit) in
    let within_days : (moves : List (ℤ × Happening)) → timed moves ≡ them.moves → AreNumbered seats at (moves_of moves) → (read wait : ℕ)
    → ((s : Side) → AreEventsInTime starts slots read wait s past between more hosts still) → ((s : Side) → KeepsStreamBy (slots s) s past more)
    → AreAcquainted starts slots 0 past more hosts still → ((s : Side) → HasDays (more ++ past) (slots s) s)
    → ArriveInTime read wait 0 (clock_in past) seats at_clocks at moves =
    λ moves is numbered read wait so streams they days.
    anywhere moves is read wait 0 so streams
    (are_let_go_there starts slots they.own they.pairs at past more hosts still moves (by moves is) they.leave they.connected they.known)
    (initial_within starts past more hosts initial still slots news new keys text peer_sides between all days moves is (so A).one_clock
    (λ s. upto (at_clocks s) (shown_in starts past s) (clock_in past) (them.showed slots s) (so s).clock) numbered
    (brought_there starts ways.before past more hosts still slots moves 0 IsAnything initial typed ways.may peer_sides (by moves is) they
    (anything seats moves))) in
    let in_reach : (delay : ℕ) → AreBoth (λ s v. IsOpen v.tcb) slots between → AreBoth (λ s v. is_synchronized v.tcb.state ≡ true) slots hosts
    → AreInReach starts delay past more hosts still → AreLinked starts slots delay past more hosts still =
    λ delay opened stay reach.
    linked_in_reach starts past more hosts slots news delay initial typed still new keys text peer_sides
    (of_one_net at between (hosts_before starts past more hosts still) past ways.of (begins starts at past more hosts still them.moves them.of_events) slots
    (λ s v. IsOpen v.tcb) opened) stay reach in (
      between,
      record {
        goes = on_between starts past more between hosts slots news initial new keys text peer_sides was ways;
        steps = them.moves;
        of_events = them.of_events;
        numbers = (given.0, given.2, subst (AreNumbered seats at) (sym given.1) numbers.numbered);
        by_moves = λ moves is numbered.
            MovedOn.proceed (first_port starts) names net ways.before moves seats at_clocks pair.pair (initial_net starts initial) ways.may pair.reached pair.shows
            (subst (IsRun names at) (these moves is) ways.may_on) (subst (AreHosted seats at_clocks at) (these moves is) (ways.hosted_on slots)) keys
            (subst (λ (ss : List Step). ArePartners (run at ss).history A (slots A) (slots B)) (these moves is) paired) numbered;
        let_go = λ moves is on_ip leave. are_let_go starts initial on_ip seats at past more hosts still moves (by moves is) leave;
        in_time = λ moves is side read wait delay so let_go heard.
            record {
              opened = λ s. to_net starts slots at between past ways.of s (λ v. IsOpen v.tcb) (so.opened s);
              stay = λ s.
                  to_net starts slots (run at (steps_of (moves_of moves))) hosts (more ++ past)
                  (subst (λ (ss : List Step). IsNetOf (run at ss) hosts (more ++ past)) (these moves is) ways.of_these) s
                  (λ v. is_synchronized v.tcb.state ≡ true) (so.stay s);
              clock = upto (at_clocks side) (shown_in starts past side) (clock_in past) (them.showed slots side) so.clock;
              instants = at_instants starts at past more hosts moves seats at_clocks still (by moves is) so.one_clock;
              asked = are_asked_within starts at past more hosts still slots moves wait (by moves is) so.one_clock so.are_served;
              let_go = let_go;
              heard = heard;
              read_in_time = read_within starts at past more hosts still seats moves (other side) read (by moves is) so.one_clock so.reads;
              stream = subst (λ (h : List Entry). HasStream (told h side (slots side))) (sym ways.of.history) so.stream;
              room = to_net starts slots at between past ways.of (other side) (λ v. 1 ≤ room_of v.received) so.room;
            };
        in_time_anywhere = anywhere;
        heard_over_links = λ moves is delay linked fit. brought moves is delay linked IsHeardBy fit;
        initial_without_timestamps = λ moves is unstamped. initial_unstamped starts at past more hosts still slots moves (by moves is) unstamped;
        in_time_over_links = over_links;
        in_time_where_known = where_known;
        in_time_within_days = within_days;
        linked_in_reach = in_reach;
        in_time_in_reach = λ moves is read wait delay so streams reach fit.
            over_links moves is read wait delay so streams (in_reach delay (so A).opened (so A).stay reach) fit;
      },
    )
