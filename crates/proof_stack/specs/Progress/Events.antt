-- Which moves the events of a world are, and at which instants they are made.
use Rattle.std.specs.Prelude.{◌≡◌, ℕ, ℤ, pos, ◌≤ℤ◌, if◌then◌else◌, true, IsTrue, List, [], ◌∷◌, ◌++◌, map}
use Rattle.std.specs.List.{AllByRecursion}
use Rattle.tcp_block.specs.Offers.{offer_of}
use Rattle.lan.specs.declared.at_link.history.event.Side.{Side}
use Rattle.lan.specs.Worlds.AtLink.Happening.{goes}
use Rattle.lan.specs.Worlds.AtLink.History.{Entry}
use Rattle.lan.specs.Worlds.AtLink.Kinds.{Kind, kind_of, same_side}
use Rattle.lan.specs.Worlds.AtLink.Kinds.Act.{Asks, Calls, Polls}
use Rattle.lan.specs.Worlds.AtLink.Kinds.Kind.{OfHost}
use Rattle.lan.specs.Worlds.AtLink.Call.{SocketCall}
use Rattle.lan.specs.Worlds.AtLink.Moves.{IsRun, Move, Step, run}
use Rattle.lan.specs.Worlds.AtLink.Moves.Move.{Invokes, Passes, Offers, Gives, Takes, Receives}
use Rattle.lan.specs.Worlds.AtLink.Origins.{medium_of}
use Rattle.lan.specs.Worlds.AtLink.Paired.{at_zero, clocks_in}
use Rattle.lan.specs.Worlds.AtLink.Parties.{Net}
use Rattle.lan.specs.Worlds.AtLink.Runs.{Starts, start}
use Rattle.lan.specs.Worlds.AtLink.Node.{Nodes, node}
use Rattle.lan.specs.Worlds.Moves.Answered.{HasAnswered}
use Rattle.lan.specs.Worlds.Moves.Follows.{IsNetOf}
use Rattle.lan.specs.Worlds.Moves.Joined.{first_net}
use Rattle.lan.specs.Worlds.Moves.ReceivedFrames.{AreMoved}
use Rattle.lan.specs.Worlds.Moves.WasSent.{HasLeft}
use Rattle.lan.specs.Worlds.Still.{MovePlainly, StillRun, seats_of}
use Rattle.sim_link.specs.PacketInFrame.{names_tcp_or_udp}
use Rattle.sim_link.specs.Medium.TheVariants as Medium
use Rattle.sim_link.specs.Port.{has_tx_token}
use Rattle.proof_stack.specs.Progress.KnownHopLimit.{AreSentTo, KnowsThroughout}

-- MOMENTS. Two events have one: a poll, and the question when a host wants to be polled.

-- what the clock of a host shows after an event
abbrev pub shown_by : Kind → Side → ℤ → ℤ
shown_by (OfHost host (Polls instant budget)) side before = if same_side host side then instant else before
shown_by (OfHost host (Asks instant)) side before = if same_side host side then instant else before
shown_by kind side before = before

-- what it shows after all events of a history
abbrev pub shown_in : Starts → List Entry → Side → ℤ
shown_in starts [] side = (start starts side).host.inner.instant
shown_in starts (e ∷ past) side = shown_by (kind_of e.event) side (shown_in starts past side)

-- what one clock of both hosts shows after an event
abbrev pub told_by : Kind → ℤ → ℤ
told_by (OfHost host (Polls instant budget)) before = instant
told_by (OfHost host (Asks instant)) before = instant
told_by kind before = before

-- the last instant that either host was told, and 0 until one was
abbrev pub clock_in : List Entry → ℤ
clock_in [] = pos 0
clock_in (e ∷ past) = told_by (kind_of e.event) (clock_in past)

-- THE MOVES OF AN EVENT

-- In a poll a host asks its sockets, and brings what waits to them, at the instant of the poll, which is kept in the history.
abbrev pub IsOfPoll : Entry → ℤ → Move → Type 0
IsOfPoll e instant (Offers at cx v from sent) = cx.instant ≡ instant
IsOfPoll e instant (Takes at cx v ip header bytes) = cx.instant ≡ instant
IsOfPoll e instant (Gives at cx v answer new sent) = Unit {0}
IsOfPoll e instant (Receives at cx v ip udp bytes) = Unit {0}
IsOfPoll e instant (Passes entry) = entry ≡ e
IsOfPoll e instant move = ⊥

-- it is this call, at this slot, of a host that shows this instant
abbrev pub IsOfCall : Entry → ℕ → SocketCall → ℤ → Move → Type 0
IsOfCall e slot call instant (Invokes at cx old entry this new) = (at ≡ slot) × (this ≡ call) × (entry ≡ e) × (cx.instant ≡ instant)
IsOfCall e slot call instant move = ⊥

-- The moves of a poll are its host's. A call is one move of its host, which shows the socket what its clock shows. Any other event is kept in the
-- history, and moves no socket.
abbrev pub AreOfEvent : Entry → Kind → (Side → ℤ) → List Step → Type 0
AreOfEvent e (OfHost side (Polls instant budget)) shown steps = AllByRecursion (λ step. (step.side ≡ side) × IsOfPoll e instant step.move) steps
AreOfEvent e (OfHost side (Calls slot call)) shown steps =
    (move : Move) × (steps ≡ record { side = side; move = move } ∷ []) × IsOfCall e slot call (shown side) move
AreOfEvent e kind shown steps = (side : Side) × (steps ≡ record { side = side; move = Passes e } ∷ [])

-- what a TCP socket offers goes, if it offers anything
abbrev pub IsSentOff : Move → Type 0
IsSentOff (Offers at cx v from sent) = goes (offer_of cx v).socket.offered sent ≡ true
IsSentOff move = Unit {0}

-- Of a poll after which the link of its host gives leave to send, over a medium that has no hardware addresses to ask for: whatever TCP sockets offer
-- goes.
abbrev pub AreSentOff : Kind → Nodes → List Step → Type 0
AreSentOff (OfHost side (Polls instant budget)) new steps =
    IsTrue (has_tx_token (node new side).link) → medium_of (node new side) ≡ Medium.Ip → AllByRecursion (λ step. IsSentOff step.move) steps
AreSentOff kind new steps = Unit {0}

-- A poll took the first of the frames that waited for its host, and whichever segment one of them brought to a socket came to it by one of these moves.
abbrev pub AreTaken : Kind → Nodes → Nodes → Net → List Step → Type 0
AreTaken (OfHost side (Polls instant budget)) old new net steps =
    (frames : List (List ℕ)) × ((node old side).link.waiting ≡ frames ++ (node new side).link.waiting)
    × AreMoved side (node old side).host.inner instant net frames steps
AreTaken kind old new net steps = Unit {0}

-- The link of its host took these frames in a poll, and whatever TCP sockets offered in it, and were told that it went, left so; and where the link gives
-- leave to send after the poll, so did whatever they answered.
abbrev pub AreGone : Kind → Nodes → Nodes → List Step → Type 0
AreGone (OfHost side (Polls instant budget)) old new steps =
    (gone : List (List ℕ)) × ((node new side).link.sent ≡ (node old side).link.sent ++ gone)
    × AllByRecursion (λ step. HasLeft (node old side).host.inner instant ((node new side).host.inner.paths ≡ [])
    (KnowsThroughout instant (node old side) (node new side)) gone step.move) steps
    × (IsTrue (has_tx_token (node new side).link)
    → AllByRecursion (λ step. HasAnswered (node old side).host.inner (KnowsThroughout instant (node old side) (node new side)) gone step.move) steps)
AreGone kind old new steps = Unit {0}

-- These moves are an event's own, and lead on from a net of the hosts before it to one of those after it.
pub record HappensBy (starts : Starts) (past : List Entry) (e : Entry) (old new : Nodes) (net : Net) (steps : List Step) : Type 0 where
  pub are : AreOfEvent e (kind_of e.event) (shown_in starts past) steps
  pub sent_off : AreSentOff (kind_of e.event) new steps
  pub sent_to : AreSentTo (kind_of e.event) old new steps
  pub taken : AreTaken (kind_of e.event) old new net steps
  pub went : AreGone (kind_of e.event) old new steps
  pub may : IsRun (names_tcp_or_udp Medium.Ip) net steps
  pub of : IsNetOf (run net steps) new (e ∷ past)

-- THE MOVES OF EVENTS, each at an instant

abbrev pub all_at : ℤ → List Step → List (ℤ × Step)
all_at instant steps = map (λ step. (instant, step)) steps

abbrev pub untimed : List (ℤ × Step) → List Step
untimed [] = []
untimed (x ∷ more) = x.1 ∷ untimed more

-- These are the moves of the later events of a run, from a net on: those of each event lie after those of the one before it, lead to the hosts
-- after it, and are made when the one clock shows what it shows after it.
abbrev pub MoveBy : (starts : Starts) → Net → (past more : List Entry) (hosts : Nodes) → StillRun starts (more ++ past) hosts → List (ℤ × Step) → Type 0
MoveBy starts net past [] hosts still moves = (moves ≡ []) × IsNetOf net hosts past
MoveBy starts net past (e ∷ more) hosts still moves =
    (before : List (ℤ × Step)) × (these : List Step) × (moves ≡ before ++ all_at (clock_in (e ∷ more ++ past)) these)
    × MoveBy starts net past more still.0 still.1 before × HappensBy starts (more ++ past) e still.0 hosts (run net (untimed before)) these

-- plain moves lead to the hosts between, and on to these by the moves of the later events
pub record MoveByEvents (starts : Starts) (past : List Entry) (between : Nodes) (more : List Entry) (hosts : Nodes)
    (still : StillRun starts (more ++ past) hosts) : Type 0 where
  pub plainly : MovePlainly starts past between (more ++ past) hosts
  pub moves : List (ℤ × Step)
  pub are_these : untimed moves ≡ plainly.steps
  pub of_events : MoveBy starts (run (first_net starts) plainly.before) past more hosts still moves
  -- no socket was shown a later instant than its host's clock shows
  pub showed : (slots : Side → ℕ) (side : Side) → clocks_in (seats_of starts slots) at_zero plainly.before side ≤ℤ shown_in starts past side
