-- By when all has arrived where a world ran rounds.
use Rattle.std.specs.Prelude.{◌≡◌, ◌⊎◌, ℕ, suc, ◌+◌, ◌*◌, max, ℤ, ◌≤ℤ◌, true, false, IsTrue, List, [], ◌∷◌, ◌++◌, length, Some}
use Rattle.ip_wire.specs.HardwareAddress.{HardwareAddress}
use Rattle.tcp_state.specs.declared.endpoints.FourTuple.{FourTuple}
use Rattle.tcp_block.specs.TcbRules.{one_if}
use Rattle.tcp_block.specs.Value.{TcpValue, room_of}
use Rattle.tcp_liveness.specs.Arrivals.{is_synchronized}
use Rattle.tcp_liveness.specs.Exchange.{IsOpen}
use Rattle.tcp_liveness.specs.Pair.{HasStream}
use Rattle.interface.specs.Delivered.{AreOfOneMedium}
use Rattle.sim_link.specs.Medium.TheVariants as Medium
use Rattle.sim_link.specs.Port.{has_tx_token}
use Rattle.lan.specs.declared.at_link.history.event.Side.{Side}
use Rattle.lan.specs.declared.at_link.history.event.Side.TheVariants.{A, B}
use Rattle.lan.specs.Worlds.AtLink.Initial.{IsInitialWorld}
use Rattle.lan.specs.Worlds.AtLink.History.{Entry, is_closed_by, written}
use Rattle.lan.specs.Worlds.AtLink.Kinds.{other}
use Rattle.lan.specs.Worlds.AtLink.PacketsSafe.{IsTcpAt}
use Rattle.lan.specs.Worlds.AtLink.Paired.{AreNew, HaveKeys, NewSocket, told}
use Rattle.lan.specs.Worlds.AtLink.PeerSides.{ArePartners}
use Rattle.lan.specs.Worlds.AtLink.Runs.{Starts, WorldRun, WorldValue, start, unused_both}
use Rattle.lan.specs.Worlds.AtLink.Safe.{net_of}
use Rattle.lan.specs.Worlds.AtLink.Node.{Nodes, node}
use Rattle.lan.specs.Worlds.Events.{AreTyped}
use Rattle.lan.specs.Worlds.Moves.Joined.{first_net}
use Rattle.lan.specs.Worlds.Still.{StillRun, seats_of}
use Rattle.proof_stack.specs.Progress.AtOnce.{AreUnmarked}
use Rattle.proof_stack.specs.Progress.FramesInTransit.{AreCarried}
use Rattle.proof_stack.specs.Progress.Days.{HasDays}
use Rattle.proof_stack.specs.Progress.Ends.{AreBoth}
use Rattle.proof_stack.specs.Progress.Events.{clock_in, shown_in}
use Rattle.proof_stack.specs.Progress.KnownHopLimit.{IsUnmarkedAt, KnowEachOther}
use Rattle.proof_stack.specs.Progress.OneClock.{KeepOneClock}
use Rattle.proof_stack.specs.Progress.PeerSides.{HoldText}
use Rattle.proof_stack.specs.Progress.Serving.{AreServedAtOnce, WaitsForNone, WantsAt}
use Rattle.proof_stack.specs.Progress.Unread.{HasRoomForAll}

-- ROUNDS

-- Rounds may begin at this instant: events led two hosts here from a new start. The clock isn't past the instant, nor is an instant at which one of the two
-- sockets wants to be asked before it.
pub record MayBegin (slots : Side → ℕ) (from : ℤ) (w : WorldValue) : Type 0 where
  pub initial : IsInitialWorld w.starts
  pub typed : AreTyped w.history
  pub run : WorldRun w.history (unused_both w.starts) w.hosts
  pub clock : clock_in w.history ≤ℤ from
  pub in_time : (side : Side) (due : ℤ) → clock_in w.history ≤ℤ due → WantsAt due (slots side) (node w.hosts side) → from ≤ℤ due

-- from the hosts between on, and after each later event, neither of the two sockets waits for a neighbor
abbrev pub NobodyWaits : (starts : Starts) (slots : Side → ℕ) (past more : List Entry) (hosts : Nodes) → StillRun starts (more ++ past) hosts → Type 0
NobodyWaits starts slots past [] hosts still = (side : Side) → WaitsForNone (slots side) (node hosts side)
NobodyWaits starts slots past (e ∷ more) hosts still =
    NobodyWaits starts slots past more still.0 still.1 × ((side : Side) → WaitsForNone (slots side) (node hosts side))

-- The later events keep one clock; each frame that a host sends in one of them is taken by the other before the clock goes on; and both sockets are served
-- at once.
pub record GoAtOnce (starts : Starts) (slots : Side → ℕ) (past more : List Entry) (hosts : Nodes) (still : StillRun starts (more ++ past) hosts)
    : Type 0 where
  pub one_clock : KeepOneClock starts slots past more
  pub on_way : Side → List (ℤ × List ℕ)
  pub carried : AreCarried starts 0 past more hosts still on_way
  pub at_once : AreServedAtOnce starts slots past more hosts still

-- WHO KNOWS WHERE FRAMES GO

-- The medium has no hardware addresses, and no socket is marked at first as one that waits for a neighbor.
pub record AskForNone (starts : Starts) : Type 0 where
  pub medium : starts.a.capabilities.medium ≡ Medium.Ip
  pub unmarked : (side : Side) → AreUnmarked (start starts side).slots

-- By these later events the old world became the new one, in which the sockets at these slots have a connection between these endpoints. In each of their
-- polls a host knows throughout that its frames for the other one go to that one's hardware address, of the same medium. In the old world neither socket
-- is marked as one that waits for a neighbor.
pub record StayAcquainted (slots : Side → ℕ) (old new : WorldValue) : Type 0 where
  pub more : List Entry
  pub history : new.history ≡ more ++ old.history
  pub still : StillRun old.starts (more ++ old.history) new.hosts
  pub own : Side → HardwareAddress
  pub medium : (side : Side) → AreOfOneMedium (own side) (own (other side)) (own (other side))
  pub pairs : Side → FourTuple
  pub named : AreBoth (λ side v. v.tcb.names.pair ≡ Some (pairs side)) slots new.hosts
  pub known : KnowEachOther own pairs old.starts old.history more new.hosts still
  pub unmarked : (side : Side) → IsUnmarkedAt (slots side) (node old.hosts side)

-- HOW LONG IT TAKES

-- how many positions the user of the socket at this place of a host wrote, with the FIN
abbrev pub positions_in : List Entry → Side → ℕ → ℕ
positions_in history side slot = length (written history side slot) + one_if (is_closed_by history side slot)

-- A side gets on within so many minutes, whose peer has this receive buffer: one for each position that may be under way, and five more.
abbrev pub minutes_for : TcpValue → ℕ
minutes_for w = max 1 (room_of w.received) + 5

-- so many microseconds are enough: twice the minutes of both sides, for each position that is to be acknowledged and taken, and once more
abbrev pub enough_for : List Entry → (Side → ℕ) → (Side → TcpValue) → ℕ
enough_for history slots sockets =
    suc (2 * (positions_in history A (slots A) + positions_in history B (slots B)))
    * (2 * ((minutes_for (sockets A) + minutes_for (sockets B)) * 60_000_000))

-- WHAT IS ASKED

-- Rounds begin at this instant in the old world, in which two peers, each a new socket at first, have these values. Both are open, with streams that are no
-- empty ones, and each has a receive buffer for all that the other's user wrote; no host's clock is ahead. In the new world both have their connection, and
-- their links give leave to send; and the hosts were still throughout. Either no timestamps were agreed on, or in the new world 24 days aren't over since
-- either host was first polled, and neither socket's clock of timestamps was set once that was opened.
pub record MaySettle (slots : Side → ℕ) (news : Side → NewSocket) (from : ℤ) (sockets : Side → TcpValue) (old new : WorldValue) : Type 0 where
  pub begins : MayBegin slots from old
  pub keys : HaveKeys (seats_of old.starts slots)
  pub text : HoldText (seats_of old.starts slots)
  pub new_sockets : AreNew (seats_of old.starts slots) news (first_net old.starts)
  pub peer_sides : ArePartners old.history A (slots A) (slots B)
  pub are : (side : Side) → IsTcpAt (net_of old) side (slots side) (sockets side)
  pub opened : (side : Side) → IsOpen (sockets side).tcb
  pub stamps : ((side : Side) → (sockets side).tcb.peer.timestamps ≡ false) ⊎ ((side : Side) → HasDays new.history (slots side) side)
  pub streams : (side : Side) → HasStream (told old.history side (slots side))
  pub rooms : (side : Side) → HasRoomForAll old.history slots side (sockets side)
  pub clocks : (side : Side) → shown_in old.starts old.history side ≤ℤ clock_in old.history
  pub still : StillRun old.starts new.history new.hosts
  pub stay : AreBoth (λ side v. is_synchronized v.tcb.state ≡ true) slots new.hosts
  pub leave : (side : Side) → IsTrue (has_tx_token (node new.hosts side).link)
