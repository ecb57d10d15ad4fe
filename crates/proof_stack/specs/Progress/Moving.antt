-- Moves of two hosts, each at an instant of one clock, and when they serve two sockets in time.
use Rattle.std.specs.Prelude.{◌≡◌, ◌⊎◌, ℕ, suc, ◌-◌, ◌*◌, ◌<◌, ◌≤◌, max, ℤ, pos, ◌+ℤ◌, ◌≤ℤ◌, ◌<ℤ◌, true, false, List, [], ◌∷◌, length}
use Rattle.std.specs.Prelude.{Option, Some, slice_get}
use Rattle.ip_wire.specs.Ip.{source_of, destination_of}
use Rattle.ip_wire.specs.TcpHeader.{TcpHeader}
use Rattle.net_base.specs.Time.{IsMoment}
use Rattle.socket_context.specs.Offers.{IsBefore}
use Rattle.tcp_state.specs.Offsets.{distance_after}
use Rattle.tcp_block.specs.Due.{poll_of}
use Rattle.tcp_block.specs.Offers.{offer_of}
use Rattle.tcp_block.specs.Segments.{segment_len}
use Rattle.tcp_block.specs.Value.{TcpValue, free_in, room_of}
use Rattle.tcp_refinement.specs.Host.{Made, made_of}
use Rattle.tcp_refinement.specs.Pair.Values.{PairValue}
use Rattle.tcp_liveness.specs.Arrivals.{is_synchronized}
use Rattle.tcp_liveness.specs.Clocks.{arrives_stale}
use Rattle.tcp_liveness.specs.Exchange.{IsOpen}
use Rattle.tcp_liveness.specs.Onward.{HasRisen}
use Rattle.tcp_liveness.specs.Pair.{HasStream, left_in}
use Rattle.tcp_liveness.specs.Readers.{whole_span}
use Rattle.tcp_liveness.specs.Spans.{IsThroughAmong, most_reached, reached_in}
use Rattle.lan.specs.declared.at_link.history.event.Side.{Side}
use Rattle.lan.specs.Worlds.AtLink.Call as Call
use Rattle.lan.specs.Worlds.AtLink.Happening.{AreNumbered, ProceedsBy, Happening, HaveNumbers, events_of_moves, goes, sent_in, steps_of}
use Rattle.lan.specs.Worlds.AtLink.Kinds.{other}
use Rattle.lan.specs.Worlds.AtLink.Moves.{Move, Step, after, run}
use Rattle.lan.specs.Worlds.AtLink.Moves.Move.{Invokes, Offers, Takes}
use Rattle.lan.specs.Worlds.AtLink.Paired.{AreHosted, Seat, clocks_after, clocks_in, side_in, told}
use Rattle.lan.specs.Worlds.AtLink.Parties.{Net, Socket, party, socket_at}
use Rattle.lan.specs.Worlds.AtLink.Parties.Socket.{Tcp}
use Rattle.proof_stack.specs.Progress.Edges.{edge_span}

-- MOVES AND MOMENTS

-- the moves without their instants
abbrev pub moves_of : List (ℤ × Happening) → List Happening
moves_of [] = []
moves_of (x ∷ more) = x.1 ∷ moves_of more

-- what the clock shows in the end
abbrev pub end_in : ℤ → List (ℤ × Happening) → ℤ
end_in now [] = now
end_in now (x ∷ more) = end_in x.0 more

-- The socket at a slot is asked, and a segment comes to it, at the instant that the one clock shows. It is called at whatever instant: its host shows
-- the last at which it was polled.
abbrev pub IsAtInstant : ℤ → ℤ → ℕ → Move → Type 0
IsAtInstant now last slot (Invokes at cx old entry call new) = at ≡ slot → (cx.instant ≡ last) ⊎ (cx.instant ≡ now)
IsAtInstant now last slot (Offers at cx v from sent) = at ≡ slot → cx.instant ≡ now
IsAtInstant now last slot (Takes at cx v ip header bytes) = at ≡ slot → cx.instant ≡ now
IsAtInstant now last slot move = Unit {0}

-- the one clock never goes back, and shows an instant in the end
abbrev pub AreAtInstants : (Side → Seat) → (Side → ℤ) → ℤ → List (ℤ × Happening) → Type 0
AreAtInstants seats clocks now [] = IsMoment now
AreAtInstants seats clocks now (x ∷ more) =
    (now ≤ℤ x.0) × IsAtInstant x.0 (clocks x.1.step.side) (seats x.1.step.side).slot x.1.step.move
    × AreAtInstants seats (clocks_after seats clocks x.1.step) x.0 more

-- SOCKETS

abbrev pub IsTcp : Option Socket → (TcpValue → Type 0) → Type 0
IsTcp (Some (Tcp v)) IsSo = IsSo v
IsTcp other IsSo = ⊥

-- so is the TCP socket at the seat of a side
abbrev pub SocketIs : (Side → Seat) → Net → Side → (TcpValue → Type 0) → Type 0
SocketIs seats net side IsSo = IsTcp (socket_at (party net side) (seats side).slot) IsSo

-- EACH SOCKET IS ASKED

-- it wants to be asked at this instant, or wanted to be earlier
abbrev pub WantsIn : (Side → Seat) → ℤ → Net → Side → Type 0
WantsIn seats instant net side = SocketIs seats net side (λ v. IsBefore instant (poll_of (seats side).host.ip_mtu v) → ⊥)

-- the socket at a slot is asked, and offers nothing, or what it offers goes
abbrev pub IsAskedAt : ℕ → Move → Type 0
IsAskedAt slot (Offers at cx v from sent) = (at ≡ slot) × (goes (offer_of cx v).socket.offered sent ≡ true)
IsAskedAt slot move = ⊥

-- with this step the socket of a side is asked, and what it offers goes
abbrev pub AsksIn : (Side → Seat) → Side → Step → Type 0
AsksIn seats side step = (step.side ≡ side) × IsAskedAt (seats side).slot step.move

-- It is asked before the clock passes the second instant, unless it doesn't want to be at the first one any more, or the moves end before.
abbrev pub IsAskedIn : (Side → Seat) → ℤ → ℤ → Side → Net → List (ℤ × Happening) → Type 0
IsAskedIn seats due last side net [] = Unit {0}
IsAskedIn seats due last side net (x ∷ more) =
    (x.0 ≤ℤ last)
    × (AsksIn seats side x.1.step
    ⊎ ((WantsIn seats due (after net x.1.step) side → ⊥) ⊎ IsAskedIn seats due last side (after net x.1.step) more))

-- both are asked no more than so many microseconds after the instant at which they want to be
abbrev pub AreAsked : (Side → Seat) → ℕ → ℤ → Net → List (ℤ × Happening) → Type 0
AreAsked seats wait now net [] = Unit {0}
AreAsked seats wait now net (x ∷ more) =
    ((side : Side) (due : ℤ) → now ≤ℤ due → WantsIn seats due net side → IsAskedIn seats due (due +ℤ pos wait) side net (x ∷ more))
    × AreAsked seats wait x.0 (after net x.1.step) more

-- what the socket at a place offers goes
abbrev pub IsLetGo : ℕ → Move → Type 0
IsLetGo slot (Offers at cx v from sent) = at ≡ slot → goes (offer_of cx v).socket.offered sent ≡ true
IsLetGo slot move = Unit {0}

abbrev pub AreLetGo : (Side → Seat) → List (ℤ × Happening) → Type 0
AreLetGo seats [] = Unit {0}
AreLetGo seats (x ∷ more) = IsLetGo (seats x.1.step.side).slot x.1.step.move × AreLetGo seats more

-- SEGMENTS COME

-- A segment that comes counts: it has no timestamp that is older than TS.Recent; and where it takes no position, it begins before the right edge of
-- the window, or at RCV.NXT.
pub record IsHeardBy (v : TcpValue) (header : TcpHeader) (bytes : List ℕ) : Type 0 where
  pub initial : arrives_stale v.tcb header.options.timestamp ≡ false
  pub inside : segment_len header (length bytes) ≡ 0 → distance_after v.tcb.receiver.next header.seq_number < max 1 (free_in v)

-- It has no timestamp that is older than TS.Recent, be it inside the window or not.
abbrev pub IsInitialFor : TcpValue → TcpHeader → List ℕ → Type 0
IsInitialFor v header bytes = arrives_stale v.tcb header.options.timestamp ≡ false

-- With this move the segment of this number, among those that the other sent, comes to the socket at a slot, or one that equals it, as a segment that
-- goes again may: nobody can tell which it is. And so it is for the socket.
abbrev pub BringsAt : (TcpValue → TcpHeader → List ℕ → Type 0) → ℕ → List Made → ℕ → Move → Type 0
BringsAt IsSo slot sent k (Takes at cx v ip header bytes) =
    (at ≡ slot) × (slice_get sent k ≡ Some (made_of (source_of ip) (destination_of ip) header bytes)) × IsSo v header bytes
BringsAt IsSo slot sent k move = ⊥

-- with this step the segment of a side of this number comes to the other
abbrev pub BringsToOther : (TcpValue → TcpHeader → List ℕ → Type 0) → (Side → Seat) → Net → Side → ℕ → Step → Type 0
BringsToOther IsSo seats net side k step = (step.side ≡ other side) × BringsAt IsSo (seats (other side)).slot (sent_in seats net side) k step.move

-- it does before the clock passes an instant, unless the moves end before
abbrev pub IsBroughtBy : (TcpValue → TcpHeader → List ℕ → Type 0) → (Side → Seat) → ℤ → Side → ℕ → Net → List (ℤ × Happening) → Type 0
IsBroughtBy IsSo seats last side k net [] = Unit {0}
IsBroughtBy IsSo seats last side k net (x ∷ more) =
    (x.0 ≤ℤ last) × (BringsToOther IsSo seats net side k x.1.step ⊎ IsBroughtBy IsSo seats last side k (after net x.1.step) more)

-- the number of the next segment that the socket of a side sends
abbrev pub next_in : (Side → Seat) → Net → Side → ℕ
next_in seats net side = length (sent_in seats net side)

-- Each segment that either sends comes no more than so many microseconds later, and is so then. It may come at other times, too, as may what was sent
-- before.
abbrev pub AreBrought : (TcpValue → TcpHeader → List ℕ → Type 0) → (Side → Seat) → ℕ → Net → List (ℤ × Happening) → Type 0
AreBrought IsSo seats delay net [] = Unit {0}
AreBrought IsSo seats delay net (x ∷ more) =
    ((side : Side) (k : ℕ) → next_in seats net side ≤ k → k < next_in seats (after net x.1.step) side
    → IsBroughtBy IsSo seats (x.0 +ℤ pos delay) side k (after net x.1.step) more)
    × AreBrought IsSo seats delay (after net x.1.step) more

-- each is heard in time
abbrev pub AreHeard : (Side → Seat) → ℕ → Net → List (ℤ × Happening) → Type 0
AreHeard seats delay net moves = AreBrought IsHeardBy seats delay net moves

-- each comes in time, with no timestamp that is older than TS.Recent, wherever it lies
abbrev pub ComeInitial : (Side → Seat) → ℕ → Net → List (ℤ × Happening) → Type 0
ComeInitial seats delay net moves = AreBrought IsInitialFor seats delay net moves

-- USERS READ

-- the user of the socket at a slot reads a byte at least
abbrev pub IsReadAt : ℕ → Move → Type 0
IsReadAt slot (Invokes at cx old entry (Call.Recv limit) new) = (at ≡ slot) × (1 ≤ limit)
IsReadAt slot move = ⊥

-- that of a side's does before the clock passes an instant, unless the moves end before
abbrev pub IsReadIn : (Side → Seat) → ℤ → Side → List (ℤ × Happening) → Type 0
IsReadIn seats last side [] = Unit {0}
IsReadIn seats last side (x ∷ more) =
    (x.0 ≤ℤ last) × (((x.1.step.side ≡ side) × IsReadAt (seats side).slot x.1.step.move) ⊎ IsReadIn seats last side more)

-- a user whose receive buffer is full reads no more than so many microseconds later
abbrev pub IsReadInTime : (Side → Seat) → ℕ → ℤ → Net → Side → List (ℤ × Happening) → Type 0
IsReadInTime seats read now net side [] = Unit {0}
IsReadInTime seats read now net side (x ∷ more) =
    (SocketIs seats net side (λ v. free_in v ≡ 0) → IsReadIn seats (now +ℤ pos read) side (x ∷ more))
    × IsReadInTime seats read x.0 (after net x.1.step) side more

-- STREAMS

-- the stream of a side is no empty one, at first and after each of these moves
abbrev pub KeepsStreamIn : (Side → Seat) → Net → Side → List (ℤ × Happening) → Type 0
KeepsStreamIn seats net side [] = HasStream (told net.history side (seats side).slot)
KeepsStreamIn seats net side (x ∷ more) =
    HasStream (told net.history side (seats side).slot) × KeepsStreamIn seats (after net x.1.step) side more

-- MOVES IN TIME

-- From this net on, with the clock at `now`: both connections are open, and are there at the end; each socket is asked in time, and what it offers
-- goes; each segment is heard in time; and the other's user reads in time. The side has a receive buffer to send to, and a stream that is no empty
-- one.
pub record MoveInTime (read wait delay : ℕ) (now : ℤ) (seats : Side → Seat) (clocks : Side → ℤ) (net : Net) (side : Side)
    (moves : List (ℤ × Happening)) : Type 0 where
  pub opened : (of : Side) → SocketIs seats net of (λ v. IsOpen v.tcb)
  pub stay : (of : Side) → SocketIs seats (run net (steps_of (moves_of moves))) of (λ v. is_synchronized v.tcb.state ≡ true)
  pub clock : clocks side ≤ℤ now
  pub instants : AreAtInstants seats clocks now moves
  pub asked : AreAsked seats wait now net moves
  pub let_go : AreLetGo seats moves
  pub heard : AreHeard seats delay net moves
  pub read_in_time : IsReadInTime seats read now net (other side) moves
  pub stream : HasStream (told net.history side (seats side).slot)
  pub room : SocketIs seats net (other side) (λ v. 1 ≤ room_of v.received)

-- So it is wherever segments come: each comes in time, be it inside the window or not, and both users read in time. Each side has a receive buffer, and a
-- stream that is no empty one.
pub record ArriveInTime (read wait delay : ℕ) (now : ℤ) (seats : Side → Seat) (clocks : Side → ℤ) (net : Net) (moves : List (ℤ × Happening)) : Type 0 where
  pub opened : (of : Side) → SocketIs seats net of (λ v. IsOpen v.tcb)
  pub stay : (of : Side) → SocketIs seats (run net (steps_of (moves_of moves))) of (λ v. is_synchronized v.tcb.state ≡ true)
  pub clock : (of : Side) → clocks of ≤ℤ now
  pub instants : AreAtInstants seats clocks now moves
  pub asked : AreAsked seats wait now net moves
  pub let_go : AreLetGo seats moves
  pub come : ComeInitial seats delay net moves
  pub read_in_time : (of : Side) → IsReadInTime seats read now net of moves
  pub streams : (of : Side) → KeepsStreamIn seats net of moves
  pub rooms : (of : Side) → SocketIs seats net of (λ v. 1 ≤ room_of v.received)

-- The pair goes on by the events of these moves. If they are in time, then within a span SND.UNA or RCV.NXT of a side rises, where the side owes
-- something; and at some time all that the side's user wrote is acknowledged, where they last two such spans for each position that is still to
-- reach, and two more. Wherever segments come, such a span is one of each side.
pub record ProceedByMoves (seats : Side → Seat) (clocks : Side → ℤ) (net : Net) (p : PairValue) (moves : List (ℤ × Happening)) : Type 0 where
  pub on : ProceedsBy seats (clocks_in seats clocks (steps_of (moves_of moves))) (run net (steps_of (moves_of moves))) p
      (events_of_moves seats clocks (moves_of moves))
  pub rises : (side : Side) (read wait delay : ℕ) (now : ℤ) → MoveInTime read wait delay now seats clocks net side moves
      → 1 ≤ left_in p (side_in side) → (now +ℤ pos (whole_span read wait delay p (side_in side))) <ℤ end_in now moves
      → HasRisen p on.next (side_in side) ⊎ HasRisen p on.next (side_in (other side))
  pub through : (side : Side) (read wait delay : ℕ) (now : ℤ) → MoveInTime read wait delay now seats clocks net side moves
      → (now +ℤ pos (suc (most_reached on.next - reached_in p) * (2 * whole_span read wait delay p (side_in side)))) <ℤ end_in now moves
      → IsThroughAmong p (side_in side) (events_of_moves seats clocks (moves_of moves))
  pub rises_anywhere : (side : Side) (read wait delay : ℕ) (now : ℤ) → ArriveInTime read wait delay now seats clocks net moves
      → 1 ≤ left_in p (side_in side) → (now +ℤ pos (edge_span read wait delay p (side_in side))) <ℤ end_in now moves
      → HasRisen p on.next (side_in side) ⊎ HasRisen p on.next (side_in (other side))
  pub through_anywhere : (side : Side) (read wait delay : ℕ) (now : ℤ) → ArriveInTime read wait delay now seats clocks net moves
      → (now +ℤ pos (suc (most_reached on.next - reached_in p) * (2 * edge_span read wait delay p (side_in side)))) <ℤ end_in now moves
      → IsThroughAmong p (side_in side) (events_of_moves seats clocks (moves_of moves))

-- Plain moves lead from one net to another. Whatever instants and numbers are given to them, the pair goes on by them; and some numbers fit.
pub record ProceedBySteps (seats : Side → Seat) (clocks : Side → ℤ) (net next : Net) (p : PairValue) : Type 0 where
  pub steps : List Step
  pub lead : next ≡ run net steps
  pub hosted : AreHosted seats clocks net steps
  pub numbers : HaveNumbers seats net steps
  pub by_moves : (moves : List (ℤ × Happening)) → steps_of (moves_of moves) ≡ steps → AreNumbered seats net (moves_of moves)
      → ProceedByMoves seats clocks net p moves
