-- Events in time: hosts are polled when their sockets want to be asked, and users read.
use Rattle.std.specs.Prelude.{◌≡◌, ◌⊎◌, ℕ, ◌≤◌, ℤ, pos, ◌+ℤ◌, ◌≤ℤ◌, if◌then◌else◌, true, false, IsTrue, List, [], ◌∷◌, ◌++◌, Some, None, slice_get, slice_index_or}
use Rattle.interface.specs.Serve.{is_waiting}
use Rattle.iface_egress.specs.declared.socket_set.Item.{Item}
use Rattle.iface_egress.specs.declared.socket_set.SocketStorage.{SocketStorage}
use Rattle.iface_ingress.specs.Socket.{Socket}
use Rattle.socket_context.specs.Offers.{IsBefore}
use Rattle.tcp_block.specs.Due.{poll_of}
use Rattle.tcp_block.specs.Value.{TcpValue, free_in, room_of}
use Rattle.tcp_liveness.specs.Arrivals.{is_synchronized}
use Rattle.tcp_liveness.specs.Exchange.{IsOpen}
use Rattle.tcp_liveness.specs.Pair.{HasStream}
use Rattle.sim_link.specs.Port.{has_tx_token}
use Rattle.lan.specs.declared.at_link.history.answer.Answer.{Answer}
use Rattle.lan.specs.declared.at_link.history.answer.Answer.TheVariants as To
use Rattle.lan.specs.declared.at_link.history.event.Side.{Side}
use Rattle.lan.specs.Worlds.AtLink.Call as Call
use Rattle.lan.specs.Worlds.AtLink.History.{Entry}
use Rattle.lan.specs.Worlds.AtLink.Kinds.{Kind, kind_of, other, same_side}
use Rattle.lan.specs.Worlds.AtLink.Kinds.Act.{Calls, Polls}
use Rattle.lan.specs.Worlds.AtLink.Kinds.Kind.{OfHost}
use Rattle.lan.specs.Worlds.AtLink.Paired.{told}
use Rattle.lan.specs.Worlds.AtLink.Runs.{Starts}
use Rattle.lan.specs.Worlds.AtLink.Node.{NodeValue, Nodes, node}
use Rattle.lan.specs.Worlds.Moves.Follows.{sockets_of}
use Rattle.lan.specs.Worlds.Still.{StillRun}
use Rattle.proof_stack.specs.Progress.Events.{clock_in, shown_in}
use Rattle.proof_stack.specs.Progress.Moving.{IsTcp}
use Rattle.proof_stack.specs.Progress.OneClock.{KeepOneClock}

-- the TCP socket at this place of a host is so
abbrev pub IsAtHost : ℕ → NodeValue → (TcpValue → Type 0) → Type 0
IsAtHost slot s IsSo = IsTcp (slice_index_or (sockets_of s.slots) slot None) IsSo

-- it wants to be asked at this instant, or wanted to be earlier
abbrev pub WantsAt : ℤ → ℕ → NodeValue → Type 0
WantsAt instant slot s = IsAtHost slot s (λ v. IsBefore instant (poll_of s.host.inner.mtu v) → ⊥)

-- at this instant it doesn't, nor did it earlier
abbrev pub IsIdle : ℤ → ℕ → NodeValue → Type 0
IsIdle instant slot s = WantsAt instant slot s → ⊥

-- Both sockets are served in time, and these are the instants at which they were last seen at rest after an event: since a socket was at rest, nothing
-- happens more than so many microseconds after an instant at which it wants to be asked.
abbrev pub AreServed : (starts : Starts) (slots : Side → ℕ) (wait : ℕ) (past more : List Entry) (hosts : Nodes) → StillRun starts (more ++ past) hosts
    → (Side → ℤ) → Type 0
AreServed starts slots wait past [] hosts still rested = (side : Side) → rested side ≤ℤ clock_in past
AreServed starts slots wait past (e ∷ more) hosts still rested =
    (before : Side → ℤ) × AreServed starts slots wait past more still.0 still.1 before
    × ((side : Side) (due : ℤ) → before side ≤ℤ due → WantsAt due (slots side) (node still.0 side)
    → clock_in (e ∷ more ++ past) ≤ℤ (due +ℤ pos wait))
    × ((side : Side) → (rested side ≡ before side)
    ⊎ ((rested side ≡ clock_in (e ∷ more ++ past)) × IsIdle (rested side) (slots side) (node hosts side)))

-- SERVED AT ONCE

-- The clock never passes an instant at which a socket wants to be asked. It stays there, while events happen, until that socket doesn't want to be any more.
abbrev pub AreServedAtOnce : (starts : Starts) (slots : Side → ℕ) (past more : List Entry) (hosts : Nodes) → StillRun starts (more ++ past) hosts → Type 0
AreServedAtOnce starts slots past [] hosts still = Unit {0}
AreServedAtOnce starts slots past (e ∷ more) hosts still =
    AreServedAtOnce starts slots past more still.0 still.1
    × ((side : Side) (due : ℤ) → clock_in (more ++ past) ≤ℤ due → WantsAt due (slots side) (node still.0 side)
    → clock_in (e ∷ more ++ past) ≤ℤ due)

-- both sockets are served at once, or so many microseconds later
abbrev pub AreServedWithin : (starts : Starts) (slots : Side → ℕ) (wait : ℕ) (past more : List Entry) (hosts : Nodes)
    → StillRun starts (more ++ past) hosts → Type 0
AreServedWithin starts slots wait past more hosts still =
    AreServedAtOnce starts slots past more hosts still ⊎ ((rested : Side → ℤ) × AreServed starts slots wait past more hosts still rested)

-- A QUIET POLL

-- A poll in which nothing happens any more: it says that nothing changed, no frame went, and after it the device gives leave to send one.
pub record IsQuietPoll (budget : ℕ) (answer : Answer) (old new : NodeValue) : Type 0 where
  pub some : 1 ≤ budget
  pub unchanged : answer ≡ To.Poll false
  pub sent : new.link.sent ≡ old.link.sent
  pub leave : IsTrue (has_tx_token new.link)

-- the socket of a side was at rest at this instant
abbrev pub with_rest : (Side → ℤ) → Side → ℤ → Side → ℤ
with_rest rested side instant s = if same_side side s then instant else rested s

-- the socket at this slot waits for no neighbor
abbrev pub WaitsForNone : ℕ → NodeValue → Type 0
WaitsForNone slot s =
    (at : SocketStorage Socket) (item : Item Socket) → slice_get s.slots slot ≡ Some at → at.inner ≡ Some item
    → is_waiting s.host.inner item.meta ≡ false

-- LEAVE TO SEND

-- after a poll the link gives its host leave to send, and so it did throughout the poll
abbrev pub GivesTxToken : Kind → Nodes → Type 0
GivesTxToken (OfHost side (Polls instant budget)) hosts = IsTrue (has_tx_token (node hosts side).link)
GivesTxToken kind hosts = Unit {0}

-- after each poll
abbrev pub GiveTxToken : (starts : Starts) (past more : List Entry) (hosts : Nodes) → StillRun starts (more ++ past) hosts → Type 0
GiveTxToken starts past [] hosts still = Unit {0}
GiveTxToken starts past (e ∷ more) hosts still = GiveTxToken starts past more still.0 still.1 × GivesTxToken (kind_of e.event) hosts

-- USERS READ

-- an event by which the user of the socket at this place of a host reads a byte at least
abbrev pub UserReads : ℕ → Side → Kind → Type 0
UserReads slot side (OfHost host (Calls at (Call.Recv limit))) = (host ≡ side) × (at ≡ slot) × (1 ≤ limit)
UserReads slot side kind = ⊥

-- The user of the socket at this place of a host reads often, and did so last at this instant: nothing happens more than so many microseconds after the
-- last time, whether there was anything to read or not.
abbrev pub IsReadOften : (slot read : ℕ) → Side → (past more : List Entry) → ℤ → Type 0
IsReadOften slot read side past [] last = last ≤ℤ clock_in past
IsReadOften slot read side past (e ∷ more) last =
    (before : ℤ) × IsReadOften slot read side past more before × (clock_in (e ∷ more ++ past) ≤ℤ (before +ℤ pos read))
    × ((last ≡ before) ⊎ (UserReads slot side (kind_of e.event) × (last ≡ clock_in (e ∷ more ++ past))))

-- BUFFERS THAT DON'T FILL

-- the TCP socket has a connection, and its receive buffer isn't full
abbrev pub HasSpace : TcpValue → Type 0
HasSpace v = (is_synchronized v.tcb.state ≡ true) × (1 ≤ free_in v)

-- so it is at this place of a host, from the hosts between on, and after each later event
abbrev pub HasSpaceThroughout : (starts : Starts) (slot : ℕ) (side : Side) (past more : List Entry) (hosts : Nodes)
    → StillRun starts (more ++ past) hosts → Type 0
HasSpaceThroughout starts slot side past [] hosts still = IsAtHost slot (node hosts side) HasSpace
HasSpaceThroughout starts slot side past (e ∷ more) hosts still =
    HasSpaceThroughout starts slot side past more still.0 still.1 × IsAtHost slot (node hosts side) HasSpace

-- the receive buffer of the socket at this place of a host is never full, or its user reads often
abbrev pub IsReadWithin : (starts : Starts) (slot read : ℕ) (side : Side) (past more : List Entry) (hosts : Nodes)
    → StillRun starts (more ++ past) hosts → Type 0
IsReadWithin starts slot read side past more hosts still =
    HasSpaceThroughout starts slot side past more hosts still ⊎ ((last : ℤ) × IsReadOften slot read side past more last)

-- STREAMS

-- the stream of the socket at this place of a host is no empty one, at first and after each of these events
abbrev pub KeepsStreamBy : ℕ → Side → (past more : List Entry) → Type 0
KeepsStreamBy slot side past [] = HasStream (told past side slot)
KeepsStreamBy slot side past (e ∷ more) = KeepsStreamBy slot side past more × HasStream (told (e ∷ more ++ past) side slot)

-- EVENTS IN TIME

-- From the hosts between on, as the one clock shows what it was told last: both connections are open, and are there at the end; the events keep one
-- clock, both sockets are served in time, and the other's user reads often, or its receive buffer is never full. The side has a receive buffer to send to,
-- and a stream that is no empty one, and its host's clock isn't ahead.
pub record AreEventsInTime (starts : Starts) (slots : Side → ℕ) (read wait : ℕ) (side : Side) (past : List Entry) (between : Nodes) (more : List Entry)
    (hosts : Nodes) (still : StillRun starts (more ++ past) hosts) : Type 0 where
  pub opened : (of : Side) → IsAtHost (slots of) (node between of) (λ v. IsOpen v.tcb)
  pub stay : (of : Side) → IsAtHost (slots of) (node hosts of) (λ v. is_synchronized v.tcb.state ≡ true)
  pub clock : shown_in starts past side ≤ℤ clock_in past
  pub one_clock : KeepOneClock starts slots past more
  pub are_served : AreServedWithin starts slots wait past more hosts still
  pub reads : IsReadWithin starts (slots (other side)) read (other side) past more hosts still
  pub stream : HasStream (told past side (slots side))
  pub room : IsAtHost (slots (other side)) (node between (other side)) (λ v. 1 ≤ room_of v.received)
