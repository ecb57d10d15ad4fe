-- Two TCP sockets of two hosts, seen as a pair of sockets between which segments go: each move of a host is none, one or two events of the pair.
use Rattle.std.specs.Prelude.{◌≡◌, ℕ, ◌==◌, if◌then◌else◌, ℤ, pos, ◌≤ℤ◌, List, [], ◌∷◌, map, Option, Some, None, IfSome}
use Rattle.std.specs.List.{AllByRecursion}
use Rattle.net_base.specs.Ring.{Ring}
use Rattle.net_base.specs.Time.{IsMoment}
use Rattle.ip_wire.specs.Ip.{source_of, destination_of}
use Rattle.ip_wire.specs.Tcp.{normal}
use Rattle.sockets.specs.Context.{ContextValue}
use Rattle.tcp_refinement.specs.Side as Law
use Rattle.tcp_refinement.specs.Side.Opening.{NotYet, Passive, Active}
use Rattle.tcp_refinement.specs.Host.{Made, made_of, source_port, MayCome}
use Rattle.tcp_refinement.specs.Pair.History.{pasts}
use Rattle.tcp_refinement.specs.Pair.Sides.{at}
use Rattle.tcp_refinement.specs.Pair.Steps.{Steps}
use Rattle.tcp_refinement.specs.Pair.Values.{HostContext, PairSide, PairValue, beginning, context_on, new_side}
use Rattle.tcp_refinement.specs.Tie.{Past}
use Rattle.tcp_refinement.specs.declared.pair.event.PairEvent.{PairEvent}
use Rattle.tcp_refinement.specs.declared.pair.event.SentSegment.{SentSegment}
use Rattle.tcp_refinement.specs.declared.pair.event.Side as Pairs
use Rattle.tcp_refinement.specs.declared.pair.event.Side.TheVariants as Of
use Rattle.tcp_block.specs.Offers.{offer_of}
use Rattle.tcp_block.specs.Value.{new_socket}
use Rattle.lan.specs.declared.at_link.history.event.Side.{Side}
use Rattle.lan.specs.declared.at_link.history.event.Side.TheVariants.{A, B}
use Rattle.lan.specs.declared.at_link.history.record.Opening.{Opening}
use Rattle.lan.specs.Worlds.AtLink.Kinds.{other, same_side}
use Rattle.lan.specs.Worlds.AtLink.History.{Entry, opening, written, read, is_closed_by}
use Rattle.lan.specs.Worlds.AtLink.Parties.{Net, party, socket_at}
use Rattle.lan.specs.Worlds.AtLink.Parties.Socket.{Tcp}
use Rattle.lan.specs.Worlds.AtLink.Moves.{Move, Step, after}
use Rattle.lan.specs.Worlds.AtLink.Moves.Move.{Invokes, Offers, Takes, Resets, Changes}

abbrev pub side_in : Side → Pairs.Side
side_in A = Of.A
side_in B = Of.B

-- the place of a socket at its host, and the host as the socket is shown it: but for the instant and the random words, it stays as it is
pub record Seat : Type 0 where
  pub slot : ℕ
  pub host : HostContext

-- WHAT A MOVE SHOWS OF ITS HOST

abbrev pub if_at : ℕ → ℕ → ContextValue → Option ContextValue
if_at at slot cx = if at == slot then Some cx else None

-- the host as a move shows it to the socket at this slot, if it does
abbrev pub shown_to : ℕ → Move → Option ContextValue
shown_to slot (Invokes at cx old entry call new) = if_at at slot cx
shown_to slot (Offers at cx v from sent) = if_at at slot cx
shown_to slot (Takes at cx v ip header bytes) = if_at at slot cx
shown_to slot move = None

-- this host, at an instant that isn't before the last one
pub record IsOf (seat : Seat) (clock : ℤ) (cx : ContextValue) : Type 0 where
  pub host : cx ≡ context_on seat.host cx.instant cx.random
  pub instant : IsMoment cx.instant
  pub later : clock ≤ℤ cx.instant

abbrev pub IsShown : Seat → ℤ → Option ContextValue → Type 0
IsShown seat clock None = Unit {0}
IsShown seat clock (Some cx) = IsOf seat clock cx

abbrev pub clock_after : ℤ → Option ContextValue → ℤ
clock_after clock None = clock
clock_after clock (Some cx) = cx.instant

-- the last instants that the two sockets were shown
abbrev pub clocks_after : (Side → Seat) → (Side → ℤ) → Step → Side → ℤ
clocks_after seats clocks step side =
    if same_side step.side side then clock_after (clocks side) (shown_to (seats side).slot step.move) else clocks side

abbrev pub clocks_in : (Side → Seat) → (Side → ℤ) → List Step → Side → ℤ
clocks_in seats clocks [] = clocks
clocks_in seats clocks (step ∷ steps) = clocks_in seats (clocks_after seats clocks step) steps

-- A PLAIN RUN

-- An offer of the socket at this slot leaves from its own address, a segment comes to it whole, as it was made, and no host makes a reset itself,
-- for a segment that no socket of it accepts.
abbrev pub IsPlain : ℕ → Net → Side → Move → Type 0
IsPlain slot net side (Offers at cx v from sent) = at ≡ slot → IfSome (offer_of cx v).socket.offered (λ o. from ≡ source_of o.header)
IsPlain slot net side (Takes at cx v ip header bytes) =
    at ≡ slot → MayCome (party net (other side)).segments (source_of ip) (destination_of ip) header bytes
IsPlain slot net side (Resets x) = ⊥
IsPlain slot net side (Changes at old new) = ⊥
IsPlain slot net side move = Unit {0}

-- each move is plain, and shows the two sockets their hosts, whose clocks never go back
abbrev pub AreHosted : (Side → Seat) → (Side → ℤ) → Net → List Step → Type 0
AreHosted seats clocks net [] = Unit {0}
AreHosted seats clocks net (step ∷ steps) =
    IsPlain (seats step.side).slot net step.side step.move
    × IsShown (seats step.side) (clocks step.side) (shown_to (seats step.side).slot step.move)
    × AreHosted seats (clocks_after seats clocks step) (after net step) steps

-- THE PAIR

-- how a socket was opened
abbrev pub way_of : Option ℕ → Law.Opening
way_of None = Passive
way_of (Some remote) = Active

abbrev pub way_by : Option Opening → Law.Opening
way_by None = NotYet
way_by (Some o) = way_of o.remote

-- what the history tells of a socket
abbrev pub told : List Entry → Side → ℕ → Past
told h side i = record { opening = way_by (opening h side i); written = written h side i; read = read h side i; closed = is_closed_by h side i; sent = [] }

abbrev pub made_by : SentSegment → Made
made_by x = made_of (source_of x.header) (destination_of x.header) x.segment x.bytes

-- what went from a port
abbrev pub from_port : ℕ → List Made → List Made
from_port port [] = []
from_port port (x ∷ more) = if source_port x == port then x ∷ from_port port more else from_port port more

-- of all that its host made the socket sent what went from its port
abbrev pub HasSent : Option Opening → List Made → List SentSegment → Type 0
HasSent None made sent = sent ≡ []
HasSent (Some o) made sent = from_port o.local made ≡ map made_by sent

-- a socket of the host that was opened at its port made it, and a reader has its header as it was made
pub record IsOfSocket (h : List Entry) (side : Side) (x : Made) : Type 0 where
  pub slot : ℕ
  pub by : Opening
  pub opened : opening h side slot ≡ Some by
  pub from : by.local ≡ source_port x
  pub as_made : normal x.header ≡ x.header

-- The pair has the two sockets, each at its host, whose clock shows this instant; what the history tells of them; and the segments that they sent. No host
-- made any itself.
pub record Shows (seats : Side → Seat) (clocks : Side → ℤ) (net : Net) (p : PairValue) : Type 0 where
  pub socket : (side : Side) → socket_at (party net side) (seats side).slot ≡ Some (Tcp (at p.sides (side_in side)).socket)
  pub host : (side : Side) → (at p.sides (side_in side)).host ≡ (seats side).host
  pub clock : (side : Side) → (at p.sides (side_in side)).instant ≡ clocks side
  pub past : (side : Side) → at (pasts p.history) (side_in side) ≡ told net.history side (seats side).slot
  pub sent : (side : Side) → HasSent (opening net.history side (seats side).slot) (party net side).segments (at p.sides (side_in side)).sent
  pub made : (side : Side) → AllByRecursion (IsOfSocket net.history side) (party net side).segments

-- events of the pair lead on to one that shows this net
pub record Proceeds (seats : Side → Seat) (clocks : Side → ℤ) (net : Net) (p : PairValue) : Type 0 where
  pub events : List PairEvent
  pub next : PairValue
  pub steps : Steps p events next
  pub shows : Shows seats clocks net next

-- hosts make their initial sequence numbers with keys (RFC 6528)
abbrev pub HaveKeys : (Side → Seat) → Type 0
HaveKeys seats = (side : Side) → (key : List ℕ) × ((seats side).host.isn_key ≡ Some key)

-- AT FIRST

-- a socket to which nothing happened yet: the room of its receive buffer, and its send ring
pub record NewSocket : Type 0 where
  pub room : ℕ
  pub ring : Ring ℕ

abbrev pub AreNew : (Side → Seat) → (Side → NewSocket) → Net → Type 0
AreNew seats news net = (side : Side) → socket_at (party net side) (seats side).slot ≡ Some (Tcp (new_socket (news side).room (news side).ring))

abbrev pub at_zero : Side → ℤ
at_zero side = pos 0

abbrev pub side_begun : Seat → NewSocket → PairSide
side_begun seat new = new_side seat.host 0 (new_socket new.room new.ring)

-- the pair of two such sockets
abbrev pub begun : (Side → Seat) → (Side → NewSocket) → PairValue
begun seats news = beginning (side_begun (seats A) (news A)) (side_begun (seats B) (news B))
