-- Which events of a pair of sockets the moves of two hosts are.
use Rattle.std.specs.Prelude.{◌≡◌, ℕ, ◌==◌, ℤ, int_le, Bool, true, if◌then◌else◌, List, [], ◌∷◌, ◌++◌, Option, Some, None, slice_get}
use Rattle.ip_wire.specs.Ip.{source_of, destination_of}
use Rattle.tcp_block.specs.Offers.{offer_of}
use Rattle.tcp_block.specs.OpenOffer.{OpenOffer}
use Rattle.tcp_refinement.specs.Host.{Made, made_of}
use Rattle.tcp_refinement.specs.Pair.Steps.{Steps}
use Rattle.tcp_refinement.specs.Pair.Values.{PairValue}
use Rattle.tcp_refinement.specs.declared.pair.event.PairEvent.{PairEvent}
use Rattle.tcp_refinement.specs.declared.pair.event.PairEvent.TheVariants as Of
use Rattle.tcp_refinement.specs.declared.pair.event.Side as Pairs
use Rattle.tcp_refinement.specs.declared.pair.event.TcpSetting.{TcpSetting as Set}
use Rattle.tcp_refinement.specs.declared.pair.event.TcpSetting.TheVariants as Sets
use Rattle.lan.specs.declared.at_link.history.event.Side.{Side}
use Rattle.lan.specs.declared.at_link.history.event.TcpSetting.{TcpSetting}
use Rattle.lan.specs.declared.at_link.history.event.TcpSetting.TheVariants as Changed
use Rattle.lan.specs.declared.at_link.history.record.Opening.{Opening}
use Rattle.lan.specs.Worlds.AtLink.Call.{SocketCall}
use Rattle.lan.specs.Worlds.AtLink.Call as Call
use Rattle.lan.specs.Worlds.AtLink.Calls.{at_port}
use Rattle.lan.specs.Worlds.AtLink.History.{opening}
use Rattle.lan.specs.Worlds.AtLink.Kinds.{other}
use Rattle.lan.specs.Worlds.AtLink.Moves.{Move, Step, after}
use Rattle.lan.specs.Worlds.AtLink.Moves.Move.{Invokes, Offers, Takes}
use Rattle.lan.specs.Worlds.AtLink.Paired.{Seat, Shows, clocks_after, from_port, side_in}
use Rattle.lan.specs.Worlds.AtLink.Parties.{Net, party}

-- A step of a host. Where it brings a segment to one of the two sockets, this is the number of that segment, among those that the other sent.
pub record Happening : Type 0 where
  pub step : Step
  pub number : ℕ

abbrev pub steps_of : List Happening → List Step
steps_of [] = []
steps_of (x ∷ more) = x.step ∷ steps_of more

-- THE EVENTS OF A MOVE

abbrev pub setting_in : TcpSetting → Set
setting_in (Changed.Timeout duration) = Sets.Timeout duration
setting_in (Changed.AckDelay duration) = Sets.AckDelay duration
setting_in (Changed.KeepAlive interval) = Sets.KeepAlive interval
setting_in (Changed.NagleEnabled enabled) = Sets.NagleEnabled enabled
setting_in (Changed.HopLimit hop_limit) = Sets.HopLimit hop_limit
setting_in (Changed.CongestionControl control) = Sets.CongestionControl control
setting_in (Changed.TsvalGenerator generator) = Sets.TsvalGenerator generator
setting_in (Changed.PauseSynack paused) = Sets.PauseSynack paused

-- a call is the event of its name; one that asks for the state changes nothing
abbrev pub called_by : Pairs.Side → SocketCall → List PairEvent
called_by side (Call.Listen port) = Of.Listen side (at_port port) ∷ []
called_by side (Call.Connect remote port) = Of.Connect side remote (at_port port) ∷ []
called_by side (Call.Send bytes) = Of.Send side bytes ∷ []
called_by side (Call.Recv limit) = Of.Recv side limit ∷ []
called_by side Call.Close = Of.Close side ∷ []
called_by side Call.Abort = Of.Abort side ∷ []
called_by side (Call.Set setting) = Of.TcpSetting side (setting_in setting) ∷ []
called_by side call = []

-- the clock of a host goes on to this instant, if it doesn't show it already
abbrev pub clock_to : Pairs.Side → ℤ → ℤ → List PairEvent
clock_to side last instant = if int_le instant last then [] else Of.Clock side instant ∷ []

-- only what happens at its own slot is an event of a socket
abbrev pub if_here : ℕ → ℕ → List PairEvent → List PairEvent
if_here at slot events = if at == slot then events else []

-- whether an offer goes: one of nothing counts as one that does, whatever its host says
abbrev pub goes : Option OpenOffer → Bool → Bool
goes None sent = true
goes (Some o) sent = sent

-- An offer of the socket at this slot is an offer; a call of it, and a segment that comes to it, are a call and a delivery, before which the clock
-- of its host goes on from where the socket was shown it last.
abbrev pub events_of_move : ℕ → ℤ → Side → ℕ → Move → List PairEvent
events_of_move slot last side number (Invokes at cx old entry call new) =
    if_here at slot (clock_to (side_in side) last cx.instant ++ called_by (side_in side) call)
events_of_move slot last side number (Offers at cx v from sent) =
    if_here at slot (Of.Offer (side_in side) cx.instant (goes (offer_of cx v).socket.offered sent) ∷ [])
events_of_move slot last side number (Takes at cx v ip header bytes) =
    if_here at slot (clock_to (side_in side) last cx.instant ++ Of.Deliver (side_in (other side)) number ∷ [])
events_of_move slot last side number move = []

abbrev pub events_of_one : (Side → Seat) → (Side → ℤ) → Happening → List PairEvent
events_of_one seats clocks x = events_of_move (seats x.step.side).slot (clocks x.step.side) x.step.side x.number x.step.move

-- the events of these moves, one after the other
abbrev pub events_of_moves : (Side → Seat) → (Side → ℤ) → List Happening → List PairEvent
events_of_moves seats clocks [] = []
events_of_moves seats clocks (x ∷ more) = events_of_one seats clocks x ++ events_of_moves seats (clocks_after seats clocks x.step) more

-- NUMBERS

-- of all that its host made a socket sent what went from its port
abbrev pub sent_by : Option Opening → List Made → List Made
sent_by None made = []
sent_by (Some o) made = from_port o.local made

-- what the socket of a side sent, oldest first
abbrev pub sent_in : (Side → Seat) → Net → Side → List Made
sent_in seats net side = sent_by (opening net.history side (seats side).slot) (party net side).segments

-- what comes to the socket at this slot has this number, among what the other socket sent
abbrev pub IsNumbered : ℕ → List Made → ℕ → Move → Type 0
IsNumbered slot sent number (Takes at cx v ip header bytes) =
    at ≡ slot → slice_get sent number ≡ Some (made_of (source_of ip) (destination_of ip) header bytes)
IsNumbered slot sent number move = Unit {0}

-- Each segment that comes to one of the two has the number of an equal one that the other sent; where several are, of whichever.
abbrev pub AreNumbered : (Side → Seat) → Net → List Happening → Type 0
AreNumbered seats net [] = Unit {0}
AreNumbered seats net (x ∷ more) =
    IsNumbered (seats x.step.side).slot (sent_in seats net (other x.step.side)) x.number x.step.move × AreNumbered seats (after net x.step) more

-- these moves with numbers
pub record HaveNumbers (seats : Side → Seat) (net : Net) (steps : List Step) : Type 0 where
  pub moves : List Happening
  pub are_these : steps_of moves ≡ steps
  pub numbered : AreNumbered seats net moves

-- just these events of the pair lead on to one that shows this net
pub record ProceedsBy (seats : Side → Seat) (clocks : Side → ℤ) (net : Net) (p : PairValue) (events : List PairEvent) : Type 0 where
  pub next : PairValue
  pub steps : Steps p events next
  pub shows : Shows seats clocks net next
