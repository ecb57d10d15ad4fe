-- What was seen of each socket of a pair, as the events and their answers tell it.
use Rattle.std.specs.Prelude.{ℕ, List, [], ◌∷◌, map, reverse, take}
use Rattle.tcp_theory.specs.Side.Opening.{NotYet}
use Rattle.tcp_block.specs.State.{State}
use Rattle.tcp_refinement.specs.History.{listened, called, with_written, with_read, closes_in, closed_by}
use Rattle.tcp_refinement.specs.Tie.{Past, no_past}
use Rattle.tcp_refinement.specs.declared.pair.event.Side.{Side}
use Rattle.tcp_refinement.specs.declared.pair.event.PairEvent.{PairEvent}
use Rattle.tcp_refinement.specs.declared.pair.event.PairEvent.TheVariants.{Listen, Connect, Send, Recv, Close, Abort, TcpSetting, Clock, Offer, Deliver}
use Rattle.tcp_refinement.specs.declared.pair.event.PairAnswer.{PairAnswer}
use Rattle.tcp_refinement.specs.declared.pair.event.PairAnswer.TheVariants.{Done, Count, Bytes, Error}
use Rattle.tcp_refinement.specs.Pair.Sides.{Both, at, put, other}

-- an event that was taken, its answer, and the state in which it found the socket that it is for
pub record Entry : Type 0 where
  pub event : PairEvent
  pub answer : PairAnswer
  pub found : State

-- the socket that an event is for
abbrev pub side_of : PairEvent → Side
side_of (Listen side endpoint) = side
side_of (Connect side remote local) = side
side_of (Send side bytes) = side
side_of (Recv side count) = side
side_of (Close side) = side
side_of (Abort side) = side
side_of (TcpSetting side setting) = side
side_of (Clock side instant) = side
side_of (Offer side instant sent) = side
side_of (Deliver from k) = other from

-- what a call with this answer adds to what was seen of the socket
abbrev pub listen_adds : PairAnswer → Past → Past
listen_adds Done p = listened p
listen_adds answer p = p

abbrev pub connect_adds : PairAnswer → Past → Past
connect_adds Done p = called p
connect_adds answer p = p

abbrev pub send_adds : List ℕ → PairAnswer → Past → Past
send_adds bytes (Count count) p = with_written p (take count bytes)
send_adds bytes answer p = p

abbrev pub recv_adds : PairAnswer → Past → Past
recv_adds (Bytes bytes) p = with_read p bytes
recv_adds answer p = p

abbrev pub adds : PairEvent → PairAnswer → State → Past → Past
adds (Listen side endpoint) answer found p = listen_adds answer p
adds (Connect side remote local) answer found p = connect_adds answer p
adds (Send side bytes) answer found p = send_adds bytes answer p
adds (Recv side count) answer found p = recv_adds answer p
adds (Close side) answer found p = closed_by (closes_in found) p
adds (Abort side) answer found p = p
adds (TcpSetting side setting) answer found p = p
adds (Clock side instant) answer found p = p
adds (Offer side instant sent) answer found p = p
adds (Deliver from k) answer found p = p

-- of each socket, how it was opened, what its user wrote and read, and whether it was closed; the history's newest entry stands first
abbrev pub pasts : List Entry → Both Past
pasts [] = record { a = no_past []; b = no_past [] }
pasts (e ∷ history) = put (pasts history) (side_of e.event) (adds e.event e.answer e.found (at (pasts history) (side_of e.event)))

-- the answers, oldest first
abbrev pub answers_of : List Entry → List PairAnswer
answers_of history = reverse (map (λ (e : Entry). e.answer) history)
