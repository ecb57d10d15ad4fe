-- An exchange as events of a pair: a side is asked, its segment comes, and what answers it comes.
use Rattle.std.specs.Prelude.{◌≡◌, ◌⊎◌, ℕ, ◌-◌, ◌≤◌, ◌||◌, not, ℤ, Bool, true, false, List, [], ◌∷◌, length, Some}
use Rattle.tcp_refinement.specs.Context.{ContextValue}
use Rattle.tcp_refinement.specs.Tie.{Past}
use Rattle.tcp_invariants.specs.FourTuple.{FourTuple}
use Rattle.tcp_invariants.specs.Endpoints.{local_of, remote_of}
use Rattle.tcp_invariants.specs.Ends.{is_over}
use Rattle.tcp_invariants.specs.OpenOffer.{OpenOffer}
use Rattle.tcp_invariants.specs.State.{State}
use Rattle.tcp_invariants.specs.State.TheVariants as In
use Rattle.tcp_invariants.specs.States.{is_closed, is_opening}
use Rattle.tcp_block.specs.declared.tcb.Tcb.{Tcb}
use Rattle.tcp_block.specs.Value.{TcpValue}
use Rattle.tcp_refinement.specs.declared.pair.event.Side.{Side}
use Rattle.tcp_refinement.specs.declared.pair.event.PairEvent.TheVariants.{Offer, Deliver}
use Rattle.tcp_refinement.specs.Pair.Sides.{at, other}
use Rattle.tcp_refinement.specs.Pair.Values.{PairValue, context_at, past_at}
use Rattle.tcp_liveness.specs.Exchange.{MayExchange, MayReach, MovesOn, left_of}
use Rattle.tcp_liveness.specs.Reached.{IsReached}
use Rattle.tcp_liveness.specs.Rounds.{takes, comes}

abbrev pub socket_of : PairValue → Side → TcpValue
socket_of p side = (at p.sides side).socket

-- the number of the next segment that a side sends
abbrev pub next_sent : PairValue → Side → ℕ
next_sent p side = length (at p.sides side).sent

-- the side is asked at this instant, and what it sends comes to the other
abbrev pub offered_in : PairValue → Side → ℤ → PairValue
offered_in p side instant = takes (takes p (Offer side instant true)) (Deliver side (next_sent p side))

-- and what answers it, if anything does, comes
abbrev pub exchanged_in : PairValue → Side → ℤ → PairValue
exchanged_in p side instant =
    comes (next_sent (offered_in p side instant) (other side) - next_sent p (other side)) (other side) (next_sent p (other side))
    (offered_in p side instant)

-- the user of a side hasn't closed it, or wrote something: its stream is no empty one
abbrev pub HasStream : Past → Type 0
HasStream p = (p.closed ≡ false) ⊎ (1 ≤ length p.written)

-- each is connected to the other: what is local to one is remote to the other
pub record AreMirrored (b peer_side : Tcb) : Type 0 where
  pub own : FourTuple
  pub theirs : FourTuple
  pub named : b.names.pair ≡ Some own
  pub peer_side_named : peer_side.names.pair ≡ Some theirs
  pub local : local_of own.addresses ≡ remote_of theirs.addresses
  pub remote : remote_of own.addresses ≡ local_of theirs.addresses
  pub local_port : own.local_port ≡ theirs.remote_port
  pub remote_port : own.remote_port ≡ theirs.local_port

-- SYN-RECEIVED, and each later state but CLOSED: a SYN of the other was taken
abbrev pub has_heard : State → Bool
has_heard state = not (is_over state || is_opening state)

-- what a side knows of its host at an instant
abbrev pub context_of : PairValue → Side → ℤ → ContextValue
context_of p side instant = context_at side (record (at p.sides side) { instant = instant })

-- the longest packet of its host
abbrev pub mtu_of : PairValue → Side → ℕ
mtu_of p side = (at p.sides side).host.ip_mtu

-- the side, asked at this instant, offers this for an exchange with the other, whose clock stands still meanwhile
abbrev pub MayExchangeIn : PairValue → Side → ℤ → OpenOffer → Type 0
MayExchangeIn p side instant o =
    MayExchange (context_of p side instant) (context_at (other side) (at p.sides (other side))) (socket_of p side) (socket_of p (other side)) o

-- and whether or not the answer can be heard
abbrev pub MayReachIn : PairValue → Side → ℤ → OpenOffer → Type 0
MayReachIn p side instant o =
    MayReach (context_of p side instant) (context_at (other side) (at p.sides (other side))) (socket_of p side) (socket_of p (other side)) o

-- with its segment RCV.NXT of the other rises; or with the answer its SND.UNA does; or the other was in LAST-ACK, which its segment ends
abbrev pub MovesIn : PairValue → Side → ℤ → Type 0
MovesIn p side instant =
    MovesOn (socket_of p (other side)).tcb.receiver.next (socket_of (offered_in p side instant) (other side)).tcb.receiver.next
    ⊎ (MovesOn (socket_of p side).tcb.sender.una (socket_of (exchanged_in p side instant) side).tcb.sender.una
    ⊎ (((socket_of p (other side)).tcb.state ≡ In.LastAck) × (is_closed (socket_of (offered_in p side instant) (other side)).tcb.state ≡ true)))

-- EXCHANGES

-- how much of a side isn't acknowledged
abbrev pub left_in : PairValue → Side → ℕ
left_in p side = left_of (socket_of p side)

-- exchanges of a side, one after the other: when each is asked for, and what it offers
abbrev pub Exchanges : PairValue → Side → List (ℤ × OpenOffer) → Type 0
Exchanges p side [] = Unit {0}
Exchanges p side (x ∷ more) =
    IsReached p × HasStream (past_at p side) × MayExchangeIn p side x.0 x.1 × Exchanges (exchanged_in p side x.0) side more
