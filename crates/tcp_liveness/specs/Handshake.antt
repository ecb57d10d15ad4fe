-- The handshake of three segments (RFC 9293, 3.5): one side calls, the other listens; a SYN, its answer, and the acknowledgement of that.
use Rattle.std.specs.Prelude.{◌≡◌, ℤ, true, false, Some, None}
use Rattle.tcp_invariants.specs.Endpoints.{remote_of, takes_address}
use Rattle.tcp_invariants.specs.FourTuple.{FourTuple}
use Rattle.tcp_invariants.specs.Ends.{Proceeds}
use Rattle.tcp_invariants.specs.State.TheVariants as In
use Rattle.tcp_block.specs.declared.tcb.Tcb.{Tcb}
use Rattle.tcp_block.specs.Retries.{reaches}
use Rattle.tcp_refinement.specs.Pair.Sides.{other}
use Rattle.tcp_refinement.specs.Pair.Steps.{refusal}
use Rattle.tcp_refinement.specs.Pair.Values.{PairValue}
use Rattle.tcp_refinement.specs.declared.pair.event.PairEvent.TheVariants.{Offer}
use Rattle.tcp_refinement.specs.declared.pair.event.Side.{Side}
use Rattle.tcp_liveness.specs.StartsOver.{StartsOver}
use Rattle.tcp_liveness.specs.Clocks.{IsTimely}
use Rattle.tcp_liveness.specs.Exchange.{IsOpen}
use Rattle.tcp_liveness.specs.Pair.{AreMirrored, context_of, offered_in, socket_of}
use Rattle.tcp_liveness.specs.Reached.{IsReached}

-- the caller is asked at this instant, and its SYN comes
abbrev pub called_in : PairValue → Side → ℤ → PairValue
called_in p side first = offered_in p side first

-- then the listener, and its answer comes
abbrev pub answered_in : PairValue → Side → ℤ → ℤ → PairValue
answered_in p side first second = offered_in (called_in p side first) (other side) second

-- then the caller again, and its acknowledgement comes
abbrev pub shaken_in : PairValue → Side → ℤ → ℤ → ℤ → PairValue
shaken_in p side first second third = offered_in (answered_in p side first second) side third

-- a caller has no user timeout, and gives up after a question at least
pub record CallsOn (b : Tcb) : Type 0 where
  pub timeout : b.settings.timeout ≡ None
  pub tries : reaches b.settings.retries 0 ≡ false

-- a listener has no user timeout, doesn't hold its answer back, and gives up after two timeouts at least
pub record ListensOn (b : Tcb) : Type 0 where
  pub timeout : b.settings.timeout ≡ None
  pub unpaused : b.settings.synack_paused ≡ false
  pub tries : reaches b.settings.opening_retries 1 ≡ false

-- The side calls its peer, which listens there; and no instant lies before the last one of the side that is asked.
pub record MayShake (p : PairValue) (side : Side) (first second third : ℤ) : Type 0 where
  pub calls : (socket_of p side).tcb.state ≡ In.SynSent
  pub listens : (socket_of p (other side)).tcb.state ≡ In.Listen
  -- on the port and the address that are called
  pub own : FourTuple
  pub named : (socket_of p side).tcb.names.pair ≡ Some own
  pub port : (socket_of p (other side)).tcb.names.listen.port ≡ own.remote_port
  pub address : takes_address (socket_of p (other side)).tcb.names.listen.addr (remote_of own.addresses) ≡ true
  -- the SYN didn't go, or its timer has run out, but not for the last time
  pub over : StartsOver (context_of p side first) (socket_of p side)
  pub goes : Proceeds (context_of p side first) (socket_of p side)
  pub caller : CallsOn (socket_of p side).tcb
  pub listener : ListensOn (socket_of p (other side)).tcb
  pub at_first : refusal p (Offer side first true) ≡ None
  pub at_second : refusal (called_in p side first) (Offer (other side) second true) ≡ None
  pub at_third : refusal (answered_in p side first second) (Offer side third true) ≡ None
  pub stamps : IsTimely (called_in p side first) side third

-- both sides are open, and each knows that its SYN came
pub record AreOpened (p : PairValue) (side : Side) : Type 0 where
  pub own : (socket_of p side).tcb.state ≡ In.Established
  pub theirs : (socket_of p (other side)).tcb.state ≡ In.Established
  pub una : (socket_of p side).tcb.sender.una ≡ (socket_of p (other side)).tcb.receiver.next
  pub peer_side_una : (socket_of p (other side)).tcb.sender.una ≡ (socket_of p side).tcb.receiver.next

-- Events led to this pair, too; each side has counted its SYN; and each accepts what the other sends. So both may exchange payload from there on.
pub record AreConnected (p : PairValue) (side : Side) : Type 0 where
  pub leads : IsReached p
  pub opened : AreOpened p side
  pub own : IsOpen (socket_of p side).tcb
  pub theirs : IsOpen (socket_of p (other side)).tcb
  pub mirrored : AreMirrored (socket_of p side).tcb (socket_of p (other side)).tcb
