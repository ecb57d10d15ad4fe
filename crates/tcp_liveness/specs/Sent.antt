-- How much a side ever sent of what its user wrote, and that its peer took no more (RFC 9293, 3.3.1 and 3.4).
use Rattle.std.specs.Prelude.{◌≡◌, ◌⊎◌, ℕ, suc, ◌+◌, ◌-◌, ◌%◌, ◌^◌, ◌≤◌, nat_lt, ◌&&◌, Bool, true, false, if◌then◌else◌, List, ◌++◌, length, take}
use Rattle.std.specs.List.{AllByRecursion}
use Rattle.tcp_theory.specs.Segment.{Segment, Control}
use Rattle.tcp_theory.specs.Segment.Control.{Plain, Syn, Fin, Rst}
use Rattle.tcp_theory.specs.Side.Opening.{NotYet}
use Rattle.tcp_block.specs.TcbRules.{one_if, unacked}
use Rattle.tcp_refinement.specs.Pair.Sides.{at}
use Rattle.tcp_block.specs.Value.{TcpValue, queued_in}
use Rattle.tcp_refinement.specs.Pair.Values.{PairValue, past_at}
use Rattle.tcp_refinement.specs.declared.pair.event.Side.{Side}
use Rattle.tcp_invariants.specs.State.{State}
use Rattle.tcp_invariants.specs.States.{is_closed}
use Rattle.tcp_refinement.specs.Tie.{Past, Keeps}
use Rattle.tcp_liveness.specs.Arrivals.{is_synchronized}

-- how much of what isn't acknowledged was never sent
abbrev pub unsent_in : TcpValue → ℕ
unsent_in v = unacked v.tcb (queued_in v) - v.tcb.sender.snd_max

-- how many positions a side ever sent: the SYN, of the payload, and the FIN
abbrev pub sent_in : TcpValue → Past → ℕ
sent_in v p = suc (length p.written) + one_if p.closed - unsent_in v

-- the number after the last of them
abbrev pub end_in : TcpValue → ℕ
end_in v = (v.tcb.sender.una.0 + v.tcb.sender.snd_max) % 2 ^ 32

-- how many positions of the stream a segment takes, with its payload and its FIN
abbrev pub size_in : Control → List ℕ → ℕ
size_in Plain bytes = length bytes
size_in Fin bytes = suc (length bytes)
size_in Syn bytes = 0
size_in Rst bytes = 0

abbrev pub size_of : Segment → ℕ
size_of x = size_in x.control x.bytes

abbrev pub IsBare : Segment → Type 0
IsBare x = size_of x ≡ 0

-- it lies within so many positions that were sent, counted from the SYN, where this is the number after the last of them
pub record LiesIn (sent end : ℕ) (x : Segment) : Type 0 where
  pub at : ℕ
  pub within : at + size_of x ≤ sent
  pub number : (x.seq + (sent - at)) % 2 ^ 32 ≡ end

abbrev pub IsWithin : ℕ → ℕ → Segment → Type 0
IsWithin sent end x = IsBare x ⊎ LiesIn sent end x

-- what went of the payload, and whether the FIN did, where so many positions were sent
abbrev pub payload_sent : ℕ → List ℕ → List ℕ
payload_sent sent written = take (sent - 1) written

abbrev pub fin_sent : ℕ → List ℕ → Bool → Bool
fin_sent sent written closed = closed && nat_lt (suc (length written)) sent

-- what was seen of a side, as if its user had written no more than was sent
abbrev pub sent_past : TcpValue → Past → Past
sent_past v p = record p { written = payload_sent (sent_in v p) p.written; closed = fin_sent (sent_in v p) p.written p.closed }

-- Its peer can't tell: the invariant holds alongside some socket of which that was seen.
pub record KeepsSent (v : TcpValue) (p : Past) (w : TcpValue) (q : Past) : Type 0 where
  pub socket : TcpValue
  pub keeps : Keeps w q socket (sent_past v p)

-- it is opened, and its connection isn't there yet
abbrev pub is_early : State → Bool
is_early state = if is_closed state then false else if is_synchronized state then false else true

-- The invariant of a side and its peer: before the connection is there no payload went; then each segment lies within what was sent, and
-- the peer took no more.
pub record SendsAll (v : TcpValue) (p : Past) (w : TcpValue) (q : Past) : Type 0 where
  pub unopened : p.opening ≡ NotYet → AllByRecursion IsBare p.sent
  pub early : is_early v.tcb.state ≡ true → AllByRecursion IsBare p.sent
  pub within : is_synchronized v.tcb.state ≡ true → AllByRecursion (IsWithin (sent_in v p) (end_in v)) p.sent
  pub keeps : is_synchronized v.tcb.state ≡ true → KeepsSent v p w q

-- how many positions of the other's stream a side took: the payload, read or waiting to be read, and the FIN
abbrev pub taken_in : PairValue → Side → ℕ
taken_in p side =
    length ((past_at p side).read ++ (at p.sides side).socket.received.waiting) + one_if (at p.sides side).socket.tcb.receiver.took_fin
