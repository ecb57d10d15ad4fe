-- RCV.NXT of a peer lies between SND.UNA and the end of what may be acknowledged.
use Rattle.std.proofs.Common.{◌≡◌, ℕ, suc, ◌+◌, ◌-◌, ◌%◌, ◌^◌, ◌<◌, ◌≤◌, Bool, true, false, length, refl, sym, ap, ◌∙◌, subst, arith}
use Rattle.ip_wire.specs.Seq.{distance_of}
use Rattle.tcp_invariants.specs.States.{owes_fin}
use Rattle.tcp_invariants.specs.State.{State}
use Rattle.tcp_invariants.specs.State.TheVariants as In
use Rattle.tcp_theory.specs.Invariant.{IsInStep, IsWellFormed, OneWay}
use Rattle.tcp_theory.specs.Numbers.{wire}
use Rattle.tcp_theory.specs.Side.{Side, rcv_next, send_end, taken_in, one_if as one_in}
use Rattle.tcp_theory.proofs.Lists.{Begins-length}
use Rattle.tcp_block.specs.TcbRules.{one_if, unacked}
use Rattle.tcp_block.specs.Value.{TcpValue, queued_in}
use Rattle.tcp_refinement.specs.Tie.{Past, Keeps, IsConnectedAs, IsSideOf, is_finished_in, unsent, core_of}
use Rattle.tcp_refinement.proofs.Tied.{is_connected, fits_connected}
use Rattle.tcp_invariants.proofs.OrderSteps.{clash}
use Rattle.tcp_liveness.specs.Arrivals.{is_synchronized}
use Rattle.tcp_liveness.specs.Positions.{LiesWithin}

pub connected_in : (state : State) → is_synchronized state ≡ true → is_connected state ≡ true
connected_in In.Closed e = clash (sym e)
connected_in In.Listen e = clash (sym e)
connected_in In.SynSent e = clash (sym e)
connected_in other e = refl

pub same_one : (b : Bool) → one_in b ≡ one_if b
same_one true = refl
same_one false = refl

-- what was taken ends where the peer ends, or before
ends : (s t : Side) → OneWay s t → t.irs ≡ s.iss → rcv_next t ≤ send_end s
ends s t o counts = by_fin t.took_fin refl where
  with_fin : (irs iss taken written fin closed : ℕ) → irs ≡ iss → taken ≡ written → fin ≡ 1 → closed ≡ 1 → suc irs + taken + fin ≤ suc iss + written + closed
  with_fin irs iss taken written fin closed a b c d = omega arith

  without : (irs iss taken written fin closed : ℕ) → irs ≡ iss → taken ≤ written → fin ≡ 0 → suc irs + taken + fin ≤ suc iss + written + closed
  without irs iss taken written fin closed a b c = omega arith

  by_fin : (fin : Bool) → t.took_fin ≡ fin → rcv_next t ≤ send_end s
  by_fin true e =
      let whole = o.fin e in
      with_fin t.irs s.iss (length (taken_in t)) (length s.written) (one_in t.took_fin) (one_in s.closed) counts (ap length whole.whole) (ap one_in e)
      (ap one_in whole.closed)
  by_fin false e = without t.irs s.iss (length (taken_in t)) (length s.written) (one_in t.took_fin) (one_in s.closed) counts
      (Begins-length (taken_in t) s.written o.received) (ap one_in e)

pub far : (una next all una_number next_number : ℕ) → una ≤ next → next ≤ una + all → all < 2 ^ 30 → una_number ≡ una % 2 ^ 32 → next_number ≡ next % 2 ^ 32
    → una + (next_number + (2 ^ 32 - una_number)) % 2 ^ 32 ≡ next
far una next all una_number next_number a b c d e = omega arith

all_short : (iss una written closed all end : ℕ) → iss ≤ una → written < 2 ^ 29 → closed ≤ 1 → una + all ≡ end → end ≡ suc iss + written + closed → all < 2 ^ 30
all_short iss una written closed all end a b c d e = omega arith

at_most_one : (b : Bool) → one_in b ≤ 1
at_most_one true = omega arith
at_most_one false = omega arith

within_all : (una far next all : ℕ) → una + far ≡ next → next ≤ una + all → far ≤ all
within_all una far next all a b = omega arith

-- A SIDE

-- where a socket stands as a side: its numbers have 32 bits, and what may be acknowledged ends where all that was written does
pub record IsPlaced (v : TcpValue) (s : Side) : Type 0 where
  pub una : v.tcb.sender.una.0 ≡ wire s.una
  pub next : v.tcb.receiver.next.0 ≡ wire (rcv_next s)
  pub end : s.una + unacked v.tcb (queued_in v) ≡ send_end s
  pub few : unacked v.tcb (queued_in v) < 2 ^ 30
  pub snd_max : v.tcb.sender.snd_max ≤ unacked v.tcb (queued_in v)
  pub finished : s.took_fin ≡ is_finished_in v.tcb.state

pub placed : (v : TcpValue) (s : Side) → IsSideOf v s → IsWellFormed s → is_synchronized v.tcb.state ≡ true → IsPlaced v s
placed v s fits formed mine = record { una = f.una; next = f.next; end = end; few = few; snd_max = snd_max; finished = f.side_finished } where
  f : IsConnectedAs (core_of v) (unsent s)
  f = fits_connected v.tcb.state (core_of v) (unsent s) (connected_in v.tcb.state mine) fits

  all : ℕ
  all = unacked v.tcb (queued_in v)

  sum : (a b c d e : ℕ) → a ≡ b → d ≡ e → a + c + d ≡ b + c + e
  sum a b c d e x y = omega arith

  same_all : one_in v.tcb.sender.syn_unacked + queued_in v + one_in (owes_fin v.tcb.state) ≡ all
  same_all =
      sum (one_in v.tcb.sender.syn_unacked) (one_if v.tcb.sender.syn_unacked) (queued_in v) (one_in (owes_fin v.tcb.state))
      (one_if (owes_fin v.tcb.state))
      (same_one v.tcb.sender.syn_unacked) (same_one (owes_fin v.tcb.state))

  end : s.una + all ≡ send_end s
  end = sym (ap (λ (n : ℕ). s.una + n) same_all) ∙ f.end

  few : all < 2 ^ 30
  few = all_short s.iss s.una (length s.written) (one_in s.closed) all (send_end s) formed.una_low formed.short (at_most_one s.closed) end refl

  snd_max : v.tcb.sender.snd_max ≤ all
  snd_max = subst (λ (n : ℕ). v.tcb.sender.snd_max ≤ n) same_all f.snd_max

wire_small : (position : ℕ) → position % 2 ^ 32 < 2 ^ 32
wire_small position = omega arith

pub una_small : (v : TcpValue) (s : Side) → IsPlaced v s → v.tcb.sender.una.0 < 2 ^ 32
una_small v s at = subst (λ (n : ℕ). n < 2 ^ 32) (sym at.una) (wire_small s.una)

pub next_small : (v : TcpValue) (s : Side) → IsPlaced v s → v.tcb.receiver.next.0 < 2 ^ 32
next_small v s at = subst (λ (n : ℕ). n < 2 ^ 32) (sym at.next) (wire_small (rcv_next s))

-- TWO SIDES

-- with the FIN of a side its peer took all
pub whole_taken : (s t : Side) → OneWay s t → t.took_fin ≡ true → rcv_next t ≡ send_end s
whole_taken s t o e =
    let whole = o.fin e in
    all_of t.irs s.iss (length (taken_in t)) (length s.written) (one_in t.took_fin) (one_in s.closed) whole.counts (ap length whole.whole) (ap one_in e)
    (ap one_in whole.closed)
  where
    all_of : (irs iss taken written fin closed : ℕ) → irs ≡ iss → taken ≡ written → fin ≡ 1 → closed ≡ 1 → suc irs + taken + fin ≡ suc iss + written + closed
    all_of irs iss taken written fin closed a b c d = omega arith

pub lies_within :
    (v w : TcpValue) (p q : Past) (k : Keeps v p w q) → is_synchronized v.tcb.state ≡ true → is_synchronized w.tcb.state ≡ true → IsInStep k.side k.peer_side
    → LiesWithin v w k.side k.peer_side
lies_within v w p q k mine theirs step = record { position = position; within = within_all s.una _ (rcv_next t) all position upper; few = a.few } where
  s : Side
  s = k.side

  t : Side
  t = k.peer_side

  a : IsPlaced v s
  a = placed v s k.fits k.holds.0.well_formed mine

  b : IsPlaced w t
  b = placed w t k.peer_side_fits k.holds.1.well_formed theirs

  all : ℕ
  all = unacked v.tcb (queued_in v)

  upper : rcv_next t ≤ s.una + all
  upper = subst (λ (n : ℕ). rcv_next t ≤ n) (sym a.end) (ends s t k.holds.0 step.counts)

  position : s.una + distance_of v.tcb.sender.una w.tcb.receiver.next ≡ rcv_next t
  position = far s.una (rcv_next t) all v.tcb.sender.una.0 w.tcb.receiver.next.0 step.reached upper a.few a.una b.next
