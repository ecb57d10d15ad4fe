-- What a segment of the peer does, step by step: each step is a move.
use Rattle.std.proofs.Common.{◌≡◌, ◌⊎◌, inl, inr, ℕ, zero, suc, ◌+◌, ◌-◌, ◌%◌, ◌^◌, ◌<◌, ◌≤◌, ◌==◌, ◌&&◌, min, Bool, true, false, List, [], ◌∷◌, Some, length}
use Rattle.std.proofs.Common.{drop, refl, sym, ap, ◌∙◌, arith, length-drop}
use Rattle.std.proofs.lemmas.Bool.Decides.{nat_tests}
use native.Mathlib.Numerals.{unary_clauses}
use Rattle.tcp_theory.specs.Invariant.{HoldsBetween}
use Rattle.tcp_theory.specs.Move.{after, Comes, MayTakeAck}
use Rattle.tcp_theory.specs.Move.Move.{TakesAck}
use Rattle.tcp_theory.specs.Numbers.{wire}
use Rattle.tcp_theory.specs.Segment.{Segment, IsNoReset}
use Rattle.tcp_theory.specs.Side.{Side, one_if, send_end}
use Rattle.tcp_theory.specs.Side.Phase.{SynReceived, Synchronized}
use Rattle.tcp_theory.proofs.Lists as lists
use Rattle.tcp_block.specs.State.{State}
use Rattle.tcp_block.specs.States.{owes_fin}
use Rattle.tcp_refinement.specs.Tie.{Core, past_of, unsent, IsConnectedAs, phase_of, is_closed_in, is_finished_in}
use Rattle.tcp_refinement.proofs.Tied.{Tied, tied_by, connected_fits, is_connected, is_connected_side}

-- the core after SND.UNA rose by so much
abbrev pub acked_core : Core → State → ℕ → Core
acked_core c state by = record c {
  state = state;
  una = (c.una + by) % 2 ^ 32;
  syn_unacked = c.syn_unacked && (by == 0);
  past_iss = min (c.past_iss + by) 4_294_967_295;
  snd_max = c.snd_max - by;
  queue = drop (min (by - one_if c.syn_unacked) (length c.queue)) c.queue;
}

-- the state that an acknowledgement leads to: the FIN is acknowledged, or it isn't
pub record LeadsTo (c : Core) (state : State) (by : ℕ) : Type 0 where
  pub connected : is_connected state ≡ true
  pub phase : phase_of state ≡ Synchronized
  pub closed : is_closed_in state ≡ is_closed_in c.state
  pub finished : is_finished_in state ≡ is_finished_in c.state
  pub fin : ((by ≡ one_if c.syn_unacked + length c.queue + one_if (owes_fin c.state)) × (one_if (owes_fin state) ≡ 0))
      ⊎ ((by ≤ one_if c.syn_unacked + length c.queue) × (one_if (owes_fin state) ≡ one_if (owes_fin c.state)))

-- the acknowledgement is acceptable
pub record IsAcceptable (c : Core) (by : ℕ) : Type 0 where
  pub within : by ≤ one_if c.syn_unacked + length c.queue + one_if (owes_fin c.state)
  pub past_syn : one_if c.syn_unacked ≤ by
  pub opens : phase_of c.state ≡ SynReceived → by ≡ 1

drop-min : (k : ℕ) (xs : List ℕ) → drop (min k (length xs)) xs ≡ drop k xs
drop-min zero xs = simp unary_clauses refl
drop-min (suc k) [] = simp unary_clauses refl
drop-min (suc k) (x ∷ xs) = simp unary_clauses (drop-min k xs)

pub acked_syn : (syn : Bool) (by : ℕ) → one_if syn ≤ by → (syn && (by == 0)) ≡ false
acked_syn false by h = refl
acked_syn true by h = grind (arith, nat_tests)

acked_number : (u by n una : ℕ) → una ≡ wire u → n < 2 ^ 32 → by ≡ (n + (2 ^ 32 - una)) % 2 ^ 32 → n ≡ wire (u + by)
acked_number u by n una e small d = omega arith

acked_una : (u by una : ℕ) → una ≡ wire u → (una + by) % 2 ^ 32 ≡ wire (u + by)
acked_una u by una e = omega arith

pub takes_ack :
    (c : Core) (s t : Side) (x : Segment) (n by : ℕ) (state : State) → Comes t x → IsNoReset x.control → x.ack ≡ Some n → n < 2 ^ 32
    → by ≡ (n + (2 ^ 32 - c.una)) % 2 ^ 32 → IsAcceptable c by → LeadsTo c state by → IsConnectedAs c (unsent s) → HoldsBetween s t
    → Tied (acked_core c state by) (past_of s) t
takes_ack c s t x n by state comes control number small distance ok leads k holds =
    let syn = k.syn in
    let end = k.end in
    let low = holds.0.well_formed.una_low in
    let within = ok.within in
    let past_syn = ok.past_syn in
    let at = s.una + by in
    let may : MayTakeAck s t x (s.una + by) = record {
      connected = is_connected_side c s k;
      comes = comes;
      no_reset = control;
      number = number ∙ ap Some (acked_number s.una by n c.una k.una small distance);
      opens = λ e. let one = ok.opens (sym k.phase ∙ e) in let first = ap one_if (k.unopened (sym k.phase ∙ e)) in omega arith;
      low = omega arith;
      high = omega arith;
    } in
    let no_syn = acked_syn c.syn_unacked by ok.past_syn in
    let none = ap one_if no_syn in
    let k' : IsConnectedAs (acked_core c state by) (unsent (after s (TakesAck x (s.una + by)))) = record {
      once = k.once;
      phase = sym leads.phase;
      closed = k.closed ∙ sym leads.closed;
      side_finished = k.side_finished ∙ sym leads.finished;
      finished = k.finished ∙ sym leads.finished;
      heard = k.heard;
      una = acked_una s.una by c.una k.una;
      syn = omega arith;
      opened = inl no_syn;
      unopened = λ e. absurd (let clash : Synchronized ≡ SynReceived = sym leads.phase ∙ e in cc);
      past_iss = λ e. absurd (let clash : false ≡ true = sym no_syn ∙ e in cc);
      snd_max = snd_max_after leads.fin none;
      end = end_after leads.fin none;
      next = k.next;
      queue = drop-min (by - one_if c.syn_unacked) c.queue ∙ (ap (λ (queue : List ℕ). drop (by - one_if c.syn_unacked) queue) k.queue
          ∙ lists.drop-twice (by - one_if c.syn_unacked) (s.una - suc s.iss) 0 (s.una + by - suc s.iss) s.written (omega arith));
      waiting = k.waiting;
      map = k.map;
      gap = k.gap;
      listener = k.listener;
    } in
    tied_by _ _ s t (TakesAck x (s.una + by)) holds may refl (connected_fits state (acked_core c state by) _ leads.connected k')
  where
    snd_max_after :
        ((by ≡ one_if c.syn_unacked + length c.queue + one_if (owes_fin c.state)) × (one_if (owes_fin state) ≡ 0))
        ⊎ ((by ≤ one_if c.syn_unacked + length c.queue) × (one_if (owes_fin state) ≡ one_if (owes_fin c.state)))
        → one_if (c.syn_unacked && (by == 0)) ≡ 0
        → c.snd_max - by ≤ one_if (c.syn_unacked && (by == 0)) + length (drop (min (by - one_if c.syn_unacked) (length c.queue)) c.queue) + one_if (owes_fin state)
    snd_max_after (inl f) none =
        let all = f.0 in
        let snd_max = k.snd_max in
        omega arith
    snd_max_after (inr f) none =
        let some = f.0 in
        let same = f.1 in
        let snd_max = k.snd_max in
        let past_syn = ok.past_syn in
        let left = length-drop (min (by - one_if c.syn_unacked) (length c.queue)) c.queue in
        omega arith

    end_after :
        ((by ≡ one_if c.syn_unacked + length c.queue + one_if (owes_fin c.state)) × (one_if (owes_fin state) ≡ 0))
        ⊎ ((by ≤ one_if c.syn_unacked + length c.queue) × (one_if (owes_fin state) ≡ one_if (owes_fin c.state)))
        → one_if (c.syn_unacked && (by == 0)) ≡ 0
        → s.una + by + (one_if (c.syn_unacked && (by == 0)) + length (drop (min (by - one_if c.syn_unacked) (length c.queue)) c.queue) +
        one_if (owes_fin state)) ≡ send_end s
    end_after (inl f) none =
        let all = f.0 in
        let gone = f.1 in
        let end = k.end in
        let left = length-drop (min (by - one_if c.syn_unacked) (length c.queue)) c.queue in
        omega arith
    end_after (inr f) none =
        let some = f.0 in
        let same = f.1 in
        let end = k.end in
        let past_syn = ok.past_syn in
        let left = length-drop (min (by - one_if c.syn_unacked) (length c.queue)) c.queue in
        omega arith
