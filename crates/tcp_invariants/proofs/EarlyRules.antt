-- What is retransmitted that isn't lost: when, and where.
use Rattle.std.proofs.Common.{◌≡◌, ◌⊎◌, inl, inr, ⊎_elim, ℕ, ◌+◌, ◌<◌, ◌≤◌, ◌==◌, nat_le, nat_lt, not, ◌&&◌, ◌||◌, max, Bool, true, false}
use Rattle.std.proofs.Common.{List, [], ◌∷◌, refl, sym, ap, ◌∙◌, arith}
use Rattle.std.specs.List.{fold}
use Rattle.std.proofs.lemmas.Bool.{eqb-true, leb-true, ltb-true}
use Rattle.tcp_state.specs.Scoreboard.{runs_end}
use Rattle.tcp_state.specs.States.{may_send_data}
use Rattle.tcp_state.specs.declared.scoreboard.Run.{Run}
use Rattle.tcp_block.specs.LossRecovery.{pipe, next_hole, has_room, mends_lost, mends_credited, fills_hole, may_send_early, fills_early, rescues, is_sent_early}
use Rattle.tcp_block.specs.LossRecovery.{is_rescue}
use Rattle.tcp_block.specs.Rules.{resends_beside}
use Rattle.tcp_block.specs.declared.tcb.Tcb.{Tcb}
use Rattle.tcp_invariants.proofs.ApartRuns.{AllOut}
use Rattle.tcp_invariants.proofs.OrderSteps.{clash}

left_true : (a b : Bool) → (a && b) ≡ true → a ≡ true
left_true true b e = refl
left_true false b e = clash (sym e)

right_true : (a b : Bool) → (a && b) ≡ true → b ≡ true
right_true true b e = e
right_true false b e = clash (sym e)

not_true : (a : Bool) → not a ≡ true → a ≡ false
not_true true e = clash (sym e)
not_true false e = refl

either : (a b : Bool) → (a || b) ≡ true → (a ≡ true) ⊎ (b ≡ true)
either true b e = inl refl
either false b e = inr e

-- in a recovery, with ranges, where a hole is in flight
pub record InRecovery (b : Tcb) : Type 0 where
  pub sack : b.peer.sack ≡ true
  pub recovers : b.reno.recovers ≡ true
  pub opened : b.sender.syn_unacked ≡ false
  pub flies : next_hole b < b.sender.flight_size

four : (b : Tcb) (rest : Bool) → (b.peer.sack && (b.reno.recovers && (not b.sender.syn_unacked && (nat_lt (next_hole b) b.sender.flight_size && rest)))) ≡ true
    → InRecovery b × (rest ≡ true)
four b rest e = (
  record {
    sack = left_true b.peer.sack (b.reno.recovers && (not b.sender.syn_unacked && last)) e;
    recovers = left_true b.reno.recovers (not b.sender.syn_unacked && last) second;
    opened = not_true b.sender.syn_unacked (left_true (not b.sender.syn_unacked) last third);
    flies = ltb-true (next_hole b) b.sender.flight_size (left_true (nat_lt (next_hole b) b.sender.flight_size) rest fourth);
  },
  right_true (nat_lt (next_hole b) b.sender.flight_size) rest fourth,
)
  where
    last : Bool
    last = nat_lt (next_hole b) b.sender.flight_size && rest

    second : (b.reno.recovers && (not b.sender.syn_unacked && last)) ≡ true
    second = right_true b.peer.sack (b.reno.recovers && (not b.sender.syn_unacked && last)) e

    third : (not b.sender.syn_unacked && last) ≡ true
    third = right_true b.reno.recovers (not b.sender.syn_unacked && last) second

    fourth : last ≡ true
    fourth = right_true (not b.sender.syn_unacked) last third

pub filled : (b : Tcb) → fills_hole b ≡ true → InRecovery b
filled b e = (four b (mends_lost b || mends_credited b) e).0

pub early : (b : Tcb) → may_send_early b ≡ true → InRecovery b
early b e = (four b (has_room b) e).0

pub early_room : (b : Tcb) → may_send_early b ≡ true → pipe b + b.reno.mss ≤ b.reno.cwnd
early_room b e = leb-true (pipe b + b.reno.mss) b.reno.cwnd (four b (has_room b) e).1

pub early_may : (b : Tcb) → is_sent_early b ≡ true → may_send_early b ≡ true
early_may b e =
    ⊎_elim (λ fills. left_true (may_send_early b) _ fills) (λ rescue_rxt. left_true (may_send_early b) _ rescue_rxt) (either (fills_early b) (rescues b) e)

-- what isn't the segment at SND.UNA, nor a probe, goes since it is lost, or where no payload goes
pub which : (b : Tcb) (payload : Bool) → resends_beside b payload ≡ true → b.sender.resend ≡ false → b.loss.probes ≡ false
    → (fills_hole b ≡ true) ⊎ ((is_sent_early b ≡ true) × (payload ≡ false))
which b payload does resend probes =
    ⊎_elim (λ fills. inl fills)
    (λ last. inr (left_true (is_sent_early b) (not payload) last, not_true payload (right_true (is_sent_early b) (not payload) last)))
    (either (fills_hole b) (is_sent_early b && not payload)
    (sym (ap (λ (t : Bool). t || (b.loss.probes || (fills_hole b || (is_sent_early b && not payload)))) resend
    ∙ ap (λ (t : Bool). t || (fills_hole b || (is_sent_early b && not payload))) probes)
    ∙ right_true (may_send_data b.state) (b.sender.resend || (b.loss.probes || (fills_hole b || (is_sent_early b && not payload)))) does))

pub goes_in : (b : Tcb) (payload : Bool) → resends_beside b payload ≡ true → b.sender.resend ≡ false → b.loss.probes ≡ false → InRecovery b
goes_in b payload does resend probes =
    ⊎_elim (λ fills. filled b fills) (λ last. early b (early_may b last.0)) (which b payload does resend probes)

-- A RESCUE

pub rescue_only : (b : Tcb) → is_rescue b ≡ true → rescues b ≡ true
rescue_only b e = right_true (not (b.sender.resend || (b.loss.probes || (fills_hole b || fills_early b)))) (rescues b) e

pub record Rescue (b : Tcb) : Type 0 where
  pub may : may_send_early b ≡ true
  pub first : b.loss.rescue_rxt ≡ 0
  pub following : runs_end b.loss.board.runs ≤ next_hole b
  pub whole : b.sender.flight_size ≡ b.sender.snd_max

pub rescue_parts : (b : Tcb) → is_rescue b ≡ true → Rescue b
rescue_parts b e = record {
  may = left_true (may_send_early b) ((b.loss.rescue_rxt == 0) && last) is;
  first = eqb-true b.loss.rescue_rxt 0 (left_true (b.loss.rescue_rxt == 0) last second);
  following =
      leb-true (runs_end b.loss.board.runs) (next_hole b)
      (left_true (nat_le (runs_end b.loss.board.runs) (next_hole b)) (b.sender.flight_size == b.sender.snd_max) third);
  whole =
      eqb-true b.sender.flight_size b.sender.snd_max
      (right_true (nat_le (runs_end b.loss.board.runs) (next_hole b)) (b.sender.flight_size == b.sender.snd_max) third);
}
  where
    is : rescues b ≡ true
    is = rescue_only b e

    last : Bool
    last = nat_le (runs_end b.loss.board.runs) (next_hole b) && (b.sender.flight_size == b.sender.snd_max)

    second : ((b.loss.rescue_rxt == 0) && last) ≡ true
    second = right_true (may_send_early b) ((b.loss.rescue_rxt == 0) && last) is

    third : last ≡ true
    third = right_true (b.loss.rescue_rxt == 0) last second

-- after all runs none is
ends_upto : (runs : List Run) (end offset : ℕ) → fold (λ (n : ℕ) (r : Run). max n r.end) end runs ≤ offset → (end ≤ offset) × AllOut offset runs
ends_upto [] end offset e = (e, tt)
ends_upto (r ∷ rs) end offset e =
    let rest = ends_upto rs (max end r.end) offset e in
    (first end r.end offset rest.0, (inr (second end r.end offset rest.0), rest.1))
  where
    first : (a b c : ℕ) → max a b ≤ c → a ≤ c
    first a b c e = omega arith

    second : (a b c : ℕ) → max a b ≤ c → b ≤ c
    second a b c e = omega arith

pub end_out : (runs : List Run) (offset : ℕ) → runs_end runs ≤ offset → AllOut offset runs
end_out runs offset e = (ends_upto runs 0 offset e).1
