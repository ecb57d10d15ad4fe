-- What hints at reordering raises the reordering window alone.
use Rattle.std.proofs.Common.{◌≡◌, ℕ, ◌+◌, ◌≤◌, ◌==◌, not, ◌&&◌, min, ℤ, int_lt, ◌<ℤ◌, ◌≤ℤ◌, Bool, true, false, if◌then◌else◌, Option, Some}
use Rattle.std.proofs.Common.{refl, ap, ◌∙◌, arith}
use Rattle.std.proofs.lemmas.Bool.{cond_both}
use Rattle.tcp_state.specs.Scoreboard.{is_empty}
use Rattle.tcp_block.specs.Undone.{hints_reordering, is_sooner, precedes_answer, reo_wnd_raised, reordering_hinted}
use Rattle.tcp_block.specs.declared.tcb.Tcb.{Tcb}
use Rattle.tcp_block.specs.declared.tcb.Undo.{Undo}

never : (a : Bool) → (a && false) ≡ false
never true = refl
never false = refl

module _ (b : Tcb) (by : ℕ) (now : ℤ) where
  abbrev hinted : Bool → Tcb
  hinted t = record b { loss = record b.loss { reo_wnd_mult = if t then reo_wnd_raised b.loss else b.loss.reo_wnd_mult } }

  pub hint_alone : reordering_hinted b by now ≡ record b { loss = record b.loss { reo_wnd_mult = (reordering_hinted b by now).loss.reo_wnd_mult } }
  hint_alone = refl

  pub hint_within : b.loss.reo_wnd_mult ≤ 16
      → (b.loss.reo_wnd_mult ≤ (reordering_hinted b by now).loss.reo_wnd_mult) × ((reordering_hinted b by now).loss.reo_wnd_mult ≤ 16)
  hint_within most =
      cond_both (hints_reordering b by now) (reo_wnd_raised b.loss) b.loss.reo_wnd_mult (λ (n : ℕ). (b.loss.reo_wnd_mult ≤ n) × (n ≤ 16))
      (λ _. (up b.loss.reo_wnd_mult most, high b.loss.reo_wnd_mult)) (λ _. (same b.loss.reo_wnd_mult, most))
    where
      up : (n : ℕ) → n ≤ 16 → n ≤ min n 15 + 1
      up n most = omega arith

      high : (n : ℕ) → min n 15 + 1 ≤ 16
      high n = omega arith

      same : (n : ℕ) → n ≤ n
      same n = omega arith

  pub hint_outside : b.reno.recovers ≡ false → reordering_hinted b by now ≡ b
  hint_outside outside =
      ap hinted (ap (λ (t : Bool). not (by == 0) && ((t && not (is_empty b.loss.board.runs)) && precedes_answer b.loss.undo now)) outside
      ∙ never (not (by == 0)))

  pub hint_empty : is_empty b.loss.board.runs ≡ true → reordering_hinted b by now ≡ b
  hint_empty empty =
      ap hinted (ap (λ (t : Bool). not (by == 0) && ((b.reno.recovers && not t) && precedes_answer b.loss.undo now)) empty
      ∙ none (not (by == 0)) b.reno.recovers)
    where
      none : (a r : Bool) → (a && ((r && false) && precedes_answer b.loss.undo now)) ≡ false
      none true true = refl
      none true false = refl
      none false r = refl

  module _ (u : Undo) (instant : ℤ) (kept : b.loss.undo ≡ Some u) (from : u.answers_from ≡ Some instant) where
    precedes : precedes_answer b.loss.undo now ≡ int_lt now instant
    precedes = ap (λ (o : Option Undo). precedes_answer o now) kept ∙ ap (is_sooner now) from

    pub hint_late : instant ≤ℤ now → reordering_hinted b by now ≡ b
    hint_late late = ap hinted (none (not (by == 0)) (b.reno.recovers && not (is_empty b.loss.board.runs)) _ (precedes ∙ not_less late)) where
      none : (a c p : Bool) → p ≡ false → (a && (c && p)) ≡ false
      none true true p e = e
      none true false p e = refl
      none false c p e = refl

      not_less : instant ≤ℤ now → int_lt now instant ≡ false
      not_less e = grind arith

    pub hint_raises : (by == 0) ≡ false → b.reno.recovers ≡ true → is_empty b.loss.board.runs ≡ false → now <ℤ instant
        → (reordering_hinted b by now).loss.reo_wnd_mult ≡ min b.loss.reo_wnd_mult 15 + 1
    hint_raises new recovers held soon =
        ap (λ (t : Bool). (hinted t).loss.reo_wnd_mult) (all (by == 0) b.reno.recovers (is_empty b.loss.board.runs) _ new recovers held (precedes ∙ less soon))
      where
        all : (z r e p : Bool) → z ≡ false → r ≡ true → e ≡ false → p ≡ true → (not z && ((r && not e) && p)) ≡ true
        all z r e p is_z is_r is_e is_p = cc

        less : now <ℤ instant → int_lt now instant ≡ true
        less e = grind arith
