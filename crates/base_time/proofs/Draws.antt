-- One draw of `draw_port`.
use Rattle.std.proofs.Common.{◌≡◌, ℕ, zero, suc, ◌-◌, ◌<◌, ◌≤◌, refl, arith}
use Rattle.base_time.specs.Rand.{next_state, half_word, draw_port}

pub draw_none : (n s : ℕ) → n ≤ 0 → draw_port n s ≡ record { port = 49152; state = s }
unfolding draw_port
draw_none zero s none = refl
draw_none (suc n) s none = absurd (omega arith)

pub draw_hit : (n s : ℕ) → 0 < n → 1024 < half_word (next_state s)
    → draw_port n s ≡ record { port = half_word (next_state s); state = next_state s }
unfolding draw_port
draw_hit zero s left hit = absurd (omega arith)
draw_hit (suc n) s left hit = grind (arith)

pub draw_miss : (n s : ℕ) → 0 < n → half_word (next_state s) ≤ 1024
    → draw_port n s ≡ draw_port (n - 1) (next_state s)
unfolding draw_port
draw_miss zero s left miss = absurd (omega arith)
draw_miss (suc n) s left miss = grind (arith)
