-- How many frames go in an interval.
use Rattle.std.specs.Prelude.{◌≡◌, refl, ℕ, ◌-◌, ◌^◌, ◌==◌, ◌||◌, ℤ, pos, ◌+ℤ◌, int_le, nat_lt, Bool, true, Option, None, Some, if◌then◌else◌}
use Rattle.std.specs.Coded.{Coded, code_by, coded×, coded_ℕ, coded_ℤ, coded_option}

-- when the interval began that runs, if one was begun, and how many frames more may go in it
pub record Level : Type 0 where
  pub begun : Option ℤ
  pub left : ℕ

abbrev pub level_code : Coded Level
level_code =
    code_by (Option ℤ × ℕ) (coded× (coded_option coded_ℤ) coded_ℕ) (λ b. (b.begun, b.left)) (λ p. record { begun = p.0; left = p.1 }) (λ _. refl)

-- no interval was begun
abbrev pub unbegun : Level
unbegun = record { begun = None; left = 0 }

-- whether the interval is over
abbrev pub is_over : ℕ → Option ℤ → ℤ → Bool
is_over interval None t = true
is_over interval (Some begun) t = int_le (begun +ℤ pos interval) t

-- at this instant: a frame begins a new interval where the last one is over
abbrev pub refilled : ℕ → ℕ → ℤ → Level → Level
refilled rate interval t b = if is_over interval b.begun t then record { begun = Some t; left = rate } else b

-- whether a frame may go: a rate of 0 stands for no limit
abbrev pub lets : ℕ → ℕ → ℤ → Level → Bool
lets rate interval t b = (rate == 0) || nat_lt 0 (refilled rate interval t b).left

abbrev pub one_less : Level → Level
one_less b = record { begun = b.begun; left = b.left - 1 }

-- what is left behind a frame, whether it went or not
abbrev pub spent : ℕ → ℕ → ℤ → Level → Level
spent rate interval t b = if rate == 0 then b else one_less (refilled rate interval t b)

-- the end of the interval that runs, if an instant can hold it
abbrev pub end_of : ℕ → Option ℤ → Option ℤ
end_of interval None = None
end_of interval (Some begun) =
    if int_le (begun +ℤ pos interval) (pos (2 ^ 63 - 1)) then Some (begun +ℤ pos interval) else None

-- when a frame may go again, where none may go before
abbrev pub lets_at : ℕ → ℕ → Level → Option ℤ
lets_at rate interval b = if (rate == 0) || nat_lt 0 b.left then None else end_of interval b.begun
