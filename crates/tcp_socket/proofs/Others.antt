-- The two highest runs without an offset, as they are found one by one.
use Rattle.std.proofs.Common.{◌≡◌, ℕ, ◌&&◌, not, nat_le, nat_lt, Bool, true, false, if◌then◌else◌, List, [], ◌∷◌, ◌++◌, reverse, Option, Some, None, refl, sym}
use Rattle.std.proofs.Common.{ap, ◌∙◌, arith}
use Rattle.std.specs.Prelude.{filter}
use Rattle.std.proofs.lemmas.List.{reverse-append}
use Rattle.tcp_ranges.specs.OutOfOrder.{runs_of}
use Rattle.tcp_ranges.proofs.RunsOf.{runs_of-held}
use Rattle.net_base.specs.Ring.{Ring}
use Rattle.tcp_block.specs.Answers.{lies_in, others, first_two}
use Rattle.tcp_block.specs.Value.{Received}
use Rattle.tcp_socket.specs.Receive.{received, IsHeldBy}

-- the two highest of these runs and, below them, of two that were found before
abbrev pub told_after : ℕ → List (ℕ × ℕ) → Option (ℕ × ℕ) → Option (ℕ × ℕ) → List (Option (ℕ × ℕ))
told_after offset [] highest second = highest ∷ second ∷ []
told_after offset (run ∷ runs) highest second = if lies_in offset run then told_after offset runs highest second else told_after offset runs (Some run) highest

-- the same of any runs, the highest first
abbrev snd_max_two : List (ℕ × ℕ) → Option (ℕ × ℕ) → Option (ℕ × ℕ) → List (Option (ℕ × ℕ))
snd_max_two [] highest second = highest ∷ second ∷ []
snd_max_two (run ∷ []) highest second = Some run ∷ highest ∷ []
snd_max_two (run ∷ next ∷ runs) highest second = Some run ∷ Some next ∷ []

snd_max_push : (runs : List (ℕ × ℕ)) (run : ℕ × ℕ) (highest second : Option (ℕ × ℕ)) → snd_max_two (runs ++ (run ∷ [])) highest second ≡ snd_max_two runs (Some run) highest
snd_max_push [] run highest second = refl
snd_max_push (a ∷ []) run highest second = refl
snd_max_push (a ∷ b ∷ runs) run highest second = refl

snd_max_none : (runs : List (ℕ × ℕ)) → snd_max_two runs None None ≡ first_two runs
snd_max_none [] = refl
snd_max_none (a ∷ []) = refl
snd_max_none (a ∷ b ∷ runs) = refl

told_snd_max : (offset : ℕ) (runs : List (ℕ × ℕ)) (highest second : Option (ℕ × ℕ)) →
    told_after offset runs highest second ≡ snd_max_two (others offset runs) highest second
told_snd_max offset [] highest second = refl
told_snd_max offset (run ∷ runs) highest second = by_run (lies_in offset run) (told_snd_max offset runs highest second) (told_snd_max offset runs (Some run) highest) where
  rest : List (ℕ × ℕ)
  rest = filter (λ r. not (lies_in offset r)) runs

  by_run : (t : Bool) → told_after offset runs highest second ≡ snd_max_two (reverse rest) highest second
      → told_after offset runs (Some run) highest ≡ snd_max_two (reverse rest) (Some run) highest
      → (if t then told_after offset runs highest second else told_after offset runs (Some run) highest)
      ≡ snd_max_two (reverse (if not t then run ∷ rest else rest)) highest second
  by_run true met other = met
  by_run false met other =
      other ∙ sym (snd_max_push (reverse rest) run highest second)
      ∙ ap (λ (rs : List (ℕ × ℕ)). snd_max_two rs highest second) (sym (reverse-append (run ∷ []) rest))

pub told_is : (offset : ℕ) (runs : List (ℕ × ℕ)) → told_after offset runs None None ≡ first_two (others offset runs)
told_is offset runs = told_snd_max offset runs None None ∙ snd_max_none (others offset runs)

pub others_held : (r : Ring ℕ) (held : List (ℕ × ℕ)) (v : Received) (offset : ℕ) → received r held ≡ v → IsHeldBy r held
    → first_two (others offset held) ≡ first_two (others offset (runs_of v.map))
others_held r held v offset is by = rw (← is) (ap (λ rs. first_two (others offset rs)) (sym (runs_of-held held r.free by.runs by.ends)))
