-- Steps of two hosts that stay, whose clocks never go back.
use Rattle.std.proofs.Common.{ℤ, ◌≤ℤ◌, Bool, true, false, if◌then◌else◌, List, [], ◌∷◌, ◌++◌, sym, subst, arith}
use Rattle.std.proofs.lemmas.Int.{ints}
use Rattle.net_base.specs.Time.{IsMoment}
use Rattle.iface_tables.specs.Inner.{InnerValue}
use Rattle.lan.specs.Worlds.AtLink.Kinds.{same_side}
use Rattle.lan.specs.Worlds.AtLink.Moves.{Step, after, run}
use Rattle.lan.specs.Worlds.AtLink.Parties.{Net}
use Rattle.lan.specs.Worlds.AtLink.Side.{Side}
use Rattle.lan.specs.Worlds.AtLink.Side.TheVariants.{A, B}
use Rattle.lan.proofs.Worlds.Moves.Held.{AreHeld, IsHeld}

-- one side's clock shows a later instant
abbrev pub raised : (Side → ℤ) → Side → ℤ → Side → ℤ
raised floors side t s = if same_side side s then t else floors s

-- each step is at an instant of its host that isn't before the last one, in which the host is as it was at first
abbrev pub AreAllHeld : (Side → InnerValue) → (Side → ℤ) → Net → List Step → (Side → ℤ) → Type 0
AreAllHeld firsts floors net [] ends = (s : Side) → floors s ≤ℤ ends s
AreAllHeld firsts floors net (step ∷ steps) ends =
    (t : ℤ) × IsMoment t × (floors step.side ≤ℤ t) × IsHeld (firsts step.side) t net step.side step.move
    × AreAllHeld firsts (raised floors step.side t) (after net step) steps ends

in_turn : (a b c : ℤ) → a ≤ℤ b → b ≤ℤ c → a ≤ℤ c
in_turn a b c one other = omega (arith, ints, one, other)

no_earlier : (t : ℤ) → t ≤ℤ t
no_earlier t = omega (arith, ints)

raised_up : (floors floors' : Side → ℤ) (side : Side) (t : ℤ) → ((s : Side) → floors s ≤ℤ floors' s) → (s : Side) →
    raised floors side t s ≤ℤ raised floors' side t s
raised_up floors floors' side t up s = by (same_side side s) where
  by : (b : Bool) → (if b then t else floors s) ≤ℤ (if b then t else floors' s)
  by true = no_earlier t
  by false = up s

raised_within : (floors ends : Side → ℤ) (side : Side) (t : ℤ) → t ≤ℤ ends side → ((s : Side) → floors s ≤ℤ ends s) → (s : Side) → raised floors side t s ≤ℤ ends s
raised_within floors ends A t here all A = here
raised_within floors ends A t here all B = all B
raised_within floors ends B t here all A = all A
raised_within floors ends B t here all B = here

raised_here : (floors : Side → ℤ) (side : Side) (t : ℤ) → raised floors side t side ≤ℤ t
raised_here floors A t = no_earlier t
raised_here floors B t = no_earlier t

module _ (firsts : Side → InnerValue) where
  lower : (floors floors' : Side → ℤ) (net : Net) (steps : List Step) (ends : Side → ℤ) → ((s : Side) → floors s ≤ℤ floors' s) →
      AreAllHeld firsts floors' net steps ends → AreAllHeld firsts floors net steps ends
  lower floors floors' net [] ends up held = λ s. in_turn (floors s) (floors' s) (ends s) (up s) (held s)
  lower floors floors' net (step ∷ steps) ends up (t, instant, later, held, rest) = (
    t,
    instant,
    in_turn (floors step.side) (floors' step.side) t (up step.side) later,
    held,
    lower (raised floors step.side t) (raised floors' step.side t) (after net step) steps ends (raised_up floors floors' step.side t up) rest,
  )

  pub all-append : (floors between : Side → ℤ) (net : Net) (steps more : List Step) (ends : Side → ℤ) → AreAllHeld firsts floors net steps between →
      AreAllHeld firsts between (run net steps) more ends → AreAllHeld firsts floors net (steps ++ more) ends
  all-append floors between net [] more ends first second = lower floors between net more ends first second
  all-append floors between net (step ∷ steps) more ends (t, instant, later, held, rest) second =
      (t, instant, later, held, all-append (raised floors step.side t) between (after net step) steps more ends rest second)

  -- a step that shows nothing, or shows the host at this instant
  pub one-held : (floors : Side → ℤ) (net : Net) (step : Step) (ends : Side → ℤ) (t : ℤ) → IsMoment t → floors step.side ≤ℤ t → t ≤ℤ ends step.side →
      ((s : Side) → floors s ≤ℤ ends s) → IsHeld (firsts step.side) t net step.side step.move → AreAllHeld firsts floors net (step ∷ []) ends
  one-held floors net step ends t instant later before all held = (t, instant, later, held, raised_within floors ends step.side t before all)

  -- the steps of one host at one instant
  module _ (side : Side) (t : ℤ) (instant : IsMoment t) (ends : Side → ℤ) (before : t ≤ℤ ends side) where
    pub all-at : (floors : Side → ℤ) (net : Net) (steps : List Step) → floors side ≤ℤ t → ((s : Side) → floors s ≤ℤ ends s) →
        AreHeld (firsts side) t side net steps → AreAllHeld firsts floors net steps ends
    all-at floors net [] later all held = all
    all-at floors net (step ∷ steps) later all held =
        let Goes : Side → Type 0 = λ x. (u : ℤ) × IsMoment u × (floors x ≤ℤ u) × IsHeld (firsts x) u net x step.move
        × AreAllHeld firsts (raised floors x u) (after net step) steps ends in
        subst Goes (sym held.0.0) (
          t,
          instant,
          later,
          held.0.1,
          all-at (raised floors side t) (after net step) steps (raised_here floors side t)
              (raised_within floors ends side t before all) held.1,
        )
