-- A side whose peer isn't opened.
use Rattle.std.specs.Prelude.{◌≡◌, ℕ, false, List, []}
use Rattle.std.specs.List.{AllByRecursion}
use Rattle.tcp_theory.specs.Segment.{Segment}
use Rattle.tcp_theory.specs.Segment.Control.{Rst}
use Rattle.tcp_theory.specs.Side.{Side, taken_in, freed, initial}

-- nothing was read or waits, nothing was freed, and the stream to it isn't finished
pub record HasNothing (s : Side) : Type 0 where
  pub read : taken_in s ≡ []
  pub freed : freed s ≡ 0
  pub unfinished : s.took_fin ≡ false

abbrev pub AreResets : List Segment → Type 0
AreResets segments = AllByRecursion (λ x. x.control ≡ Rst) segments

-- a side that isn't opened, with so much receive space, and with resets that its host sent
abbrev pub unopened : ℕ → List Segment → Side
unopened capacity resets = record (initial capacity) { sent = resets }
