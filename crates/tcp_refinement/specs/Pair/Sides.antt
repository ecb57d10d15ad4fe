-- The two sides of a pair.
use Rattle.tcp_refinement.specs.declared.pair.event.Side.{Side}
use Rattle.tcp_refinement.specs.declared.pair.event.Side.TheVariants.{A, B}

pub record Both (X : Type 0) : Type 0 where
  pub a : X
  pub b : X

abbrev pub other : Side → Side
other A = B
other B = A

abbrev pub at : {X : Type 0} → Both X → Side → X
at both A = both.a
at both B = both.b

abbrev pub put : {X : Type 0} → Both X → Side → X → Both X
put both A x = record both { a = x }
put both B x = record both { b = x }
