-- A joint history of two sides over a link that loses, repeats, delays and reorders what they send, and to which anyone adds resets.
use Rattle.std.specs.Prelude.{◌≡◌, ◌⊎◌, ℕ, List, [], ◌∷◌}
use Rattle.tcp_theory.specs.Segment.{Segment}
use Rattle.tcp_theory.specs.Segment.Control.{Rst}
use Rattle.tcp_theory.specs.Side.{Side}
use Rattle.tcp_theory.specs.Move.{May}
use Rattle.tcp_theory.specs.Move as machine
use Rattle.tcp_theory.specs.Alone.{unopened}
use Rattle.tcp_peer.specs.Run.{Scene, Event, happens, start}
use Rattle.tcp_peer.specs.Run.Event.{Comes, Does}

-- each side, with the segments that came for it
pub record Joint : Type 0 where
  pub a : Scene
  pub b : Scene

pub data Step : Type 0 where
  A : (event : Event) → Step
  B : (event : Event) → Step

-- the other side sent it before, or it is a reset
abbrev pub WasSent : Side → Segment → Type 0
WasSent t x = (x.control ≡ Rst) ⊎ machine.Comes t x

-- of what a peer is, a side sees only what comes; nothing is said of honesty
abbrev pub MayDo : Scene → Side → Event → Type 0
MayDo w t (Comes x) = WasSent t x
MayDo w t (Does move) = May w.side (unopened 0 w.came) move

abbrev pub MayStep : Joint → Step → Type 0
MayStep w (A event) = MayDo w.a w.b.side event
MayStep w (B event) = MayDo w.b w.a.side event

abbrev pub steps : Joint → Step → Joint
steps w (A event) = record w { a = happens w.a event }
steps w (B event) = record w { b = happens w.b event }

abbrev pub IsHistory : Joint → List Step → Type 0
IsHistory w [] = Unit {0}
IsHistory w (step ∷ rest) = MayStep w step × IsHistory (steps w step) rest

abbrev pub play : Joint → List Step → Joint
play w [] = w
play w (step ∷ rest) = play (steps w step) rest

-- two sides that aren't opened, with so much receive space and with resets that their hosts sent
abbrev pub begin : ℕ → ℕ → List Segment → List Segment → Joint
begin room_a room_b resets_a resets_b = record { a = start room_a resets_a; b = start room_b resets_b }
