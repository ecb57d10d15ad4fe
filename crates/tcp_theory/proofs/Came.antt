-- The first segments that a side sent, for runs on numerals.
use Rattle.std.proofs.Common.{◌≡◌, Some, slice_get}
use Rattle.tcp_theory.specs.Segment.{Segment}
use Rattle.tcp_theory.specs.Side.{Side}
use Rattle.tcp_theory.specs.Side.Phase.{Unopened, SynReceived, Synchronized}
use Rattle.tcp_theory.specs.Move.{Comes}

pub came_0 : (t : Side) (x : Segment) → slice_get t.sent 0 ≡ Some x → Comes t x
came_0 t x e = (0, e)

pub came_1 : (t : Side) (x : Segment) → slice_get t.sent 1 ≡ Some x → Comes t x
came_1 t x e = (1, e)

pub came_2 : (t : Side) (x : Segment) → slice_get t.sent 2 ≡ Some x → Comes t x
came_2 t x e = (2, e)

pub came_3 : (t : Side) (x : Segment) → slice_get t.sent 3 ≡ Some x → Comes t x
came_3 t x e = (3, e)

pub came_4 : (t : Side) (x : Segment) → slice_get t.sent 4 ≡ Some x → Comes t x
came_4 t x e = (4, e)

pub not_received : {P : Type 0} → Synchronized ≡ SynReceived → P
not_received e = absurd (cc)

pub not_unopened : {P : Type 0} → Synchronized ≡ Unopened → P
not_unopened e = absurd (cc)

-- what a run on numerals asks for, alongside what computes
pub ruleset came = (came_0, came_1, came_2, came_3, came_4, not_received, not_unopened)
