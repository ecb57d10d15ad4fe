-- A device that loses, changes and repeats frames: three devices one in the other.
use Rattle.std.specs.Prelude.{ℕ, ◌+◌, ◌%◌, ◌^◌, Option, None}
use Rattle.base_wrappers.specs.Course.{begun_at}
use Rattle.base_wrappers.specs.Drop.{DropperValue, fresh}
use Rattle.base_wrappers.specs.Corrupt.{CorrupterValue}
use Rattle.base_wrappers.specs.Duplicate.{DuplicatorValue}

abbrev pub FaultValue : Type 0 → Type 0
FaultValue D = DuplicatorValue (CorrupterValue (DropperValue D))

-- seeds that lie far from one another
abbrev pub seed_after : ℕ → ℕ
seed_after seed = (seed + 0x9e3779b97f4a7c15) % 2 ^ 64

module _ {D : Type 0} where
  -- nothing is harmed yet
  abbrev pub harmless : D → ℕ → ℕ → FaultValue D
  harmless inner seed room = record {
    inner = record {
      inner = record { inner = inner; state = fresh seed; room = room };
      chance = 0;
      course = begun_at (seed_after seed);
    };
    chance = 0;
    course = begun_at (seed_after (seed_after seed));
    waiting = None;
  }

  -- with another device for changes
  abbrev pub with_corrupter : CorrupterValue (DropperValue D) → FaultValue D → FaultValue D
  with_corrupter x w = record { inner = x; chance = w.chance; course = w.course; waiting = w.waiting }

  -- with another device for losses
  abbrev pub with_dropper : DropperValue D → FaultValue D → FaultValue D
  with_dropper x w = with_corrupter (record { inner = x; chance = w.inner.chance; course = w.inner.course }) w
