-- What a value ends as, once a reference into it has ended.
use Rattle.std.specs.Prelude.{◌≡◌, ⊤}
use Rattle.std.specs.Borrow.{Fml, RattleType, MutBor, follows_so}
use mathlib.Core.Option.{none}

-- the lender ends as this
abbrev pub EndsAs : (R : RattleType) → MutBor R.Denot → R.Denot → Fml
EndsAs R b last = follows_so R R b.ghost_name none (λ _ _. ⊤) (λ n. n ≡ last)
