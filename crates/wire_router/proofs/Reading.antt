-- Options read one by one.
use Rattle.std.proofs.Common.{◌≡◌, ℕ, ◌<◌, List, [], ◌∷◌, ◌++◌, length, ap, ◌∙◌, arith}
use Rattle.wire_icmpv6.specs.NdiscOption.{OptionValue, Begins, option_bytes, options_bytes}
use Rattle.wire_router.specs.Options.{AreOptions, AreWhole}

-- an option before options
pub with_first : (bytes : List ℕ) (o : OptionValue) (rest : List ℕ) → Begins bytes o rest → AreOptions rest → AreOptions bytes
with_first bytes o rest begins are = (o ∷ are.0, begins.spelled ∙ ap (λ xs. option_bytes o ++ xs) are.1, (begins.is_option, are.2))

empty_length : (bytes : List ℕ) → bytes ≡ [] → length bytes ≡ 0
empty_length bytes none = ap length none

-- where there are bytes, options begin with one
pub first : (bytes : List ℕ) → 0 < length bytes → AreOptions bytes → (o : OptionValue) × (os : List OptionValue) × Begins bytes o (options_bytes os) × AreWhole os
first bytes some ([], none, whole) = absurd (omega (arith, some, empty_length bytes none))
first bytes some (o ∷ os, spelled, whole) = (o, os, record { is_option = whole.0; spelled = spelled }, whole.1)
