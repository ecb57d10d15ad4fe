-- Options, one after the other (RFC 4861, section 4.6).
use Rattle.std.specs.Prelude.{◌≡◌, ℕ, List, [], ◌∷◌}
use Rattle.wire_icmpv6.specs.NdiscOption.{OptionValue, IsOption, options_bytes}
use Rattle.wire_router.specs.declared.options.OptionBytes.{OptionBytes}

-- the value of an option
abbrev pub value_of : OptionBytes → OptionValue
value_of o = record { kind = o.option_type; inside = o.inside.now }

abbrev pub AreWhole : List OptionValue → Type 0
AreWhole [] = Unit {0}
AreWhole (o ∷ os) = IsOption o × AreWhole os

-- the bytes are options to their end
abbrev pub AreOptions : List ℕ → Type 0
AreOptions bytes = (os : List OptionValue) × (bytes ≡ options_bytes os) × AreWhole os
