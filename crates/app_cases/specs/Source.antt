-- Where the host sends from.
use Rattle.std.specs.Prelude.{ℕ, Option, Some, List, [], ◌∷◌}
use Rattle.ip_wire.specs.IpAddress.{IpAddress}
use Rattle.ip_wire.specs.IpAddress.TheVariants.{Ipv4, Ipv6}

-- one address for each family
abbrev pub source_for : IpAddress → Option IpAddress
source_for (Ipv4 a) = Some (Ipv4 (record { 0 = 10 ∷ 7 ∷ 0 ∷ 69 ∷ [] }))
source_for (Ipv6 a) = Some (Ipv6 (record { 0 = 253 ∷ 0 ∷ 0 ∷ 0 ∷ 0 ∷ 0 ∷ 0 ∷ 0 ∷ 0 ∷ 0 ∷ 0 ∷ 0 ∷ 0 ∷ 0 ∷ 0 ∷ 69 ∷ [] }))
