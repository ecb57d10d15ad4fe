-- Requests for one neighbour, which doesn't answer: words of a law.
use Rattle.std.specs.Prelude.{ℤ, pos, List, [], ◌∷◌}
use Rattle.ip_wire.specs.HardwareAddress.TheVariants as Hardware
use Rattle.ip_wire.specs.IpAddress.{IpAddress}
use Rattle.ip_wire.specs.IpAddress.TheVariants as Address
use Rattle.iface_tables.specs.Neighbor.{CacheValue, initial, requested}
use Rattle.iface_tables.specs.declared.neighbor.Neighbor.{Neighbor}

abbrev pub asked_at : IpAddress → List ℤ → CacheValue → CacheValue
asked_at address [] c = c
asked_at address (t ∷ ts) c = asked_at address ts (requested c address t)

-- 10.0.0.9
abbrev pub nobody : IpAddress
nobody = Address.Ipv4 (record { 0 = 10 ∷ 0 ∷ 0 ∷ 9 ∷ [] })

abbrev pub twice : CacheValue
twice = asked_at nobody (pos 0 ∷ pos 1_000_000 ∷ []) (initial 4)

abbrev pub thrice : CacheValue
thrice = asked_at nobody (pos 0 ∷ pos 1_000_000 ∷ pos 2_000_000 ∷ []) (initial 4)

-- it is there by now
abbrev pub answer : Neighbor
answer = record { protocol_addr = nobody; hardware_addr = Hardware.Ip; expires_at = pos 62_500_000 }
