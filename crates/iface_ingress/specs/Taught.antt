-- What a host learns of its neighbours: words of the laws.
use Rattle.std.specs.Prelude.{◌≡◌, ◌⊎◌, ℕ, true, false, List, Option}
use Rattle.wire_icmpv6.specs.declared.ndisc_flags.NdiscNeighborFlags.{NdiscNeighborFlags}
use Rattle.ip_wire.specs.IpAddress.{IpAddress}
use Rattle.ip_wire.specs.IpAddress.TheVariants as Address
use Rattle.ip_wire.specs.Ipv6Address.{Ipv6Address}
use Rattle.iface_ingress.specs.Acquaintance.{knows, seeks}
use Rattle.iface_ingress.specs.Ndisc.{learned}
use Rattle.iface_tables.specs.Inner.{InnerValue}

-- the host asks for the neighbour, or knows it and is told to replace what it knows
abbrev pub IsForHost : InnerValue → NdiscNeighborFlags → IpAddress → Type 0
IsForHost i flags neighbor =
    ((knows i neighbor ≡ false) × (seeks i neighbor ≡ true)) ⊎ ((knows i neighbor ≡ true) × (flags.overrides ≡ true))

-- the host is as it was; or it keeps the target's link address, for which it asked, or which is to replace another
abbrev pub TellsOf : InnerValue → NdiscNeighborFlags → Ipv6Address → Option (List ℕ) → InnerValue → Type 0
TellsOf i flags target link i' =
    (i' ≡ i) ⊎ (IsForHost i flags (Address.Ipv6 target) × (i' ≡ learned i target link))
