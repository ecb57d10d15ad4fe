-- A host that stays on its medium.
use Rattle.std.specs.List.{AllByRecursion}
use Rattle.iface_egress.specs.Inner.{InnerValue}
use Rattle.interface.specs.Delivered.{IsOfMedium}

-- the hardware addresses of the neighbours that a host knows are of its medium
abbrev pub KnowsItsMedium : InnerValue → Type 0
KnowsItsMedium i = AllByRecursion (λ n. IsOfMedium i.hardware n.hardware_addr) i.neighbors.entries
