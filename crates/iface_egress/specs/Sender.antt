-- What sends.
use Rattle.std.specs.Prelude.{Option}
use Rattle.iface_tables.specs.Inner.{InnerValue}
use Rattle.iface_egress.specs.Fragments.{LeftValue}

-- a host at a device, and the datagram that is half sent
pub record Sender (D : Type 0) : Type 0 where
  pub device : D
  pub inner : InnerValue
  pub left : Option LeftValue

abbrev pub sender : {D : Type 0} → D → InnerValue → Option LeftValue → Sender D
sender device inner left = record { device = device; inner = inner; left = left }
