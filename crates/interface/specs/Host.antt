-- A host as a value, but for its sockets.
use Rattle.std.specs.Prelude.{ℕ, ℤ, List, Option}
use Rattle.iface_tables.specs.declared.key.FragKey.{FragKey}
use Rattle.iface_tables.specs.Inner.{InnerValue, at_instant}
use Rattle.iface_tables.specs.Reassembly.{AssemblerValue}
use Rattle.iface_tables.specs.Assemblers.{without_expired}
use Rattle.iface_egress.specs.Fragments.{LeftValue}
pub use Rattle.iface_reports.specs.Reports.{ReportsValue}
pub use Rattle.iface_egress.specs.Sender.{Sender, sender}

-- Its addresses and tables; the datagram that is half sent; what came of datagrams in fragments, and how long such a datagram is
-- waited for; and what is to be told of multicast groups, where anything is.
pub record HostValue : Type 0 where
  pub inner : InnerValue
  pub left : Option LeftValue
  pub assemblers : List (AssemblerValue FragKey)
  pub timeout : ℕ
  pub reports : Option ReportsValue

-- a call that polls begins at an instant
abbrev pub host_at : ℤ → HostValue → HostValue
host_at instant h = record h { inner = at_instant instant h.inner }

-- maintenance: slots whose instant has passed are given up
abbrev pub maintained : ℤ → HostValue → HostValue
maintained instant h = record h { inner = at_instant instant h.inner; assemblers = without_expired h.assemblers instant }
