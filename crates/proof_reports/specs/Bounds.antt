-- How much there is of what a host tells.
use Rattle.std.specs.Prelude.{ℕ, ◌≤◌, length}
use Rattle.ip_wire.specs.Address.{IsIpAddress}
use Rattle.iface_groups.specs.declared.table.Row.{Row}
use Rattle.iface_reports.specs.Reports.{ReportsValue}

-- the most rows that a host keeps
abbrev pub most_rows : ℕ
most_rows = 24

abbrev pub IsBounded : ReportsValue → Type 0
IsBounded r = length r.rows ≤ most_rows

-- its group is an address: four bytes, or sixteen
abbrev pub HasAddress : Row → Type 0
HasAddress row = IsIpAddress row.group
