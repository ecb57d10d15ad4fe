-- Which report is due, and what becomes of the groups of which it tells.
use Rattle.std.specs.Prelude.{◌≡◌, ℕ, ◌+◌, ◌*◌, ◌/◌, ◌==◌, ◌&&◌, not, Bool, true, false, if◌then◌else◌, List, [], ◌∷◌, ◌++◌, length, map, position, replicate, Option, None, Some}
use Rattle.ip_wire.specs.Address.{address_bytes}
use Rattle.ip_wire.specs.AddressTests.{are_of_one_family}
use Rattle.ip_wire.specs.IpAddress.{IpAddress}
use Rattle.ip_wire.specs.IpAddress.TheVariants as Ip
use Rattle.ip_wire.specs.Ipv4Address.{Ipv4Address}
use Rattle.ip_wire.specs.Ipv6Address.{Ipv6Address}
use Rattle.wire_igmp.specs.GroupRecord.{record_spelling}
use Rattle.wire_igmp.specs.declared.message.IgmpVersion.{IgmpVersion}
use Rattle.wire_igmp.specs.declared.message.IgmpVersion.TheVariants as Version
use Rattle.wire_igmp.specs.declared.repr.IgmpRepr.TheVariants as Igmp
use Rattle.wire_mld.specs.declared.repr.MldRepr.TheVariants as Mld
use Rattle.iface_groups.specs.Member.{after_told, next_told}
use Rattle.iface_groups.specs.Table.{row_at, is_row_due, told_at}
use Rattle.iface_groups.specs.declared.mode.CompatibilityMode.{CompatibilityMode}
use Rattle.iface_groups.specs.declared.mode.CompatibilityMode.TheVariants as Mode
use Rattle.iface_groups.specs.declared.mode.Told.{Told}
use Rattle.iface_groups.specs.declared.mode.Told.TheVariants as Told_of
use Rattle.iface_groups.specs.declared.table.Row.{Row}
use Rattle.iface_tables.specs.Inner.{InnerValue}
use Rattle.iface_reports.specs.Reports.{ReportsValue, micros, mode_in}
use Rattle.iface_reports.specs.declared.report.Message.{Message}
use Rattle.iface_reports.specs.declared.report.Message.TheVariants as To

-- 0.0.0.0 and ::, each of which names its family
abbrev pub no_v4 : Ipv4Address
no_v4 = record { 0 = replicate 4 0 }

abbrev pub no_v6 : Ipv6Address
no_v6 = record { 0 = replicate 16 0 }

abbrev pub v4_family : IpAddress
v4_family = Ip.Ipv4 no_v4

abbrev pub v6_family : IpAddress
v6_family = Ip.Ipv6 no_v6

-- a message to a group, and the records that it carries
pub record ReportValue : Type 0 where
  pub message : Message
  pub records : List ℕ

-- WHICH ROWS

-- something of a group of this family is to be told now
abbrev pub is_due_in : IpAddress → ℕ → Row → Bool
is_due_in family now row = are_of_one_family family row.group && is_row_due now row

-- the first of them
abbrev pub first_due : IpAddress → ℕ → List Row → Option ℕ
first_due family now rows = position (is_due_in family now) rows

-- RECORDS

-- what a member tells in version 3, as a record of its group
abbrev pub record_of : Option Told → IpAddress → List ℕ
record_of (Some (Told_of.Record kind)) group = record_spelling kind (address_bytes group)
record_of _ group = []

abbrev pub record_in : IpAddress → ℕ → Row → List ℕ
record_in family now row = if is_due_in family now row then record_of (next_told Mode.Igmpv3 now row.member) row.group else []

-- of each row that is due, one after the other
abbrev pub records_in : IpAddress → ℕ → List Row → List ℕ
records_in family now [] = []
records_in family now (row ∷ rest) = record_in family now row ++ records_in family now rest

-- REPORTS

-- 224.0.0.22 and 224.0.0.2 (RFC 3376, section 4.2.14; RFC 2236, section 9)
abbrev pub all_igmpv3_routers : Ipv4Address
all_igmpv3_routers = record { 0 = 224 ∷ 0 ∷ 0 ∷ 22 ∷ [] }

abbrev pub all_routers_v4 : Ipv4Address
all_routers_v4 = record { 0 = 224 ∷ 0 ∷ 0 ∷ 2 ∷ [] }

-- ff02::16 and ff02::2 (RFC 3810, section 5.2.14; RFC 2710, section 5)
abbrev pub all_mldv2_routers : Ipv6Address
all_mldv2_routers = record { 0 = 0xff ∷ 2 ∷ replicate 13 0 ++ 0x16 ∷ [] }

abbrev pub all_routers_v6 : Ipv6Address
all_routers_v6 = record { 0 = 0xff ∷ 2 ∷ replicate 13 0 ++ 2 ∷ [] }

abbrev pub is_leave : Option Told → Bool
is_leave (Some Told_of.Leave) = true
is_leave _ = false

abbrev pub report_version : CompatibilityMode → IgmpVersion
report_version Mode.Igmpv1 = Version.Version1
report_version _ = Version.Version2

-- version 1 and 2 tell of one group, to that group, or to all routers where it is left
abbrev pub single_v4 : CompatibilityMode → Ipv4Address → Bool → Message
single_v4 mode group true = To.Igmp all_routers_v4 (Igmp.LeaveGroup group)
single_v4 mode group false = To.Igmp group (Igmp.MembershipReport group (report_version mode))

abbrev pub single_v6 : Ipv6Address → Bool → Message
single_v6 group true = To.Mld all_routers_v6 (Mld.Done group)
single_v6 group false = To.Mld group (Mld.ReportV1 group)

abbrev pub single : CompatibilityMode → IpAddress → Bool → Message
single mode (Ip.Ipv4 group) leave = single_v4 mode group leave
single mode (Ip.Ipv6 group) leave = single_v6 group leave

-- version 3 of IGMP and version 2 of MLD tell of all groups in one report
abbrev pub joint : IpAddress → ℕ → Message
joint (Ip.Ipv4 a) size = To.Igmp all_igmpv3_routers (Igmp.MembershipReportV3 (size / 8))
joint (Ip.Ipv6 a) size = To.Mld all_mldv2_routers (Mld.Report (size / 20))

abbrev pub report_by : CompatibilityMode → IpAddress → ℕ → List Row → Row → ReportValue
report_by Mode.Igmpv3 family now rows row =
    record { message = joint family (length (records_in family now rows)); records = records_in family now rows }
report_by mode family now rows row = record { message = single mode row.group (is_leave (next_told mode now row.member)); records = [] }

-- the report that is due in this family, of which the row at this place is the first to be told
abbrev pub report_at : InnerValue → IpAddress → ReportsValue → ℕ → ReportValue
report_at i family r at = report_by (mode_in i family r) family (micros i) r.rows (row_at r.rows at)

-- AFTERWARDS

abbrev pub told_row : IpAddress → ℕ → Row → Row
told_row family now row = if is_due_in family now row then record row { member = after_told now row.member } else row

abbrev pub told_by : CompatibilityMode → IpAddress → ℕ → ℕ → List Row → List Row
told_by Mode.Igmpv3 family now at rows = map (told_row family now) rows
told_by _ family now at rows = told_at rows at now

-- all rows of a report of version 3 were told, in the older versions the one
abbrev pub after_report : InnerValue → IpAddress → ℕ → ReportsValue → ReportsValue
after_report i family at r = record r { rows = told_by (mode_in i family r) family (micros i) at r.rows }
