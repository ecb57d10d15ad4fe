-- What a host tells of its multicast groups, as a value, and what joins, leaves, its addresses, queries and others' reports make of it.
use Rattle.std.specs.Prelude.{ℕ, ◌+◌, ◌-◌, ◌*◌, ◌%◌, ◌^◌, ◌≤◌, ◌==◌, ◌&&◌, ◌||◌, not, min, Bool, true, false, if◌then◌else◌, ℤ, pos, List, [], ◌∷◌, ◌++◌, length, map, drop, Option, None, Some, unsigned_abs, is_none}
use Rattle.std.specs.List.{list_any}
use Rattle.net_base.specs.RandomWords.{next_state, word}
use Rattle.ip_wire.specs.Address.{solicited_of}
use Rattle.ip_wire.specs.AddressTests.{is_same_address, is_unspecified, is_loopback_v6, is_link_local, are_of_one_family}
use Rattle.ip_wire.specs.Cidr.{cidr_address}
use Rattle.ip_wire.specs.Fields.{be32}
use Rattle.ip_wire.specs.IpAddress.{IpAddress}
use Rattle.ip_wire.specs.IpAddress.TheVariants as Ip
use Rattle.ip_wire.specs.IpCidr.{IpCidr}
use Rattle.ip_wire.specs.IpCidr.TheVariants as Cidr
use Rattle.ip_wire.specs.Ipv6Address.{Ipv6Address}
use Rattle.iface_groups.specs.Counts.{is_reported_v4, is_reported_v6}
use Rattle.iface_groups.specs.Member.{left_group, queried, heard}
use Rattle.iface_groups.specs.Querier.{mode_at, heard_query}
use Rattle.iface_groups.specs.Query.{answer_at}
use Rattle.iface_groups.specs.Table.{group_room, listens_to, slot_of, entered, unqueried, rows_due}
use Rattle.iface_groups.specs.declared.mode.CompatibilityMode.{CompatibilityMode}
use Rattle.iface_groups.specs.declared.mode.CompatibilityMode.TheVariants as Mode
use Rattle.iface_groups.specs.declared.querier.Querier.{Querier}
use Rattle.iface_groups.specs.declared.table.Row.{Row}
use Rattle.iface_tables.specs.Inner.{InnerValue, is_member_of}
use Rattle.iface_reports.specs.declared.heard.Heard.{Heard}
use Rattle.iface_reports.specs.declared.heard.Heard.TheVariants as Came

-- The groups of both families, each with what is to be told of it; the queriers that were heard; the state of the random words, which
-- nothing else draws from; and whether the host had a link-local address when it last looked at its own.
pub record ReportsValue : Type 0 where
  pub rows : List Row
  pub igmp : Querier
  pub mld : Querier
  pub random : ℕ
  pub link_local : Bool

abbrev pub no_querier : Querier
no_querier = record { igmpv1_until = 0; igmpv2_until = 0 }

-- before anything is joined or heard
abbrev pub fresh : ℕ → ReportsValue
fresh seed = record { rows = []; igmp = no_querier; mld = no_querier; random = seed; link_local = false }

-- the instant of the call in microseconds
abbrev pub micros : InnerValue → ℕ
micros i = unsigned_abs i.instant

-- the version in which the host tells in the family of this address
abbrev pub mode_in : InnerValue → IpAddress → ReportsValue → CompatibilityMode
mode_in i (Ip.Ipv4 a) r = mode_at (micros i) r.igmp
mode_in i (Ip.Ipv6 a) r = mode_at (micros i) r.mld

-- groups of which nothing is ever told: 224.0.0.1, ff02::1, and the scopes 0 and 1 (RFC 3376, section 5; RFC 3810, section 6)
abbrev pub is_reported : IpAddress → Bool
is_reported (Ip.Ipv4 group) = is_reported_v4 group
is_reported (Ip.Ipv6 group) = is_reported_v6 group

-- how long after the first report of a change the second goes, at most: a second (RFC 3376, section 8.11; RFC 3810, section 9.11), in
-- the older versions ten (RFC 2236, section 8.10; RFC 2710, section 7.10)
abbrev pub longest_gap : CompatibilityMode → ℕ
longest_gap Mode.Igmpv3 = 1_000_000
longest_gap _ = 10_000_000

abbrev pub gap_of : CompatibilityMode → ℕ → ℕ
gap_of mode drawn = 1 + drawn % longest_gap mode

-- JOINS AND LEAVES

-- no row is free, and there is no room for one more
abbrev pub is_full_for : IpAddress → List Row → Bool
is_full_for group rows = is_none (slot_of rows group) && (length rows == group_room)

-- what is told of a group that the host listens to already stays
abbrev pub is_new_in : IpAddress → List Row → Bool
is_new_in group rows = is_reported group && not (listens_to rows group)

abbrev pub is_new : IpAddress → ReportsValue → Bool
is_new group r = is_new_in group r.rows

-- there is no room to tell of it
abbrev pub is_refused : IpAddress → ReportsValue → Bool
is_refused group r = is_new group r && is_full_for group r.rows

abbrev pub with_group : InnerValue → IpAddress → ReportsValue → ReportsValue
with_group i group r =
    record r { rows = entered r.rows group (micros i) (gap_of (mode_in i group r) (word (next_state r.random))); random = next_state r.random }

-- a group that is joined is told at once, and after a gap once more
abbrev pub joined_by : InnerValue → IpAddress → ReportsValue → ReportsValue
joined_by i group r = if is_new group r then (if is_full_for group r.rows then r else with_group i group r) else r

-- the host doesn't listen to this row's group any more
abbrev pub is_stray : InnerValue → Row → Bool
is_stray i row = row.member.listens && not (is_member_of i row.group)

-- of two versions, that of the address's family
abbrev pub mode_of : CompatibilityMode → CompatibilityMode → IpAddress → CompatibilityMode
mode_of igmp mld (Ip.Ipv4 a) = igmp
mode_of igmp mld (Ip.Ipv6 a) = mld

abbrev pub left_by : CompatibilityMode → ℕ → ℕ → Row → Row
left_by mode now drawn row = record row { member = left_group mode now (gap_of mode drawn) row.member }

abbrev pub left_row : InnerValue → CompatibilityMode → CompatibilityMode → ℕ → Row → Row
left_row i igmp mld drawn row = if is_stray i row then left_by (mode_of igmp mld row.group) (micros i) drawn row else row

-- all groups that the host doesn't listen to any more are left
abbrev pub without_strays : InnerValue → ReportsValue → ReportsValue
without_strays i r =
    if list_any (is_stray i) r.rows
    then record r { rows = map (left_row i (mode_at (micros i) r.igmp) (mode_at (micros i) r.mld) (word (next_state r.random))) r.rows; random = next_state r.random }
    else r

-- OWN ADDRESSES

abbrev pub solicited_node : Ipv6Address → IpAddress
solicited_node address = Ip.Ipv6 (record { 0 = solicited_of address })

-- the group to which this address's solicitations go is joined (RFC 4861, section 7.2.1)
abbrev pub joined_for_address : InnerValue → IpAddress → ReportsValue → ReportsValue
joined_for_address i (Ip.Ipv4 a) r = r
joined_for_address i (Ip.Ipv6 a) r = if is_loopback_v6 a then r else joined_by i (solicited_node a) r

abbrev pub joined_for : InnerValue → IpCidr → ReportsValue → ReportsValue
joined_for i b r = joined_for_address i (cidr_address b) r

abbrev pub joined_for_all : InnerValue → List IpCidr → ReportsValue → ReportsValue
joined_for_all i [] r = r
joined_for_all i (b ∷ rest) r = joined_for_all i rest (joined_for i b r)

abbrev pub is_link_local_cidr : IpCidr → Bool
is_link_local_cidr (Cidr.Ipv4 b) = false
is_link_local_cidr (Cidr.Ipv6 b) = is_link_local b.address

abbrev pub has_link_local : InnerValue → Bool
has_link_local i = list_any is_link_local_cidr i.addresses

abbrev pub is_v6 : IpAddress → Bool
is_v6 (Ip.Ipv4 a) = false
is_v6 (Ip.Ipv6 a) = true

abbrev pub told_anew_row : ℕ → Row → Row
told_anew_row now row = if is_v6 row.group then record row { member = queried now row.member } else row

-- what went from `::` goes again once there is a link-local address (RFC 3590, section 4)
abbrev pub told_anew : InnerValue → ReportsValue → ReportsValue
told_anew i r =
    if has_link_local i && not r.link_local
    then record r { rows = map (told_anew_row (micros i)) r.rows; link_local = true }
    else record r { link_local = has_link_local i }

-- what is told follows the host's groups and addresses
abbrev pub followed : InnerValue → ReportsValue → ReportsValue
followed i r = told_anew i (joined_for_all i i.addresses (without_strays i r))

-- QUERIES AND OTHERS' REPORTS

-- a query of this group, or of all where it is unspecified, asks for that one
abbrev pub is_asked : IpAddress → IpAddress → Bool
is_asked group other = are_of_one_family group other && (is_unspecified group || is_same_address group other)

abbrev pub last_word : IpAddress → ℕ
last_word (Ip.Ipv4 a) = be32 a.0 0
last_word (Ip.Ipv6 a) = be32 a.0 12

-- In version 3 all groups are told of by one report (RFC 3376, section 5.2), in the older ones each at a moment of its own (RFC 2236,
-- section 3; RFC 2710, section 4): words of groups whose last 32 bits differ, differ.
abbrev pub word_for : CompatibilityMode → ℕ → IpAddress → ℕ
word_for Mode.Igmpv3 drawn group = drawn
word_for _ drawn group = (drawn + last_word group * 0x9e3779b1 % 2 ^ 32) % 2 ^ 32

abbrev pub answered_row : CompatibilityMode → ℕ → ℕ → ℕ → IpAddress → Row → Row
answered_row mode now longest drawn group row =
    if is_asked group row.group
    then record row { member = queried (answer_at now longest (word_for mode drawn row.group)) row.member }
    else row

abbrev pub with_version : InnerValue → CompatibilityMode → IpAddress → ReportsValue → ReportsValue
with_version i version (Ip.Ipv4 a) r = record r { igmp = heard_query version (micros i) r.igmp }
with_version i version (Ip.Ipv6 a) r = record r { mld = heard_query version (micros i) r.mld }

abbrev pub mode_number : CompatibilityMode → ℕ
mode_number Mode.Igmpv1 = 1
mode_number Mode.Igmpv2 = 2
mode_number Mode.Igmpv3 = 3

-- where the version changes no query is to be answered any more (RFC 3376, section 7.2.1; RFC 3810, section 8.2.1)
abbrev pub unqueried_unless : Bool → IpAddress → ReportsValue → ReportsValue
unqueried_unless true family r = r
unqueried_unless false family r = record r { rows = unqueried family r.rows }

abbrev pub in_version : InnerValue → CompatibilityMode → IpAddress → ReportsValue → ReportsValue
in_version i version family r =
    unqueried_unless (mode_number (mode_in i family r) == mode_number (mode_in i family (with_version i version family r))) family
    (with_version i version family r)

abbrev pub answered : InnerValue → IpAddress → ℕ → ReportsValue → ReportsValue
answered i group longest r =
    record r { rows = map (answered_row (mode_in i group r) (micros i) longest (word (next_state r.random)) group) r.rows; random = next_state r.random }

abbrev pub heard_row : IpAddress → Row → Row
heard_row group row = if is_same_address group row.group then record row { member = heard row.member } else row

-- another's report is the answer in the older versions alone (RFC 2236, section 3; RFC 2710, section 4)
abbrev pub reported_in : CompatibilityMode → IpAddress → ReportsValue → ReportsValue
reported_in Mode.Igmpv3 group r = r
reported_in _ group r = record r { rows = map (heard_row group) r.rows }

-- a query that counts, or another's report, came
abbrev pub after_hearing : InnerValue → Heard → ReportsValue → ReportsValue
after_hearing i (Came.Query version group longest) r = answered i group longest (in_version i version group r)
after_hearing i (Came.Report group) r = reported_in (mode_in i group r) group r

-- no query may take longer than a minute
abbrev pub IsShort : Heard → Type 0
IsShort (Came.Query version group longest) = longest ≤ 60_000_000
IsShort (Came.Report group) = Unit {0}

abbrev pub after_hearing_if : InnerValue → Option Heard → ReportsValue → ReportsValue
after_hearing_if i None r = r
after_hearing_if i (Some h) r = after_hearing i h r

-- WHEN

-- the last instant of 64 bits, past all moments
abbrev pub last_instant : ℕ
last_instant = 2 ^ 63 - 1

abbrev pub instant_of : Option ℕ → Option ℤ
instant_of None = None
instant_of (Some at) = Some (pos (min at last_instant))

-- when something is to be told next
abbrev pub reports_due : ReportsValue → Option ℤ
reports_due r = instant_of (rows_due r.rows)
