-- How much is kept and sent, whatever comes.
use Rattle.std.proofs.Common.{◌≡◌, ℕ, suc, ◌*◌, ◌<◌, ◌≤◌, Bool, true, false, List, [], ◌∷◌, length, Option, Some, None, refl, ◌∙◌, arith, inl, inr}
use Rattle.std.proofs.lemmas.Bool.{eqb-false}
use Rattle.std.proofs.lemmas.List.{length-map, length-set, length-append}
use Rattle.std.specs.Prelude.{◌==◌, ◌&&◌, not, is_none}
use Rattle.std.specs.List.{All, list_any}
use Rattle.net_base.specs.RandomWords.{next_state, word}
use Rattle.ip_wire.specs.Address.{address_bytes, IsIpAddress}
use Rattle.ip_wire.specs.AddressTests.{is_loopback_v6}
use Rattle.ip_wire.specs.Cidr.{cidr_address}
use Rattle.ip_wire.specs.IpAddress.{IpAddress}
use Rattle.ip_wire.specs.IpAddress.TheVariants as Ip
use Rattle.ip_wire.specs.IpCidr.{IpCidr}
use Rattle.iface_groups.specs.Member.{joined, absent, next_told}
use Rattle.iface_groups.specs.Querier.{mode_at}
use Rattle.iface_groups.specs.Table.{group_room, row_at, slot_of, entered_at}
use Rattle.iface_groups.specs.declared.mode.CompatibilityMode.{CompatibilityMode}
use Rattle.iface_groups.specs.declared.mode.CompatibilityMode.TheVariants as Mode
use Rattle.iface_groups.specs.declared.mode.Told.{Told}
use Rattle.iface_groups.specs.declared.mode.Told.TheVariants as Told_of
use Rattle.iface_groups.specs.declared.table.Row.{Row}
use Rattle.iface_groups.proofs.Members.{bool_is}
use Rattle.iface_tables.specs.Inner.{InnerValue}
use Rattle.iface_reports.specs.declared.heard.Heard.{Heard}
use Rattle.iface_reports.specs.declared.heard.Heard.TheVariants as Came
use Rattle.iface_reports.specs.Reports.{ReportsValue, micros, mode_in, mode_number, is_new, is_full_for, joined_by, is_stray, left_row, without_strays, solicited_node}
use Rattle.iface_reports.specs.Reports.{joined_for, joined_for_address, joined_for_all, has_link_local, told_anew, told_anew_row, followed, with_version, unqueried_unless, in_version}
use Rattle.iface_reports.specs.Reports.{reported_in, heard_row, after_hearing_if}
use Rattle.iface_reports.specs.Told.{is_due_in, record_of, record_in, records_in, report_by, report_at, told_by, told_row, after_report, single, is_leave, joint}
use Rattle.iface_reports.specs.Frames.{packet_len}
use Rattle.proof_reports.specs.Bounds.{HasAddress, IsBounded}

-- ROWS

entered_len : (slot : Option ℕ) (rows : List Row) (group : IpAddress) (now gap : ℕ) → length rows ≤ 24 → (is_none slot && (length rows == group_room)) ≡ false
    → length (entered_at slot rows group now gap) ≤ 24
entered_len (Some at) rows group now gap few room =
    omega (arith, few, length-set rows at (record { group = group; member = joined now gap (row_at rows at).member }))
entered_len None rows group now gap few room =
    let other : length rows ≡ 24 → ⊥ = eqb-false (length rows) 24 room in
    let less : length rows < 24 = below (length rows) few other in
    omega (arith, less, length-append rows (record { group = group; member = joined now gap absent } ∷ [])) where
      below : (n : ℕ) → n ≤ 24 → (n ≡ 24 → ⊥) → n < 24
      below n le other = grind (arith, le, other)

pub joined_few : (i : InnerValue) (group : IpAddress) (r : ReportsValue) → IsBounded r → IsBounded (joined_by i group r)
joined_few i group r few =
    elim (bool_is (is_new group r)) [
      | inl new ↦ rw new (elim (bool_is (is_full_for group r.rows)) [
        | inl full ↦ rw full few
        | inr room ↦ rw room (entered_len (slot_of r.rows group) r.rows group _ _ few room)
      ])
      | inr old ↦ rw old few
    ]

address_few : (i : InnerValue) (address : IpAddress) (r : ReportsValue) → IsBounded r → IsBounded (joined_for_address i address r)
address_few i (Ip.Ipv4 a) r few = few
address_few i (Ip.Ipv6 a) r few =
    elim (bool_is (is_loopback_v6 a)) [ inl hit ↦ rw hit few | inr miss ↦ rw miss (joined_few i (solicited_node a) r few) ]

all_few : (i : InnerValue) (blocks : List IpCidr) (r : ReportsValue) → IsBounded r → IsBounded (joined_for_all i blocks r)
all_few i [] r few = few
all_few i (b ∷ blocks) r few = all_few i blocks (joined_for i b r) (address_few i (cidr_address b) r few)

strays_len : (i : InnerValue) (r : ReportsValue) → length (without_strays i r).rows ≡ length r.rows
strays_len i r =
    elim (bool_is (list_any (is_stray i) r.rows)) [
      | inl hit ↦ rw hit (length-map r.rows (left_row i (mode_at (micros i) r.igmp) (mode_at (micros i) r.mld) (word (next_state r.random))))
      | inr miss ↦ rw miss refl
    ]

anew_len : (i : InnerValue) (r : ReportsValue) → length (told_anew i r).rows ≡ length r.rows
anew_len i r =
    elim (bool_is (has_link_local i && not r.link_local)) [
      | inl hit ↦ rw hit (length-map r.rows (told_anew_row (micros i)))
      | inr miss ↦ rw miss refl
    ]

pub followed_few : (i : InnerValue) (r : ReportsValue) → IsBounded r → IsBounded (followed i r)
followed_few i r few =
    let kept : IsBounded (without_strays i r) = omega (arith, few, strays_len i r) in
    let joins = all_few i i.addresses (without_strays i r) kept in
    omega (arith, joins, anew_len i (joined_for_all i i.addresses (without_strays i r)))

version_len : (i : InnerValue) (version : CompatibilityMode) (family : IpAddress) (r : ReportsValue) → length (with_version i version family r).rows ≡ length r.rows
version_len i version (Ip.Ipv4 a) r = refl
version_len i version (Ip.Ipv6 a) r = refl

unqueried_len : (same : Bool) (family : IpAddress) (r : ReportsValue) → length (unqueried_unless same family r).rows ≡ length r.rows
unqueried_len true family r = refl
unqueried_len false family r = length-map r.rows _

in_version_len : (i : InnerValue) (version : CompatibilityMode) (family : IpAddress) (r : ReportsValue) → length (in_version i version family r).rows ≡ length r.rows
in_version_len i version family r =
    unqueried_len (mode_number (mode_in i family r) == mode_number (mode_in i family (with_version i version family r))) family (with_version i version family r)
    ∙ version_len i version family r

reported_len : (mode : CompatibilityMode) (group : IpAddress) (r : ReportsValue) → length (reported_in mode group r).rows ≡ length r.rows
reported_len Mode.Igmpv1 group r = length-map r.rows (heard_row group)
reported_len Mode.Igmpv2 group r = length-map r.rows (heard_row group)
reported_len Mode.Igmpv3 group r = refl

pub heard_len : (i : InnerValue) (h : Option Heard) (r : ReportsValue) → length (after_hearing_if i h r).rows ≡ length r.rows
heard_len i None r = refl
heard_len i (Some (Came.Query version group longest)) r = length-map (in_version i version group r).rows _ ∙ in_version_len i version group r
heard_len i (Some (Came.Report group)) r = reported_len (mode_in i group r) group r

told_by_len : (mode : CompatibilityMode) (family : IpAddress) (now at : ℕ) (rows : List Row) → length (told_by mode family now at rows) ≡ length rows
told_by_len Mode.Igmpv1 family now at rows = length-set rows at _
told_by_len Mode.Igmpv2 family now at rows = length-set rows at _
told_by_len Mode.Igmpv3 family now at rows = length-map rows (told_row family now)

pub told_len : (i : InnerValue) (family : IpAddress) (at : ℕ) (r : ReportsValue) → length (after_report i family at r).rows ≡ length r.rows
told_len i family at r = told_by_len (mode_in i family r) family (micros i) at r.rows

-- REPORTS

address_len : (a : IpAddress) → IsIpAddress a → length (address_bytes a) ≤ 16
address_len (Ip.Ipv4 a) is = omega (arith, is.0)
address_len (Ip.Ipv6 a) is = omega (arith, is.0)

record_len : (told : Option Told) (group : IpAddress) → IsIpAddress group → length (record_of told group) ≤ 20
record_len None group is = omega arith
record_len (Some (Told_of.Record kind)) group is = omega (arith, address_len group is)
record_len (Some Told_of.Report) group is = omega arith
record_len (Some Told_of.Leave) group is = omega arith

row_len : (family : IpAddress) (now : ℕ) (row : Row) → HasAddress row → length (record_in family now row) ≤ 20
row_len family now row is =
    elim (bool_is (is_due_in family now row)) [
      | inl hit ↦ rw hit (record_len (next_told Mode.Igmpv3 now row.member) row.group is)
      | inr miss ↦ rw miss (omega arith)
    ]

records_len : (family : IpAddress) (now : ℕ) (rows : List Row) → All HasAddress rows → length (records_in family now rows) ≤ 20 * length rows
records_len family now [] all = omega arith
records_len family now (r ∷ rows) all =
    let here : HasAddress r = all 0 r (omega arith) in
    let others : All HasAddress rows = λ k d in_range. all (suc k) d (omega (arith, in_range)) in
    omega (arith, row_len family now r here, records_len family now rows others, length-append (record_in family now r) (records_in family now rows))

joint_len : (family : IpAddress) (size : ℕ) → size ≤ 480 → packet_len (joint family size) size ≤ 576
joint_len (Ip.Ipv4 a) size few = omega (arith, few)
joint_len (Ip.Ipv6 a) size few = omega (arith, few)

single_len : (mode : CompatibilityMode) (group : IpAddress) (leave : Bool) → packet_len (single mode group leave) 0 ≤ 576
single_len mode (Ip.Ipv4 a) true = omega arith
single_len mode (Ip.Ipv4 a) false = omega arith
single_len mode (Ip.Ipv6 a) true = omega arith
single_len mode (Ip.Ipv6 a) false = omega arith

by_len : (mode : CompatibilityMode) (family : IpAddress) (now : ℕ) (rows : List Row) (row : Row) → length rows ≤ 24 → All HasAddress rows
    → packet_len (report_by mode family now rows row).message (length (report_by mode family now rows row).records) ≤ 576
by_len Mode.Igmpv1 family now rows row few all = single_len Mode.Igmpv1 row.group (is_leave (next_told Mode.Igmpv1 now row.member))
by_len Mode.Igmpv2 family now rows row few all = single_len Mode.Igmpv2 row.group (is_leave (next_told Mode.Igmpv2 now row.member))
by_len Mode.Igmpv3 family now rows row few all =
    joint_len family (length (records_in family now rows)) (omega (arith, few, records_len family now rows all))

pub report_len : (i : InnerValue) (family : IpAddress) (r : ReportsValue) (at : ℕ) → IsBounded r → All HasAddress r.rows
    → packet_len (report_at i family r at).message (length (report_at i family r at).records) ≤ 576
report_len i family r at few all = by_len (mode_in i family r) family (micros i) r.rows (row_at r.rows at) few all
