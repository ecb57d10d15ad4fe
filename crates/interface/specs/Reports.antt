-- What a host hears and tells of multicast groups, and when; nothing where it tells nothing of them.
use Rattle.std.specs.Prelude.{◌&&◌, ℕ, ℤ, Bool, false, if◌then◌else◌, List, Option, None, Some}
use Rattle.std.specs.List.{list_any}
use Rattle.ip_wire.specs.AddressTests.{is_multicast}
use Rattle.ip_wire.specs.IpAddress.{IpAddress}
use Rattle.ip_wire.specs.IpCidr.{IpCidr}
use Rattle.iface_reports.specs.Heard.{heard_in}
use Rattle.iface_reports.specs.Reports.{ReportsValue, after_hearing_if, followed, is_refused, joined_by, reports_due}
use Rattle.iface_tables.specs.Groups.{join_refusal, leave_refusal}
use Rattle.iface_tables.specs.Inner.{InnerValue}
use Rattle.iface_tables.specs.Settings.{is_stranger, with_addresses, with_group, without_group}
use Rattle.iface_tables.specs.declared.groups.MulticastError.{MulticastError}
use Rattle.iface_tables.specs.declared.groups.MulticastError.TheVariants as Error
use Rattle.interface.specs.Host.{HostValue}

-- FRAMES AND MOMENTS

-- a frame is heard
abbrev pub heard_if : InnerValue → List ℕ → Option ReportsValue → Option ReportsValue
heard_if i frame None = None
heard_if i frame (Some r) = Some (after_hearing_if i (heard_in i frame) r)

-- when something is to be told next
abbrev pub reports_at : Option ReportsValue → Option ℤ
reports_at None = None
reports_at (Some r) = reports_due r

-- JOINS AND LEAVES

-- there is no room to tell of this group
abbrev pub is_untold : IpAddress → Option ReportsValue → Bool
is_untold group None = false
is_untold group (Some r) = is_refused group r

-- why a group isn't joined
abbrev pub host_join_refusal : HostValue → IpAddress → Option MulticastError
host_join_refusal h group =
    if is_untold group h.reports && is_multicast group then Some Error.GroupTableFull else join_refusal h.inner.groups group

abbrev pub joined_if : InnerValue → IpAddress → Option ReportsValue → Option ReportsValue
joined_if i group None = None
joined_if i group (Some r) = Some (joined_by i group r)

abbrev pub unless_refused : Option MulticastError → HostValue → HostValue → HostValue
unless_refused None new old = new
unless_refused (Some e) new old = old

-- a host that listens to one group more, of which it tells
abbrev pub with_joined : HostValue → IpAddress → HostValue
with_joined h group =
    unless_refused (host_join_refusal h group)
    (record h { inner = with_group h.inner group; reports = joined_if (with_group h.inner group) group h.reports }) h

-- THE OTHERS

abbrev pub followed_if : InnerValue → Option ReportsValue → Option ReportsValue
followed_if i None = None
followed_if i (Some r) = Some (followed i r)

-- what is told follows groups and addresses
abbrev pub with_followed : HostValue → InnerValue → HostValue
with_followed h i = record h { inner = i; reports = followed_if i h.reports }

-- a host that listens to one group less
abbrev pub with_left : HostValue → IpAddress → HostValue
with_left h group = unless_refused (leave_refusal group) (with_followed h (without_group h.inner group)) h

-- one with other addresses, unless one of them is no host's
abbrev pub with_own_addresses : HostValue → List IpCidr → HostValue
with_own_addresses h blocks =
    if list_any is_stranger blocks then h else with_followed h (with_addresses h.inner blocks)
