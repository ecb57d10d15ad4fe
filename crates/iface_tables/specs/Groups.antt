-- The multicast groups that a host listens to because its user joined them (RFC 1112, section 7.1), in the order in which they were joined.
use Rattle.std.specs.Prelude.{ℕ, nat_lt, Bool, ◌==◌, ◌&&◌, ◌||◌, not, if◌then◌else◌, List, [], ◌∷◌, ◌++◌, length, remove, replicate, Option, None, Some, position}
use Rattle.std.specs.List.{list_any}
use Rattle.std.specs.Str.{bytes_eq}
use Rattle.ip_wire.specs.AddressTests.{is_same_address, is_multicast}
use Rattle.ip_wire.specs.IpAddress.{IpAddress}
use Rattle.ip_wire.specs.IpAddress.TheVariants as Ip
use Rattle.ip_wire.specs.Ipv4Address.{Ipv4Address}
use Rattle.ip_wire.specs.Ipv6Address.{Ipv6Address}
use Rattle.iface_tables.specs.declared.groups.Group.{Group}
use Rattle.iface_tables.specs.declared.groups.MulticastError.{MulticastError}
use Rattle.iface_tables.specs.declared.groups.MulticastError.TheVariants as Error

-- how many groups can be joined
abbrev pub group_room : ℕ
group_room = 8

-- what stands in an unused place of the table
abbrev pub no_group : Group
no_group = record { addr = Ip.Ipv4 (record { 0 = replicate 4 0 }) }

-- 224.0.0.1
abbrev pub is_all_systems : Ipv4Address → Bool
is_all_systems a = bytes_eq a.0 (224 ∷ 0 ∷ 0 ∷ 1 ∷ [])

-- ff02::1
abbrev pub is_all_nodes : Ipv6Address → Bool
is_all_nodes a = bytes_eq a.0 (0xff ∷ 2 ∷ replicate 13 0 ++ 1 ∷ [])

-- the groups that every host listens to (RFC 1112, section 7.1; RFC 4291, section 2.8)
abbrev pub is_heard_by_all : IpAddress → Bool
is_heard_by_all (Ip.Ipv4 group) = is_all_systems group
is_heard_by_all (Ip.Ipv6 group) = is_all_nodes group

-- the groups that were joined, and how many may be
pub record GroupsValue : Type 0 where
  pub entries : List Group
  pub most : ℕ

abbrev pub no_groups : ℕ → GroupsValue
no_groups most = record { entries = []; most = most }

abbrev pub is_of : IpAddress → Group → Bool
is_of address group = is_same_address group.addr address

-- No address that is no group's is joined.
abbrev pub is_joined : GroupsValue → IpAddress → Bool
is_joined groups address = list_any (is_of address) groups.entries && is_multicast address

-- there is no room for another, or as many are joined as may be
abbrev pub is_full : GroupsValue → Bool
is_full groups = length groups.entries == group_room || not (nat_lt (length groups.entries) groups.most)

-- why a group isn't joined
abbrev pub join_refusal : GroupsValue → IpAddress → Option MulticastError
join_refusal groups address =
    if not (is_multicast address) then Some Error.Unaddressable
    else (if is_heard_by_all address then None
    else (if list_any (is_of address) groups.entries then None
    else (if is_full groups then Some Error.GroupTableFull else None)))

-- A group that is joined, or that every host listens to, isn't joined again.
abbrev pub joined : GroupsValue → IpAddress → GroupsValue
joined groups address =
    if is_heard_by_all address then groups
    else (if list_any (is_of address) groups.entries then groups
    else record groups { entries = groups.entries ++ record { addr = address } ∷ [] })

-- why a group isn't left
abbrev pub leave_refusal : IpAddress → Option MulticastError
leave_refusal address = if is_multicast address then None else Some Error.Unaddressable

abbrev pub without : Option ℕ → List Group → List Group
without None groups = groups
without (Some at) groups = remove groups at

-- One leave is enough, however often the group was joined.
abbrev pub left : GroupsValue → IpAddress → GroupsValue
left groups address = record groups { entries = without (position (is_of address) groups.entries) groups.entries }
