-- Which groups are told of, and which queries count.
use Rattle.std.specs.Prelude.{ℕ, Bool, ◌%◌, ◌==◌, ◌&&◌, ◌||◌, not, nat_lt, nat_le, List, [], ◌∷◌, ◌++◌, replicate, slice_index}
use Rattle.std.specs.Str.{bytes_eq}
use Rattle.wire_address.specs.AddressTests.{is_multicast_v4, is_multicast_v6, is_unspecified_v4, is_unspecified_v6, is_link_local}
use Rattle.wire_address.specs.declared.ipv4.Ipv4Address.{Ipv4Address}
use Rattle.wire_address.specs.declared.ipv6.Ipv6Address.{Ipv6Address}

-- 224.0.0.1
abbrev pub all_systems : List ℕ
all_systems = 224 ∷ 0 ∷ 0 ∷ 1 ∷ []

-- ff02::1
abbrev pub all_nodes : List ℕ
all_nodes = 0xff ∷ 2 ∷ (replicate 13 0 ++ 1 ∷ [])

-- all groups are told of but 224.0.0.1 (RFC 3376, section 5)
abbrev pub is_reported_v4 : Ipv4Address → Bool
is_reported_v4 group = is_multicast_v4 group && not (bytes_eq group.0 all_systems)

-- all groups are told of but ff02::1 and those of the scopes 0 and 1 (RFC 3810, section 6)
abbrev pub is_reported_v6 : Ipv6Address → Bool
is_reported_v6 group = is_multicast_v6 group && nat_le 2 (slice_index group.0 1 % 16) && not (bytes_eq group.0 all_nodes)

-- a query of IGMP counts that comes from one host's address, not an own one, and goes to an own address, to all systems, or
-- to the group that it asks for; one of all groups asks for 0.0.0.0 (RFC 3376, sections 4.1.12 and 9.1)
abbrev pub counts_v4 : Ipv4Address → Ipv4Address → Ipv4Address → Bool → Bool → Bool
counts_v4 source destination group own_source own_destination =
    (not own_source && nat_lt (slice_index source.0 0) 224)
    && ((own_destination || bytes_eq destination.0 all_systems) || (not (is_unspecified_v4 group) && bytes_eq destination.0 group.0))

-- a query of MLD counts that comes from another node's link-local address with hop limit 1 and a router alert, and goes to an
-- own address, to all nodes, or to the group that it asks for (RFC 3810, sections 5.1.14, 5.1.15 and 6.2)
abbrev pub counts_v6 : Ipv6Address → Ipv6Address → Ipv6Address → ℕ → Bool → Bool → Bool → Bool
counts_v6 source destination group hop_limit alert own_source own_destination =
    ((not own_source && is_link_local source) && (hop_limit == 1 && alert))
    && ((own_destination || bytes_eq destination.0 all_nodes) || (not (is_unspecified_v6 group) && bytes_eq destination.0 group.0))
