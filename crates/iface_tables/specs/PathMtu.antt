-- What a host knows of paths, as a value: how long a packet to a destination may be, as messages from the way there told (RFC 8201,
-- sections 4 and 5.3; RFC 1191, sections 3 and 6.3).
use Rattle.std.specs.Prelude.{ℕ, ◌+◌, ℤ, pos, ◌+ℤ◌, int_lt, Bool, nat_lt, min, max, if◌then◌else◌, List, [], ◌∷◌, ◌++◌, length, slice_set, remove}
use Rattle.std.specs.Prelude.{replicate, Option, None, Some, position}
use Rattle.std.specs.List.{list_any}
use Rattle.ip_wire.specs.IpAddress.{IpAddress}
use Rattle.ip_wire.specs.IpAddress.TheVariants as Address
use Rattle.ip_wire.specs.AddressTests.{is_same_address}
use Rattle.iface_tables.specs.Best.{at_index, index_of_first_best}
use Rattle.iface_tables.specs.declared.path_mtu.Path.{Path}

-- of how many destinations a host keeps this
abbrev pub path_room : ℕ
path_room = 8

-- how long what was told counts: ten minutes, in microseconds
abbrev pub path_time : ℕ
path_time = 600_000_000

-- No path is taken to carry less: every link of IPv6 carries 1280 bytes (RFC 8200, section 5), and every host of IPv4 takes 576
-- (RFC 791, section 3.1).
abbrev pub least_mtu : IpAddress → ℕ
least_mtu (Address.Ipv4 a) = 576
least_mtu (Address.Ipv6 a) = 1280

-- what stands in an unused place of the table
abbrev pub no_path : Path
no_path = record { destination = Address.Ipv4 (record { 0 = replicate 4 0 }); told = 0; until = pos 0 }

-- HOW LONG A PACKET MAY BE

abbrev pub leads_to : IpAddress → Path → Bool
leads_to address p = is_same_address p.destination address

-- where the entry of a destination stands
abbrev pub path_index_of : List Path → IpAddress → Option ℕ
path_index_of paths address = position (leads_to address) paths

abbrev pub path_to : List Path → IpAddress → Option Path
path_to paths address = at_index (path_index_of paths address) paths

-- a frame carries `whole` bytes, and the path as many as was told of it, but never less than the least
abbrev pub narrowed : IpAddress → (told whole : ℕ) → ℕ
narrowed address told whole = min whole (max (least_mtu address) told)

-- what was told counts until its end
abbrev pub mtu_by : Option Path → IpAddress → ℤ → ℕ → ℕ
mtu_by None address now whole = whole
mtu_by (Some p) address now whole = if int_lt now p.until then narrowed address p.told whole else whole

unfoldable pub mtu_towards : List Path → IpAddress → ℤ → ℕ → ℕ
mtu_towards paths address now whole = mtu_by (path_to paths address) address now whole

-- when what is known of a path ends, if something is
abbrev pub end_by : Option Path → ℤ → Option ℤ
end_by None now = None
end_by (Some p) now = if int_lt now p.until then Some p.until else None

unfoldable pub end_towards : List Path → IpAddress → ℤ → Option ℤ
end_towards paths address now = end_by (path_to paths address) now

-- what was told of a path counts
abbrev pub counts : ℤ → Path → Bool
counts now p = int_lt now p.until

-- so it is of some path
abbrev pub some_count : List Path → ℤ → Bool
some_count paths now = list_any (counts now) paths

-- WHAT A MESSAGE CHANGES

abbrev pub ends_before : Path → Path → Bool
ends_before a b = int_lt a.until b.until

-- where the entry stands that makes room: the first of those than which none ends before
abbrev pub victim : List Path → ℕ
victim paths = index_of_first_best ends_before paths

-- An entry of the destination is replaced where it stands. Else the new one comes last, and in a full table the victim goes.
abbrev pub entered_at : Option ℕ → List Path → Path → List Path
entered_at (Some at) paths new = slice_set paths at new
entered_at None paths new =
    if nat_lt (length paths) path_room then paths ++ new ∷ [] else remove paths (victim paths) ++ new ∷ []

abbrev pub entered : List Path → Path → List Path
entered paths new = entered_at (path_index_of paths new.destination) paths new

abbrev pub heard_of : IpAddress → ℕ → ℤ → Path
heard_of address told now = record { destination = address; told = told; until = now +ℤ pos path_time }

-- a message tells that the path carries less than was known: nothing else that it tells counts
abbrev pub is_news : List Path → IpAddress → ℕ → ℤ → ℕ → Bool
is_news paths address told now whole = nat_lt (narrowed address told whole) (mtu_towards paths address now whole)

-- the table after a message that tells this of a destination, now
unfoldable pub lowered : List Path → IpAddress → ℕ → ℤ → ℕ → List Path
lowered paths address told now whole =
    if is_news paths address told now whole then entered paths (heard_of address told now) else paths
