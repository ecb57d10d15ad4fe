-- The groups that a host listens to, or of which it has still to tell that it left, each with what is to be told of it.
use Rattle.std.specs.Prelude.{◌≡◌, ℕ, ◌==◌, ◌&&◌, not, min, Bool, if◌then◌else◌, List, [], ◌∷◌, ◌++◌, length, map, fold, slice_index_or, slice_set, position, replicate, Option, Some, None}
use Rattle.wire_address.specs.AddressTests.{is_same_address}
use Rattle.wire_address.specs.declared.ip.IpAddress.{IpAddress}
use Rattle.wire_address.specs.declared.ip.IpAddress.TheVariants as Ip
use Rattle.socket_context.specs.Addresses.{are_of_one_family}
use Rattle.iface_groups.specs.Member.{absent, joined, left_group, queried, heard, due_at, has_come, after_told}
use Rattle.iface_groups.specs.declared.member.Member.{Member}
use Rattle.iface_groups.specs.declared.mode.CompatibilityMode.{CompatibilityMode}
use Rattle.iface_groups.specs.declared.table.Row.{Row}

-- how many groups a table holds
abbrev pub group_room : ℕ
group_room = 24

-- what stands in an unused place
abbrev pub no_row : Row
no_row = record { group = Ip.Ipv4 (record { 0 = replicate 4 0 }); member = absent }

abbrev pub row_at : List Row → ℕ → Row
row_at rows at = slice_index_or rows at no_row

abbrev pub is_of : IpAddress → Row → Bool
is_of group r = is_same_address r.group group

abbrev pub row_index_of : List Row → IpAddress → Option ℕ
row_index_of rows group = position (is_of group) rows

-- what is to be told of a group
abbrev pub member_at : Option ℕ → List Row → Member
member_at None rows = absent
member_at (Some at) rows = (row_at rows at).member

abbrev pub member_of : List Row → IpAddress → Member
member_of rows group = member_at (row_index_of rows group) rows

abbrev pub listens_to : List Row → IpAddress → Bool
listens_to rows group = (member_of rows group).listens

-- the host doesn't listen to the group, and has nothing left to tell of it
abbrev pub is_free : Row → Bool
is_free r = not r.member.listens && (r.member.changes == 0)

abbrev pub first_free : List Row → Option ℕ
first_free rows = position is_free rows

-- the row of a group, else the first that is free
abbrev pub slot_by : Option ℕ → List Row → Option ℕ
slot_by None rows = first_free rows
slot_by (Some at) rows = Some at

abbrev pub slot_of : List Row → IpAddress → Option ℕ
slot_of rows group = slot_by (row_index_of rows group) rows

abbrev pub with_member : List Row → ℕ → Member → List Row
with_member rows at m = slice_set rows at (record (row_at rows at) { member = m })

-- WHAT CHANGES THEM

abbrev pub entered_at : Option ℕ → List Row → IpAddress → ℕ → ℕ → List Row
entered_at None rows group now gap = rows ++ record { group = group; member = joined now gap absent } ∷ []
entered_at (Some at) rows group now gap = slice_set rows at (record { group = group; member = joined now gap (row_at rows at).member })

-- a group that is joined takes the row that it has, else a free one, else one more
abbrev pub entered : List Row → IpAddress → ℕ → ℕ → List Row
entered rows group now gap = entered_at (slot_of rows group) rows group now gap

-- there is no row for it
abbrev pub IsRefused : List Row → IpAddress → Type 0
IsRefused rows group = (slot_of rows group ≡ None) × (length rows ≡ group_room)

abbrev pub left_at : Option ℕ → List Row → CompatibilityMode → ℕ → ℕ → List Row
left_at None rows mode now gap = rows
left_at (Some at) rows mode now gap = with_member rows at (left_group mode now gap (row_at rows at).member)

abbrev pub left : List Row → IpAddress → CompatibilityMode → ℕ → ℕ → List Row
left rows group mode now gap = left_at (row_index_of rows group) rows mode now gap

abbrev pub queried_at : List Row → ℕ → ℕ → List Row
queried_at rows at moment = with_member rows at (queried moment (row_at rows at).member)

abbrev pub heard_at : Option ℕ → List Row → List Row
heard_at None rows = rows
heard_at (Some at) rows = with_member rows at (heard (row_at rows at).member)

abbrev pub heard_of : List Row → IpAddress → List Row
heard_of rows group = heard_at (row_index_of rows group) rows

abbrev pub unqueried_row : IpAddress → Row → Row
unqueried_row family r =
    if are_of_one_family family r.group then record r { member = record r.member { answer_at = None } } else r

-- no query of the family is to be answered any more
abbrev pub unqueried : IpAddress → List Row → List Row
unqueried family rows = map (unqueried_row family) rows

abbrev pub told_at : List Row → ℕ → ℕ → List Row
told_at rows at now = with_member rows at (after_told now (row_at rows at).member)

-- WHAT IS DUE

abbrev pub sooner : Option ℕ → Option ℕ → Option ℕ
sooner None other = other
sooner (Some one) None = Some one
sooner (Some one) (Some other) = Some (min one other)

abbrev pub sooner_of : Option ℕ → Row → Option ℕ
sooner_of due r = sooner due (due_at r.member)

-- when something is to be told next
abbrev pub rows_due : List Row → Option ℕ
rows_due rows = fold sooner_of None rows

abbrev pub is_row_due : ℕ → Row → Bool
is_row_due now r = has_come now (due_at r.member)

-- the first row of which something is to be told now
abbrev pub next_row : ℕ → List Row → Option ℕ
next_row now rows = position (is_row_due now) rows
