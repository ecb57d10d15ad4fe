-- Histories of a host and a group in version 3, and what a router makes of the records.
use Rattle.std.specs.Prelude.{◌≡◌, ℕ, suc, ◌+◌, Bool, true, false, Option, Some, None, List, [], ◌∷◌}
use Rattle.wire_igmp.specs.declared.group_record.RecordType.{RecordType}
use Rattle.wire_igmp.specs.declared.group_record.RecordType.TheVariants as Record
use Rattle.iface_groups.specs.declared.member.Member.{Member}
use Rattle.iface_groups.specs.declared.mode.CompatibilityMode.TheVariants as Mode
use Rattle.iface_groups.specs.declared.mode.Told.{Told}
use Rattle.iface_groups.specs.declared.mode.Told.TheVariants as Told_of
use Rattle.iface_groups.specs.Member.{absent, joined, left_group, queried, next_told, after_told}

-- what happens: the host joins at a moment, to tell it again after a gap, or leaves; a query counts, to be answered at a
-- moment; the device takes a report at a moment
pub data Event : Type 0 where
  Join : ℕ → ℕ → Event
  Leave : ℕ → ℕ → Event
  Query : ℕ → Event
  Tell : ℕ → Event

-- the record that leaves at an event, if any
abbrev pub told_at : Event → Member → Option Told
told_at (Tell now) m = next_told Mode.Igmpv3 now m
told_at _ m = None

-- what is to be told after a report could leave at this moment
abbrev pub after_turn : Option Told → ℕ → Member → Member
after_turn None now m = m
after_turn (Some told) now m = after_told now m

-- what is to be told after an event
abbrev pub after : Event → Member → Member
after (Join now gap) m = joined now gap m
after (Leave now gap) m = left_group Mode.Igmpv3 now gap m
after (Query at) m = queried at m
after (Tell now) m = after_turn (next_told Mode.Igmpv3 now m) now m

-- what is to be told after a history
abbrev pub run : Member → List Event → Member
run m [] = m
run m (e ∷ es) = run (after e m) es

-- one more, if there is one, before others
abbrev pub followed : Option Told → List Told → List Told
followed None rest = rest
followed (Some told) rest = told ∷ rest

-- what leaves in a history, in this order
abbrev pub told_in : Member → List Event → List Told
told_in m [] = []
told_in m (e ∷ es) = followed (told_at e m) (told_in (after e m) es)

-- A router's state of a group on a link with one host that names no sources (RFC 3376, section 6.4; RFC 3810, section 7.4):
-- its filter is INCLUDE {} or EXCLUDE {}, or it is EXCLUDE {} and the router asked whether anybody still listens.
pub data Router : Type 0 where
  Include : Router
  Exclude : Router
  Asked : Router

-- the table of RFC 3376, sections 6.4.1 and 6.4.2, at records without sources. Only a change to include makes it ask; IS_IN {}
-- changes nothing.
abbrev pub hears : Router → Told → Router
hears r (Told_of.Record Record.ModeIsExclude) = Exclude
hears r (Told_of.Record Record.ChangeToExclude) = Exclude
hears Exclude (Told_of.Record Record.ChangeToInclude) = Asked
hears r _ = r

abbrev pub hears_all : Router → List Told → Router
hears_all r [] = r
hears_all r (told ∷ rest) = hears_all (hears r told) rest

-- whether it forwards the group's packets once nobody answered what it asked
abbrev pub forwards : Router → Bool
forwards Include = false
forwards Exclude = true
forwards Asked = false

-- how many changes and how many queries there are in a history
abbrev pub changes_in : List Event → ℕ
changes_in [] = 0
changes_in (Join now gap ∷ es) = suc (changes_in es)
changes_in (Leave now gap ∷ es) = suc (changes_in es)
changes_in (e ∷ es) = changes_in es

abbrev pub queries_in : List Event → ℕ
queries_in [] = 0
queries_in (Query at ∷ es) = suc (queries_in es)
queries_in (e ∷ es) = queries_in es

-- what is told says that the host listens
abbrev pub says_it_listens : Told → Bool
says_it_listens (Told_of.Record Record.ModeIsExclude) = true
says_it_listens (Told_of.Record Record.ChangeToExclude) = true
says_it_listens Told_of.Report = true
says_it_listens _ = false
