-- What a host is to tell of one group, and what each event makes of it. A host filters no sources: it listens to a group with
-- the filter EXCLUDE {}, and to one that it left with INCLUDE {} (RFC 3376, section 3.2; RFC 3810, section 4.2).
use Rattle.std.specs.Prelude.{◌≡◌, ℕ, ◌+◌, ◌-◌, ◌<◌, ◌≤◌, ◌==◌, ◌&&◌, nat_lt, nat_le, not, min, Bool, true, false, if◌then◌else◌, Option, Some, None}
use Rattle.wire_igmp.specs.declared.group_record.RecordType.TheVariants as Record
use Rattle.iface_groups.specs.declared.member.Member.{Member}
use Rattle.iface_groups.specs.declared.mode.CompatibilityMode.{CompatibilityMode}
use Rattle.iface_groups.specs.declared.mode.CompatibilityMode.TheVariants as Mode
use Rattle.iface_groups.specs.declared.mode.Told.{Told}
use Rattle.iface_groups.specs.declared.mode.Told.TheVariants as Told_of

-- of a group that the host doesn't listen to, and of which nothing is to be told
abbrev pub absent : Member
absent = record { listens = false; changes = 0; change_at = 0; gap = 0; answer_at = None; is_others = false }

-- the same, whatever was told of it when
pub record IsForgotten (m : Member) : Type 0 where
  pub listens_not : m.listens ≡ false
  pub told : m.changes ≡ 0

-- a change: it is told so many times, first now and then after a gap. What was still to be told of earlier changes no longer
-- counts (RFC 3376, section 5.1; RFC 3810, section 6.1)
abbrev pub changed : Bool → ℕ → ℕ → ℕ → Member
changed listens changes now gap = record { listens = listens; changes = changes; change_at = now; gap = gap; answer_at = None; is_others = false }

-- a join is told twice (RFC 3376, section 8.1; RFC 2236, section 3)
abbrev pub joined : ℕ → ℕ → Member → Member
joined now gap m = if m.listens then m else changed true 2 now gap

-- how many times a leave is told: in version 2 not where another host's report was the last, since that host still listens
-- (RFC 2236, section 3); version 1 has no message for it
abbrev pub leaves : CompatibilityMode → Member → ℕ
leaves Mode.Igmpv1 m = 0
leaves Mode.Igmpv2 m = if m.is_others then 0 else 1
leaves Mode.Igmpv3 m = 2

abbrev pub left_group : CompatibilityMode → ℕ → ℕ → Member → Member
left_group mode now gap m = if m.listens then changed false (leaves mode m) now gap else m

-- the earlier of a moment, if there is one, and another
abbrev pub earlier : Option ℕ → ℕ → ℕ
earlier None at = at
earlier (Some pending) at = if nat_lt pending at then pending else at

-- a query that counts is answered at this moment, or when an earlier one is (RFC 3376, section 5.2)
abbrev pub queried : ℕ → Member → Member
queried at m = if m.listens then record m { answer_at = Some (earlier m.answer_at at) } else m

-- another host's report of version 1 or 2 is the answer (RFC 2236, section 3; RFC 2710, section 4)
abbrev pub heard : Member → Member
heard m = if m.listens then record m { answer_at = None; is_others = true } else m

-- when something is to be told next
abbrev pub due_at : Member → Option ℕ
due_at m = if m.changes == 0 then m.answer_at else Some (earlier m.answer_at m.change_at)

-- a change is to be told now
abbrev pub is_due : ℕ → Member → Bool
is_due now m = not (m.changes == 0) && nat_le m.change_at now

-- a moment has come
abbrev pub has_come : ℕ → Option ℕ → Bool
has_come now None = false
has_come now (Some at) = nat_le at now

-- what tells a change (RFC 3376, section 4.2.12)
abbrev pub change_told : CompatibilityMode → Bool → Told
change_told Mode.Igmpv3 true = Told_of.Record Record.ChangeToExclude
change_told Mode.Igmpv3 false = Told_of.Record Record.ChangeToInclude
change_told _ true = Told_of.Report
change_told _ false = Told_of.Leave

-- what answers a query
abbrev pub answer_told : CompatibilityMode → Told
answer_told Mode.Igmpv3 = Told_of.Record Record.ModeIsExclude
answer_told _ = Told_of.Report

-- what is to be told now, if anything
abbrev pub next_told : CompatibilityMode → ℕ → Member → Option Told
next_told mode now m =
    if is_due now m then Some (change_told mode m.listens)
    else (if has_come now m.answer_at then Some (answer_told mode) else None)

-- after that was told: a change once less, and a query is answered by whatever is told
abbrev pub after_told : ℕ → Member → Member
after_told now m =
    if is_due now m then record m { changes = m.changes - 1; change_at = now + m.gap; answer_at = None; is_others = false }
    else record m { answer_at = None; is_others = false }

-- of a group that the host doesn't listen to no query is to be answered
abbrev pub IsSound : Member → Type 0
IsSound m = m.listens ≡ false → m.answer_at ≡ None

-- something is due no later than this
abbrev pub IsDueBy : ℕ → Option ℕ → Type 0
IsDueBy at None = ⊥
IsDueBy at (Some due) = due ≤ at

-- a join is told at once, after the gap, and then no more
pub record IsToldTwice (mode : CompatibilityMode) (now gap : ℕ) (m : Member) : Type 0 where
  pub first_due : due_at (joined now gap m) ≡ Some now
  pub first : next_told mode now (joined now gap m) ≡ Some (change_told mode true)
  pub second_due : due_at (after_told now (joined now gap m)) ≡ Some (now + gap)
  pub second : next_told mode (now + gap) (after_told now (joined now gap m)) ≡ Some (change_told mode true)
  pub no_more : due_at (after_told (now + gap) (after_told now (joined now gap m))) ≡ None
