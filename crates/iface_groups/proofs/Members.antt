-- What is told of one group, and when.
use Rattle.std.proofs.Common.{◌≡◌, ◌⊎◌, ℕ, zero, suc, ◌+◌, ◌-◌, ◌<◌, ◌≤◌, Bool, true, false, nat_lt, nat_le, refl, sym, ◌∙◌, ap, arith, inl, inr}
use Rattle.std.proofs.lemmas.Bool.{ltb-true, ltb-false, leb-true, leb-false, le-leb, ne_eqb}
use Rattle.std.specs.Prelude.{◌==◌, ◌&&◌, not, if◌then◌else◌, Option, Some, None}
use Rattle.wire_igmp.specs.declared.group_record.RecordType.TheVariants as Record
use Rattle.iface_groups.specs.History.{says_it_listens}
use Rattle.iface_groups.specs.Member.{IsSound, IsDueBy, IsToldTwice, absent, joined, left_group, queried, heard, due_at, is_due, has_come, earlier, next_told}
use Rattle.iface_groups.specs.Member.{after_told, change_told, answer_told, changed, leaves}
use Rattle.iface_groups.specs.declared.member.Member.{Member}
use Rattle.iface_groups.specs.declared.mode.CompatibilityMode.{CompatibilityMode}
use Rattle.iface_groups.specs.declared.mode.CompatibilityMode.TheVariants as Mode
use Rattle.iface_groups.specs.declared.mode.Told.{Told}
use Rattle.iface_groups.specs.declared.mode.Told.TheVariants as Told_of

-- a truth value is one of the two
pub bool_is : (b : Bool) → (b ≡ true) ⊎ (b ≡ false)
bool_is true = inl refl
bool_is false = inr refl

-- the earlier of two moments is one of them, and no later than either
pub earlier_by : (pending : Option ℕ) (at : ℕ) → earlier pending at ≤ at
earlier_by None at = omega arith
earlier_by (Some p) at =
    elim (bool_is (nat_lt p at)) [ inl hit ↦ rw hit (let lt : p < at = ltb-true p at hit in omega arith) | inr miss ↦ rw miss (omega arith) ]

earlier_is : (p at : ℕ) → (earlier (Some p) at ≡ p) ⊎ (earlier (Some p) at ≡ at)
earlier_is p at = elim (bool_is (nat_lt p at)) [ inl hit ↦ rw hit (inl refl) | inr miss ↦ rw miss (inr refl) ]

earlier_least : (p at : ℕ) → earlier (Some p) at ≤ p
earlier_least p at =
    elim (bool_is (nat_lt p at)) [ inl hit ↦ rw hit (omega arith) | inr miss ↦ rw miss (let le : at ≤ p = ltb-false p at miss in omega arith) ]

-- what isn't 0
suc_not : (c : ℕ) → (suc c == 0) ≡ false
suc_not c = ne_eqb (suc c) 0 (λ e. absurd (omega (arith, e)))

-- what is told says whether the host listens
pub change_says : (mode : CompatibilityMode) (listens : Bool) → says_it_listens (change_told mode listens) ≡ listens
change_says Mode.Igmpv1 true = refl
change_says Mode.Igmpv1 false = refl
change_says Mode.Igmpv2 true = refl
change_says Mode.Igmpv2 false = refl
change_says Mode.Igmpv3 true = refl
change_says Mode.Igmpv3 false = refl

pub answer_says : (mode : CompatibilityMode) → says_it_listens (answer_told mode) ≡ true
answer_says Mode.Igmpv1 = refl
answer_says Mode.Igmpv2 = refl
answer_says Mode.Igmpv3 = refl

some_is : (a b : Told) → Some a ≡ Some b → a ≡ b
some_is a b e = cc

none_not : (a : Told) → Some a ≡ None → ⊥
none_not a e = cc

-- which of three things is told
pub data Turn (mode : CompatibilityMode) (now : ℕ) (m : Member) : Type 0 where
  OfChange : is_due now m ≡ true → next_told mode now m ≡ Some (change_told mode m.listens) → Turn mode now m
  OfAnswer : is_due now m ≡ false → has_come now m.answer_at ≡ true → next_told mode now m ≡ Some (answer_told mode) → Turn mode now m
  OfNothing : is_due now m ≡ false → has_come now m.answer_at ≡ false → next_told mode now m ≡ None → Turn mode now m

pub turn_is : (mode : CompatibilityMode) (now : ℕ) (m : Member) → Turn mode now m
turn_is mode now m =
    elim (bool_is (is_due now m)) [
      | inl due ↦ OfChange due (rw due refl)
      | inr not_due ↦ elim (bool_is (has_come now m.answer_at)) [
        | inl come ↦ OfAnswer not_due come (rw not_due (rw come refl))
        | inr not_come ↦ OfNothing not_due not_come (rw not_due (rw not_come refl))
      ]
    ]

some_changes : (c : ℕ) (b : Bool) → (not (c == 0) && b) ≡ true → 0 < c
some_changes zero b e = absurd (cc (e))
some_changes (suc c) b e = omega arith

and_right : (a b : Bool) → (a && b) ≡ true → b ≡ true
and_right true b e = e
and_right false b e = absurd (cc (e))

-- a change that is due is left to be told, and its moment has come
pub due_some : (now : ℕ) (m : Member) → is_due now m ≡ true → 0 < m.changes
due_some now m due = some_changes m.changes (nat_le m.change_at now) due

due_come : (now : ℕ) (m : Member) → is_due now m ≡ true → nat_le m.change_at now ≡ true
due_come now m due = and_right (not (m.changes == 0)) (nat_le m.change_at now) due

-- a moment that is the same as another
same_moment : (a b : ℕ) → Some a ≡ Some b → a ≡ b
same_moment a b e = cc

some_not : (a : ℕ) → Some a ≡ None → ⊥
some_not a e = cc

-- of a change that is left, its moment or an earlier one is due
by_change : (c : ℕ) (o : Option ℕ) (k at : ℕ) → 0 < c → (if c == 0 then o else Some (earlier o k)) ≡ Some at → at ≤ k
by_change zero o k at some e = absurd (omega arith)
by_change (suc c) o k at some e = let f = rw (suc_not c) at e in omega (arith, same_moment (earlier o k) at f, earlier_by o k)

-- of an answer whose moment has come, its moment or an earlier one is due
by_answer : (c : ℕ) (o : Option ℕ) (k at now : ℕ) → has_come now o ≡ true → (if c == 0 then o else Some (earlier o k)) ≡ Some at → at ≤ now
by_answer c None k at now come e = absurd (cc (come))
by_answer zero (Some u) k at now come e = omega (arith, same_moment u at e, leb-true u now come)
by_answer (suc c) (Some u) k at now come e =
    let f = rw (suc_not c) at e in omega (arith, same_moment (earlier (Some u) k) at f, earlier_least u k, leb-true u now come)

-- then something is due
never_due : (c : ℕ) (o : Option ℕ) (k now : ℕ) → has_come now o ≡ true → (if c == 0 then o else Some (earlier o k)) ≡ None → ⊥
never_due c None k now come e = absurd (cc (come))
never_due zero (Some u) k now come e = some_not u e
never_due (suc c) (Some u) k now come e = let f = rw (suc_not c) at e in some_not (earlier (Some u) k) f

never_changed : (c : ℕ) (o : Option ℕ) (k : ℕ) → 0 < c → (if c == 0 then o else Some (earlier o k)) ≡ None → ⊥
never_changed zero o k some e = absurd (omega arith)
never_changed (suc c) o k some e = let f = rw (suc_not c) at e in some_not (earlier o k) f

-- where nothing has come, what is due is later
later_due : (c : ℕ) (o : Option ℕ) (k at now : ℕ) → (not (c == 0) && nat_le k now) ≡ false → has_come now o ≡ false →
    (if c == 0 then o else Some (earlier o k)) ≡ Some at
    → now < at
later_due zero None k at now not_due not_come e = absurd (some_not at (sym e))
later_due zero (Some u) k at now not_due not_come e = omega (arith, same_moment u at e, leb-false u now not_come)
later_due (suc c) None k at now not_due not_come e =
    let f = rw (suc_not c) at e in let later = rw (suc_not c) at not_due in omega (arith, same_moment k at f, leb-false k now later)
later_due (suc c) (Some u) k at now not_due not_come e =
    let f = rw (suc_not c) at e in
    let later = rw (suc_not c) at not_due in
    elim (earlier_is u k) [
      | inl first ↦ omega (arith, same_moment (earlier (Some u) k) at f, first, leb-false u now not_come)
      | inr second ↦ omega (arith, same_moment (earlier (Some u) k) at f, second, leb-false k now later)
    ]

quiet_turn : (mode : CompatibilityMode) (now at : ℕ) (m : Member) → Turn mode now m → due_at m ≡ Some at → now < at → next_told mode now m ≡ None
quiet_turn mode now at m (OfChange due is) e before =
    absurd (omega (arith, by_change m.changes m.answer_at m.change_at at (due_some now m due) e, leb-true m.change_at now (due_come now m due)))
quiet_turn mode now at m (OfAnswer not_due come is) e before = absurd (omega (arith, by_answer m.changes m.answer_at m.change_at at now come e))
quiet_turn mode now at m (OfNothing not_due not_come is) e before = is

pub quiet_before : (mode : CompatibilityMode) (now at : ℕ) (m : Member) → due_at m ≡ Some at → now < at → next_told mode now m ≡ None
quiet_before mode now at m e before = quiet_turn mode now at m (turn_is mode now m) e before

never_turn : (mode : CompatibilityMode) (now : ℕ) (m : Member) → Turn mode now m → due_at m ≡ None → next_told mode now m ≡ None
never_turn mode now m (OfChange due is) e = absurd (never_changed m.changes m.answer_at m.change_at (due_some now m due) e)
never_turn mode now m (OfAnswer not_due come is) e = absurd (never_due m.changes m.answer_at m.change_at now come e)
never_turn mode now m (OfNothing not_due not_come is) e = is

pub quiet_never : (mode : CompatibilityMode) (now : ℕ) (m : Member) → due_at m ≡ None → next_told mode now m ≡ None
quiet_never mode now m e = never_turn mode now m (turn_is mode now m) e

then_turn : (mode : CompatibilityMode) (now at : ℕ) (m : Member) → Turn mode now m → due_at m ≡ Some at → at ≤ now → next_told mode now m ≡ None → ⊥
then_turn mode now at m (OfChange due is) e come none = none_not (change_told mode m.listens) (sym is ∙ none)
then_turn mode now at m (OfAnswer not_due answer is) e come none = none_not (answer_told mode) (sym is ∙ none)
then_turn mode now at m (OfNothing not_due not_come is) e come none =
    absurd (omega (arith, later_due m.changes m.answer_at m.change_at at now not_due not_come e))

pub told_then : (mode : CompatibilityMode) (now at : ℕ) (m : Member) → due_at m ≡ Some at → at ≤ now → next_told mode now m ≡ None → ⊥
told_then mode now at m e come none = then_turn mode now at m (turn_is mode now m) e come none

-- a host that answers listens
pub answers : (now : ℕ) (m : Member) → IsSound m → has_come now m.answer_at ≡ true → m.listens ≡ true
answers now m sound come =
    elim (bool_is m.listens) [
      | inl hit ↦ hit
      | inr miss ↦ let wrong : false ≡ true = sym (ap (has_come now) (sound miss)) ∙ come in absurd (cc (wrong))
    ]

says_turn : (mode : CompatibilityMode) (now : ℕ) (m : Member) (told : Told) → IsSound m → Turn mode now m → next_told mode now m ≡ Some told →
    says_it_listens told ≡ m.listens
says_turn mode now m told sound (OfChange due is) e = ap says_it_listens (some_is _ _ (sym e ∙ is)) ∙ change_says mode m.listens
says_turn mode now m told sound (OfAnswer not_due come is) e =
    ap says_it_listens (some_is _ _ (sym e ∙ is)) ∙ (answer_says mode ∙ sym (answers now m sound come))
says_turn mode now m told sound (OfNothing not_due not_come is) e = absurd (none_not told (sym e ∙ is))

pub says_what_is : (mode : CompatibilityMode) (now : ℕ) (m : Member) (told : Told) → IsSound m → next_told mode now m ≡ Some told →
    says_it_listens told ≡ m.listens
says_what_is mode now m told sound e = says_turn mode now m told sound (turn_is mode now m) e

pub says_listening : (mode : CompatibilityMode) (now : ℕ) (m : Member) (told : Told) → m.listens ≡ true → next_told mode now m ≡ Some told →
    says_it_listens told ≡ true
says_listening mode now m told hit e =
    says_what_is mode now m told (λ miss. let wrong : true ≡ false = sym hit ∙ miss in absurd (cc (wrong))) e ∙ hit

-- a join is told twice
pub told_twice : (mode : CompatibilityMode) (now gap : ℕ) (m : Member) → m.listens ≡ false → IsToldTwice mode now gap m
told_twice mode now gap m miss =
    let here : nat_le now now ≡ true = le-leb now now (omega arith) in
    let there : nat_le (now + gap) (now + gap) ≡ true = le-leb (now + gap) (now + gap) (omega arith) in
    record {
      first_due = rw miss refl;
      first = rw miss (rw here refl);
      second_due = rw miss (rw here refl);
      second = rw miss (rw here (rw there refl));
      no_more = rw miss (rw here (rw there refl));
    }

-- a query has something due by its moment
due_by : (c : ℕ) (o : Option ℕ) (k at : ℕ) → IsDueBy at (if c == 0 then Some (earlier o at) else Some (earlier (Some (earlier o at)) k))
due_by zero o k at = earlier_by o at
due_by (suc c) o k at = rw (suc_not c) (omega (arith, earlier_least (earlier o at) k, earlier_by o at))

answered : (listens : Bool) (at : ℕ) (m : Member) → listens ≡ true → IsDueBy at (due_at (if listens then record m { answer_at = Some (earlier m.answer_at at) } else m))
answered true at m hit = due_by m.changes m.answer_at m.change_at at
answered false at m hit = absurd (cc (hit))

pub answered_by : (at : ℕ) (m : Member) → m.listens ≡ true → IsDueBy at (due_at (queried at m))
answered_by at m hit = answered m.listens at m hit

-- of a group that isn't listened to no query is to be answered
sound_changed : (listens is : Bool) (changes now gap : ℕ) (m : Member) → IsSound m → IsSound (if listens then m else changed is changes now gap)
sound_changed true is changes now gap m sound = sound
sound_changed false is changes now gap m sound = λ miss. refl

pub sound-join : (now gap : ℕ) (m : Member) → IsSound m → IsSound (joined now gap m)
sound-join now gap m sound = sound_changed m.listens true 2 now gap m sound

sound_left : (listens : Bool) (changes now gap : ℕ) (m : Member) → IsSound m → IsSound (if listens then changed false changes now gap else m)
sound_left true changes now gap m sound = λ miss. refl
sound_left false changes now gap m sound = sound

pub sound-leave : (mode : CompatibilityMode) (now gap : ℕ) (m : Member) → IsSound m → IsSound (left_group mode now gap m)
sound-leave mode now gap m sound = sound_left m.listens (leaves mode m) now gap m sound

-- what a host that listens has to answer
sound_answer : (listens : Bool) (o : Option ℕ) (m : Member) → m.listens ≡ listens → IsSound m → IsSound (if listens then record m { answer_at = o } else m)
sound_answer true o m hit sound = λ miss. let wrong : true ≡ false = sym hit ∙ miss in absurd (cc (wrong))
sound_answer false o m hit sound = sound

pub sound-query : (at : ℕ) (m : Member) → IsSound m → IsSound (queried at m)
sound-query at m sound = sound_answer m.listens (Some (earlier m.answer_at at)) m refl sound

sound_heard : (listens : Bool) (m : Member) → IsSound m → IsSound (if listens then record m { answer_at = None; is_others = true } else m)
sound_heard true m sound = λ miss. refl
sound_heard false m sound = sound

pub sound-hear : (m : Member) → IsSound m → IsSound (heard m)
sound-hear m sound = sound_heard m.listens m sound

sound_told : (due : Bool) (now : ℕ) (m : Member) → IsSound (if due then record m { changes = m.changes - 1; change_at = now + m.gap; answer_at = None; is_others = false }
    else record m { answer_at = None; is_others = false })
sound_told true now m = λ miss. refl
sound_told false now m = λ miss. refl

pub sound-tell : (now : ℕ) (m : Member) → IsSound m → IsSound (after_told now m)
sound-tell now m sound = sound_told (is_due now m) now m
