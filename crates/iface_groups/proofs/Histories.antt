-- What a router makes of a history.
use Rattle.std.proofs.Common.{◌≡◌, ℕ, zero, suc, ◌+◌, ◌-◌, ◌*◌, ◌<◌, ◌≤◌, Bool, true, false, List, [], ◌∷◌, length, refl, sym, ◌∙◌, ap, arith, inl, inr}
use Rattle.std.specs.Prelude.{if◌then◌else◌, Option, Some, None}
use Rattle.iface_groups.proofs.Members.{bool_is, Turn, OfChange, OfAnswer, OfNothing, turn_is, due_some, answers}
use Rattle.iface_groups.specs.History.{Event, Join, Leave, Query, Tell, Router, Include, Exclude, Asked, after, after_turn, told_at, run, told_in, followed, hears, hears_all, forwards}
use Rattle.iface_groups.specs.History.{changes_in, queries_in}
use Rattle.iface_groups.specs.Member.{IsSound, absent, joined, left_group, queried, is_due, has_come, next_told, after_told, change_told, answer_told, changed, earlier}
use Rattle.iface_groups.specs.declared.member.Member.{Member}
use Rattle.iface_groups.specs.declared.mode.CompatibilityMode.TheVariants as Mode
use Rattle.iface_groups.specs.declared.mode.Told.{Told}

-- what a router makes of one that is told, if any
abbrev hears_any : Router → Option Told → Router
hears_any r None = r
hears_any r (Some told) = hears r told

-- a router that heard the last change forwards where the host listens
record Follows (m : Member) (r : Router) : Type 0 where
  follows : m.changes ≤ 1 → forwards r ≡ m.listens
  sound : IsSound m

-- a change that is told is followed
change_heard : (r : Router) (listens : Bool) → forwards (hears r (change_told Mode.Igmpv3 listens)) ≡ listens
change_heard Include true = refl
change_heard Exclude true = refl
change_heard Asked true = refl
change_heard Include false = refl
change_heard Exclude false = refl
change_heard Asked false = refl

answer_heard : (r : Router) → forwards (hears r (answer_told Mode.Igmpv3)) ≡ true
answer_heard Include = refl
answer_heard Exclude = refl
answer_heard Asked = refl

told-step : (now : ℕ) (m : Member) (r : Router) → Follows m r → Turn Mode.Igmpv3 now m
    → Follows (after_turn (next_told Mode.Igmpv3 now m) now m) (hears_any r (next_told Mode.Igmpv3 now m))
told-step now m r was (OfChange due is) = rw is (rw due (record { follows = λ _. change_heard r m.listens; sound = λ _. refl }))
told-step now m r was (OfAnswer not_due come is) =
    rw is (rw not_due (record { follows = λ _. answer_heard r ∙ sym (answers now m was.sound come); sound = λ _. refl }))
told-step now m r was (OfNothing not_due not_come is) = rw is was

joined-step : (listens : Bool) (now gap : ℕ) (m : Member) (r : Router) → Follows m r → Follows (if listens then m else changed true 2 now gap) r
joined-step true now gap m r was = was
joined-step false now gap m r was = record { follows = λ low. absurd (omega (arith, low)); sound = λ miss. refl }

left-step : (listens : Bool) (now gap : ℕ) (m : Member) (r : Router) → Follows m r → Follows (if listens then changed false 2 now gap else m) r
left-step true now gap m r was = record { follows = λ low. absurd (omega (arith, low)); sound = λ miss. refl }
left-step false now gap m r was = was

queried-step : (at : ℕ) (m : Member) (r : Router) (listens : Bool) (o : Option ℕ) → m.listens ≡ listens → Follows m r
    → Follows (if listens then record m { answer_at = o } else m) r
queried-step at m r true o hit was = record { follows = was.follows; sound = λ miss. let wrong : true ≡ false = sym hit ∙ miss in absurd (cc (wrong)) }
queried-step at m r false o hit was = was

step : (e : Event) (m : Member) (r : Router) → Follows m r → Follows (after e m) (hears_any r (told_at e m))
step (Join now gap) m r was = joined-step m.listens now gap m r was
step (Leave now gap) m r was = left-step m.listens now gap m r was
step (Query at) m r was = queried-step at m r m.listens (Some (earlier m.answer_at at)) refl was
step (Tell now) m r was = told-step now m r was (turn_is Mode.Igmpv3 now m)

-- what is told first is heard first
hears_first : (r : Router) (o : Option Told) (rest : List Told) → hears_all r (followed o rest) ≡ hears_all (hears_any r o) rest
hears_first r None rest = refl
hears_first r (Some told) rest = refl

follows_all : (history : List Event) (m : Member) (r : Router) → Follows m r → (run m history).changes ≤ 1
    → forwards (hears_all r (told_in m history)) ≡ (run m history).listens
follows_all [] m r was low = was.follows low
follows_all (e ∷ es) m r was low =
    ap forwards (hears_first r (told_at e m) (told_in (after e m) es)) ∙ follows_all es (after e m) (hears_any r (told_at e m)) (step e m r was) low

pub last_counts : (history : List Event) → (run absent history).changes ≤ 1 → forwards (hears_all Include (told_in absent history)) ≡ (run absent history).listens
last_counts history low = follows_all history absent Include (record { follows = λ _. refl; sound = λ _. refl }) low

-- how many are told at most of what is pending
abbrev pending : Option ℕ → ℕ
pending None = 0
pending (Some at) = 1

abbrev counted : Option Told → ℕ
counted None = 0
counted (Some told) = 1

come_some : (now : ℕ) (answer : Option ℕ) → has_come now answer ≡ true → pending answer ≡ 1
come_some now None come = absurd (cc (come))
come_some now (Some at) come = refl

told-count : (now : ℕ) (m : Member) → Turn Mode.Igmpv3 now m
    → counted (next_told Mode.Igmpv3 now m) + (after_turn (next_told Mode.Igmpv3 now m) now m).changes
    + pending (after_turn (next_told Mode.Igmpv3 now m) now m).answer_at
    ≤ m.changes + pending m.answer_at
told-count now m (OfChange due is) = rw is (rw due (omega (arith, due_some now m due)))
told-count now m (OfAnswer not_due come is) = rw is (rw not_due (omega (arith, come_some now m.answer_at come)))
told-count now m (OfNothing not_due not_come is) = rw is (omega arith)

length_followed : (o : Option Told) (rest : List Told) → length (followed o rest) ≡ counted o + length rest
length_followed None rest = omega arith
length_followed (Some told) rest = omega arith

-- what is left to be told, at most
abbrev left_of : Member → ℕ
left_of m = m.changes + pending m.answer_at

joined-count : (listens : Bool) (now gap : ℕ) (m : Member) → left_of (if listens then m else changed true 2 now gap) ≤ left_of m + 2
joined-count true now gap m = omega arith
joined-count false now gap m = omega arith

left-count : (listens : Bool) (now gap : ℕ) (m : Member) → left_of (if listens then changed false 2 now gap else m) ≤ left_of m + 2
left-count true now gap m = omega arith
left-count false now gap m = omega arith

queried-count : (listens : Bool) (at : ℕ) (m : Member) → left_of (if listens then record m { answer_at = Some at } else m) ≤ left_of m + 1
queried-count true at m = omega arith
queried-count false at m = omega arith

-- so many are told at most
count_all : (history : List Event) (m : Member) → length (told_in m history) ≤ left_of m + 2 * changes_in history + queries_in history
count_all [] m = omega arith
count_all (Join now gap ∷ es) m = omega (arith, count_all es (joined now gap m), joined-count m.listens now gap m)
count_all (Leave now gap ∷ es) m = omega (arith, count_all es (left_group Mode.Igmpv3 now gap m), left-count m.listens now gap m)
count_all (Query at ∷ es) m = omega (arith, count_all es (queried at m), queried-count m.listens (earlier m.answer_at at) m)
count_all (Tell now ∷ es) m =
    let next = told-count now m (turn_is Mode.Igmpv3 now m) in
    let rest = count_all es (after (Tell now) m) in
    omega (arith, next, rest, length_followed (next_told Mode.Igmpv3 now m) (told_in (after (Tell now) m) es))

pub few_are_told : (history : List Event) → length (told_in absent history) ≤ 2 * changes_in history + queries_in history
few_are_told history = omega (arith, count_all history absent)
