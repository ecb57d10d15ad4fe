-- How many frames go within an interval.
use Rattle.std.proofs.Common.{◌≡◌, ℕ, zero, suc, ◌+◌, ◌-◌, ◌*◌, ◌<◌, ◌≤◌, Bool, true, false, List, [], ◌∷◌, length, refl, sym, ap, ◌∙◌, subst, Option, None, Some, IsTrue, IsFalse, ℤ, pos, ◌+ℤ◌, arith, ◌⊎◌, inl, inr}
use Rattle.std.specs.Prelude.{◌≤ℤ◌, ◌<ℤ◌, ⊤}
use Rattle.std.proofs.lemmas.Int.{ints}
use Rattle.std.specs.List.{FoldsTo}
use Rattle.base_device.specs.Device.{Move, Took, Empty, Allowed, Emitted, Denied}
use Rattle.base_wrappers.specs.Bucket.{Level, lets, spent, refilled, is_over, one_less}
use Rattle.base_wrappers.specs.Course.{CourseValue}
use Rattle.base_wrappers.specs.Drop.{DropRules, DropState, DropperValue, Drops, noted, looked, sent, may_come, came}
use Rattle.base_wrappers.specs.Harm.{frames_in}
use Rattle.base_wrappers.specs.Rates.{instants_in, AllLet, AllWithin}

-- an interval that began at this instant or later isn't over
not_over : (interval : ℕ) (begin b t : ℤ) → begin ≤ℤ b → t <ℤ (begin +ℤ pos interval) → is_over interval (Some b) t ≡ false
not_over interval begin b t late soon = grind (arith, ints)

-- what is let goes on with one less
one_step : (n rate interval : ℕ) (t : ℤ) (b : Level) → is_over interval b.begun t ≡ false → IsTrue (lets (suc rate) interval t b)
    → n ≤ (spent (suc rate) interval t b).left → suc n ≤ b.left
one_step n rate interval t b stays may fits = grind arith

stays_begun : (rate interval : ℕ) (t : ℤ) (b : Level) → is_over interval b.begun t ≡ false
    → (spent (suc rate) interval t b).begun ≡ b.begun
stays_begun rate interval t b stays = grind arith

first_step : (rate interval : ℕ) (t : ℤ) (b : Level) → is_over interval b.begun t ≡ true
    → spent (suc rate) interval t b ≡ record { begun = Some t; left = rate }
first_step rate interval t b over = grind arith

-- in an interval that began within, no more than is left
in_one : (rate interval : ℕ) (begin begun : ℤ) (instants : List ℤ) (b : Level) → b.begun ≡ Some begun → begin ≤ℤ begun
    → AllWithin begin interval instants → AllLet (suc rate) interval instants b → length instants ≤ b.left
in_one rate interval begin begun [] b is late within all = omega arith
in_one rate interval begin begun (t ∷ instants) b is late (from, to, within) (may, all) =
    let stays : is_over interval b.begun t ≡ false = subst (λ (x : Option ℤ). is_over interval x t ≡ false) (sym is) (not_over interval begin begun t late to) in
    one_step (length instants) rate interval t b stays may
    (in_one rate interval begin begun instants (spent (suc rate) interval t b) (stays_begun rate interval t b stays ∙ is) late within all)

two_steps : (n rate interval : ℕ) (t : ℤ) (b : Level) → is_over interval b.begun t ≡ false → IsTrue (lets (suc rate) interval t b)
    → n ≤ (spent (suc rate) interval t b).left + suc rate → suc n ≤ b.left + suc rate
two_steps n rate interval t b stays may fits = grind arith

by_case : (over : Bool) (rate interval : ℕ) (begin t : ℤ) (instants : List ℤ) (b : Level) → is_over interval b.begun t ≡ over → begin ≤ℤ t
    → AllWithin begin interval instants → IsTrue (lets (suc rate) interval t b) → AllLet (suc rate) interval instants (spent (suc rate) interval t b)
    → length instants ≤ (spent (suc rate) interval t b).left + suc rate → suc (length instants) ≤ b.left + suc rate
by_case true rate interval begin t instants b over from within may all rest =
    let began = first_step rate interval t b over in
    let one : length instants ≤ rate =
    in_one rate interval begin t instants (record { begun = Some t; left = rate }) refl from within
    (subst (λ (x : Level). AllLet (suc rate) interval instants x) began all) in
    omega (arith, one)
by_case false rate interval begin t instants b stays from within may all rest = two_steps (length instants) rate interval t b stays may rest

-- one interval ran before, and one began within
pub in_two : (rate interval : ℕ) (begin : ℤ) (instants : List ℤ) (b : Level)
    → AllWithin begin interval instants → AllLet (suc rate) interval instants b → length instants ≤ b.left + suc rate
in_two rate interval begin [] b within all = omega arith
in_two rate interval begin (t ∷ instants) b (from, to, within) (may, all) =
    by_case (is_over interval b.begun t) rate interval begin t instants b refl from within may all
    (in_two rate interval begin instants (spent (suc rate) interval t b) within all)

pub at_most_twice : (rate interval : ℕ) (begin : ℤ) (instants : List ℤ) (b : Level) → 0 < rate → b.left ≤ rate
    → AllWithin begin interval instants → AllLet rate interval instants b → length instants ≤ 2 * rate
at_most_twice zero interval begin instants b some fits within all = absurd (omega (arith, some))
at_most_twice (suc rate) interval begin instants b some fits within all =
    let it = in_two rate interval begin instants b within all in
    omega (arith, it, fits)

-- the rules and what is left of the rate of frames that come are as they were
abbrev IsQuiet : DropState → DropState → Type 0
IsQuiet s s' = (s'.rules ≡ s.rules) × (s'.rx ≡ s.rx)

same_rules : (s s' : DropState) (rate interval : ℕ) (instants : List ℤ) → s.rules.rx_rate ≡ rate → s.rules.interval ≡ interval → IsQuiet s s'
    → (s'.rules.rx_rate ≡ rate → s'.rules.interval ≡ interval → AllLet rate interval instants s'.rx) → AllLet rate interval instants s.rx
same_rules s s' rate interval instants is at quiet rest =
    subst (λ (x : Level). AllLet rate interval instants x) quiet.1
    (rest (ap (λ (r : DropRules). r.rx_rate) quiet.0 ∙ is) (ap (λ (r : DropRules). r.interval) quiet.0 ∙ at))

kept_by : (t : ℤ) (s s' : DropState) → s' ≡ noted t s → IsQuiet s s'
kept_by t s s' same = (ap (λ (x : DropState). x.rules) same, ap (λ (x : DropState). x.rx) same)

sent_by : (room len : ℕ) (s s' : DropState) → s' ≡ sent room len s → IsQuiet s s'
unfolding sent
sent_by room len s s' same = (ap (λ (x : DropState). x.rules) same, ap (λ (x : DropState). x.rx) same)

quiet : {X Y Z : Type 0} {W : CourseValue → Type 0} (t : ℤ) (s s' : DropState)
    → ((X × Y × (s' ≡ noted t s)) ⊎ (Z × ((c : CourseValue) × W c × (s' ≡ looked t c s)))) → IsQuiet s s'
quiet t s s' (inl it) = kept_by t s s' it.2
quiet t s s' (inr it) = (ap (λ (x : DropState). x.rules) it.1.2, ap (λ (x : DropState). x.rx) it.1.2)

module _ {D : Type 0} (M : D → Move → D → Type 0) where
  -- each frame that came was let
  pub let_in : (moves : List Move) (old new : DropperValue D) (rate interval : ℕ) → old.state.rules.rx_rate ≡ rate → old.state.rules.interval ≡ interval
      → FoldsTo (Drops M) old moves new → AllLet rate interval (instants_in moves) old.state.rx
  unfolding may_come came
  let_in [] old new rate interval is at run = tt
  let_in (Took t frame ∷ moves) old new rate interval is at (next, met, rest) =
      let after = met.1.2 in
      let all = let_in moves next new rate interval (ap (λ (s : DropState). s.rules.rx_rate) after ∙ is) (ap (λ (s : DropState). s.rules.interval) after ∙ at) rest in (
        subst (λ (i : ℕ). IsTrue (lets rate i t old.state.rx)) at (subst (λ (r : ℕ). IsTrue (lets r old.state.rules.interval t old.state.rx)) is met.0),
        subst (λ (i : ℕ). AllLet rate interval (instants_in moves) (spent rate i t old.state.rx)) at
            (subst (λ (r : ℕ). AllLet rate interval (instants_in moves) (spent r old.state.rules.interval t old.state.rx)) is
            (subst (λ (x : Level). AllLet rate interval (instants_in moves) x) (ap (λ (s : DropState). s.rx) after) all)),
      )
  let_in (Empty t ∷ moves) old new rate interval is at (next, met, rest) =
      same_rules old.state next.state rate interval (instants_in moves) is at (quiet t old.state next.state met.0)
      (λ r i. let_in moves next new rate interval r i rest)
  let_in (Allowed t leave ∷ moves) old new rate interval is at (next, met, rest) =
      same_rules old.state next.state rate interval (instants_in moves) is at (kept_by t old.state next.state met.1)
      (λ r i. let_in moves next new rate interval r i rest)
  let_in (Emitted frame ∷ moves) old new rate interval is at (next, met, rest) =
      same_rules old.state next.state rate interval (instants_in moves) is at (sent_by old.room (length frame) old.state next.state met.1)
      (λ r i. let_in moves next new rate interval r i rest)
  let_in (Denied len ∷ moves) old new rate interval is at (next, met, rest) =
      same_rules old.state next.state rate interval (instants_in moves) is at (sent_by old.room len old.state next.state met.1)
      (λ r i. let_in moves next new rate interval r i rest)

as_many : (moves : List Move) → length (frames_in moves) ≡ length (instants_in moves)
as_many [] = refl
as_many (Took t frame ∷ moves) = ap suc (as_many moves)
as_many (Empty t ∷ moves) = as_many moves
as_many (Allowed t leave ∷ moves) = as_many moves
as_many (Emitted frame ∷ moves) = as_many moves
as_many (Denied len ∷ moves) = as_many moves

pub came_at_most : {D : Type 0} (M : D → Move → D → Type 0) (moves : List Move) (old new : DropperValue D) (begin : ℤ) → FoldsTo (Drops M) old moves new
    → 0 < old.state.rules.rx_rate → old.state.rx.left ≤ old.state.rules.rx_rate → AllWithin begin old.state.rules.interval (instants_in moves)
    → length (frames_in moves) ≤ 2 * old.state.rules.rx_rate
came_at_most M moves old new begin run some fits within =
    let count = as_many moves in
    let it = at_most_twice old.state.rules.rx_rate old.state.rules.interval begin (instants_in moves) old.state.rx some fits within
    (let_in M moves old new old.state.rules.rx_rate old.state.rules.interval refl refl run) in
    subst (λ (n : ℕ). n ≤ 2 * old.state.rules.rx_rate) (sym count) it
