-- The runs of a scoreboard lie apart from each other, and past SND.UNA.
use Rattle.std.proofs.Common.{◌≡◌, ◌⊎◌, inl, inr, ⊎_elim, ℕ, zero, suc, ◌+◌, ◌-◌, ◌^◌, ◌<◌, ◌≤◌, nat_le, nat_lt, ◌&&◌, ◌||◌, min, max, Bool, true, false}
use Rattle.std.proofs.Common.{if◌then◌else◌, List, [], ◌∷◌, map, set, replicate, Option, Some, None, refl, sym, ap, ◌∙◌, arith}
use Rattle.std.specs.List.{fold}
use Rattle.std.proofs.lemmas.Bool.{cond_both, leb-true, leb-false, lt-ltb, ltb-true, ltb-false}
use Rattle.tcp_state.specs.Scoreboard.{is_run, no_run, no_runs, meets, hull, hull_of, apart, without, free_offset, placed_at, noted, lowered, lies_in, reneges}
use Rattle.tcp_state.specs.Scoreboard.{after_ack, sum_of, held, first_missing, gap_end}
use Rattle.tcp_state.specs.declared.scoreboard.Run.{Run}
use Rattle.tcp_invariants.specs.Unheld.{AreUnheld}
use Rattle.tcp_invariants.proofs.BlindRules.{both}
use Rattle.tcp_invariants.proofs.OrderSteps.{clash}

-- it has a position, and lies past SND.UNA, in what 31 bits count
pub record Real (r : Run) : Type 0 where
  pub past : 1 ≤ r.start
  pub some : r.start < r.end
  pub near : r.end < 2 ^ 31

abbrev pub Fine : Run → Type 0
Fine r = ((r.start ≡ 0) × (r.end ≡ 0)) ⊎ Real r

abbrev pub AllFine : List Run → Type 0
AllFine [] = Unit {0}
AllFine (r ∷ rs) = Fine r × AllFine rs

abbrev pub AllNone : List Run → Type 0
AllNone [] = Unit {0}
AllNone (r ∷ rs) = ((r.start ≡ 0) × (r.end ≡ 0)) × AllNone rs

-- a gap lies between the two
abbrev pub Apart : Run → Run → Type 0
Apart r q = r.start < r.end → q.start < q.end → (r.end < q.start) ⊎ (q.end < r.start)

abbrev pub ApartFrom : Run → List Run → Type 0
ApartFrom r [] = Unit {0}
ApartFrom r (q ∷ qs) = Apart r q × ApartFrom r qs

abbrev pub AreApart : List Run → Type 0
AreApart [] = Unit {0}
AreApart (r ∷ rs) = ApartFrom r rs × AreApart rs

pub record Board (runs : List Run) : Type 0 where
  pub fine : AllFine runs
  pub gaps : AreApart runs

left_true : (a b : Bool) → (a && b) ≡ true → a ≡ true
left_true true b e = refl
left_true false b e = clash (sym e)

right_true : (a b : Bool) → (a && b) ≡ true → b ≡ true
right_true true b e = e
right_true false b e = clash (sym e)

nothing : {A : Type 0} (n : ℕ) → n < n → A
nothing n e = absurd (omega (arith, e))

none_apart : (q : Run) → Apart no_run q
none_apart q e f = nothing 0 e

apart_none : (r : Run) → Apart r no_run
apart_none r e f = nothing 0 f

swapped : (r q : Run) → Apart r q → Apart q r
swapped r q a e f = ⊎_elim (λ below. inr below) (λ above. inl above) (a f e)

none_from : (rs : List Run) → ApartFrom no_run rs
none_from [] = tt
none_from (q ∷ qs) = (none_apart q, none_from qs)

from_nothing : (r : Run) (n : ℕ) → ApartFrom r (replicate n no_run)
from_nothing r zero = tt
from_nothing r (suc n) = (apart_none r, from_nothing r n)

nothing_fine : (n : ℕ) → AllFine (replicate n no_run)
nothing_fine zero = tt
nothing_fine (suc n) = (inl (refl, refl), nothing_fine n)

nothing_apart : (n : ℕ) → AreApart (replicate n no_run)
nothing_apart zero = tt
nothing_apart (suc n) = (from_nothing no_run n, nothing_apart n)

pub nothing_none : (n : ℕ) → AllNone (replicate n no_run)
nothing_none zero = tt
nothing_none (suc n) = ((refl, refl), nothing_none n)

pub empty_board : Board no_runs
empty_board = record { fine = nothing_fine 32; gaps = nothing_apart 32 }

-- SND.UNA RISES

pub reneges_first : (r : Run) (rs : List Run) (by : ℕ) → reneges (r ∷ rs) by ≡ false → (lies_in by r ≡ false) × (reneges rs by ≡ false)
reneges_first r rs by e = at (lies_in by r) refl e where
  at : (t : Bool) → lies_in by r ≡ t → reneges (r ∷ rs) by ≡ false → (lies_in by r ≡ false) × (reneges rs by ≡ false)
  at true is e = clash (sym (ap (λ (t : Bool). t || reneges rs by) is) ∙ e)
  at false is e = (is, sym (ap (λ (t : Bool). t || reneges rs by) is) ∙ e)

-- an offset isn't in a run
pub beside : (offset : ℕ) (r : Run) → lies_in offset r ≡ false → (offset < r.start) ⊎ (r.end ≤ offset)
beside offset r e = at (nat_le r.start offset) refl where
  at : (t : Bool) → nat_le r.start offset ≡ t → (offset < r.start) ⊎ (r.end ≤ offset)
  at true is = inr (ltb-false offset r.end (sym (ap (λ (t : Bool). t && nat_lt offset r.end) is) ∙ e))
  at false is = inl (leb-false r.start offset is)

fine_lowered : (by : ℕ) (r : Run) → lies_in by r ≡ false → Fine r → Fine (lowered by r)
fine_lowered by r out (inl none) = inl (less r.start by none.0, less r.end by none.1) where
  less : (n by : ℕ) → n ≡ 0 → n - by ≡ 0
  less n by e = omega arith
fine_lowered by r out (inr real) =
    ⊎_elim
    (λ below. inr (record { past = past r.start by below; some = some r.start r.end by below real.some; near = near r.end by real.near }))
    (λ above. inl (gone r.start r.end by above real.some, least r.end by above)) (beside by r out)
  where
    past : (start by : ℕ) → by < start → 1 ≤ start - by
    past start by e = omega arith

    some : (start end by : ℕ) → by < start → start < end → start - by < end - by
    some start end by e f = omega arith

    near : (end by : ℕ) → end < 2 ^ 31 → end - by < 2 ^ 31
    near end by e = omega (arith, e)

    gone : (start end by : ℕ) → end ≤ by → start < end → start - by ≡ 0
    gone start end by e f = omega arith

    least : (end by : ℕ) → end ≤ by → end - by ≡ 0
    least end by e = omega arith

all_lowered : (by : ℕ) (rs : List Run) → reneges rs by ≡ false → AllFine rs → AllFine (map (lowered by) rs)
all_lowered by [] e f = tt
all_lowered by (r ∷ rs) e f =
    let parts = reneges_first r rs by e in (fine_lowered by r parts.0 f.0, all_lowered by rs parts.1 f.1)

apart_lowered : (by : ℕ) (r q : Run) → Apart r q → Apart (lowered by r) (lowered by q)
apart_lowered by r q a e f =
    ⊎_elim (λ below. inl (nearer r.start r.end q.start by e below)) (λ above. inr (nearer q.start q.end r.start by f above))
    (a (run r.start r.end by e) (run q.start q.end by f))
  where
    run : (start end by : ℕ) → start - by < end - by → start < end
    run start end by e = omega arith

    nearer : (start end next by : ℕ) → start - by < end - by → end < next → end - by < next - by
    nearer start end next by e f = omega arith

from_lowered : (by : ℕ) (r : Run) (qs : List Run) → ApartFrom r qs → ApartFrom (lowered by r) (map (lowered by) qs)
from_lowered by r [] a = tt
from_lowered by r (q ∷ qs) a = (apart_lowered by r q a.0, from_lowered by r qs a.1)

apart_all_lowered : (by : ℕ) (rs : List Run) → AreApart rs → AreApart (map (lowered by) rs)
apart_all_lowered by [] a = tt
apart_all_lowered by (r ∷ rs) a = (from_lowered by r rs a.0, apart_all_lowered by rs a.1)

pub board_after : (rs : List Run) (by : ℕ) → Board rs → Board (after_ack rs by)
board_after rs by b =
    cond_both (reneges rs by) no_runs (map (lowered by) rs) Board (λ _. empty_board)
    (λ never. record { fine = all_lowered by rs never b.fine; gaps = apart_all_lowered by rs b.gaps })

-- A RUN IS NAMED

module _ (run : Run) (real : Real run) where
  abbrev joined : Run → Run → Run
  joined all other = if meets run other then hull all other else all

  -- it has a position, and one in common with the run that is named, or none lies between
  met : (r : Run) → meets run r ≡ true → (r.start < r.end) × ((r.start ≤ run.end) × (run.start ≤ r.end))
  met r e =
      let rest = right_true (is_run r) (nat_le r.start run.end && nat_le run.start r.end) e in (
        ltb-true r.start r.end (left_true (is_run r) (nat_le r.start run.end && nat_le run.start r.end) e),
        (
          leb-true r.start run.end (left_true (nat_le r.start run.end) (nat_le run.start r.end) rest),
          leb-true run.start r.end (right_true (nat_le r.start run.end) (nat_le run.start r.end) rest),
        ),
      )

  -- or a gap lies between
  unmet : (q : Run) → q.start < q.end → meets run q ≡ false → (run.end < q.start) ⊎ (q.end < run.start)
  unmet q some e = at (nat_lt q.start q.end) (nat_le q.start run.end) (nat_le run.start q.end) refl refl refl e where
    at : (t s u : Bool) → nat_lt q.start q.end ≡ t → nat_le q.start run.end ≡ s → nat_le run.start q.end ≡ u → meets run q ≡ false
        → (run.end < q.start) ⊎ (q.end < run.start)
    at false s u e f g never = absurd (let over = ltb-false q.start q.end e in omega (arith, over, some))
    at true false u e f g never = inl (leb-false q.start run.end f)
    at true true false e f g never = inr (leb-false run.start q.end g)
    at true true true e f g never =
        clash (sym (ap (λ (t : Bool). t && (nat_le q.start run.end && nat_le run.start q.end)) e
        ∙ (ap (λ (t : Bool). t && nat_le run.start q.end) f ∙ g)) ∙ never)

  real_hull : (all r : Run) → Real all → Fine r → meets run r ≡ true → Real (hull all r)
  real_hull all r h (inl none) e = absurd (let parts = met r e in let a = parts.0 in let b = none.0 in let c = none.1 in omega (arith, a, b, c))
  real_hull all r h (inr f) e = record {
    past = both all.start r.start h.past f.past;
    some = wide all.start all.end r.start r.end h.some;
    near = within all.end r.end h.near f.near;
  }
    where
      both : (a b : ℕ) → 1 ≤ a → 1 ≤ b → 1 ≤ min a b
      both a b e f = omega arith

      wide : (a b c d : ℕ) → a < b → min a c < max b d
      wide a b c d e = omega arith

      within : (a b : ℕ) → a < 2 ^ 31 → b < 2 ^ 31 → max a b < 2 ^ 31
      within a b e f = omega (arith, e, f)

  real_joined : (rs : List Run) (all : Run) → Real all → AllFine rs → Real (fold joined all rs)
  real_joined [] all h f = h
  real_joined (r ∷ rs) all h f =
      cond_both (meets run r) (hull all r) all (λ (x : Run). Real (fold joined x rs))
      (λ e. real_joined rs (hull all r) (real_hull all r h f.0 e) f.1) (λ _. real_joined rs all h f.1)

  -- each run that the named one meets is apart from this one, which it doesn't meet
  abbrev Beside : Run → Run → Type 0
  Beside q r = meets run q ≡ false → meets run r ≡ true → Apart r q

  abbrev BesideAll : Run → List Run → Type 0
  BesideAll q [] = Unit {0}
  BesideAll q (r ∷ rs) = Beside q r × BesideAll q rs

  abbrev Cross : List Run → List Run → Type 0
  Cross [] rs = Unit {0}
  Cross (q ∷ qs) rs = BesideAll q rs × Cross qs rs

  beside_from : (q : Run) (rs : List Run) → ApartFrom q rs → BesideAll q rs
  beside_from q [] a = tt
  beside_from q (r ∷ rs) a = (λ _ _. swapped q r a.0, beside_from q rs a.1)

  cross_more : (r : Run) (qs rs : List Run) → ApartFrom r qs → Cross qs rs → Cross qs (r ∷ rs)
  cross_more r [] rs a c = tt
  cross_more r (q ∷ qs) rs a c = ((λ _ _. a.0, c.0), cross_more r qs rs a.1 c.1)

  cross_self : (rs : List Run) → AreApart rs → Cross rs rs
  cross_self [] a = tt
  cross_self (r ∷ rs) a = ((λ never is. clash (sym is ∙ never), beside_from r rs a.0), cross_more r rs rs a.0 (cross_self rs a.1))

  -- the hull lies on the side of this one on which the named run does
  hull_apart : (q : Run) → q.start < q.end → meets run q ≡ false → (rs : List Run) (all : Run) → BesideAll q rs
      → ((run.end < q.start) × (all.end < q.start)) ⊎ ((q.end < run.start) × (q.end < all.start))
      → ((fold joined all rs).end < q.start) ⊎ (q.end < (fold joined all rs).start)
  hull_apart q some never [] all b (inl below) = inl below.1
  hull_apart q some never [] all b (inr above) = inr above.1
  hull_apart q some never (r ∷ rs) all b side =
      cond_both (meets run r) (hull all r) all (λ (x : Run). ((fold joined x rs).end < q.start) ⊎ (q.end < (fold joined x rs).start))
      (λ e. hull_apart q some never rs (hull all r) b.1 (step side (met r e) (b.0 never e (met r e).0 some))) (λ _. hull_apart q some never rs all b.1 side)
    where
      Side : Run → Type 0
      Side x = ((run.end < q.start) × (x.end < q.start)) ⊎ ((q.end < run.start) × (q.end < x.start))

      joined_end : (a b c : ℕ) → a < c → b < c → max a b < c
      joined_end a b c e f = omega arith

      joined_start : (a b c : ℕ) → c < a → c < b → c < min a b
      joined_start a b c e f = omega arith

      round : {A : Type 0} (a b c d : ℕ) → a ≤ b → b < c → c < d → d < a → A
      round a b c d e f g h = absurd (omega (arith, e, f, g, h))

      step : Side all → (r.start < r.end) × ((r.start ≤ run.end) × (run.start ≤ r.end)) → (r.end < q.start) ⊎ (q.end < r.start) → Side (hull all r)
      step (inl below) m (inl under) = inl (below.0, joined_end all.end r.end q.start below.1 under)
      step (inl below) m (inr over) = round r.start run.end q.start q.end m.1.0 below.0 some over
      step (inr above) m (inl under) = round run.start r.end q.start q.end m.1.1 under some above.0
      step (inr above) m (inr over) = inr (above.0, joined_start all.start r.start q.end above.1 over)

  from_hull : (rs qs : List Run) → Cross qs rs → ApartFrom (hull_of rs run) (without qs run)
  from_hull rs [] c = tt
  from_hull rs (q ∷ qs) c = (
    cond_both (meets run q) no_run q (Apart (hull_of rs run)) (λ _. apart_none (hull_of rs run))
        (λ never _ some. hull_apart q some never rs run c.0 (start some (unmet q some never))),
    from_hull rs qs c.1,
  )
    where
      start : q.start < q.end → (run.end < q.start) ⊎ (q.end < run.start)
          → ((run.end < q.start) × (run.end < q.start)) ⊎ ((q.end < run.start) × (q.end < run.start))
      start some (inl below) = inl (below, below)
      start some (inr above) = inr (above, above)

  fine_without : (rs : List Run) → AllFine rs → AllFine (without rs run)
  fine_without [] f = tt
  fine_without (r ∷ rs) f = (cond_both (meets run r) no_run r Fine (λ _. inl (refl, refl)) (λ _. f.0), fine_without rs f.1)

  from_without : (r : Run) (qs : List Run) → ApartFrom r qs → ApartFrom (apart run r) (without qs run)
  from_without r [] a = tt
  from_without r (q ∷ qs) a = (
    cond_both (meets run r) no_run r (λ (x : Run). Apart x (apart run q)) (λ _. none_apart (apart run q))
        (λ _. cond_both (meets run q) no_run q (Apart r) (λ _. apart_none r) (λ _. a.0)),
    from_without r qs a.1,
  )

  apart_without : (rs : List Run) → AreApart rs → AreApart (without rs run)
  apart_without [] a = tt
  apart_without (r ∷ rs) a = (from_without r rs a.0, apart_without rs a.1)

fine_set : (rs : List Run) (k : ℕ) (run : Run) → Fine run → AllFine rs → AllFine (set rs k run)
fine_set [] k run e f = tt
fine_set (r ∷ rs) zero run e f = (e, f.1)
fine_set (r ∷ rs) (suc k) run e f = (f.0, fine_set rs k run e f.1)

from_set : (r : Run) (qs : List Run) (k : ℕ) (run : Run) → Apart r run → ApartFrom r qs → ApartFrom r (set qs k run)
from_set r [] k run e a = tt
from_set r (q ∷ qs) zero run e a = (e, a.1)
from_set r (q ∷ qs) (suc k) run e a = (a.0, from_set r qs k run e a.1)

apart_set : (rs : List Run) (k : ℕ) (run : Run) → ApartFrom run rs → AreApart rs → AreApart (set rs k run)
apart_set [] k run e a = tt
apart_set (r ∷ rs) zero run e a = (e.1, a.1)
apart_set (r ∷ rs) (suc k) run e a = (from_set r rs k run (swapped run r e.0) a.0, apart_set rs k run e.1 a.1)

placed_board : (offset : Option ℕ) (rs : List Run) (run : Run) → Fine run → ApartFrom run rs → Board rs → Board (placed_at offset rs run)
placed_board None rs run e a b = b
placed_board (Some k) rs run e a b = record { fine = fine_set rs k run e b.fine; gaps = apart_set rs k run a b.gaps }

pub noted_board : (rs : List Run) (run : Run) → Real run → Board rs → Board (noted rs run)
noted_board rs run real b =
    placed_board (free_offset (without rs run)) (without rs run) (hull_of rs run) (inr (real_joined run real rs run real b.fine))
    (from_hull run real rs rs (cross_self run real rs b.gaps))
    (record { fine = fine_without run real rs b.fine; gaps = apart_without run real rs b.gaps })

-- WHAT ISN'T HELD

-- the offset is in no run
abbrev pub AllOut : ℕ → List Run → Type 0
AllOut offset [] = Unit {0}
AllOut offset (r ∷ rs) = ((offset < r.start) ⊎ (r.end ≤ offset)) × AllOut offset rs

pub first_out : (rs : List Run) → AllFine rs → AllOut 0 rs
first_out [] f = tt
first_out (r ∷ rs) f = (⊎_elim (λ none. inr (least r.end none.1)) (λ real. inl (real.past)) f.0, first_out rs f.1) where
  least : (n : ℕ) → n ≡ 0 → n ≤ 0
  least n e = omega arith

pub none_out : (offset : ℕ) (rs : List Run) → AllNone rs → AllOut offset rs
none_out offset [] f = tt
none_out offset (r ∷ rs) f = (inr (least r.end offset f.0.1), none_out offset rs f.1) where
  least : (n offset : ℕ) → n ≡ 0 → n ≤ offset
  least n offset e = omega arith

through : (a b c : ℕ) → a ≤ b → b ≤ c → a ≤ c
through a b c e f = omega arith

pub missing_least : (rs : List Run) (offset : ℕ) → offset ≤ first_missing rs offset
missing_least [] offset = same offset where
  same : (n : ℕ) → n ≤ n
  same n = omega arith
missing_least (r ∷ rs) offset =
    cond_both (lies_in offset r) r.end offset (λ (n : ℕ). offset ≤ first_missing rs n)
    (λ inside.
    through offset r.end (first_missing rs r.end) (below offset r.end (ltb-true offset r.end (right_true (nat_le r.start offset) (nat_lt offset r.end) inside)))
    (missing_least rs r.end))
    (λ _. missing_least rs offset)
  where
    below : (a b : ℕ) → a < b → a ≤ b
    below a b e = omega arith

-- below a run that is apart from the others it stays below
stays_below : (r : Run) → r.start < r.end → (rs : List Run) → ApartFrom r rs → (offset : ℕ) → offset < r.start → first_missing rs offset < r.start
stays_below r some [] a offset below = below
stays_below r some (q ∷ qs) a offset below =
    cond_both (lies_in offset q) q.end offset (λ (n : ℕ). first_missing qs n < r.start)
    (λ inside.
    let from = leb-true q.start offset (left_true (nat_le q.start offset) (nat_lt offset q.end) inside) in
    let to = ltb-true offset q.end (right_true (nat_le q.start offset) (nat_lt offset q.end) inside) in
    stays_below r some qs a.1 q.end
    (⊎_elim (λ under. round r.start r.end q.start offset some under from below) (λ over. over) (a.0 some (wide q.start offset q.end from to))))
    (λ _. stays_below r some qs a.1 offset below)
  where
    wide : (a b c : ℕ) → a ≤ b → b < c → a < c
    wide a b c e f = omega arith

    round : {A : Type 0} (a b c d : ℕ) → a < b → b < c → c ≤ d → d < a → A
    round a b c d e f g h = absurd (omega (arith, e, f, g, h))

pub missing_out : (rs : List Run) → AllFine rs → AreApart rs → (offset : ℕ) → AllOut (first_missing rs offset) rs
missing_out [] f a offset = tt
missing_out (r ∷ rs) f a offset =
    cond_both (lies_in offset r) r.end offset (λ (n : ℕ). ((first_missing rs n < r.start) ⊎ (r.end ≤ first_missing rs n)) × AllOut (first_missing rs n) rs)
    (λ _. (inr (missing_least rs r.end), missing_out rs f.1 a.1 r.end))
    (λ out. (
      ⊎_elim (λ below. ⊎_elim (λ none. inr (least r.end (first_missing rs offset) none.1)) (λ real. inl (stays_below r real.some rs a.0 offset below)) f.0)
          (λ above. inr (through r.end offset (first_missing rs offset) above (missing_least rs offset))) (beside offset r out),
      missing_out rs f.1 a.1 offset,
    ))
  where
    least : (n offset : ℕ) → n ≡ 0 → n ≤ offset
    least n offset e = omega arith

gap_least : (rs : List Run) (offset most : ℕ) → gap_end rs offset most ≤ most
gap_least [] offset most = same most where
  same : (n : ℕ) → n ≤ n
  same n = omega arith
gap_least (r ∷ rs) offset most =
    cond_both (is_run r && nat_lt offset r.start) (min most r.start) most (λ (end : ℕ). gap_end rs offset end ≤ most)
    (λ _. through (gap_end rs offset (min most r.start)) (min most r.start) most (gap_least rs offset (min most r.start)) (first most r.start))
    (λ _. gap_least rs offset most)
  where
    first : (a b : ℕ) → min a b ≤ a
    first a b = omega arith

pub gap_from : (rs : List Run) (offset most : ℕ) → offset ≤ most → offset ≤ gap_end rs offset most
gap_from [] offset most e = e
gap_from (r ∷ rs) offset most e =
    cond_both (is_run r && nat_lt offset r.start) (min most r.start) most (λ (end : ℕ). offset ≤ gap_end rs offset end)
    (λ is.
    gap_from rs offset (min most r.start) (both offset most r.start e (ltb-true offset r.start (right_true (is_run r) (nat_lt offset r.start) is))))
    (λ _. gap_from rs offset most e)
  where
    both : (offset a b : ℕ) → offset ≤ a → offset < b → offset ≤ min a b
    both offset a b e f = omega arith

-- from an offset that is in no run up to where the next one begins nothing is held
pub gap_unheld : (rs : List Run) → AllFine rs → (offset len most : ℕ) → AllOut offset rs → offset + len ≤ gap_end rs offset most → AreUnheld offset len rs
gap_unheld [] f offset len most out e = tt
gap_unheld (r ∷ rs) f offset len most out e =
    ⊎_elim
    (λ below.
    cond_both (is_run r && nat_lt offset r.start) (min most r.start) most
    (λ (end : ℕ). offset + len ≤ gap_end rs offset end → ((offset + len ≤ r.start) ⊎ (r.end ≤ offset)) × AreUnheld offset len rs)
    (λ _ g. (
      inl (through (offset + len) (min most r.start) r.start (through (offset + len) (gap_end rs offset (min most r.start)) (min most r.start) g
          (gap_least rs offset (min most r.start))) (second most r.start)),
      gap_unheld rs f.1 offset len (min most r.start) out.1 g,
    ))
    (λ never g. (inr (none_by f.0 below never), gap_unheld rs f.1 offset len most out.1 g)) e)
    (λ above.
    cond_both (is_run r && nat_lt offset r.start) (min most r.start) most
    (λ (end : ℕ). offset + len ≤ gap_end rs offset end → ((offset + len ≤ r.start) ⊎ (r.end ≤ offset)) × AreUnheld offset len rs)
    (λ _ g. (inr above, gap_unheld rs f.1 offset len (min most r.start) out.1 g)) (λ _ g. (inr above, gap_unheld rs f.1 offset len most out.1 g)) e)
    out.0
  where
    second : (a b : ℕ) → min a b ≤ b
    second a b = omega arith

    none_by : Fine r → offset < r.start → (is_run r && nat_lt offset r.start) ≡ false → r.end ≤ offset
    none_by (inl none) below never = least r.end offset none.1 where
      least : (n offset : ℕ) → n ≡ 0 → n ≤ offset
      least n offset e = omega arith
    none_by (inr real) below never = clash (sym at_both ∙ never) where
      at_both : (nat_lt r.start r.end && nat_lt offset r.start) ≡ true
      at_both = both (nat_lt r.start r.end) (nat_lt offset r.start) (lt-ltb r.start r.end real.some) (lt-ltb offset r.start below)

-- NOTHING IS HELD

abbrev counts : ℕ → Run → ℕ
counts count r = sum_of (min r.end 4_294_967_295 - min r.start 4_294_967_295) count

counts_least : (rs : List Run) (count : ℕ) → count ≤ 4_294_967_295 → count ≤ fold counts count rs
counts_least [] count e = same count where
  same : (n : ℕ) → n ≤ n
  same n = omega arith
counts_least (r ∷ rs) count e =
    through count (counts count r) (fold counts (counts count r) rs) (more (min r.end 4_294_967_295 - min r.start 4_294_967_295) count e)
    (counts_least rs (counts count r) (capped (min r.end 4_294_967_295 - min r.start 4_294_967_295) count))
  where
    more : (n count : ℕ) → count ≤ 4_294_967_295 → count ≤ min (n + count) 4_294_967_295
    more n count e = omega arith

    capped : (n count : ℕ) → min (n + count) 4_294_967_295 ≤ 4_294_967_295
    capped n count = omega arith

none_counted : (rs : List Run) (count : ℕ) → AllFine rs → fold counts count rs ≡ 0 → count ≤ 4_294_967_295 → AllNone rs
none_counted [] count f e g = tt
none_counted (r ∷ rs) count f e g =
    ⊎_elim (λ none. (none, none_counted rs (counts count r) f.1 e (capped (min r.end 4_294_967_295 - min r.start 4_294_967_295) count)))
    (λ real.
    absurd (let some = one r.start r.end count real.some real.near in
    let all = counts_least rs (counts count r) (capped (min r.end 4_294_967_295 - min r.start 4_294_967_295) count) in omega (arith, some, all, e)))
    f.0
  where
    capped : (n count : ℕ) → min (n + count) 4_294_967_295 ≤ 4_294_967_295
    capped n count = omega arith

    one : (start end count : ℕ) → start < end → end < 2 ^ 31 → 1 ≤ min (min end 4_294_967_295 - min start 4_294_967_295 + count) 4_294_967_295
    one start end count e f = omega (arith, e, f)

pub nothing_held : (rs : List Run) → AllFine rs → held rs ≡ 0 → AllNone rs
nothing_held rs f e = none_counted rs 0 f e (omega arith)

stays_none : (rs : List Run) (count : ℕ) → AllNone rs → count ≡ 0 → fold counts count rs ≡ 0
stays_none [] count f e = e
stays_none (r ∷ rs) count f e = stays_none rs (counts count r) f.1 (none r.start r.end count f.0.0 f.0.1 e) where
  none : (start end count : ℕ) → start ≡ 0 → end ≡ 0 → count ≡ 0 → min (min end 4_294_967_295 - min start 4_294_967_295 + count) 4_294_967_295 ≡ 0
  none start end count e f g = omega arith

pub none_held : (rs : List Run) → AllNone rs → held rs ≡ 0
none_held rs f = stays_none rs 0 f refl
