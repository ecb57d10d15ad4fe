-- How many errors go.
use Rattle.std.proofs.Common.{◌≡◌, ℕ, Bool, true, false, not, ◌&&◌, ℤ, pos, ◌≤ℤ◌, ◌+ℤ◌, int_lt, List, [], ◌∷◌, length, zero, suc, refl, ap, ◌∙◌, arith}
use Rattle.std.specs.Prelude.{◌+◌, ◌*◌, ◌/◌, ◌≤◌, replicate}
use Rattle.std.specs.Int.{int_max}
use Rattle.std.specs.List.{AllByRecursion}
use Rattle.std.proofs.lemmas.Int.{ints, clamps}
use Rattle.iface_tables.specs.ErrorLimit.{answered_at, may_answer, all_go, answer_time, burst_time}

-- TESTS

at_most : (a b : ℤ) → not (int_lt a b) ≡ true → b ≤ℤ a
at_most a b h = grind (arith, ints)

may : (a b : ℤ) → b ≤ℤ a → not (int_lt a b) ≡ true
may a b h = grind (arith, ints)

max_left : (a b : ℤ) → a ≤ℤ int_max a b
max_left a b = omega (arith, ints, clamps)

max_right : (a b : ℤ) → b ≤ℤ int_max a b
max_right a b = omega (arith, ints, clamps)

max_least : (a b c : ℤ) → a ≤ℤ c → b ≤ℤ c → int_max a b ≤ℤ c
max_least a b c left right = omega (arith, ints, clamps)

both_true : (a b : Bool) → (a && b) ≡ true → (a ≡ true) × (b ≡ true)
both_true true b h = (refl, h)
both_true false b h = absurd (cc h)

and_true : (a b : Bool) → a ≡ true → b ≡ true → (a && b) ≡ true
and_true a b one other = ap (λ t. t && b) one ∙ other

ahead : (until now : ℤ) → may_answer until now ≡ true → answered_at until now ≤ℤ (now +ℤ pos burst_time)
ahead until now h = at_most (now +ℤ pos burst_time) (answered_at until now) h

-- IN A WHILE

no_time : (until end : ℤ) → until ≤ℤ end → (until +ℤ pos 0) ≤ℤ end
no_time until end low = omega (arith, ints)

one_step : (until last end : ℤ) (n : ℕ) → until ≤ℤ last → ((last +ℤ pos 125_000) +ℤ pos (125_000 * n)) ≤ℤ end →
    (until +ℤ pos (125_000 * suc n)) ≤ℤ end
one_step until last end n before rest = omega (arith, ints)

within : (next now top : ℤ) → next ≤ℤ (now +ℤ pos burst_time) → now ≤ℤ top → next ≤ℤ (top +ℤ pos burst_time)
within next now top most low = omega (arith, ints)

-- each answer takes its time, and none is counted further ahead than that
room : (until top : ℤ) (instants : List ℤ) → until ≤ℤ (top +ℤ pos burst_time) → AllByRecursion (λ m. m ≤ℤ top) instants →
    all_go until instants ≡ true → (until +ℤ pos (answer_time * length instants)) ≤ℤ (top +ℤ pos burst_time)
room until top [] low all goes = no_time until (top +ℤ pos burst_time) low
room until top (now ∷ instants) low all goes =
    let both = both_true (may_answer until now) (all_go (answered_at until now) instants) goes in
    one_step until (int_max until now) (top +ℤ pos burst_time) (length instants) (max_left until now)
    (room (answered_at until now) top instants (within (answered_at until now) now top (ahead until now both.0) all.0) all.1 both.1)

before_end : (from : ℤ) (time : ℕ) (instants : List ℤ) → AllByRecursion (λ m. (from ≤ℤ m) × (m ≤ℤ (from +ℤ pos time))) instants →
    AllByRecursion (λ m. m ≤ℤ (from +ℤ pos time)) instants
before_end from time [] all = tt
before_end from time (m ∷ instants) all = (all.0.1, before_end from time instants all.1)

counted : (from now last : ℤ) (time n : ℕ) → from ≤ℤ now → now ≤ℤ last →
    ((last +ℤ pos 125_000) +ℤ pos (125_000 * n)) ≤ℤ ((from +ℤ pos time) +ℤ pos 2_000_000) → 125_000 * suc n ≤ time + 2_000_000
counted from now last time n begins after rest = omega (arith, ints)

-- as many as there is time for
few : (until from : ℤ) (time : ℕ) (instants : List ℤ) → AllByRecursion (λ m. (from ≤ℤ m) × (m ≤ℤ (from +ℤ pos time))) instants →
    all_go until instants ≡ true → answer_time * length instants ≤ time + burst_time
few until from time [] all goes = omega arith
few until from time (now ∷ instants) all goes =
    let both = both_true (may_answer until now) (all_go (answered_at until now) instants) goes in
    counted from now (int_max until now) time (length instants) all.0.0 (max_right until now)
    (room (answered_at until now) (from +ℤ pos time) instants
    (within (answered_at until now) now (from +ℤ pos time) (ahead until now both.0) all.0.1) (before_end from time instants all.1) both.1)

by_number : (n time : ℕ) → 125_000 * n ≤ time + 2_000_000 → n ≤ 16 + time / 125_000
by_number n time h = omega arith

pub few_within : (until from : ℤ) (time : ℕ) (instants : List ℤ) → AllByRecursion (λ m. (from ≤ℤ m) × (m ≤ℤ (from +ℤ pos time))) instants →
    all_go until instants ≡ true → length instants ≤ 16 + time / answer_time
few_within until from time instants all goes = by_number (length instants) time (few until from time instants all goes)

pub few_in_a_second : (until from : ℤ) (instants : List ℤ) → AllByRecursion (λ m. (from ≤ℤ m) × (m ≤ℤ (from +ℤ pos 1_000_000))) instants →
    all_go until instants ≡ true → length instants ≤ 24
few_in_a_second until from instants all goes = few_within until from 1_000_000 instants all goes

-- AT ONCE

-- there is time for one at this instant, and for as many more after it
has_time : (until now : ℤ) (n : ℕ) → (until +ℤ pos (125_000 * suc n)) ≤ℤ (now +ℤ pos 2_000_000) → 125_000 * suc n ≤ 2_000_000 →
    ((int_max until now +ℤ pos 125_000) ≤ℤ (now +ℤ pos 2_000_000))
    × (((int_max until now +ℤ pos 125_000) +ℤ pos (125_000 * n)) ≤ℤ (now +ℤ pos 2_000_000))
has_time until now n small few = (omega (arith, ints, clamps), omega (arith, ints, clamps))

goes_at_once : (n : ℕ) (until now : ℤ) → (until +ℤ pos (answer_time * n)) ≤ℤ (now +ℤ pos burst_time) → answer_time * n ≤ burst_time →
    all_go until (replicate n now) ≡ true
goes_at_once zero until now small few = refl
goes_at_once (suc n) until now small few =
    let time = has_time until now n small few in
    and_true (may_answer until now) (all_go (answered_at until now) (replicate n now)) (may (now +ℤ pos burst_time) (answered_at until now) time.0)
    (goes_at_once n (answered_at until now) now time.1 (omega (arith, few)))

quiet_enough : (until last now : ℤ) → until ≤ℤ (last +ℤ pos 2_000_000) → (last +ℤ pos 2_000_000) ≤ℤ now →
    (until +ℤ pos 2_000_000) ≤ℤ (now +ℤ pos 2_000_000)
quiet_enough until last now counted quiet = omega (arith, ints)

pub sixteen_again : (until last now : ℤ) → may_answer until last ≡ true → (last +ℤ pos burst_time) ≤ℤ now →
    all_go (answered_at until last) (replicate 16 now) ≡ true
sixteen_again until last now may quiet =
    goes_at_once 16 (answered_at until last) now (quiet_enough (answered_at until last) last now (ahead until last may) quiet) (omega arith)

-- seventeen at one instant would be more than sixteen in no time
all_now : (n : ℕ) (now : ℤ) → AllByRecursion (λ m. (now ≤ℤ m) × (m ≤ℤ (now +ℤ pos 0))) (replicate n now)
all_now zero now = tt
all_now (suc n) now = ((omega (arith, ints), omega (arith, ints)), all_now n now)

seventeen_or : (goes : Bool) → (goes ≡ true → 17 ≤ 16) → goes ≡ false
seventeen_or true many = absurd (omega (arith, many refl))
seventeen_or false many = refl

pub never_seventeen : (until now : ℤ) → all_go until (replicate 17 now) ≡ false
never_seventeen until now = seventeen_or (all_go until (replicate 17 now)) (few_within until now 0 (replicate 17 now) (all_now 17 now))
