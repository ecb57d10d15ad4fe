-- Where there is no run.
use Rattle.std.proofs.Common.{◌≡◌, ℕ, zero, suc, ◌+◌, ◌-◌, ◌*◌, ◌==◌, ◌&&◌, ◌||◌, nat_eq, nat_le, nat_lt, min, Bool, true, false, if◌then◌else◌, List, [], ◌∷◌}
use Rattle.std.proofs.Common.{map, refl, sym, ap, ◌∙◌, arith}
use Rattle.std.proofs.lemmas.Bool.{and_parts, and_right, cond-false, eqb-true, ne_eqb, le-ltb, lt-leb}
use Rattle.std.proofs.lemmas.Nat.{le_or_l, le_or_r}
use Rattle.std.specs.Int.RustNames.{bit_or}
use Rattle.std.specs.List.{fold}
use Rattle.tcp_state.specs.Scoreboard.{is_none, is_empty, no_run, sum_of, sacked_below, missing, first_missing, reneges, after_ack, lies_in, lowered}
use Rattle.tcp_state.specs.Scoreboard.{runs_above, octets_above, is_lost}
use Rattle.tcp_state.specs.declared.scoreboard.Run.{Run}

-- WHAT THE WORDS PUT TOGETHER SAY

more : (n : ℕ) → (suc n == 0) ≡ false
more n = ne_eqb (suc n) 0 (λ e. omega (arith, e))

either : (a b : ℕ) → (bit_or a b == 0) ≡ ((a == 0) && (b == 0))
either zero zero = refl
either zero (suc b) = ne_eqb (bit_or zero (suc b)) 0 (λ e. omega (arith, le_or_r zero (suc b), e)) ∙ sym (more b)
either (suc a) b =
    ne_eqb (bit_or (suc a) b) 0 (λ e. omega (arith, le_or_l (suc a) b, e)) ∙ sym (ap (λ (t : Bool). t && (b == 0)) (more a))

and_true : (t : Bool) → t ≡ (t && true)
and_true true = refl
and_true false = refl

and_over : (x y z : Bool) → ((x && y) && z) ≡ (x && (y && z))
and_over true y z = refl
and_over false y z = refl

with_run : (k : ℕ) (r : Run) → (bit_or (bit_or k r.start) r.end == 0) ≡ ((k == 0) && is_none r)
with_run k r =
    either (bit_or k r.start) r.end ∙ (ap (λ (t : Bool). t && (r.end == 0)) (either k r.start) ∙ and_over (k == 0) (r.start == 0) (r.end == 0))

abbrev pub all_of : ℕ → List Run → ℕ
all_of k runs = fold (λ (all : ℕ) (r : Run). bit_or (bit_or all r.start) r.end) k runs

either_all : (k : ℕ) (runs : List Run) → (all_of k runs == 0) ≡ ((k == 0) && is_empty runs)
either_all k [] = and_true (k == 0)
either_all k (r ∷ rs) =
    either_all (bit_or (bit_or k r.start) r.end) rs
    ∙ (ap (λ (t : Bool). t && is_empty rs) (with_run k r) ∙ and_over (k == 0) (is_none r) (is_empty rs))

pub empty_by_words : (runs : List Run) → (all_of 0 runs == 0) ≡ is_empty runs
empty_by_words runs = either_all 0 runs

-- WHAT THEN IS MISSING OR LOST

none_by : (start end : ℕ) → start ≡ 0 → end ≡ 0 → record { start = start; end = end } ≡ no_run
none_by start end e f = ap (λ (s : ℕ). record { start = s; end = end }) e ∙ ap (λ (n : ℕ). record { start = 0; end = n }) f

is_no_run : (r : Run) → is_none r ≡ true → r ≡ no_run
is_no_run r e =
    let both = and_parts (r.start == 0) (r.end == 0) e in
    none_by r.start r.end (eqb-true r.start 0 both.0) (eqb-true r.end 0 both.1)

-- a fold that such a run doesn't change
stays : {B : Type 0} (f : B → Run → B) (k : B) (runs : List Run) → f k no_run ≡ k → is_empty runs ≡ true → fold f k runs ≡ k
stays f k [] same e = refl
stays f k (r ∷ rs) same e =
    let both = and_parts (is_none r) (is_empty rs) e in
    ap (λ x. fold f x rs) (ap (λ (x : Run). f k x) (is_no_run r both.0) ∙ same) ∙ stays f k rs same both.1

holds_none : (offset : ℕ) → sum_of (min 0 offset - min 0 offset) 0 ≡ 0
holds_none offset = omega arith

less_none : (offset held : ℕ) → held ≡ 0 → offset ≡ offset - held
less_none offset held e = omega (arith, e)

pub none_missing : (runs : List Run) (offset : ℕ) → is_empty runs ≡ true → offset ≡ missing runs offset
none_missing runs offset e =
    less_none offset (sacked_below runs offset)
    (stays (λ (count : ℕ) (r : Run). sum_of (min r.end offset - min r.start offset) count) 0 runs (holds_none offset) e)

lies_nowhere : (offset : ℕ) → lies_in offset no_run ≡ false
lies_nowhere offset = and_right (nat_le 0 offset) (nat_lt offset 0) (le-ltb offset 0 (omega arith))

pub first_of_none : (runs : List Run) (offset : ℕ) → is_empty runs ≡ true → offset ≡ first_missing runs offset
first_of_none runs offset e =
    sym (stays (λ (p : ℕ) (r : Run). if lies_in p r then r.end else p) offset runs
    (cond-false (lies_in offset no_run) 0 offset (lies_nowhere offset)) e)

none_above : (runs : List Run) (offset : ℕ) → is_empty runs ≡ true → runs_above runs offset ≡ 0
none_above runs offset e =
    stays (λ (count : ℕ) (r : Run). if nat_lt r.start r.end && nat_lt offset r.start then min (count + 1) 255 else count) 0 runs refl e

no_octets : (runs : List Run) (offset : ℕ) → is_empty runs ≡ true → octets_above runs offset ≡ 0
no_octets runs offset e =
    stays (λ (count : ℕ) (r : Run). if nat_lt offset r.start then sum_of (r.end - r.start) count else count) 0 runs
    (cond-false (nat_lt offset 0) (sum_of 0 0) 0 (le-ltb offset 0 (omega arith))) e

at_none : (threshold least : ℕ) → nat_eq threshold 0 ≡ (nat_le threshold 0 || nat_lt least 0)
at_none zero least = refl
at_none (suc n) least =
    more n
    ∙ sym (ap (λ (t : Bool). t || nat_lt least 0) (lt-leb (suc n) 0 (omega arith)) ∙ le-ltb least 0 (omega arith))

pub none_lost : (runs : List Run) (threshold mss offset : ℕ) → is_empty runs ≡ true → nat_eq threshold 0 ≡ is_lost runs threshold mss offset
none_lost runs threshold mss offset e =
    at_none threshold ((threshold - 1) * mss)
    ∙ sym (ap (λ (n : ℕ). nat_le threshold n || nat_lt ((threshold - 1) * mss) (octets_above runs offset)) (none_above runs offset e)
    ∙ ap (λ (n : ℕ). nat_le threshold 0 || nat_lt ((threshold - 1) * mss) n) (no_octets runs offset e))

-- WHERE SND.UNA RISES

none_reneges : (by : ℕ) (runs : List Run) → is_empty runs ≡ true → reneges runs by ≡ false
none_reneges by [] e = refl
none_reneges by (r ∷ rs) e =
    let both = and_parts (is_none r) (is_empty rs) e in
    ap (λ (x : Run). lies_in by x || reneges rs by) (is_no_run r both.0)
    ∙ (ap (λ (t : Bool). t || reneges rs by) (lies_nowhere by) ∙ none_reneges by rs both.1)

none_lowered : (by : ℕ) (runs : List Run) → is_empty runs ≡ true → map (lowered by) runs ≡ runs
none_lowered by [] e = refl
none_lowered by (r ∷ rs) e =
    let both = and_parts (is_none r) (is_empty rs) e in
    let same = ap (λ (x : Run). lowered by x) (is_no_run r both.0) ∙ (none_by (0 - by) (0 - by) (omega arith) (omega arith) ∙ sym (is_no_run r both.0)) in
    ap (λ (x : Run). x ∷ map (lowered by) rs) same ∙ ap (λ (xs : List Run). r ∷ xs) (none_lowered by rs both.1)

pub none_after_ack : (runs : List Run) (by : ℕ) → is_empty runs ≡ true → runs ≡ after_ack runs by
none_after_ack runs by e = sym (cond-false (reneges runs by) _ (map (lowered by) runs) (none_reneges by runs e) ∙ none_lowered by runs e)
