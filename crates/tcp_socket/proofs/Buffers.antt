-- The steps of a receive buffer: what they do to its ring and its runs is what the receive map does.
use Rattle.std.proofs.Common.{◌≡◌, ◌↔◌, ℕ, ◌+◌, ◌-◌, ◌%◌, ◌^◌, ◌<◌, ◌≤◌, min, not, ◌==◌, Bool, true, false, List, [], ◌∷◌, ◌++◌, length, take, drop, Result, Ok}
use Rattle.std.proofs.Common.{Err, IsErr, is_ok, IfOk, refl, sym, ap, subst, ◌∙◌, inl, inr, arith, length-append, length-drop}
use Rattle.std.specs.Prelude.{IsTrue}
use Rattle.std.specs.Result.{result_unwrap_or}
use Rattle.std.proofs.lemmas.Bool.Decides.{nat_tests}
use Rattle.std.proofs.lemmas.List.{length-take-le, take_all, length-take}
use Rattle.net_base.specs.Ring.{Ring, capacity, rotated, storage_of, cleared, overwritten, extended, released}
use Rattle.net_base.specs.Assembler.{IsUnion, added, front, without_front}
use Rattle.tcp_ranges.specs.ReceiveMap as receive
use Rattle.tcp_ranges.specs.ReceiveMap.{space, store}
use Rattle.tcp_ranges.specs.OutOfOrder.{map_from, runs_of, overlay, EndsBy}
use Rattle.tcp_ranges.proofs.Offsets.{length-map_from, map_from-space, map_from-more}
use Rattle.tcp_ranges.proofs.Storing.{held-store, overlay-overwritten, length-overlay, EndsBy-union}
use Rattle.tcp_ranges.proofs.Fronts.{takes_front}
use Rattle.tcp_ranges.proofs.RunsOf.{runs_of-held}
use Rattle.tcp_block.specs.Calls.{read_from}
use Rattle.tcp_block.specs.Answers.{run_at}
use Rattle.tcp_socket.specs.Receive as buffer
use Rattle.tcp_socket.specs.Receive.{received, IsHeldBy, most_bytes}
use Rattle.tcp_block.specs.Value.{Received, received_of, room_of, emptied}

pub capacity-received : (r : Ring ℕ) (held : List (ℕ × ℕ)) → capacity r ≡ room_of (received r held)
capacity-received r held = ap (λ n. length r.queue + n) (sym (length-map_from held 0 r.free))

nothing-EndsBy : (n : ℕ) → EndsBy [] n
nothing-EndsBy n p h = absurd h

pub nothing-IsHeldBy : (r : Ring ℕ) → length r.queue + length r.free ≤ most_bytes → IsHeldBy r []
nothing-IsHeldBy r small = record { runs = tt; gap = λ h. absurd h; ends = nothing-EndsBy (length r.free); small = small }

pub map_from-nothing : (free : List ℕ) → map_from [] 0 free ≡ space (length free)
map_from-nothing free = map_from-space [] 0 free (nothing-EndsBy 0)

length-rotated : (n : ℕ) (xs : List ℕ) → length (rotated n xs) ≡ length xs
length-rotated n xs = rw (length-append, length-drop, length-take) (omega arith)

pub cleared-received : (r : Ring ℕ) (held : List (ℕ × ℕ)) → received (cleared r) [] ≡ emptied (received r held)
cleared-received r held =
    let size : length (storage_of r) ≡ room_of (received r held) =
    length-rotated _ (r.queue ++ r.free) ∙ length-append r.queue r.free ∙ capacity-received r held in
    let map : map_from [] 0 (storage_of r) ≡ space (room_of (received r held)) = map_from-nothing (storage_of r) ∙ ap space size in
    λ i. record { waiting = []; map = map i; start = 0 }

pub cleared-new : (r : Ring ℕ) → received (cleared r) [] ≡ received_of [] (space (length r.queue + length r.free)) 0
cleared-new r =
    let map : map_from [] 0 (storage_of r) ≡ space (length r.queue + length r.free) =
    map_from-nothing (storage_of r) ∙ ap space (length-rotated (capacity r - r.start) (r.queue ++ r.free) ∙ length-append r.queue r.free) in
    λ i. record { waiting = []; map = map i; start = 0 }

pub released-received : (r : Ring ℕ) (held : List (ℕ × ℕ)) (n : ℕ) → IsHeldBy r held → n ≤ length r.queue →
    received (released r n) held ≡ read_from (received r held) n
released-received r held n is fits =
    let map : map_from held 0 (r.free ++ take n r.queue) ≡ map_from held 0 r.free ++ space (length (take n r.queue)) =
    map_from-more held r.free (take n r.queue) is.ends in
    let start : (r.start + n) % capacity r ≡ (r.start + n) % room_of (received r held) = ap (λ k. (r.start + n) % k) (capacity-received r held) in
    λ i. record { waiting = drop n r.queue; map = map i; start = start i }

pub released-IsHeldBy : (r : Ring ℕ) (held : List (ℕ × ℕ)) (n : ℕ) → IsHeldBy r held → n ≤ length r.queue → IsHeldBy (released r n) held
released-IsHeldBy r held n is fits =
    record {
      runs = is.runs;
      gap = is.gap;
      ends = λ p h. let below = is.ends p h in rw length-append (omega (arith, below));
      small = rw (length-append, length-drop, length-take-le n r.queue fits) (omega (arith, is.small));
    }

pub cleared-IsHeldBy : (r : Ring ℕ) → length r.queue + length r.free ≤ most_bytes → IsHeldBy (cleared r) []
cleared-IsHeldBy r small =
    nothing-IsHeldBy (cleared r) (rw (length-rotated (capacity r - r.start) (r.queue ++ r.free), length-append) (omega (arith, small)))

-- bytes stored in order: the run at 0 joins what waits
pub record Stores (r : Ring ℕ) (held : List (ℕ × ℕ)) (bytes : List ℕ) (new : Ring ℕ) (count : ℕ) : Type 0 where
  pub fits : count ≤ length (overwritten r 0 bytes).free
  pub kept : IsHeldBy new (without_front (added held 0 (length bytes)))
  pub size : count ≡ length (receive.front (store (received r held).map 0 bytes))
  pub value : received new (without_front (added held 0 (length bytes))) ≡ buffer.in_order (received r held) bytes

pub stores : (r : Ring ℕ) (held : List (ℕ × ℕ)) (bytes : List ℕ) → IsHeldBy r held → length bytes ≤ length r.free →
    Stores r held bytes (extended (overwritten r 0 bytes) (front (added held 0 (length bytes)))) (front (added held 0 (length bytes)))
stores r held bytes is short =
    let n = front (added held 0 (length bytes)) in
    let rest = without_front (added held 0 (length bytes)) in
    let t = takes_front held r.free 0 bytes is.runs is.ends (omega (arith, short)) in
    let laid = overlay-overwritten r 0 bytes (omega (arith, short)) in
    let waiting : r.queue ++ take n (overwritten r 0 bytes).free ≡ r.queue ++ receive.front (store (map_from held 0 r.free) 0 bytes) =
    ap (λ xs. r.queue ++ xs) (ap (take n) laid ∙ sym t.taken) in
    let map : map_from rest 0 (drop n (overwritten r 0 bytes).free) ≡ receive.following (store (map_from held 0 r.free) 0 bytes) =
    ap (λ xs. map_from rest 0 (drop n xs)) laid ∙ sym t.left in
    record {
      fits = rw laid t.fits;
      kept = record {
        runs = t.runs;
        gap = t.gap;
        ends = rw laid t.ends;
        small =
            rw (
              length-append,
              laid,
              length-drop,
              length-take-le n (overlay r.free 0 bytes) t.fits,
              t.same_length,
            ) (omega (arith, is.small, t.fits, t.same_length));
      };
      size = sym (ap length t.taken ∙ length-take-le n (overlay r.free 0 bytes) t.fits);
      value = λ i. record { waiting = waiting i; map = map i; start = r.start };
    }

-- bytes stored early: nothing joins what waits
pub record Holds_early (r : Ring ℕ) (held : List (ℕ × ℕ)) (past : ℕ) (bytes : List ℕ) : Type 0 where
  pub runs : runs_of (store (received r held).map past bytes) ≡ added held past (length bytes)
  pub kept : IsHeldBy (overwritten r past bytes) (added held past (length bytes))
  pub map : map_from (added held past (length bytes)) 0 (overwritten r past bytes).free ≡ store (received r held).map past bytes

pub holds_early : (r : Ring ℕ) (held : List (ℕ × ℕ)) (past : ℕ) (bytes : List ℕ) → IsHeldBy r held → 1 ≤ past → past + length bytes ≤ length r.free →
    IsUnion held past (length bytes) (added held past (length bytes)) → Holds_early r held past bytes
holds_early r held past bytes is far fits union =
    let new = added held past (length bytes) in
    let laid = overlay-overwritten r past bytes fits in
    let stored = held-store held past r.free bytes new union in
    let ends : EndsBy new (length (overlay r.free past bytes)) =
    rw (length-overlay r.free past bytes) (EndsBy-union held past (length bytes) (length r.free) new union is.ends fits) in
    record {
      runs = ap runs_of stored ∙ runs_of-held new (overlay r.free past bytes) union.runs ends;
      kept = record {
        runs = union.runs;
        gap = λ h. elim ((union.holds 0).0 h) [ inl old ↦ is.gap old | inr here ↦ absurd (omega (arith, here.0)) ];
        ends = rw laid ends;
        small = rw (laid, length-overlay r.free past bytes) is.small;
      };
      map = rw laid (sym stored);
    }

-- what an assembler answers that isn't refused
answered : {E : Type 0} (answer : Result ℕ E) (n : ℕ) (Q : Type 0) → (IsErr answer → ⊥) → IfOk answer (λ k. (k ≡ n) × Q) → (result_unwrap_or answer 0 ≡ n) × Q
answered (Ok k) n Q never is = is
answered (Err e) n Q never is = absurd (never refl)

-- what a value says of room is so of the ring
pub room : (r : Ring ℕ) (held : List (ℕ × ℕ)) (v : Received) (n : ℕ) → received r held ≡ v → n ≤ length v.map → n ≤ length r.free
room r held v n is fits =
    let P : Received → Type 0 = λ w. n ≤ length w.map in
    rw (← length-map_from held 0 r.free) (subst P (sym is) fits)

pub room_at : (r : Ring ℕ) (held : List (ℕ × ℕ)) (v : Received) (n : ℕ) → received r held ≡ v → IsHeldBy r held → n ≤ length v.map → n < 2 ^ 64
room_at r held v n is by fits = omega (arith, room r held v n is fits, by.small)

all_written : (r : Ring ℕ) (at n : ℕ) (bytes : List ℕ) → at + length bytes ≤ length r.free → n ≡ min (length bytes) (length r.free - at) →
    overwritten r at (take n bytes) ≡ overwritten r at bytes
all_written r at n bytes fits is = ap (overwritten r at) (take_all n bytes (omega arith))

-- the calls that store bytes in order
pub record Does_store (v : Received) (bytes : List ℕ) (laid new : Ring ℕ) (runs : List (ℕ × ℕ)) (count : ℕ) : Type 0 where
  pub fits : count ≤ length laid.free
  pub kept : new ≡ extended laid count → IsHeldBy new runs
  pub size : count ≡ length (receive.front (store v.map 0 bytes))
  pub value : new ≡ extended laid count → received new runs ≡ buffer.in_order v bytes

pub does_store : {E : Type 0} (r : Ring ℕ) (held : List (ℕ × ℕ)) (v : Received) (bytes : List ℕ) (n : ℕ) (laid new : Ring ℕ) (answer : Result ℕ E)
    (runs : List (ℕ × ℕ)) (count : ℕ) → received r held ≡ v → IsHeldBy r held → length bytes ≤ length v.map → n ≡ min (length bytes) (length r.free - 0) →
    laid ≡ overwritten r 0 (take n bytes) → IsErr answer ↔ ((0 < 0) × (32 < length (added held 0 (length bytes)))) →
    IfOk answer (λ k. (k ≡ front (added held 0 (length bytes))) × (runs ≡ without_front (added held 0 (length bytes)))) → count ≡ result_unwrap_or answer 0 →
    Does_store v bytes laid new runs count
does_store r held v bytes n laid new answer runs count is by fits n_is laid_is refused ok count_is =
    let short = room r held v (length bytes) is fits in
    let did = stores r held bytes by short in
    let a = answered answer (front (added held 0 (length bytes))) (runs ≡ without_front (added held 0 (length bytes)))
    (λ h. absurd (omega (arith, (refused.0 h).0))) ok in
    let count_at : count ≡ front (added held 0 (length bytes)) = count_is ∙ a.0 in
    let laid_at : laid ≡ overwritten r 0 bytes = laid_is ∙ all_written r 0 n bytes (omega (arith, short)) n_is in
    record {
      fits = rw (count_at, laid_at) did.fits;
      kept = λ new_is. rw (new_is, count_at, laid_at, a.1) did.kept;
      size = rw (count_at, ← is) did.size;
      value = λ new_is. rw (new_is, count_at, laid_at, a.1, ← is) did.value;
    }

-- the calls that hold bytes early, and where they are refused
pub refused_early : (r : Ring ℕ) (held : List (ℕ × ℕ)) (v : Received) (past : ℕ) (bytes : List ℕ) → received r held ≡ v → IsHeldBy r held → 1 ≤ past →
    past + length bytes ≤ length v.map → IsUnion held past (length bytes) (added held past (length bytes)) → 32 < length (added held past (length bytes)) →
    buffer.can_hold v past bytes ≡ false
refused_early r held v past bytes is by far fits union many =
    rw (← is, (holds_early r held past bytes by far (room r held v (past + length bytes) is fits) union).runs) (grind (arith, nat_tests, many))

pub err_not_ok : {T E : Type 0} (answer : Result T E) → IsErr answer → is_ok answer ≡ false
err_not_ok (Ok k) is = sym is
err_not_ok (Err e) is = refl

pub record Does_hold (v : Received) (past : ℕ) (bytes : List ℕ) (laid : Ring ℕ) (runs : List (ℕ × ℕ)) : Type 0 where
  pub kept : IsHeldBy laid runs
  pub test : true ≡ buffer.can_hold v past bytes
  pub value : received laid runs ≡ buffer.early v past bytes

pub does_hold : (r : Ring ℕ) (held : List (ℕ × ℕ)) (v : Received) (past : ℕ) (bytes : List ℕ) (n : ℕ) (laid : Ring ℕ) (runs : List (ℕ × ℕ)) →
    received r held ≡ v → IsHeldBy r held → 1 ≤ past → past + length bytes ≤ length v.map → IsUnion held past (length bytes) (added held past (length bytes)) →
    (32 < length (added held past (length bytes)) → ⊥) → n ≡ min (length bytes) (length r.free - past) → laid ≡ overwritten r past (take n bytes) →
    runs ≡ added held past (length bytes) → Does_hold v past bytes laid runs
does_hold r held v past bytes n laid runs is by far fits union few n_is laid_is runs_is =
    let fits' = room r held v (past + length bytes) is fits in
    let h = holds_early r held past bytes by far fits' union in
    let laid_at : laid ≡ overwritten r past bytes = laid_is ∙ all_written r past n bytes fits' n_is in
    let short : length (added held past (length bytes)) ≤ 32 = omega (arith, few) in
    let test : buffer.can_hold (received r held) past bytes ≡ true = rw h.runs (grind (arith, nat_tests, short)) in
    let value : received (overwritten r past bytes) (added held past (length bytes)) ≡
    record (received r held) { map = store (received r held).map past bytes } =
    λ i. record { waiting = r.queue; map = h.map i; start = r.start } in
    record {
      kept = rw (laid_at, runs_is) h.kept;
      test = rw (← is) (sym test);
      value = rw (laid_at, runs_is, ← is, test) value;
    }

pub run_held : (r : Ring ℕ) (held : List (ℕ × ℕ)) (v : Received) (offset : ℕ) → received r held ≡ v → IsHeldBy r held →
    run_at held offset ≡ run_at (runs_of v.map) offset
run_held r held v offset is by =
    rw (← is) (ap (λ rs. run_at rs offset) (sym (runs_of-held held r.free by.runs by.ends)))

-- whether anything is held
pub holds_held : (r : Ring ℕ) (held : List (ℕ × ℕ)) (v : Received) (empty : Bool) → received r held ≡ v → IsHeldBy r held → IsTrue empty ↔ (held ≡ []) →
    not empty ≡ not (length (runs_of v.map) == 0)
holds_held r held v empty is by tells =
    rw (← is) (ap not (same held empty tells) ∙ ap (λ rs. not (length rs == 0)) (sym (runs_of-held held r.free by.runs by.ends)))
  where
    same : (rs : List (ℕ × ℕ)) (t : Bool) → IsTrue t ↔ (rs ≡ []) → t ≡ (length rs == 0)
    same [] true so = refl
    same [] false so = absurd (let clash = so.1 refl in cc)
    same (run ∷ rs) true so = absurd (let clash = so.0 refl in cc)
    same (run ∷ rs) false so = grind (arith, nat_tests)
