-- Bytes copied over the free ones of a ring, which may go round the end of its storage.
use Rattle.std.proofs.Common.{◌≡◌, ◌↔◌, ℕ, ◌+◌, ◌-◌, ◌%◌, ◌<◌, ◌≤◌, inl, inr, Result, IsErr, IfOk, min, List, [], ◌++◌, length, take, drop, refl, sym, ap, ◌∙◌, arith}
use Rattle.std.proofs.Common.{length-drop, take-append-drop}
use Rattle.std.specs.Result.{result_unwrap_or}
use Rattle.std.proofs.Math.Nat.{mod-add-mod, mod_self}
use Rattle.std.proofs.lemmas.Bool.{cases_lt}
use Rattle.std.proofs.lemmas.List.{take_all, length-take-le, nil_from_length}
use Rattle.net_base.specs.Assembler.{added, front, without_front}
use Rattle.net_base.specs.Ring.{Ring, capacity, contiguous, unbroken_free, overwritten}
use Rattle.base_buffer.proofs.RingSteps.{length-overwritten_many, overwritten-overwritten}
use Rattle.ip_wire.specs.Sum.{word_sum, folded}
use Rattle.tcp_ranges.specs.OutOfOrder.{runs_of, map_from}
use Rattle.tcp_ranges.specs.ReceiveMap.{space}
use Rattle.tcp_ranges.proofs.RunsOf.{runs_of-held}
use Rattle.tcp_socket.proofs.Buffers.{map_from-nothing, room, Does_store, does_store}
use Rattle.tcp_socket.specs.Receive.{received, IsHeldBy, most_bytes}
use Rattle.tcp_block.specs.Value.{Received}

-- what comes up to the end of a ring goes on at its beginning
wraps : (m c k : ℕ) → m % c + k ≡ c → (m + k) % c ≡ 0
wraps m c k is = sym (mod-add-mod m c k) ∙ ap (λ i. i % c) is ∙ mod_self c

-- what lies after the end of the storage, where the rest lies before it
pub second_part : (r : Ring ℕ) (n first k : ℕ) (ws : List ℕ) → n ≤ length r.free → first ≡ min n (contiguous r) → length ws ≡ first → k ≡ n - first →
    unbroken_free (overwritten r 0 ws) first k ≡ k
second_part r n first k ws fits is long rest =
    let one = overwritten r 0 ws in
    let same : length one.free ≡ length r.free = length-overwritten_many r ws (omega (arith, is, long)) in
    let all : capacity one ≡ capacity r = ap (λ m. length r.queue + m) same in
    elim (cases_lt first n) [
      | inl some ↦ let short : (r.start + length r.queue) % capacity r + first ≡ capacity r = omega (arith, is, some, fits) in
          let at : r.start + (length r.queue + first) ≡ r.start + length r.queue + first = omega arith in
          let begins : (r.start + (length r.queue + first)) % capacity one ≡ 0 =
          ap (λ m. m % capacity one) at ∙ ap (λ m. (r.start + length r.queue + first) % m) all ∙ wraps (r.start + length r.queue) (capacity r) first short in
          rw begins (omega (arith, same, all, rest, fits))
      | inr none ↦ omega (arith, rest, none)
    ]

-- a slice up to its end
pub take_rest : (bytes : List ℕ) (n : ℕ) → take (length bytes - n) (drop n bytes) ≡ drop n bytes
take_rest bytes n = take_all (length bytes - n) (drop n bytes) (omega (arith, length-drop n bytes))

-- both parts, one after the other
pub both_parts : (r one two : Ring ℕ) (first : ℕ) (bytes : List ℕ) → first ≤ length bytes → length bytes ≤ length r.free
    → one ≡ overwritten r 0 (take first bytes) → two ≡ overwritten one first (take (length bytes - first) (drop first bytes)) → two ≡ overwritten r 0 bytes
both_parts r one two first bytes short fits one_is two_is =
    let front = take first bytes in
    let back = drop first bytes in
    let size : length front ≡ first = length-take-le first bytes short in
    let at : first ≡ 0 + length front = omega (arith, size) in
    let left = length-drop first bytes in
    two_is ∙ ap (λ ws. overwritten one first ws) (take_rest bytes first) ∙ ap (λ (x : Ring ℕ). overwritten x first back) one_is
    ∙ ap (λ k. overwritten (overwritten r 0 front) k back) at
    ∙ overwritten-overwritten r 0 front back (omega (arith, size, left, short, fits))
    ∙ ap (λ ws. overwritten r 0 ws) (take-append-drop first bytes)

-- their sum
pub both_sums : (bytes : List ℕ) (first sum : ℕ) → sum ≡ folded (word_sum (take first bytes ++ drop first bytes)) → sum ≡ folded (word_sum bytes)
both_sums bytes first sum is = is ∙ ap (λ xs. folded (word_sum xs)) (take-append-drop first bytes)

-- What lies in free offsets that hold nothing isn't seen.
pub record Unseen (v : Received) (laid : Ring ℕ) (held : List (ℕ × ℕ)) : Type 0 where
  pub value : received laid held ≡ v
  pub kept : IsHeldBy laid held

nothing_held : (r : Ring ℕ) (held : List (ℕ × ℕ)) (v : Received) → received r held ≡ v → IsHeldBy r held → length (runs_of v.map) ≡ 0 → held ≡ []
nothing_held r held v is by none =
    let runs : runs_of v.map ≡ held = ap (λ (w : Received). runs_of w.map) (sym is) ∙ runs_of-held held r.free by.runs by.ends in
    nil_from_length held (ap length (sym runs) ∙ none)

pub unseen : (r : Ring ℕ) (held : List (ℕ × ℕ)) (v : Received) (bytes : List ℕ) (laid : Ring ℕ) → received r held ≡ v → IsHeldBy r held
    → length bytes ≤ length v.map → length (runs_of v.map) ≡ 0 → laid ≡ overwritten r 0 bytes → Unseen v laid held
unseen r held v bytes laid is by fits none laid_is =
    let fits' = room r held v (length bytes) is fits in
    let same : length (overwritten r 0 bytes).free ≡ length r.free = length-overwritten_many r bytes fits' in
    let empty = nothing_held r held v is by none in
    let map : map_from held 0 (overwritten r 0 bytes).free ≡ map_from held 0 r.free =
    rw empty (map_from-nothing (overwritten r 0 bytes).free ∙ ap space same ∙ sym (map_from-nothing r.free)) in
    let value : received (overwritten r 0 bytes) held ≡ received r held = λ i. record { waiting = r.queue; map = map i; start = r.start } in
    record {
      value = rw laid_is (value ∙ is);
      kept = rw laid_is (record { runs = by.runs; gap = by.gap; ends = rw same by.ends; small = rw same by.small });
    }

-- the calls that store bytes which were copied
pub stores_copied : {E : Type 0} (r : Ring ℕ) (held : List (ℕ × ℕ)) (v : Received) (bytes : List ℕ) (laid new : Ring ℕ) (answer : Result ℕ E)
    (runs : List (ℕ × ℕ)) (count : ℕ) → received r held ≡ v → IsHeldBy r held → length bytes ≤ length v.map → laid ≡ overwritten r 0 bytes
    → IsErr answer ↔ ((0 < 0) × (32 < length (added held 0 (length bytes))))
    → IfOk answer (λ k. (k ≡ front (added held 0 (length bytes))) × (runs ≡ without_front (added held 0 (length bytes)))) → count ≡ result_unwrap_or answer 0
    → Does_store v bytes laid new runs count
stores_copied r held v bytes laid new answer runs count is by fits laid_is refused ok count_is =
    let n = min (length bytes) (length r.free - 0) in
    let within = room r held v (length bytes) is fits in
    let all : take n bytes ≡ bytes = take_all n bytes (omega (arith, within)) in
    does_store r held v bytes n laid new answer runs count is by fits refl (laid_is ∙ ap (λ ws. overwritten r 0 ws) (sym all)) refused ok count_is

pub count_small : (r : Ring ℕ) (held : List (ℕ × ℕ)) (v : Received) (bytes : List ℕ) (laid : Ring ℕ) (count : ℕ) → received r held ≡ v → IsHeldBy r held
    → length bytes ≤ length v.map → laid ≡ overwritten r 0 bytes → count ≤ length laid.free → count ≤ most_bytes
count_small r held v bytes laid count is by fits laid_is within =
    let same : length laid.free ≡ length r.free =
    ap (λ (x : Ring ℕ). length x.free) laid_is ∙ length-overwritten_many r bytes (room r held v (length bytes) is fits) in
    omega (arith, same, within, by.small)
