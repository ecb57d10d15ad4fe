-- The payload of a segment that comes.
use Rattle.std.proofs.Common.{◌≡◌, ℕ, zero, suc, ◌-◌, ◌≤◌, min, List, [], ◌∷◌, length, take, Option, Some, None, refl, sym, ap, ◌∙◌, arith}
use Rattle.std.proofs.lemmas.List.{take_min}
use Rattle.tcp_ranges.proofs.Storing.{store-cut}
use Rattle.tcp_ranges.specs.ReceiveMap.{store, front}

pub length-store : (map : List (Option ℕ)) (offset : ℕ) (bytes : List ℕ) → length (store map offset bytes) ≡ length map
length-store [] offset bytes = refl
length-store (entry ∷ map) (suc offset) bytes = ap suc (length-store map offset bytes)
length-store (entry ∷ map) zero [] = refl
length-store (entry ∷ map) zero (byte ∷ bytes) = ap suc (length-store map zero bytes)

pub length-front : (map : List (Option ℕ)) → length (front map) ≤ length map
length-front [] = omega arith
length-front (None ∷ map) = omega arith
length-front (Some byte ∷ map) = let more = length-front map in omega arith

-- what lies past the window may be cut off first
pub stored_cut : (map : List (Option ℕ)) (offset n : ℕ) (bytes : List ℕ) → n ≡ min (length bytes) (length map - offset) →
    store map offset (take n bytes) ≡ store map offset bytes
stored_cut map offset n bytes is =
    let room = length map - offset in
    let n_is : n ≡ min room (length bytes) = omega arith in
    ap (λ (k : ℕ). store map offset (take k bytes)) n_is ∙ ap (store map offset) (take_min room bytes) ∙ sym (store-cut map offset bytes)
