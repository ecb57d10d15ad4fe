-- A fragment that lies in two parts.
use Rattle.std.proofs.Common.{◌≡◌, ℕ, ◌+◌, ◌≤◌, Bool, true, false, not, List, ◌++◌, length, take, drop, refl, sym, ap, ◌∙◌, append_assoc, arith, length-append}
use Rattle.std.specs.Str.{bytes_eq}
use Rattle.std.proofs.lemmas.List.{drop-drop, length-take-le, take_at, drop_at, take-append-drop}
use Rattle.std.proofs.lemmas.Slice.Eq.{bytes_eq-Decides}
use Rattle.iface_tables.specs.Reassembly.{overwritten}

same_test : (t u : Bool) → (t ≡ true → u ≡ true) → (u ≡ true → t ≡ true) → t ≡ u
same_test true true forth back = refl
same_test true false forth back = let no = forth refl in absurd (cc)
same_test false true forth back = let no = back refl in absurd (cc)
same_test false false forth back = refl

not_true : (t : Bool) → (t ≡ true → ⊥) → t ≡ false
not_true true never = absurd (never refl)
not_true false never = refl

-- one part is written after the other
pub written_twice : (bytes front fragment : List ℕ) (offset : ℕ) → offset + length (front ++ fragment) ≤ length bytes →
    overwritten (overwritten bytes offset front) (offset + length front) fragment ≡ overwritten bytes offset (front ++ fragment)
written_twice bytes front fragment offset fits =
    let head : List ℕ = take offset bytes ++ front in
    let n : ℕ = offset + length front in
    let within : offset ≤ length bytes = omega (arith, length-append front fragment) in
    let size : length head ≡ n = length-append (take offset bytes) front ∙ ap (λ (k : ℕ). k + length front) (length-take-le offset bytes within) in
    let kept : take n (head ++ drop n bytes) ≡ head = take_at head (drop n bytes) n size in
    let rest : drop (n + length fragment) (head ++ drop n bytes) ≡ drop (n + length fragment) bytes =
    sym (drop-drop (length fragment) n (head ++ drop n bytes)) ∙ ap (drop (length fragment)) (drop_at head (drop n bytes) n size) ∙
    drop-drop (length fragment) n bytes in
    let ends : n + length fragment ≡ offset + length (front ++ fragment) = omega (arith, length-append front fragment) in
    ap (λ (x : List ℕ). (x ++ fragment) ++ drop (n + length fragment) (head ++ drop n bytes)) kept ∙
    ap (λ (x : List ℕ). (head ++ fragment) ++ x) rest ∙
    ap (λ (x : List ℕ). x ++ drop (n + length fragment) bytes) (append_assoc (take offset bytes) front fragment) ∙
    ap (λ (k : ℕ). (take offset bytes ++ (front ++ fragment)) ++ drop k bytes) ends

-- TWO PARTS THAT ARE COMPARED

-- bytes that begin with the front are front and fragment where what is after is the fragment
pub second_same : (there front fragment : List ℕ) → take (length front) there ≡ front →
    bytes_eq (drop (length front) there) fragment ≡ bytes_eq there (front ++ fragment)
second_same there front fragment begins =
    let whole : there ≡ front ++ drop (length front) there =
    sym (take-append-drop (length front) there) ∙ ap (λ (x : List ℕ). x ++ drop (length front) there) begins in
    same_test (bytes_eq (drop (length front) there) fragment) (bytes_eq there (front ++ fragment))
    (λ yes. (bytes_eq-Decides there (front ++ fragment)).1 (whole ∙ ap (λ (x : List ℕ). front ++ x) ((bytes_eq-Decides (drop (length front) there) fragment).0 yes)))
    (λ yes. (bytes_eq-Decides (drop (length front) there) fragment).1
    (ap (drop (length front)) ((bytes_eq-Decides there (front ++ fragment)).0 yes) ∙ drop_at front fragment (length front) refl))

-- and aren't where they don't
pub first_other : (there front fragment : List ℕ) → bytes_eq (take (length front) there) front ≡ false → bytes_eq there (front ++ fragment) ≡ false
first_other there front fragment other =
    not_true (bytes_eq there (front ++ fragment)) (λ yes.
    let same : take (length front) there ≡ front =
    ap (take (length front)) ((bytes_eq-Decides there (front ++ fragment)).0 yes) ∙ take_at front fragment (length front) refl in
    let truth : true ≡ false = sym ((bytes_eq-Decides (take (length front) there) front).1 same) ∙ other in
    cc)

pub is_false : (t r : Bool) → r ≡ not t → r ≡ true → t ≡ false
is_false true r is truth = let e : true ≡ false = sym truth ∙ is in cc
is_false false r is truth = refl

pub is_true : (t r : Bool) → r ≡ not t → r ≡ false → t ≡ true
is_true true r is lie = refl
is_true false r is lie = let e : false ≡ true = sym lie ∙ is in cc
