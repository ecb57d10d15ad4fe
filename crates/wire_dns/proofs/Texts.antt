-- Labels of a text.
use Rattle.std.proofs.Common.{◌≡◌, ◌⊎◌, inl, inr, ℕ, zero, suc, ◌+◌, ◌-◌, ◌<◌, ◌≤◌, Bool, true, false, if◌then◌else◌, List, [], ◌∷◌, ◌++◌, length, take, drop}
use Rattle.std.proofs.Common.{get_or, refl, sym, ◌∙◌, ap, subst, arith, append_assoc, length-append}
use Rattle.std.proofs.Math.Nat.{eq-or-lt_of_le}
use Rattle.std.proofs.lemmas.List.{length-take-le, length-drop, take_all}
use Rattle.std.specs.Prelude.{◌≢◌, ◌==◌, slice_index}
use Rattle.wire_dns.specs.Message.{AreLabels, labels_name}
use Rattle.wire_dns.specs.Text.{put_first, labels_of, IsLabelEnd}

-- the labels of a byte and more, told whether it is a dot
abbrev first_of : Bool → ℕ → List ℕ → List (List ℕ)
first_of dot c text = if dot then [] ∷ labels_of text else put_first c (labels_of text)

no-dot : (c : ℕ) → c ≢ 46 → (c == 46) ≡ false
no-dot c other = grind (arith)

a-dot : (c : ℕ) → c ≡ 46 → (c == 46) ≡ true
a-dot c same = grind (arith)

following : (c : ℕ) (text : List ℕ) (n : ℕ) → IsLabelEnd (c ∷ text) (suc n) → IsLabelEnd text n
following c text n is = record {
  within = omega (arith, is.within);
  before = λ k h. is.before (suc k) (omega arith);
  here = λ h. is.here (omega arith);
}

-- a text without a dot is one label
pub labels-whole : (text : List ℕ) (n : ℕ) → IsLabelEnd text n → n ≡ length text → labels_of text ≡ text ∷ []
labels-whole [] n is all = refl
labels-whole (c ∷ text) n is all =
    let at : IsLabelEnd (c ∷ text) (suc (length text)) = subst (λ (m : ℕ). IsLabelEnd (c ∷ text) m) all is in
    let rest = labels-whole text (length text) (following c text (length text) at) refl in
    ap (λ (t : Bool). first_of t c text) (no-dot c (at.before 0 (omega arith))) ∙ ap (put_first c) rest

-- up to its first dot it is a label
pub labels-dot : (text : List ℕ) (n : ℕ) → IsLabelEnd text n → n < length text → labels_of text ≡ take n text ∷ labels_of (drop (suc n) text)
labels-dot [] n is more = absurd (omega arith)
labels-dot (c ∷ text) zero is more = ap (λ (t : Bool). first_of t c text) (a-dot c (is.here more))
labels-dot (c ∷ text) (suc n) is more =
    let rest = labels-dot text n (following c text n is) (omega arith) in
    ap (λ (t : Bool). first_of t c text) (no-dot c (is.before 0 (omega arith))) ∙ ap (put_first c) rest

put-some : (c : ℕ) (labels : List (List ℕ)) → 0 < length (put_first c labels)
put-some c [] = omega arith
put-some c (label ∷ labels) = omega arith

labels-some : (text : List ℕ) → 0 < length (labels_of text)
labels-some [] = omega arith
labels-some (c ∷ text) = by (c == 46) where
  by : (t : Bool) → 0 < length (first_of t c text)
  by true = omega arith
  by false = put-some c (labels_of text)

put-length : (c : ℕ) (labels : List (List ℕ)) → 0 < length labels → length (labels_name (put_first c labels)) ≡ suc (length (labels_name labels))
put-length c [] some = absurd (omega arith)
put-length c (label ∷ labels) some = omega (arith, length-append label (labels_name labels))

-- a name has two bytes more than its text
pub name-length : (text : List ℕ) → length (labels_name (labels_of text)) ≡ length text + 2
name-length [] = refl
name-length (c ∷ text) = by (c == 46) (name-length text) where
  by : (t : Bool) → length (labels_name (labels_of text)) ≡ length text + 2 → length (labels_name (first_of t c text)) ≡ length (c ∷ text) + 2
  by true rest = omega (arith, rest)
  by false rest = omega (arith, rest, put-length c (labels_of text) (labels-some text))

-- what is written of a text, and what is left of it
pub record Kept (text bytes rest : List ℕ) : Type 0 where
  pub named : labels_name (labels_of text) ≡ bytes ++ labels_name (labels_of rest)
  pub forth : AreLabels (labels_of text) → AreLabels (labels_of rest)
  pub back : AreLabels (labels_of rest) → AreLabels (labels_of text)
  pub len : length bytes + length rest ≡ length text

pub Kept-begin : (text bytes rest : List ℕ) → bytes ≡ [] → rest ≡ text → Kept text bytes rest
Kept-begin text bytes rest none same = record {
  named = ap (λ xs. labels_name (labels_of xs)) (sym same) ∙ ap (λ xs. xs ++ labels_name (labels_of rest)) (sym none);
  forth = λ a. subst (λ (xs : List ℕ). AreLabels (labels_of xs)) (sym same) a;
  back = λ a. subst (λ (xs : List ℕ). AreLabels (labels_of xs)) same a;
  len = omega (arith, ap length none, ap length same);
}

-- a label before a dot
pub Kept-more : (text bytes rest others bytes' : List ℕ) (n : ℕ) → Kept text bytes rest → IsLabelEnd rest n → n < length rest → 0 < n → n < 64
    → others ≡ drop (suc n) rest → bytes' ≡ bytes ++ (n ∷ take n rest) → Kept text bytes' others
Kept-more text bytes rest others bytes' n kept is more some short left written =
    let size : length (take n rest) ≡ n = length-take-le n rest is.within in
    let gone : length (drop (suc n) rest) ≡ length rest - suc n = length-drop (suc n) rest in
    let split : labels_of rest ≡ take n rest ∷ labels_of others = labels-dot rest n is more ∙ ap (λ xs. take n rest ∷ labels_of xs) (sym left) in
    let name : labels_name (labels_of rest) ≡ (n ∷ take n rest) ++ labels_name (labels_of others) =
    ap labels_name split ∙ ap (λ m. m ∷ (take n rest ++ labels_name (labels_of others))) size
    in
    record {
      named = kept.named ∙ ap (λ xs. bytes ++ xs) name ∙ sym (append_assoc bytes (n ∷ take n rest) (labels_name (labels_of others))) ∙
          ap (λ xs. xs ++ labels_name (labels_of others)) (sym written);
      forth = λ a. (subst AreLabels split (kept.forth a)).2;
      back = λ a. kept.back (subst AreLabels (sym split) (omega (arith, size), omega (arith, size), a));
      len = omega (arith, kept.len, size, gone, ap length left, ap length written, length-append bytes (n ∷ take n rest));
    }

-- the last label
pub Kept-all : (text bytes rest bytes' : List ℕ) (n : ℕ) → Kept text bytes rest → IsLabelEnd rest n → n ≡ length rest → 0 < n → n < 64
    → bytes' ≡ bytes ++ (n ∷ (rest ++ (0 ∷ []))) → AreLabels (labels_of text) × (bytes' ≡ labels_name (labels_of text))
Kept-all text bytes rest bytes' n kept is all some short written =
    let whole : labels_of rest ≡ rest ∷ [] = labels-whole rest n is all in
    let name : labels_name (labels_of rest) ≡ n ∷ (rest ++ (0 ∷ [])) = ap labels_name whole ∙ ap (λ m. m ∷ (rest ++ (0 ∷ []))) (sym all) in
    (kept.back (subst AreLabels (sym whole) (omega arith, omega arith, tt)), written ∙ ap (λ xs. bytes ++ xs) (sym name) ∙ sym kept.named)

pub Kept-last : (text bytes rest front more bytes' : List ℕ) (n : ℕ) → Kept text bytes rest → IsLabelEnd rest n → n ≡ length rest → 0 < n → n < 64
    → front ≡ take n rest → more ≡ bytes ++ (length front ∷ front) → bytes' ≡ more ++ (0 ∷ []) → AreLabels (labels_of text) ×
    (bytes' ≡ labels_name (labels_of text))
Kept-last text bytes rest front more bytes' n kept is all some short cut pushed last =
    let whole : front ≡ rest = cut ∙ take_all n rest (omega (arith, all)) in
    let size : length front ≡ n = ap length whole ∙ sym all in
    let written : bytes' ≡ bytes ++ (n ∷ (rest ++ (0 ∷ []))) =
    last ∙ ap (λ xs. xs ++ (0 ∷ [])) pushed ∙ append_assoc bytes (length front ∷ front) (0 ∷ [])
    ∙ ap (λ xs. bytes ++ (length front ∷ (xs ++ (0 ∷ [])))) whole ∙ ap (λ m. bytes ++ (m ∷ (rest ++ (0 ∷ [])))) size
    in
    Kept-all text bytes rest bytes' n kept is all some short written

first-label : (rest : List ℕ) (n : ℕ) → IsLabelEnd rest n → AreLabels (labels_of rest) → (0 < n) × (n < 64)
first-label rest n is are = by (eq-or-lt_of_le is.within) where
  by : (n ≡ length rest) ⊎ (n < length rest) → (0 < n) × (n < 64)
  by (inr more) =
      let size : length (take n rest) ≡ n = length-take-le n rest is.within in
      let these = subst AreLabels (labels-dot rest n is more) are in
      (omega (arith, size, these.0), omega (arith, size, these.1))
  by (inl all) =
      let these = subst AreLabels (labels-whole rest n is all) are in
      (omega (arith, these.0), omega (arith, these.1))

-- a label that is none
pub Kept-bad : (text bytes rest : List ℕ) (n : ℕ) → Kept text bytes rest → IsLabelEnd rest n → ((0 < n) → (n < 64) → ⊥) → AreLabels (labels_of text) → ⊥
Kept-bad text bytes rest n kept is bad are =
    let first = first-label rest n is (kept.forth are) in
    bad first.0 first.1
