-- Names without pointers, read.
use Rattle.std.proofs.Common.{◌≡◌, ℕ, ◌+◌, ◌-◌, ◌<◌, ◌≤◌, List, [], ◌∷◌, ◌++◌, length, take, drop, get_or, refl, sym, ◌∙◌, ap, subst, arith, append_assoc}
use Rattle.std.proofs.Common.{length-append}
use Rattle.std.specs.Prelude.{slice_index, slice_range}
use Rattle.std.proofs.lemmas.List.{take_at, drop_at, get_or-append-add}
use Rattle.wire_dns.specs.Message.{AreLabels, labels_name, IsPlain}
use Rattle.wire_dns.specs.Name.{Step, Label, Jump, IsLabel, IsRoot, IsName, Leads, name_of, end_of}

-- a number after others
pub index-at : (front ys : List ℕ) (at n i : ℕ) → length front ≡ at → i ≡ at + n → get_or (front ++ ys) i 0 ≡ get_or ys n 0
index-at front ys at n i len is =
    let same : i ≡ length front + n = omega (arith, len, is) in
    ap (λ k. get_or (front ++ ys) k 0) same ∙ get_or-append-add front ys n 0

-- labels as steps
abbrev pub steps_of : List (List ℕ) → List Step
steps_of [] = []
steps_of (label ∷ labels) = Label label ∷ steps_of labels

pub name_of-steps : (labels : List (List ℕ)) → name_of (steps_of labels) ≡ labels_name labels
name_of-steps [] = refl
name_of-steps (label ∷ labels) = ap (λ xs. length label ∷ (label ++ xs)) (name_of-steps labels)

pub end_of-steps : (at : ℕ) (labels : List (List ℕ)) → end_of at (steps_of labels) ≡ at + length (labels_name labels)
end_of-steps at [] = refl
end_of-steps at (label ∷ labels) =
    let rest = end_of-steps (at + 1 + length label) labels in
    omega (arith, rest, length-append label (labels_name labels))

-- the bytes with the first label before the rest
first-label : (front label others rest : List ℕ) → front ++ ((length label ∷ (label ++ others)) ++ rest) ≡ (front ++ (length label ∷ [])) ++
    (label ++ (others ++ rest))
first-label front label others rest =
    ap (λ xs. front ++ (length label ∷ xs)) (append_assoc label others rest) ∙ sym (append_assoc front (length label ∷ []) (label ++ (others ++ rest)))

following-label : (front label others rest : List ℕ) → front ++ ((length label ∷ (label ++ others)) ++ rest) ≡ (front ++ (length label ∷ label)) ++
    (others ++ rest)
following-label front label others rest =
    ap (λ xs. front ++ (length label ∷ xs)) (append_assoc label others rest) ∙ sym (append_assoc front (length label ∷ label) (others ++ rest))

label-bytes : (front label others rest : List ℕ) (at : ℕ) → length front ≡ at
    → slice_range (front ++ ((length label ∷ (label ++ others)) ++ rest)) (at + 1) (at + 1 + length label) ≡ label
label-bytes front label others rest at len =
    let size : at + 1 + length label - (at + 1) ≡ length label = omega arith in
    let before : length (front ++ (length label ∷ [])) ≡ at + 1 = omega (arith, len, length-append front (length label ∷ [])) in
    ap (λ n. take n (drop (at + 1) (front ++ ((length label ∷ (label ++ others)) ++ rest)))) size
    ∙ ap (λ xs. take (length label) (drop (at + 1) xs)) (first-label front label others rest)
    ∙ ap (take (length label)) (drop_at (front ++ (length label ∷ [])) (label ++ (others ++ rest)) (at + 1) before)
    ∙ take_at label (others ++ rest) (length label) refl

pub Leads-plain : (front rest : List ℕ) (limit at : ℕ) (labels : List (List ℕ)) → length front ≡ at → AreLabels labels →
    Leads (front ++ (labels_name labels ++ rest)) limit at (steps_of labels)
Leads-plain front rest limit at [] len are = record {
  within = omega (arith, len, length-append front (0 ∷ rest));
  value = index-at front (0 ∷ rest) at 0 at len (omega arith);
}
Leads-plain front rest limit at (label ∷ labels) len are =
    let others : List ℕ = labels_name labels in
    let bytes : List ℕ = front ++ ((length label ∷ (label ++ others)) ++ rest) in
    let before : length (front ++ (length label ∷ label)) ≡ at + 1 + length label = omega (arith, len, length-append front (length label ∷ label)) in
    let here : IsLabel bytes at label = record {
      some = are.0;
      short = are.1;
      within = omega (
        arith,
        len,
        length-append front ((length label ∷ (label ++ others)) ++ rest),
        length-append (label ++ others) rest,
        length-append label others,
      );
      count = index-at front ((length label ∷ (label ++ others)) ++ rest) at 0 at len (omega arith);
      bytes = label-bytes front label others rest at len;
    } in (
      here,
      subst (λ (xs : List ℕ). Leads xs limit (at + 1 + length label) (steps_of labels)) (sym (following-label front label others rest))
          (Leads-plain (front ++ (length label ∷ label)) rest limit (at + 1 + length label) labels before are.2),
    )

-- a name without pointers is read where it stands
pub IsName-plain : (front name rest : List ℕ) (at : ℕ) → length front ≡ at → IsPlain name → IsName (front ++ (name ++ rest)) at name (at + length name)
IsName-plain front name rest at len plain =
    let same : labels_name plain.labels ≡ name = sym plain.is in
    let leads = Leads-plain front rest at at plain.labels len plain.are in
    record {
      steps = steps_of plain.labels;
      leads = subst (λ (xs : List ℕ). Leads (front ++ (xs ++ rest)) at at (steps_of plain.labels)) same leads;
      name_is = plain.is ∙ sym (name_of-steps plain.labels);
      end_is = ap (λ xs. at + length xs) plain.is ∙ sym (end_of-steps at plain.labels);
      short = plain.short;
    }
