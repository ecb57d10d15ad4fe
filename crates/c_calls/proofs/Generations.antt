-- Numbers of sockets over a history.
use Rattle.std.proofs.Common.{◌≡◌, ℕ, ◌+◌, ◌-◌, ◌*◌, ◌/◌, ◌%◌, ◌^◌, ◌<◌, ◌≤◌, Bool, true, false, List, [], ◌∷◌, ◌++◌, length, Option, None, Some, refl, sym, ap, subst, ◌∙◌, arith}
use Rattle.std.specs.Prelude.{◌==◌, if◌then◌else◌, replicate, slice_get, slice_set}
use Rattle.std.proofs.lemmas.List.{get_or_append_left, get_or-set_same, get_or-set_other, length-set, length-append, length-replicate}
use Rattle.std.proofs.lemmas.Option.{slice_get-get_or, slice_get_within, get_or_from_slice_get}
use Rattle.c_calls.specs.Generations.{Event, Changed, Added, Removed, Marked, after_event, behind, removed_at, removals}
use Rattle.c_calls.specs.Numbers.{generation_of, has_generation, is_current, next_tag, no_tag, slot_of, tag_at, tags_for}
use Rattle.c_calls.specs.SlotsValue.{SlotsValue}
use Rattle.c_calls.specs.declared.slots.Tag.{Tag}

-- the slot has a tag of this generation
pub record IsAt (tags : List Tag) (slot generation : ℕ) : Type 0 where
  pub within : slot < length tags
  pub at : (tag_at tags slot).generation ≡ generation

same_number : (a b : ℕ) → (a == b) ≡ true → a ≡ b
same_number a b h = grind (arith, h)

at_slot : (tags : List Tag) (slot g : ℕ) (o : Option Tag) → slice_get tags slot ≡ o → has_generation g o ≡ true → IsAt tags slot g
at_slot tags slot g None got has = cc
at_slot tags slot g (Some tag) got has = record {
  within = slice_get_within tags slot tag got;
  at = ap (λ (t : Tag). t.generation) (get_or_from_slice_get tags slot tag no_tag got) ∙ same_number tag.generation g has;
}

is_at : (tags : List Tag) (n : ℕ) → is_current tags n ≡ true → IsAt tags (slot_of n) (generation_of n)
is_at tags n h = at_slot tags (slot_of n) (generation_of n) (slice_get tags (slot_of n)) refl h

read : (tags : List Tag) (n g : ℕ) → IsAt tags (slot_of n) g → is_current tags n ≡ (g == generation_of n)
read tags n g h =
    ap (has_generation (generation_of n)) (slice_get-get_or tags (slot_of n) no_tag h.within) ∙ ap (λ (k : ℕ). k == generation_of n) h.at

-- ONE EVENT

-- more tags leave each that there is
more : (tags others : List Tag) (slot g : ℕ) → IsAt tags slot g → IsAt (tags ++ others) slot g
more tags others slot g h = record {
  within = let sum : length (tags ++ others) ≡ length tags + length others = length-append tags others in omega (arith, sum, h.within);
  at = ap (λ (t : Tag). t.generation) (get_or_append_left tags others no_tag slot h.within) ∙ h.at;
}

set_here : (tags : List Tag) (slot g : ℕ) (tag : Tag) → slot < length tags → tag.generation ≡ g → IsAt (slice_set tags slot tag) slot g
set_here tags slot g tag within is = record {
  within = let same : length (slice_set tags slot tag) ≡ length tags = length-set tags slot tag in omega (arith, same, within);
  at = ap (λ (t : Tag). t.generation) (get_or-set_same tags slot tag no_tag within) ∙ is;
}

set_elsewhere : (tags : List Tag) (slot other g : ℕ) (tag : Tag) → (slot ≡ other → ⊥) → IsAt tags slot g → IsAt (slice_set tags other tag) slot g
set_elsewhere tags slot other g tag apart h = record {
  within = let same : length (slice_set tags other tag) ≡ length tags = length-set tags other tag in omega (arith, same, h.within);
  at = ap (λ (t : Tag). t.generation) (get_or-set_other tags other slot tag no_tag apart) ∙ h.at;
}

apart : (a b : ℕ) → (a == b) ≡ false → b ≡ a → ⊥
apart a b h is = grind (arith, h, is)

stays : (g : ℕ) → g < 2 ^ 32 → g ≡ (g + 0) % 2 ^ 32
stays g small = omega (arith, small)

removed_from : (tags : List Tag) (slot at g : ℕ) (b : Bool) → (at == slot) ≡ b → g < 2 ^ 32 → IsAt tags slot g
    → IsAt (slice_set tags at (next_tag (tag_at tags at))) slot ((g + (if b then 1 else 0)) % 2 ^ 32)
removed_from tags slot at g true same small h =
    let here : at ≡ slot = same_number at slot same in
    subst (λ (k : ℕ). IsAt (slice_set tags k (next_tag (tag_at tags k))) slot ((g + 1) % 2 ^ 32)) (sym here)
    (set_here tags slot ((g + 1) % 2 ^ 32) (next_tag (tag_at tags slot)) h.within (ap (λ (k : ℕ). (k + 1) % 2 ^ 32) h.at))
removed_from tags slot at g false other small h =
    subst (λ (k : ℕ). IsAt (slice_set tags at (next_tag (tag_at tags at))) slot k) (stays g small)
    (set_elsewhere tags slot at g (next_tag (tag_at tags at)) (apart at slot other) h)

marked_at : (tags : List Tag) (slot at user g : ℕ) (b : Bool) → (at == slot) ≡ b → IsAt tags slot g
    → IsAt (slice_set tags at (record (tag_at tags at) { user = user })) slot g
marked_at tags slot at user g true same h =
    let here : at ≡ slot = same_number at slot same in
    subst (λ (k : ℕ). IsAt (slice_set tags k (record (tag_at tags k) { user = user })) slot g) (sym here)
    (set_here tags slot g (record (tag_at tags slot) { user = user }) h.within h.at)
marked_at tags slot at user g false other h = set_elsewhere tags slot at g (record (tag_at tags at) { user = user }) (apart at slot other) h

step : (s : SlotsValue) (e : Event) (slot g : ℕ) → g < 2 ^ 32 → IsAt s.tags slot g → IsAt (after_event s e).tags slot ((g + removed_at slot e) % 2 ^ 32)
step s (Changed sockets) slot g small h = subst (IsAt s.tags slot) (stays g small) h
step s (Added socket) slot g small h =
    subst (IsAt (tags_for (length s.sockets) s.tags) slot) (stays g small)
    (more s.tags (replicate (length s.sockets + 1 - length s.tags) no_tag) slot g h)
step s (Removed at) slot g small h = removed_from s.tags slot at g (at == slot) refl small h
step s (Marked at user) slot g small h =
    subst (IsAt (slice_set s.tags at (record (tag_at s.tags at) { user = user })) slot) (stays g small) (marked_at s.tags slot at user g (at == slot) refl h)

-- A HISTORY

summed : (g a b : ℕ) → ((g + a) % 2 ^ 32 + b) % 2 ^ 32 ≡ (g + (a + b)) % 2 ^ 32
summed g a b = omega arith

pub later : (s : SlotsValue) (es : List Event) (slot g : ℕ) → g < 2 ^ 32 → IsAt s.tags slot g
    → IsAt (behind s es).tags slot ((g + removals slot es) % 2 ^ 32)
later s [] slot g small h = subst (IsAt s.tags slot) (stays g small) h
later s (e ∷ es) slot g small h =
    let next : ℕ = (g + removed_at slot e) % 2 ^ 32 in
    let less : next < 2 ^ 32 = omega arith in
    subst (IsAt (behind (after_event s e) es).tags slot) (summed g (removed_at slot e) (removals slot es))
    (later (after_event s e) es slot next less (step s e slot g small h))

module _ (s : SlotsValue) (n : ℕ) (es : List Event) (word : n < 2 ^ 64) (current : is_current s.tags n ≡ true) where
  small : generation_of n < 2 ^ 32
  small = omega (arith, word)

  ends : is_current (behind s es).tags n ≡ ((generation_of n + removals (slot_of n) es) % 2 ^ 32 == generation_of n)
  ends = read (behind s es).tags n _ (later s es (slot_of n) (generation_of n) small (is_at s.tags n current))

  pub still : removals (slot_of n) es ≡ 0 → is_current (behind s es).tags n ≡ true
  still none =
      let same : (generation_of n + removals (slot_of n) es) % 2 ^ 32 ≡ generation_of n = omega (arith, none, small) in
      ends ∙ grind (arith, same)

  pub over : 1 ≤ removals (slot_of n) es → removals (slot_of n) es < 2 ^ 32 → is_current (behind s es).tags n ≡ false
  over some few =
      let other : (generation_of n + removals (slot_of n) es) % 2 ^ 32 ≡ generation_of n → ⊥ = λ is. omega (arith, some, few, small, is) in
      ends ∙ grind (arith, other)
