-- A slot that is changed where it stands.
use Rattle.std.proofs.Common.{◌≡◌, ℕ, ◌+◌, ◌<◌, List, [], ◌∷◌, ◌++◌, length, replicate, get_or, take, Option, None, Some, refl, sym, ap, subst, ◌∙◌, arith}
use Rattle.std.specs.Prelude.{slice_get, slice_set}
use Rattle.std.proofs.lemmas.List.{length-append, length-set, replicate-append-replicate}
use Rattle.std.proofs.lemmas.Option.{slice_get-get_or}
use Rattle.iface_tables.specs.Reassembly.{AssemblerValue}
use Rattle.iface_tables.specs.Assemblers.{changed, changed_at}

pub changed_here : {K : Type 0} (f : AssemblerValue K → AssemblerValue K) (assemblers : List (AssemblerValue K)) (at : ℕ) (d : AssemblerValue K) → at < length assemblers →
    changed_at f (Some at) assemblers ≡ slice_set assemblers at (f (get_or assemblers at d))
changed_here f assemblers at d within = ap (λ o. changed f (Some at) o assemblers) (slice_get-get_or assemblers at d within)

-- there are as many as before
pub changed_length : {K : Type 0} (f : AssemblerValue K → AssemblerValue K) (assemblers : List (AssemblerValue K)) (index : Option ℕ) →
    length (changed_at f index assemblers) ≡ length assemblers
changed_length f assemblers None = refl
changed_length f assemblers (Some at) = elim (slice_get assemblers at) as (λ o. length (changed f (Some at) o assemblers) ≡ length assemblers) [
  | None ↦ refl
  | Some s ↦ length-set assemblers at (f s)
]

-- one more of the same
pub replicate_more : {X : Type 0} (items new : List X) (x y : X) → new ≡ items ++ y ∷ [] → y ≡ x → items ≡ replicate (length items) x →
    new ≡ replicate (length new) x
replicate_more items new x y pushed is all =
    let long : length new ≡ length items + 1 = ap length pushed ∙ length-append items (y ∷ []) in
    pushed ∙ ap (λ z. items ++ z ∷ []) is ∙ ap (λ zs. zs ++ x ∷ []) all ∙ replicate-append-replicate (length items) 1 x ∙ ap (λ n. replicate n x) (sym long)

-- the front of a list
pub front_is : {X : Type 0} (new rest : List X) (len : ℕ) → length new ≡ len → take len (new ++ rest) ≡ new
front_is [] rest len is = subst (λ (n : ℕ). take n rest ≡ []) is refl
front_is (x ∷ new) rest len is = subst (λ (n : ℕ). take n (x ∷ (new ++ rest)) ≡ x ∷ new) is (ap (λ ys. x ∷ ys) (front_is new rest (length new) refl))
