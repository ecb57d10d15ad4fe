-- Lemmas on bytes that begin a stream, and on the receive map.
use Rattle.std.proofs.Common.{◌≡◌, ℕ, zero, suc, ◌+◌, ◌≤◌, List, [], ◌∷◌, ◌++◌, length, take, drop, Option, Some, None, slice_get, refl, sym, ap, ◌∙◌, subst}
use Rattle.std.proofs.Common.{arith, drop-drop}
use Rattle.std.specs.List.{AllByRecursion}
use Rattle.tcp_theory.specs.ReceiveMap.{space, store, front, following, AgreesWith, Begins}
use Rattle.tcp_theory.specs.Safe.{IsPrefixOf}

pub Begins-all : (xs more : List ℕ) → Begins xs (xs ++ more)
Begins-all [] more = tt
Begins-all (x ∷ xs) more = (refl, Begins-all xs more)

pub Begins-take : (n : ℕ) (xs : List ℕ) → Begins (take n xs) xs
Begins-take zero xs = tt
Begins-take (suc n) [] = tt
Begins-take (suc n) (x ∷ xs) = (refl, Begins-take n xs)

pub Begins-grow : (xs ys more : List ℕ) → Begins xs ys → Begins xs (ys ++ more)
Begins-grow [] ys more h = tt
Begins-grow (x ∷ xs) [] more h = absurd h
Begins-grow (x ∷ xs) (y ∷ ys) more h = (h.0, Begins-grow xs ys more h.1)

pub Begins-drop-grow : (n : ℕ) (xs ys more : List ℕ) → Begins xs (drop n ys) → Begins xs (drop n (ys ++ more))
Begins-drop-grow zero xs ys more h = Begins-grow xs ys more h
Begins-drop-grow (suc n) [] [] more h = tt
Begins-drop-grow (suc n) (x ∷ xs) [] more h = absurd h
Begins-drop-grow (suc n) xs (y ∷ ys) more h = Begins-drop-grow n xs ys more h

pub Begins-drop : (n : ℕ) (xs ys : List ℕ) → Begins xs ys → Begins (drop n xs) (drop n ys)
Begins-drop zero xs ys h = h
Begins-drop (suc n) [] ys h = tt
Begins-drop (suc n) (x ∷ xs) [] h = absurd h
Begins-drop (suc n) (x ∷ xs) (y ∷ ys) h = Begins-drop n xs ys h.1

-- the two parts of a list that begins the stream
pub Begins-append : (xs more ys : List ℕ) → Begins xs ys → Begins more (drop (length xs) ys) → Begins (xs ++ more) ys
Begins-append [] more ys h g = g
Begins-append (x ∷ xs) more [] h g = absurd h
Begins-append (x ∷ xs) more (y ∷ ys) h g = (h.0, Begins-append xs more ys h.1 g)

pub Begins-length : (xs ys : List ℕ) → Begins xs ys → length xs ≤ length ys
Begins-length [] ys h = omega arith
Begins-length (x ∷ xs) [] h = absurd h
Begins-length (x ∷ xs) (y ∷ ys) h = let rest = Begins-length xs ys h.1 in omega arith

pub Begins-whole : (xs ys : List ℕ) → Begins xs ys → length ys ≤ length xs → xs ≡ ys
Begins-whole [] [] h e = refl
Begins-whole [] (y ∷ ys) h e = absurd (omega arith)
Begins-whole (x ∷ xs) [] h e = absurd h
Begins-whole (x ∷ xs) (y ∷ ys) h e =
    let shorter : length ys ≤ length xs = omega arith in
    let rest = Begins-whole xs ys h.1 shorter in
    let first = h.0 in
    cc

pub Begins-nothing : (xs : List ℕ) → Begins xs [] → xs ≡ []
Begins-nothing [] h = refl
Begins-nothing (x ∷ xs) h = absurd h

pub Begins-prefix : (xs ys : List ℕ) → Begins xs ys → IsPrefixOf xs ys
Begins-prefix [] ys h = (ys, refl)
Begins-prefix (x ∷ xs) [] h = absurd h
Begins-prefix (x ∷ xs) (y ∷ ys) h =
    let rest = Begins-prefix xs ys h.1 in
    let first = h.0 in
    let same = rest.1 in
    (rest.0, cc)

pub drop-nothing : (n : ℕ) → ◌≡◌ {A = List ℕ} (drop n []) []
drop-nothing zero = refl
drop-nothing (suc n) = refl

-- a map that agrees with the end of the stream holds nothing, so it agrees with any
AgreesWith-any : (map : List (Option ℕ)) (more : List ℕ) → AgreesWith map [] → AgreesWith map more
AgreesWith-any [] more h = tt
AgreesWith-any (None ∷ map) [] h = h
AgreesWith-any (None ∷ map) (y ∷ more) h = AgreesWith-any map more h
AgreesWith-any (Some x ∷ map) more h = absurd h

AgreesWith-grow : (map : List (Option ℕ)) (ys more : List ℕ) → AgreesWith map ys → AgreesWith map (ys ++ more)
AgreesWith-grow [] ys more h = tt
AgreesWith-grow (None ∷ map) [] more h = AgreesWith-any (None ∷ map) more h
AgreesWith-grow (None ∷ map) (y ∷ ys) more h = AgreesWith-grow map ys more h
AgreesWith-grow (Some x ∷ map) [] more h = absurd h
AgreesWith-grow (Some x ∷ map) (y ∷ ys) more h = (h.0, AgreesWith-grow map ys more h.1)

pub AgreesWith-drop-grow : (n : ℕ) (map : List (Option ℕ)) (ys more : List ℕ) → AgreesWith map (drop n ys) → AgreesWith map (drop n (ys ++ more))
AgreesWith-drop-grow zero map ys more h = AgreesWith-grow map ys more h
AgreesWith-drop-grow (suc n) map [] more h = AgreesWith-any map (drop (suc n) more) h
AgreesWith-drop-grow (suc n) map (y ∷ ys) more h = AgreesWith-drop-grow n map ys more h

pub AgreesWith-space : (n : ℕ) (ys : List ℕ) → AgreesWith (space n) ys
AgreesWith-space zero ys = tt
AgreesWith-space (suc n) [] = AgreesWith-space n []
AgreesWith-space (suc n) (y ∷ ys) = AgreesWith-space n ys

-- more free space after the map
pub AgreesWith-room : (map : List (Option ℕ)) (n : ℕ) (ys : List ℕ) → AgreesWith map ys → AgreesWith (map ++ space n) ys
AgreesWith-room [] n ys h = AgreesWith-space n ys
AgreesWith-room (None ∷ map) n [] h = AgreesWith-room map n [] h
AgreesWith-room (None ∷ map) n (y ∷ ys) h = AgreesWith-room map n ys h
AgreesWith-room (Some x ∷ map) n [] h = absurd h
AgreesWith-room (Some x ∷ map) n (y ∷ ys) h = (h.0, AgreesWith-room map n ys h.1)

-- bytes of the stream, laid at their offset
pub AgreesWith-store : (map : List (Option ℕ)) (offset : ℕ) (bytes ys : List ℕ) → AgreesWith map ys → Begins bytes (drop offset ys) →
    AgreesWith (store map offset bytes) ys
AgreesWith-store [] offset bytes ys h g = tt
AgreesWith-store (None ∷ map) (suc offset) [] [] h g = AgreesWith-store map offset [] [] h tt
AgreesWith-store (None ∷ map) (suc offset) (b ∷ bytes) [] h g = absurd g
AgreesWith-store (None ∷ map) (suc offset) bytes (y ∷ ys) h g = AgreesWith-store map offset bytes ys h g
AgreesWith-store (Some x ∷ map) (suc offset) bytes [] h g = absurd h
AgreesWith-store (Some x ∷ map) (suc offset) bytes (y ∷ ys) h g = (h.0, AgreesWith-store map offset bytes ys h.1 g)
AgreesWith-store (None ∷ map) zero [] ys h g = h
AgreesWith-store (Some x ∷ map) zero [] ys h g = h
AgreesWith-store (None ∷ map) zero (b ∷ bytes) [] h g = absurd g
AgreesWith-store (None ∷ map) zero (b ∷ bytes) (y ∷ ys) h g = (g.0, AgreesWith-store map zero bytes ys h g.1)
AgreesWith-store (Some x ∷ map) zero (b ∷ bytes) [] h g = absurd h
AgreesWith-store (Some x ∷ map) zero (b ∷ bytes) (y ∷ ys) h g = (g.0, AgreesWith-store map zero bytes ys h.1 g.1)

pub store-nothing : (map : List (Option ℕ)) (offset : ℕ) → store map offset [] ≡ map
store-nothing [] offset = refl
store-nothing (x ∷ map) zero = refl
store-nothing (x ∷ map) (suc offset) = ap {B = List (Option ℕ)} (λ rest. x ∷ rest) (store-nothing map offset)

pub Begins-front : (map : List (Option ℕ)) (ys : List ℕ) → AgreesWith map ys → Begins (front map) ys
Begins-front [] ys h = tt
Begins-front (None ∷ map) ys h = tt
Begins-front (Some x ∷ map) [] h = absurd h
Begins-front (Some x ∷ map) (y ∷ ys) h = (h.0, Begins-front map ys h.1)

pub AgreesWith-following : (map : List (Option ℕ)) (ys : List ℕ) → AgreesWith map ys → AgreesWith (following map) (drop (length (front map)) ys)
AgreesWith-following [] ys h = tt
AgreesWith-following (None ∷ map) ys h = h
AgreesWith-following (Some x ∷ map) [] h = absurd h
AgreesWith-following (Some x ∷ map) (y ∷ ys) h = AgreesWith-following map ys h.1

-- two cuts of a list are one
pub drop-twice : (k m j n : ℕ) (ys : List ℕ) → m + k ≡ n + j → drop k (drop m ys) ≡ drop j (drop n ys)
drop-twice k m j n ys e = drop-drop k m ys ∙ ap (λ (i : ℕ). drop i ys) e ∙ sym (drop-drop j n ys)

-- what holds of each segment, by another fact of each
pub AllByRecursion-map : {X : Type 0} (P Q : X → Type 0) → ((x : X) → P x → Q x) → (xs : List X) → AllByRecursion P xs → AllByRecursion Q xs
AllByRecursion-map P Q leads [] h = tt
AllByRecursion-map P Q leads (x ∷ xs) h = (leads x h.0, AllByRecursion-map P Q leads xs h.1)

pub AllByRecursion-at : {X : Type 0} (P : X → Type 0) (xs : List X) (k : ℕ) (x : X) → AllByRecursion P xs → slice_get xs k ≡ Some x → P x
AllByRecursion-at P [] k x h e = absurd (cc)
AllByRecursion-at P (y ∷ xs) zero x h e = let same : y ≡ x = cc in subst P same h.0
AllByRecursion-at P (y ∷ xs) (suc k) x h e = AllByRecursion-at P xs k x h.1 e

pub AllByRecursion-push : {X : Type 0} (P : X → Type 0) (xs : List X) (x : X) → AllByRecursion P xs → P x → AllByRecursion P (xs ++ x ∷ [])
AllByRecursion-push P [] x h last = (last, tt)
AllByRecursion-push P (y ∷ xs) x h last = (h.0, AllByRecursion-push P xs x h.1 last)
