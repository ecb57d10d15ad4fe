-- Options read one by one.
use Rattle.std.proofs.Common.{◌≡◌, ◌≢◌, ℕ, ◌-◌, ◌<◌, ◌≤◌, true, false, List, [], ◌∷◌, length, take, drop, refl, sym, ◌∙◌, ap, subst, arith, ◌↔◌, inl, inr}
use Rattle.std.proofs.Common.{length-drop, take_all}
use Rattle.std.specs.Prelude.{Option, Some, None, Result, Ok, Err, IsOk, IfOk, slice_index, slice_range}
use denote.Ref.{Bor}
use Rattle.std.proofs.lemmas.Bool.Decides.{eqb_tells, leb_tells}
use Rattle.wire_tcp.proofs.First.{first_option}
use Rattle.wire_tcp.proofs.Grammar.{before-read, empty, first_option-spelled}
use Rattle.wire_address.specs.declared.Error.{Error}
use Rattle.wire_tcp.specs.Options.{OptionValue, value_of, EndOfList, Begins, Spells, Says, taken, all_taken}
use Rattle.wire_tcp.specs.Seen.{First, first_long, inside, is_end, seen_first}
use Rattle.wire_tcp.specs.declared.option.TcpOption.{TcpOption}
use Rattle.wire_tcp.specs.declared.option.TcpOptions.{TcpOptions}

-- what a reader answered, with the end of options and nothing for a refusal
option_or : Option First → OptionValue
option_or None = EndOfList
option_or (Some f) = f.option

rest_or : Option First → List ℕ
rest_or None = []
rest_or (Some f) = f.rest

-- one answer has one option and one rest
same_option : (o p : OptionValue) (r s : List ℕ) (answer : Option First) → answer ≡ Some (record { option = o; rest = r }) →
    answer ≡ Some (record { option = p; rest = s }) → o ≡ p
unfolding option_or
same_option o p r s answer a b = ap option_or (sym a ∙ b)

same_rest : (o p : OptionValue) (r s : List ℕ) (answer : Option First) → answer ≡ Some (record { option = o; rest = r }) →
    answer ≡ Some (record { option = p; rest = s }) → r ≡ s
unfolding rest_or
same_rest o p r s answer a b = ap rest_or (sym a ∙ b)

-- one option at most stands at the front
pub Begins-one : (bytes rest following : List ℕ) (o p : OptionValue) → Begins bytes o rest → Begins bytes p following → (o ≡ p) × (rest ≡ following)
Begins-one bytes rest following o p first second =
    let a = (first_option-spelled bytes rest o).1 first in
    let b = (first_option-spelled bytes following p).1 second in
    (same_option o p rest following (first_option bytes) a b, same_rest o p rest following (first_option bytes) a b)

-- a reader that answers what is read at the front finds an option that stands there, and finds it wherever one does
pub seen-found : (bytes : List ℕ) (result : Result (Bor (List ℕ) × TcpOption) Error) → seen_first result ≡ first_option bytes →
    IfOk result (λ p. Begins bytes (value_of p.1) p.0.now)
seen-found bytes (Ok p) is = (first_option-spelled bytes p.0.now (value_of p.1)).0 (sym is)
seen-found bytes (Err e) is = tt

pub seen-only : (bytes : List ℕ) (result : Result (Bor (List ℕ) × TcpOption) Error) → seen_first result ≡ first_option bytes →
    (o : OptionValue) (rest : List ℕ) → Begins bytes o rest
    → IsOk result × IfOk result (λ p. (value_of p.1 ≡ o) × (p.0.now ≡ rest))
seen-only bytes (Ok p) is o rest begins =
    (refl, Begins-one bytes p.0.now rest (value_of p.1) o ((first_option-spelled bytes p.0.now (value_of p.1)).0 (sym is)) begins)
seen-only bytes (Err e) is o rest begins = let some = (first_option-spelled bytes rest o).1 begins in absurd (cc (is, some))

-- and the other way round
none-first : (answer : Option First) → ((f : First) → answer ≡ Some f → ⊥) → None ≡ answer
none-first None no_answer = refl
none-first (Some f) no_answer = absurd (no_answer f refl)

pub found-seen : (bytes : List ℕ) (result : Result (Bor (List ℕ) × TcpOption) Error) → IfOk result (λ p. Begins bytes (value_of p.1) p.0.now)
    → ((o : OptionValue) (rest : List ℕ) → Begins bytes o rest → IsOk result × IfOk result (λ p. (value_of p.1 ≡ o) × (p.0.now ≡ rest)))
    → seen_first result ≡ first_option bytes
found-seen bytes (Ok p) found only = sym ((first_option-spelled bytes p.0.now (value_of p.1)).1 found)
found-seen bytes (Err e) found only =
    none-first (first_option bytes) (λ f is. let ok = (only f.option f.rest ((first_option-spelled bytes f.rest f.option).0 is)).0 in absurd (cc ok))

-- no bytes begin with no option
none_first : (bytes : List ℕ) (o : OptionValue) (r : List ℕ) → bytes ≡ [] → Begins bytes o r → ⊥
none_first bytes o r none begins =
    let is : first_option bytes ≡ Some (record { option = o; rest = r }) = (first_option-spelled bytes r o).1 begins in
    let e : first_option bytes ≡ None = ap first_option none in
    cc

-- bytes that are no option spell none
pub Spells-none : (os : List OptionValue) (bytes : List ℕ) → bytes ≢ [] → first_option bytes ≡ None → Spells os bytes → ⊥
Spells-none [] bytes some is s = some s
Spells-none (EndOfList ∷ os) bytes some is s = let e = (first_option-spelled bytes s.0 EndOfList).1 s.1 in cc
Spells-none (o ∷ os) bytes some is s = let e = (first_option-spelled bytes s.0 o).1 s.1 in cc

-- no bytes spell no options
Spells-empty : (os : List OptionValue) (bytes : List ℕ) → bytes ≡ [] → Spells os bytes → os ≡ []
Spells-empty [] bytes none s = refl
Spells-empty (EndOfList ∷ os) bytes none s = absurd (none_first bytes EndOfList s.0 none s.1)
Spells-empty (o ∷ os) bytes none s = absurd (none_first bytes o s.0 none s.1)

-- what bytes spell that begin with the end of options
pub Spells-end : (os : List OptionValue) (bytes : List ℕ) (o : OptionValue) (r : List ℕ) → first_option bytes ≡ Some (record { option = o; rest = r }) →
    is_end o ≡ true
    → (so_far : TcpOptions) → Spells os bytes → all_taken so_far os ≡ so_far
Spells-end [] bytes o r is end so_far s = refl
Spells-end (EndOfList ∷ os) bytes o r is end so_far s = ap (all_taken so_far) s.2
Spells-end (p ∷ os) bytes o r is end so_far s = let e = same_option o p r s.0 (first_option bytes) is ((first_option-spelled bytes s.0 p).1 s.1) in let f =
    ap is_end e in cc

-- the option at the front of what is spelled
Says-unfold : (so_far v : TcpOptions) (os : List OptionValue) (bytes : List ℕ) (o : OptionValue) (r : List ℕ) →
    first_option bytes ≡ Some (record { option = o; rest = r }) → is_end o ≡ false
    → Spells os bytes → v ≡ all_taken so_far os → Says (taken so_far o) r v
Says-unfold so_far v [] bytes o r is more s all = absurd (none_first bytes o r s ((first_option-spelled bytes r o).0 is))
Says-unfold so_far v (EndOfList ∷ os) bytes o r is more s all =
    absurd (let e = same_option o EndOfList r s.0 (first_option bytes) is ((first_option-spelled bytes s.0 EndOfList).1 s.1) in let f = ap is_end e in cc)
Says-unfold so_far v (p ∷ os) bytes o r is more s all =
    let next = (first_option-spelled bytes s.0 p).1 s.1 in
    let e = same_option o p r s.0 (first_option bytes) is next in
    let f = same_rest o p r s.0 (first_option bytes) is next in
    (os, subst (Spells os) (sym f) s.2, all ∙ ap (λ q. all_taken (taken so_far q) os) (sym e))

pub Says-fold : (so_far v : TcpOptions) (bytes : List ℕ) (o : OptionValue) (r : List ℕ) → first_option bytes ≡ Some (record { option = o; rest = r }) →
    is_end o ≡ false
    → Says (taken so_far o) r v → Says so_far bytes v
Says-fold so_far v bytes EndOfList r is more says = absurd (cc more)
Says-fold so_far v bytes o r is more says = (o ∷ says.0, (r, (first_option-spelled bytes r o).0 is, says.1), says.2)

-- one option more
pub Says-step : (so_far v : TcpOptions) (bytes : List ℕ) (o : OptionValue) (r : List ℕ) → first_option bytes ≡ Some (record { option = o; rest = r }) →
    is_end o ≡ false
    → Says (taken so_far o) r v ↔ Says so_far bytes v
Says-step so_far v bytes o r is more =
    (Says-fold so_far v bytes o r is more, λ says. Says-unfold so_far v says.0 bytes o r is more says.1 says.2)

-- the same with the options that a reader has then
pub Says-next : (so_far next v : TcpOptions) (bytes : List ℕ) (o : OptionValue) (r : List ℕ) → first_option bytes ≡ Some (record { option = o; rest = r }) →
    is_end o ≡ false → next ≡ taken so_far o
    → Says next r v ↔ Says so_far bytes v
Says-next so_far next v bytes o r is more made = rw made (Says-step so_far v bytes o r is more)

-- the end of options
Says-at_end : (so_far : TcpOptions) (bytes : List ℕ) (o : OptionValue) (r : List ℕ) → first_option bytes ≡ Some (record { option = o; rest = r }) →
    is_end o ≡ true → Says so_far bytes so_far
Says-at_end so_far bytes EndOfList r is end = (EndOfList ∷ [], (r, (first_option-spelled bytes r EndOfList).0 is, refl), refl)
Says-at_end so_far bytes o r is end = absurd (cc end)

pub Says-end : (so_far v : TcpOptions) (bytes : List ℕ) (o : OptionValue) (r : List ℕ) → first_option bytes ≡ Some (record { option = o; rest = r }) →
    is_end o ≡ true
    → (Says so_far bytes so_far) × (Says so_far bytes v → so_far ≡ v)
Says-end so_far v bytes o r is end =
    (Says-at_end so_far bytes o r is end, λ says. sym (says.2 ∙ Spells-end says.0 bytes o r is end so_far says.1))

-- no bytes are left
pub Says-nothing : (so_far : TcpOptions) (bytes : List ℕ) → length bytes ≡ 0 → Says so_far bytes so_far
Says-nothing so_far bytes none = ([], empty bytes none, refl)

pub Says-empty : (so_far v : TcpOptions) (bytes : List ℕ) → length bytes ≡ 0 → Says so_far bytes v → so_far ≡ v
Says-empty so_far v bytes none says = sym (says.2 ∙ ap (all_taken so_far) (Spells-empty says.0 bytes (empty bytes none) says.1))

-- a first byte that is neither 0 nor 1
pub first_option-long : (bytes rest : List ℕ) → 1 ≤ length bytes → rest ≡ take (length bytes - 1) (drop 1 bytes) → slice_index bytes 0 ≢ 0 →
    slice_index bytes 0 ≢ 1
    → first_option bytes ≡ first_long bytes (slice_index rest 0)
first_option-long [] rest room is not_end not_nop = absurd (omega arith)
first_option-long (kind ∷ xs) rest room is not_end not_nop =
    let len : length (kind ∷ xs) - 1 ≡ length xs = omega arith in
    let same : rest ≡ xs = is ∙ ap (λ n. take n xs) len ∙ take_all (length xs) xs (omega arith) in
    elim (eqb_tells kind 0) [
      | inl hit ↦ absurd (not_end hit.1)
      | inr miss ↦ elim (eqb_tells kind 1) [ inl hit ↦ absurd (not_nop hit.1) | inr other ↦ rw (miss.0, other.0, same) refl ]
    ]

-- an option has at least one byte
first_long-shorter : (bytes : List ℕ) (n : ℕ) (f : First) → first_long bytes n ≡ Some f → length f.rest < length bytes
first_long-shorter bytes n f is =
    elim (leb_tells 2 n) [
      | inr miss ↦ absurd (let e = rw miss.0 at is in cc e)
      | inl least ↦ elim (leb_tells n (length bytes)) [
        | inr miss ↦ absurd (let e = rw (least.0, miss.0) at is in cc e)
        | inl within ↦
            let rest : f.rest ≡ drop n bytes =
            (before-read (inside (slice_index bytes 0) (slice_range bytes 2 n)) (drop n bytes) f (rw (least.0, within.0) at is)).1 in
            let e : length f.rest ≡ length (drop n bytes) = ap length rest in
            omega (arith, e, length-drop n bytes, least.1, within.1)
      ]
    ]

pub first_option-shorter : (bytes : List ℕ) (f : First) → first_option bytes ≡ Some f → length f.rest < length bytes
unfolding rest_or
first_option-shorter [] f is = absurd (cc is)
first_option-shorter (kind ∷ rest) f is =
    elim (eqb_tells kind 0) [
      | inl hit ↦ let e : rest ≡ f.rest = ap rest_or (rw hit.0 at is) in let n : length rest ≡ length f.rest = ap length e in omega (arith, n)
      | inr miss ↦ elim (eqb_tells kind 1) [
        | inl hit ↦ let e : rest ≡ f.rest = ap rest_or (rw (miss.0, hit.0) at is) in let n : length rest ≡ length f.rest = ap length e in omega (arith, n)
        | inr other ↦ first_long-shorter (kind ∷ rest) (slice_index rest 0) f (rw (miss.0, other.0) at is)
      ]
    ]
