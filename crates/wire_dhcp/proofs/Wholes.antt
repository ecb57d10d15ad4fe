-- Whole options before other bytes.
use Rattle.std.proofs.Common.{◌≡◌, ◌≢◌, ℕ, zero, suc, ◌+◌, ◌≤◌, Bool, true, false, List, [], ◌∷◌, ◌++◌, length, take, refl, sym, ◌∙◌, ap, arith, length-append}
use Rattle.std.specs.Prelude.{◌==◌, nat_le, if◌then◌else◌, slice_index, Option, Some}
use Rattle.std.proofs.lemmas.Bool.{le-leb, eqb-true}
use Rattle.std.proofs.lemmas.List.{take-append-le}
use Rattle.wire_dhcp.specs.Normal.{is_read, AreUnread}
use Rattle.wire_dhcp.specs.Options.{OptionValue, option_before, options_in, is_area, are_options, last_of}
use Rattle.wire_dhcp.proofs.Areas.{options_in-by, is_area-by, with_length, whole_by, are_options-by}

none-skipped : (n : ℕ) → (suc n == 0) ≡ true → ⊥
none-skipped n whole = omega (arith, eqb-true (suc n) 0 whole)

-- what is skipped is there
there : (n : ℕ) (bytes : List ℕ) → are_options n bytes ≡ true → n ≤ length bytes
there zero bytes whole = omega arith
there (suc n) [] whole = absurd (none-skipped n whole)
there (suc n) (b ∷ bytes) whole = omega (arith, there n bytes whole)

-- of the options after a byte
abbrev IsBefore : ℕ → List ℕ → List ℕ → Type 0
IsBefore n bytes rest = options_in n (bytes ++ rest) ≡ options_in n bytes ++ options_in 0 rest

one-before : (kind n : ℕ) (inner rest : List ℕ) → n ≤ length inner → IsBefore n inner rest
    → option_before kind (n ∷ (inner ++ rest)) (options_in n (inner ++ rest)) ≡ option_before kind (n ∷ inner) (options_in n inner) ++ options_in 0 rest
one-before kind n inner rest le next =
    ap (with_length kind (take n (inner ++ rest)) (options_in n (inner ++ rest)))
    (le-leb n (length (inner ++ rest)) (omega (arith, le, length-append inner rest)))
    ∙ ap (λ xs. with_length kind xs (options_in n (inner ++ rest)) true) (take-append-le n inner rest le)
    ∙ ap (λ os. with_length kind (take n inner) os true) next
    ∙ ap (λ t. with_length kind (take n inner) (options_in n inner) t ++ options_in 0 rest) (sym (le-leb n (length inner) le))

following-code : (kind : ℕ) (bytes rest : List ℕ) → are_options (suc (slice_index bytes 0)) bytes ≡ true → IsBefore (suc (slice_index bytes 0)) bytes rest
    → option_before kind (bytes ++ rest) (options_in (suc (slice_index (bytes ++ rest) 0)) (bytes ++ rest))
    ≡ option_before kind bytes (options_in (suc (slice_index bytes 0)) bytes) ++ options_in 0 rest
following-code kind [] rest whole next = absurd (none-skipped (slice_index [] 0) whole)
following-code kind (n ∷ inner) rest whole next = one-before kind n inner rest (there n inner whole) next

false-true : false ≡ true → ⊥
false-true e = cc

first-before : (b : ℕ) (bytes rest : List ℕ) (is_pad is_end : Bool) → (b == 0) ≡ is_pad → (b == 255) ≡ is_end → are_options 0 (b ∷ bytes) ≡ true
    → (are_options (suc (slice_index bytes 0)) bytes ≡ true → IsBefore (suc (slice_index bytes 0)) bytes rest)
    → options_in 0 (b ∷ (bytes ++ rest)) ≡ options_in 0 (b ∷ bytes) ++ options_in 0 rest
first-before b bytes rest true is_end pad end whole next = absurd (false-true (sym (are_options-by b bytes true is_end pad end) ∙ whole))
first-before b bytes rest false true pad end whole next = absurd (false-true (sym (are_options-by b bytes false true pad end) ∙ whole))
first-before b bytes rest false false pad end whole next =
    let inner : are_options (suc (slice_index bytes 0)) bytes ≡ true = sym (are_options-by b bytes false false pad end) ∙ whole in
    options_in-by b (bytes ++ rest) false false pad end
    ∙ following-code b bytes rest inner (next inner)
    ∙ ap (λ os. os ++ options_in 0 rest) (sym (options_in-by b bytes false false pad end))

-- the options of whole ones, and of what follows
pub options_in-append : (n : ℕ) (bytes rest : List ℕ) → are_options n bytes ≡ true → options_in n (bytes ++ rest) ≡ options_in n bytes ++ options_in 0 rest
options_in-append zero [] rest whole = refl
options_in-append (suc n) [] rest whole = absurd (none-skipped n whole)
options_in-append (suc n) (b ∷ bytes) rest whole = options_in-append n bytes rest whole
options_in-append zero (b ∷ bytes) rest whole =
    first-before b bytes rest (b == 0) (b == 255) refl refl whole (options_in-append (suc (slice_index bytes 0)) bytes rest)

-- whether what follows is cut
length-following : (bytes rest : List ℕ) → are_options (suc (slice_index bytes 0)) bytes ≡ true → slice_index (bytes ++ rest) 0 ≡ slice_index bytes 0
length-following [] rest whole = absurd (none-skipped (slice_index [] 0) whole)
length-following (n ∷ inner) rest whole = refl

first-area : (b : ℕ) (bytes rest : List ℕ) (is_pad is_end : Bool) → (b == 0) ≡ is_pad → (b == 255) ≡ is_end → are_options 0 (b ∷ bytes) ≡ true
    → (are_options (suc (slice_index bytes 0)) bytes ≡ true → is_area (suc (slice_index bytes 0)) (bytes ++ rest) ≡ is_area 0 rest)
    → is_area 0 (b ∷ (bytes ++ rest)) ≡ is_area 0 rest
first-area b bytes rest true is_end pad end whole next = absurd (false-true (sym (are_options-by b bytes true is_end pad end) ∙ whole))
first-area b bytes rest false true pad end whole next = absurd (false-true (sym (are_options-by b bytes false true pad end) ∙ whole))
first-area b bytes rest false false pad end whole next =
    let inner : are_options (suc (slice_index bytes 0)) bytes ≡ true = sym (are_options-by b bytes false false pad end) ∙ whole in
    is_area-by b (bytes ++ rest) false false pad end
    ∙ ap (λ n. is_area (suc n) (bytes ++ rest)) (length-following bytes rest inner)
    ∙ next inner

pub is_area-append : (n : ℕ) (bytes rest : List ℕ) → are_options n bytes ≡ true → is_area n (bytes ++ rest) ≡ is_area 0 rest
is_area-append zero [] rest whole = refl
is_area-append (suc n) [] rest whole = absurd (none-skipped n whole)
is_area-append (suc n) (b ∷ bytes) rest whole = is_area-append n bytes rest whole
is_area-append zero (b ∷ bytes) rest whole =
    first-area b bytes rest (b == 0) (b == 255) refl refl whole (is_area-append (suc (slice_index bytes 0)) bytes rest)

-- options of other codes
other-code : (kind code : ℕ) (found : Bool) → (code == kind) ≡ found → is_read kind ≡ true → is_read code ≡ false → found ≡ false
other-code kind code false is read unread = refl
other-code kind code true is read unread = absurd (false-true (sym unread ∙ ap is_read (eqb-true code kind is) ∙ read))

pub last_of-unread : (kind : ℕ) (so_far : Option (List ℕ)) (os : List OptionValue) → is_read kind ≡ true → AreUnread os → last_of kind so_far os ≡ so_far
last_of-unread kind so_far [] read unread = refl
last_of-unread kind so_far (o ∷ os) read unread =
    ap (λ (t : Bool). last_of kind (if t then Some o.inside else so_far) os) (other-code kind o.kind (o.kind == kind) refl read unread.0)
    ∙ last_of-unread kind so_far os read unread.1
