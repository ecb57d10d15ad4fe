-- Areas of options, an option at a time.
use Rattle.std.proofs.Common.{◌≡◌, ◌≢◌, ℕ, zero, suc, ◌+◌, ◌-◌, ◌<◌, ◌≤◌, Bool, true, false, List, [], ◌∷◌, length, take, drop, refl, sym, ◌∙◌, ap, arith}
use Rattle.std.proofs.lemmas.Bool.{eq-eqb, ne_eqb, le-leb}
use Rattle.std.specs.Prelude.{◌==◌, if◌then◌else◌, slice_index, Option, Some}
use Rattle.wire_dhcp.specs.Options.{OptionValue, option_before, options_in, is_area, are_options, last_of}

-- skipping bytes that are there
pub options_in-skip : (n : ℕ) (bytes : List ℕ) → n ≤ length bytes → options_in n bytes ≡ options_in 0 (drop n bytes)
options_in-skip zero bytes le = refl
options_in-skip (suc n) [] le = absurd (omega arith)
options_in-skip (suc n) (b ∷ bytes) le = options_in-skip n bytes (omega arith)

pub is_area-skip : (n : ℕ) (bytes : List ℕ) → n ≤ length bytes → is_area n bytes ≡ is_area 0 (drop n bytes)
is_area-skip zero bytes le = refl
is_area-skip (suc n) [] le = absurd (omega arith)
is_area-skip (suc n) (b ∷ bytes) le = is_area-skip n bytes (omega arith)

-- skipping more than is there
pub is_area-cut : (n : ℕ) (bytes : List ℕ) → length bytes < n → is_area n bytes ≡ false
is_area-cut zero bytes lt = absurd (omega arith)
is_area-cut (suc n) [] lt = ne_eqb (suc n) 0 (λ e. omega (arith, e))
is_area-cut (suc n) (b ∷ bytes) lt = is_area-cut n bytes (omega arith)

-- a pad at the front
pub options_in-pad : (b : ℕ) (bytes : List ℕ) → b ≡ 0 → options_in 0 (b ∷ bytes) ≡ options_in 0 bytes
options_in-pad b bytes is = rw is refl

pub is_area-pad : (b : ℕ) (bytes : List ℕ) → b ≡ 0 → is_area 0 (b ∷ bytes) ≡ is_area 0 bytes
is_area-pad b bytes is = rw is refl

-- the end at the front
pub options_in-end : (b : ℕ) (bytes : List ℕ) → b ≡ 255 → options_in 0 (b ∷ bytes) ≡ []
options_in-end b bytes is = rw is refl

pub is_area-end : (b : ℕ) (bytes : List ℕ) → b ≡ 255 → is_area 0 (b ∷ bytes) ≡ true
is_area-end b bytes is = rw is refl

-- what a byte at the front is, told of its two tests
abbrev pub options_by : ℕ → List ℕ → Bool → Bool → List OptionValue
options_by b bytes is_pad is_end = elim is_pad [
  | true ↦ options_in 0 bytes
  | false ↦ elim is_end [ true ↦ [] | false ↦ option_before b bytes (options_in (suc (slice_index bytes 0)) bytes) ]
]

pub options_in-by : (b : ℕ) (bytes : List ℕ) (is_pad is_end : Bool) → (b == 0) ≡ is_pad → (b == 255) ≡ is_end →
    options_in 0 (b ∷ bytes) ≡ options_by b bytes is_pad is_end
options_in-by b bytes is_pad is_end pad end = ap (λ t. options_by b bytes t (b == 255)) pad ∙ ap (options_by b bytes is_pad) end

abbrev pub area_by : List ℕ → Bool → Bool → Bool
area_by bytes is_pad is_end = elim is_pad [
  | true ↦ is_area 0 bytes
  | false ↦ elim is_end [ true ↦ true | false ↦ is_area (suc (slice_index bytes 0)) bytes ]
]

pub is_area-by : (b : ℕ) (bytes : List ℕ) (is_pad is_end : Bool) → (b == 0) ≡ is_pad → (b == 255) ≡ is_end → is_area 0 (b ∷ bytes) ≡ area_by bytes is_pad is_end
is_area-by b bytes is_pad is_end pad end = ap (λ t. area_by bytes t (b == 255)) pad ∙ ap (area_by bytes is_pad) end

abbrev pub with_length : ℕ → List ℕ → List OptionValue → Bool → List OptionValue
with_length kind inside others whole = if whole then record { kind = kind; inside = inside } ∷ others else []

-- an option at the front
pub options_in-one : (kind n : ℕ) (inner : List ℕ) → kind ≢ 0 → kind ≢ 255 → n ≤ length inner
    → options_in 0 (kind ∷ n ∷ inner) ≡ record { kind = kind; inside = take n inner } ∷ options_in 0 (drop n inner)
options_in-one kind n inner some goes le =
    options_in-by kind (n ∷ inner) false false (ne_eqb kind 0 some) (ne_eqb kind 255 goes)
    ∙ ap (with_length kind (take n inner) (options_in n inner)) (le-leb n (length inner) le)
    ∙ ap (λ os. with_length kind (take n inner) os true) (options_in-skip n inner le)

pub is_area-one : (kind n : ℕ) (inner : List ℕ) → kind ≢ 0 → kind ≢ 255 → n ≤ length inner → is_area 0 (kind ∷ n ∷ inner) ≡ is_area 0 (drop n inner)
is_area-one kind n inner some goes le =
    is_area-by kind (n ∷ inner) false false (ne_eqb kind 0 some) (ne_eqb kind 255 goes) ∙ is_area-skip n inner le

-- an option that is cut
pub is_area-short : (kind n : ℕ) (inner : List ℕ) → kind ≢ 0 → kind ≢ 255 → length inner < n → is_area 0 (kind ∷ n ∷ inner) ≡ false
is_area-short kind n inner some goes lt =
    is_area-by kind (n ∷ inner) false false (ne_eqb kind 0 some) (ne_eqb kind 255 goes) ∙ is_area-cut n inner lt

pub is_area-lone : (kind : ℕ) → kind ≢ 0 → kind ≢ 255 → is_area 0 (kind ∷ []) ≡ false
is_area-lone kind some goes =
    is_area-by kind [] false false (ne_eqb kind 0 some) (ne_eqb kind 255 goes) ∙ is_area-cut (suc (slice_index [] 0)) [] (omega arith)

-- whole options, one at a time
pub are_options-skip : (n : ℕ) (bytes : List ℕ) → n ≤ length bytes → are_options n bytes ≡ are_options 0 (drop n bytes)
are_options-skip zero bytes le = refl
are_options-skip (suc n) [] le = absurd (omega arith)
are_options-skip (suc n) (b ∷ bytes) le = are_options-skip n bytes (omega arith)

pub are_options-cut : (n : ℕ) (bytes : List ℕ) → length bytes < n → are_options n bytes ≡ false
are_options-cut zero bytes lt = absurd (omega arith)
are_options-cut (suc n) [] lt = ne_eqb (suc n) 0 (λ e. omega (arith, e))
are_options-cut (suc n) (b ∷ bytes) lt = are_options-cut n bytes (omega arith)

abbrev pub whole_by : List ℕ → Bool → Bool → Bool
whole_by bytes is_pad is_end = elim is_pad [
  | true ↦ false
  | false ↦ elim is_end [ true ↦ false | false ↦ are_options (suc (slice_index bytes 0)) bytes ]
]

pub are_options-by : (b : ℕ) (bytes : List ℕ) (is_pad is_end : Bool) → (b == 0) ≡ is_pad → (b == 255) ≡ is_end →
    are_options 0 (b ∷ bytes) ≡ whole_by bytes is_pad is_end
are_options-by b bytes is_pad is_end pad end = ap (λ t. whole_by bytes t (b == 255)) pad ∙ ap (whole_by bytes is_pad) end

pub are_options-pad : (b : ℕ) (bytes : List ℕ) → b ≡ 0 → are_options 0 (b ∷ bytes) ≡ false
are_options-pad b bytes is = rw is refl

pub are_options-end : (b : ℕ) (bytes : List ℕ) → b ≡ 255 → are_options 0 (b ∷ bytes) ≡ false
are_options-end b bytes is = rw is refl

pub are_options-one : (kind n : ℕ) (inner : List ℕ) → kind ≢ 0 → kind ≢ 255 → n ≤ length inner →
    are_options 0 (kind ∷ n ∷ inner) ≡ are_options 0 (drop n inner)
are_options-one kind n inner some goes le =
    are_options-by kind (n ∷ inner) false false (ne_eqb kind 0 some) (ne_eqb kind 255 goes) ∙ are_options-skip n inner le

pub are_options-short : (kind n : ℕ) (inner : List ℕ) → kind ≢ 0 → kind ≢ 255 → length inner < n → are_options 0 (kind ∷ n ∷ inner) ≡ false
are_options-short kind n inner some goes lt =
    are_options-by kind (n ∷ inner) false false (ne_eqb kind 0 some) (ne_eqb kind 255 goes) ∙ are_options-cut n inner lt

pub are_options-lone : (kind : ℕ) → kind ≢ 0 → kind ≢ 255 → are_options 0 (kind ∷ []) ≡ false
are_options-lone kind some goes =
    are_options-by kind [] false false (ne_eqb kind 0 some) (ne_eqb kind 255 goes) ∙ are_options-cut (suc (slice_index [] 0)) [] (omega arith)

pub ruleset whole_steps = (are_options-pad, are_options-end, are_options-one, are_options-short, are_options-lone)

-- an option at the front of an area that is read
pub last_of-one : (kind code n : ℕ) (inner : List ℕ) (so_far : Option (List ℕ)) → code ≢ 0 → code ≢ 255 → n ≤ length inner
    → last_of kind so_far (options_in 0 (code ∷ n ∷ inner)) ≡ last_of kind (if code == kind then Some (take n inner) else so_far) (options_in 0 (drop n inner))
last_of-one kind code n inner so_far some goes le = ap (last_of kind so_far) (options_in-one code n inner some goes le)

-- the same, where it has the code, and where it hasn't
pub last_of-hit : (kind code n : ℕ) (inner : List ℕ) (so_far : Option (List ℕ)) → code ≢ 0 → code ≢ 255 → n ≤ length inner → code ≡ kind
    → last_of kind so_far (options_in 0 (code ∷ n ∷ inner)) ≡ last_of kind (Some (take n inner)) (options_in 0 (drop n inner))
last_of-hit kind code n inner so_far some goes le is =
    last_of-one kind code n inner so_far some goes le
    ∙ ap (λ (t : Bool). last_of kind (if t then Some (take n inner) else so_far) (options_in 0 (drop n inner))) (eq-eqb code kind is)

pub last_of-miss : (kind code n : ℕ) (inner : List ℕ) (so_far : Option (List ℕ)) → code ≢ 0 → code ≢ 255 → n ≤ length inner → code ≢ kind
    → last_of kind so_far (options_in 0 (code ∷ n ∷ inner)) ≡ last_of kind so_far (options_in 0 (drop n inner))
last_of-miss kind code n inner so_far some goes le isnt =
    last_of-one kind code n inner so_far some goes le
    ∙ ap (λ (t : Bool). last_of kind (if t then Some (take n inner) else so_far) (options_in 0 (drop n inner))) (ne_eqb code kind isnt)

pub ruleset area_steps =
    (options_in-pad, options_in-end, options_in-one, is_area-pad, is_area-end, is_area-one, is_area-short, is_area-lone, last_of-hit, last_of-miss)
