-- Lemmas on the words of a script.
use Rattle.std.proofs.Common.{◌≡◌, ℕ, ℤ, ◌==◌, ◌-◌, ◌%◌, ◌<◌, ◌≤◌, ◌^◌, Bool, true, false, not, cond, eqb, nat_le, ◌&&◌, ◌||◌, List, [], ◌∷◌, length, refl, sym}
use Rattle.std.proofs.Common.{inl, inr, ap, ◌∙◌, arith, rules, Option, Some, None, Result, Ok, Err}
use Rattle.std.specs.Option.{is_some}
use Rattle.std.specs.List.{onto_first, position_or_len, list_all, before_first, after_first}
use Rattle.std.specs.Char.{is_ascii_digit, is_ascii_hexdigit}
use Rattle.std.specs.Result.{result_ok, is_ok}
use Rattle.std.specs.Str.Parse.{ParsesUnsigned, ParsesSigned, digits_value}
use Rattle.std.specs.Int.{w64}
use Rattle.std.proofs.lemmas.Str.Parse.{IsNumeralModel, numerals_by_value, parse_digits, parse_signed_digits}
use Rattle.std.proofs.lemmas.Bool.Decides.{nat_tests}
use Rattle.std.proofs.lemmas.List.Splits.{length-slice_split, slice_split_first}
use Rattle.std.proofs.lemmas.Bool.{cases_lt}
use denote.Ref.{Bor}
use Rattle.std.proofs.lemmas.List.Sums.{AllPass-from_list_all, list_all-from_AllPass}
use Rattle.hex.specs.declared.error.FromHexError.{FromHexError}
use Rattle.hex.specs.Hex.{is_hex_digit, decode_of}
use Rattle.hex.proofs.HexLemmas.{decode_of-ok, decode_of-digits}
use Rattle.sim_link.specs.Words.{words_of, words_left, number_of, micros_of}

-- WORDS

one_more : (c x : ℕ) (xs : List ℕ) (b : Bool) → eqb x c ≡ b → position_or_len (λ b. eqb b c) (x ∷ xs) ≡ length (x ∷ xs)
    → (position_or_len (λ b. eqb b c) xs ≡ length xs → words_of c xs ≡ xs ∷ []) → words_of c (x ∷ xs) ≡ (x ∷ xs) ∷ []
one_more c x xs true e h rest = let k = rw e at h in absurd (omega (arith, k))
one_more c x xs false e h rest =
    let k = rw e at h in
    let same : position_or_len (λ b. eqb b c) xs ≡ length xs = omega (arith, k) in
    rw e (ap (onto_first x) (rest same))

-- a text without a separator is one word
pub words_of_one : (c : ℕ) (text : List ℕ) → position_or_len (λ b. eqb b c) text ≡ length text → words_of c text ≡ text ∷ []
words_of_one c [] h = refl
words_of_one c (x ∷ xs) h = one_more c x xs (eqb x c) refl h (words_of_one c xs)

-- a text is never without a word
pub words_of_some : (c : ℕ) (text : List ℕ) → (length (words_of c text) == 0) ≡ false
words_of_some c text = grind (arith, nat_tests, length-slice_split (λ b. eqb b c) text)

-- where a text has a separator, its first word ends there
pub first_word_ends : (c : ℕ) (left : Option (Bor (List ℕ))) (words : List (List ℕ)) (text : Bor (List ℕ)) (first rest : List ℕ) → words_left c left ≡ words →
    left ≡ Some text
    → (first ≡ before_first (λ b. eqb b c) text.now) × (rest ≡ after_first (λ b. eqb b c) text.now) ×
    (position_or_len (λ b. eqb b c) text.now < length text.now)
    → words ≡ first ∷ words_of c rest
first_word_ends c left words text first rest view is parts =
    sym view ∙ ap (words_left c) is ∙ slice_split_first (λ b. eqb b c) text.now 0 parts.2 ∙ rw (parts.0, parts.1) refl

-- where it has none, it is the last word
pub last_word : (c : ℕ) (left : Option (Bor (List ℕ))) (words : List (List ℕ)) (text : Bor (List ℕ)) → words_left c left ≡ words → left ≡ Some text
    → position_or_len (λ b. eqb b c) text.now ≡ length text.now → words ≡ text.now ∷ []
last_word c left words text view is none = sym view ∙ ap (words_left c) is ∙ words_of_one c text.now none

pub none_left : (c : ℕ) (left : Option (Bor (List ℕ))) (none : Bool) → is_some left ≡ not none → none ≡ (length (words_left c left) == 0)
none_left c None true h = refl
none_left c None false h = cc
none_left c (Some text) true h = cc
none_left c (Some text) false h = sym (words_of_some c text.now)

-- NUMBERS

-- decimal digits, and their value
pub digit_words : IsNumeralModel (λ ds. list_all is_ascii_digit ds ≡ true) (digits_value 10)
digit_words = numerals_by_value _ (search rules)

pub number_of_yes : (bound : ℕ) (word : List ℕ) (value : ℕ) → list_all is_ascii_digit word ≡ true → 0 < length word → digits_value 10 word < bound →
    value ≡ digits_value 10 word → Some value ≡ number_of bound word
number_of_yes bound word value digits some small e = grind (arith, nat_tests)

number_of_nothing : (bound : ℕ) (word : List ℕ) → length word ≤ 0 → number_of bound word ≡ None
number_of_nothing bound word none = grind (arith, nat_tests)

number_of_large : (bound : ℕ) (word : List ℕ) → bound ≤ digits_value 10 word → number_of bound word ≡ None
number_of_large bound word large = grind (arith, nat_tests)

pub number_of_no : (bound : ℕ) (word : List ℕ) → (0 < length word × digits_value 10 word < bound → ⊥) → number_of bound word ≡ None
number_of_no bound word not_in =
    elim (cases_lt 0 (length word)) [
      | inl some ↦ elim (cases_lt (digits_value 10 word) bound) [ inl small ↦ absurd (not_in (some, small)) | inr large ↦ number_of_large bound word large ]
      | inr none ↦ number_of_nothing bound word none
    ]

pub number_of_parsed : {E : Type 0} → (k : ℕ) (word : List ℕ) (r : Result ℕ E) → ParsesUnsigned k 10 word r → list_all is_ascii_digit word ≡ true →
    result_ok r ≡ number_of (2 ^ k) word
number_of_parsed {E} k word (Ok x) parsed digits =
    let facts = parse_digits digit_words {E = E} k word (Ok x) parsed digits in
    number_of_yes (2 ^ k) word x digits facts.0.0 facts.0.1 facts.1
number_of_parsed {E} k word (Err e) parsed digits =
    let facts = parse_digits digit_words {E = E} k word (Err e) parsed digits in
    sym (number_of_no (2 ^ k) word facts)

pub micros_of_parsed : {E : Type 0} → (word : List ℕ) (r : Result ℤ E) → ParsesSigned w64 10 word r → list_all is_ascii_digit word ≡ true →
    result_ok r ≡ micros_of word
micros_of_parsed {E} word (Ok x) parsed digits =
    let facts = parse_signed_digits digit_words {E = E} w64 word (Ok x) parsed digits in
    ap Some facts.1 ∙ rw (← number_of_yes (2 ^ 63) word (digits_value 10 word) digits facts.0.0 facts.0.1 refl) refl
micros_of_parsed {E} word (Err e) parsed digits =
    let facts = parse_signed_digits digit_words {E = E} w64 word (Err e) parsed digits in
    rw (number_of_no (2 ^ 63) word facts) refl

-- HEX

some_of_three : {X : Type 0} (p q r : Bool) (x y z : X) → ((r || p) || q) ≡ is_some (cond p (Some x) (cond q (Some y) (cond r (Some z) None)))
some_of_three true q true x y z = refl
some_of_three true q false x y z = refl
some_of_three false true true x y z = refl
some_of_three false true false x y z = refl
some_of_three false false true x y z = refl
some_of_three false false false x y z = refl

pub same_digits : (word : List ℕ) → list_all is_ascii_hexdigit word ≡ list_all is_hex_digit word
same_digits [] = refl
same_digits (c ∷ cs) = rw (
  some_of_three (nat_le 65 c && nat_le c 70) (nat_le 97 c && nat_le c 102) (nat_le 48 c && nat_le c 57) (c - 55) (c - 87) (c - 48),
  same_digits cs,
) refl

only_digits_decode : (word : List ℕ) (r : Result (List ℕ) FromHexError) → decode_of word ≡ r → list_all is_hex_digit word ≡ false → false ≡ is_ok r
only_digits_decode word (Ok bytes) e h =
    let all = list_all-from_AllPass is_hex_digit word (decode_of-ok word bytes e).1 in cc
only_digits_decode word (Err error) e h = refl

digits_decode : (word : List ℕ) (all : Bool) → list_all is_hex_digit word ≡ all → length word % 2 ≡ 0 → all ≡ is_ok (decode_of word)
digits_decode word true h even =
    let found = decode_of-digits word even (AllPass-from_list_all is_hex_digit word h) in
    rw found.1 refl
digits_decode word false h even = only_digits_decode word (decode_of word) refl h

-- pairs of digits are what decodes
pub list_all-hex : (word : List ℕ) → length word % 2 ≡ 0 → list_all is_ascii_hexdigit word ≡ is_ok (decode_of word)
list_all-hex word even = digits_decode word (list_all is_ascii_hexdigit word) (sym (same_digits word)) even
