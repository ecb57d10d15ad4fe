-- Words that are joined by blanks are the words of the text.
use Rattle.std.proofs.Common.{◌≡◌, ℕ, true, false, ◌==◌, nat_lt, List, [], ◌∷◌, ◌++◌, All, refl, ap, ◌∙◌, arith}
use Rattle.std.specs.List.{list_all, join_with_byte}
use Rattle.std.specs.Char.{is_ascii_graphic}
use Rattle.std.proofs.lemmas.Bool.Decides.{nat_tests}
use Rattle.std.proofs.lemmas.List.Elements.{All-weaker}
use Rattle.std.proofs.lemmas.List.Folds.{list_all-append}
use Rattle.std.proofs.lemmas.List.Splits.{slice_split_none, slice_split_at}
use Rattle.std.proofs.lemmas.List.Sums.{AllPass-from_list_all, list_all-from_AllPass}
use Rattle.sim_link.specs.Words.{words_of}
use Rattle.sim_link.proofs.Graphic.{IsGraphic}

-- one word or more, each without a blank and of ASCII
abbrev pub AreGraphic : List (List ℕ) → Type 0
AreGraphic [] = ⊥
AreGraphic (word ∷ []) = IsGraphic word
AreGraphic (word ∷ next ∷ words) = IsGraphic word × AreGraphic (next ∷ words)

no_blank : (c : ℕ) → is_ascii_graphic c ≡ true → (c == 32) ≡ false
no_blank c h = grind (arith, nat_tests)

ascii : (c : ℕ) → is_ascii_graphic c ≡ true → nat_lt c 128 ≡ true
ascii c h = grind (arith, nat_tests)

without_blank : (word : List ℕ) → IsGraphic word → All (λ c. (c == 32) ≡ false) word
without_blank word h = All-weaker (λ c. is_ascii_graphic c ≡ true) (λ c. (c == 32) ≡ false) no_blank word (AllPass-from_list_all is_ascii_graphic word h)

word_ascii : (word : List ℕ) → IsGraphic word → list_all (λ c. nat_lt c 128) word ≡ true
word_ascii word h =
    list_all-from_AllPass (λ c. nat_lt c 128) word
    (All-weaker (λ c. is_ascii_graphic c ≡ true) (λ c. nat_lt c 128 ≡ true) ascii word (AllPass-from_list_all is_ascii_graphic word h))

pub joined_splits : (words : List (List ℕ)) → AreGraphic words → words_of 32 (join_with_byte 32 words) ≡ words
joined_splits [] h = absurd h
joined_splits (word ∷ []) h = slice_split_none (λ c. c == 32) word (without_blank word h)
joined_splits (word ∷ next ∷ words) h =
    slice_split_at (λ c. c == 32) word 32 (join_with_byte 32 (next ∷ words)) (without_blank word h.0) refl ∙
    ap (λ t. word ∷ t) (joined_splits (next ∷ words) h.1)

pub joined_ascii : (words : List (List ℕ)) → AreGraphic words → list_all (λ c. nat_lt c 128) (join_with_byte 32 words) ≡ true
joined_ascii [] h = absurd h
joined_ascii (word ∷ []) h = word_ascii word h
joined_ascii (word ∷ next ∷ words) h =
    rw (list_all-append (λ c. nat_lt c 128) word (32 ∷ join_with_byte 32 (next ∷ words)), word_ascii word h.0, joined_ascii (next ∷ words) h.1) refl
