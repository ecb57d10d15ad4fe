-- The megabyte, byte after byte.
use Rattle.std.proofs.Common.{◌≡◌, ℕ, ◌+◌, ◌%◌, ◌<◌, List, [], ◌∷◌, ◌++◌, length, take, map, sym, ap, ◌∙◌, arith}
use Rattle.std.specs.Prelude.{slice_set}
use Rattle.std.specs.List.{range_with_len}
use Rattle.std.proofs.lemmas.List.{take_more_set, take_all}
use Rattle.std.proofs.lemmas.List.FromFn.{map-range_with_len_more}
use Rattle.app_tun_services.specs.Site.{pattern}

abbrev byte_at : ℕ → ℕ → ℕ
byte_at from k = 33 + (from + k) % 94

-- a byte more
pub pattern_more : (from n b : ℕ) (xs : List ℕ) → n < length xs → take n xs ≡ pattern from n → b ≡ 33 + (from + n) % 94 →
    take (n + 1) (slice_set xs n b) ≡ pattern from (n + 1)
pattern_more from n b xs within so_far is =
    take_more_set xs n b within ∙
    (ap (λ ys. ys ++ b ∷ []) so_far ∙ (ap (λ c. pattern from n ++ c ∷ []) is ∙ sym (map-range_with_len_more (byte_at from) 0 n n (omega arith))))

-- all of it
pub pattern_all : (from n : ℕ) (xs : List ℕ) → length xs ≡ n → take n xs ≡ pattern from n → xs ≡ pattern from n
pattern_all from n xs long is = sym (take_all n xs (omega (arith, long))) ∙ is
