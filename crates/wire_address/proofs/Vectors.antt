-- The sum of bytes taken in vectors of eight words, each the number of eight bytes.
use Rattle.std.proofs.Common.{◌≡◌, ℕ, ◌+◌, ◌-◌, ◌*◌, ◌/◌, ◌%◌, ◌^◌, ◌<◌, ◌≤◌, List, [], ◌∷◌, ◌++◌, length, map, take, drop, bit_and, zero, suc}
use Rattle.std.proofs.Common.{refl, sym, subst, ◌∙◌, ap, arith, replicate, length-take}
use Rattle.std.proofs.lemmas.List.{take-append-drop}
use Rattle.std.proofs.lemmas.Nat.{and_mask}
use Rattle.std.proofs.lemmas.Simd.{take_more_put_chunk, length-put_chunk, length-chunk, length-zip2}
use Rattle.std.specs.Simd.Lanes.{Each1, zip2, sum_l, chunk, put_chunk, digits_l, number_l, fold_l}
use Rattle.wire_address.specs.Halves.{halves_in}
use Rattle.wire_address.specs.Sum.{word_sum, folded}
use Rattle.wire_address.specs.LowFirst.{low_first}
use Rattle.wire_address.proofs.Sums.{folded-more, folded-both, folded-low_first, folded-times, folded-swapped, word_sum-append}

-- the halves of a word added
abbrev pub halves : ℕ → ℕ
halves w = (bit_and w 4294967295 + w / 4294967296) % 18446744073709551616

-- two words added
abbrev pub added : ℕ → ℕ → ℕ
added a b = (a + b) % 18446744073709551616

halves-is : (w : ℕ) → w < 18446744073709551616 → halves w ≡ w % 4294967296 + w / 4294967296
halves-is w less = let low : bit_and w 4294967295 ≡ w % 4294967296 = and_mask w 32 in omega arith

-- 2^32 is 1 modulo 65535
folded-halves : (w : ℕ) → w < 18446744073709551616 → folded (256 * halves w) ≡ folded (256 * w)
folded-halves w less =
    let is : halves w ≡ w % 4294967296 + w / 4294967296 = halves-is w less in
    let more : 256 * halves w + 65535 * (16777472 * (w / 4294967296)) ≡ 256 * w = omega arith in
    sym (folded-more (256 * halves w) (16777472 * (w / 4294967296)) 65537 (omega arith)) ∙ ap folded more

sum-halves : (n x : ℕ) → folded (256 * sum_l (map halves (digits_l 18446744073709551616 n x))) ≡ folded (256 * sum_l (digits_l 18446744073709551616 n x))
sum-halves zero x = refl
sum-halves (suc n) x =
    let w : ℕ = x % 18446744073709551616 in
    let s : ℕ = sum_l (map halves (digits_l 18446744073709551616 n (x / 18446744073709551616))) in
    let t : ℕ = sum_l (digits_l 18446744073709551616 n (x / 18446744073709551616)) in
    let left : 256 * (halves w + s) ≡ 256 * halves w + 256 * s = omega arith in
    let right : 256 * w + 256 * t ≡ 256 * (w + t) = omega arith in
    ap folded left
    ∙ folded-both (256 * halves w) (256 * w) (256 * s) (256 * t) (folded-halves w (omega arith)) (sum-halves n (x / 18446744073709551616))
    ∙ ap folded right

sum-halves-room : (n x : ℕ) → sum_l (map halves (digits_l 18446744073709551616 n x)) ≤ n * 8589934592
sum-halves-room zero x = omega arith
sum-halves-room (suc n) x =
    let w : ℕ = x % 18446744073709551616 in
    let is : halves w ≡ w % 4294967296 + w / 4294967296 = halves-is w (omega arith) in
    let rest = sum-halves-room n (x / 18446744073709551616) in
    omega (arith, rest)

-- lanes added with room
sum-added : (xs ys : List ℕ) → length xs ≡ length ys → sum_l xs + sum_l ys < 18446744073709551616 → sum_l (zip2 added xs ys) ≡ sum_l xs + sum_l ys
sum-added [] [] len room = refl
sum-added [] (y ∷ ys) len room = absurd (omega arith)
sum-added (x ∷ xs) [] len room = absurd (omega arith)
sum-added (x ∷ xs) (y ∷ ys) len room =
    let rest : sum_l (zip2 added xs ys) ≡ sum_l xs + sum_l ys = sum-added xs ys (omega arith) (omega arith) in
    omega arith

-- the words of eight bytes each fold as the bytes do
sum-words : (n : ℕ) (bytes : List ℕ) → length bytes ≡ 8 * n → Each1 (λ b. b < 256) bytes
    → folded (256 * sum_l (digits_l 18446744073709551616 n (number_l 256 bytes))) ≡ folded (word_sum bytes)
sum-words zero [] len small = refl
sum-words zero (b ∷ bytes) len small = absurd (omega arith)
sum-words (suc n) (a ∷ b ∷ c ∷ d ∷ e ∷ f ∷ g ∷ h ∷ bytes) len small =
    let a' : a < 256 = small.0 in
    let b' : b < 256 = small.1.0 in
    let c' : c < 256 = small.1.1.0 in
    let d' : d < 256 = small.1.1.1.0 in
    let e' : e < 256 = small.1.1.1.1.0 in
    let f' : f < 256 = small.1.1.1.1.1.0 in
    let g' : g < 256 = small.1.1.1.1.1.1.0 in
    let h' : h < 256 = small.1.1.1.1.1.1.1.0 in
    let front : List ℕ = a ∷ b ∷ c ∷ d ∷ e ∷ f ∷ g ∷ h ∷ [] in
    let x : ℕ = number_l 256 (a ∷ b ∷ c ∷ d ∷ e ∷ f ∷ g ∷ h ∷ bytes) in
    let first : x % 18446744073709551616 ≡ low_first front = omega arith in
    let later : x / 18446744073709551616 ≡ number_l 256 bytes = omega arith in
    let rest : ℕ = sum_l (digits_l 18446744073709551616 n (number_l 256 bytes)) in
    let left : 256 * (low_first front + rest) ≡ 256 * low_first front + 256 * rest = omega arith in
    let right : word_sum front + word_sum bytes ≡ word_sum (a ∷ b ∷ c ∷ d ∷ e ∷ f ∷ g ∷ h ∷ bytes) = omega arith in
    ap (λ w. folded (256 * (w + sum_l (digits_l 18446744073709551616 n (x / 18446744073709551616))))) first
    ∙ ap (λ y. folded (256 * (low_first front + sum_l (digits_l 18446744073709551616 n y)))) later
    ∙ ap folded left
    ∙ folded-both _ _ _ _ (folded-low_first front) (sum-words n bytes (omega arith) small.1.1.1.1.1.1.1.1)
    ∙ ap folded right
sum-words (suc n) _ len small = absurd (omega arith)

-- the lanes that a step adds to a vector
abbrev pub step_lanes : List ℕ → List ℕ
step_lanes bytes = map halves (digits_l 18446744073709551616 8 (number_l 256 bytes))

-- one word less another, and a word raised by so many bits
abbrev less : ℕ → ℕ → ℕ
less a b = (a + (18446744073709551616 - b)) % 18446744073709551616

abbrev raised : ℕ → ℕ → ℕ
raised a b = (a * 2 ^ b) % 18446744073709551616

-- lane by lane, the words less the high halves, and the high halves
pub halves_by_lanes : (n : ℕ) (words high : List ℕ) → length words ≡ n → length high ≡ n
    → zip2 added (zip2 less words (zip2 raised high (replicate n 32))) high ≡ zip2 halves_in words high
halves_by_lanes zero [] high lanes same = refl
halves_by_lanes zero (w ∷ words) high lanes same = absurd (omega arith)
halves_by_lanes (suc n) [] high lanes same = absurd (omega arith)
halves_by_lanes (suc n) (w ∷ words) [] lanes same = absurd (omega arith)
halves_by_lanes (suc n) (w ∷ words) (h ∷ high) lanes same =
    ap (λ lanes. halves_in w h ∷ lanes) (halves_by_lanes n words high (omega arith) (omega arith))

-- the high half of a word
abbrev upper : ℕ → ℕ
upper w = w / 4294967296

-- a word more brings its halves
halves_of_one_more : (t h w : ℕ) → w < 18446744073709551616 → halves_in (added t w) (added h (upper w)) ≡ added (halves_in t h) (halves w)
halves_of_one_more t h w less = let is : halves w ≡ w % 4294967296 + w / 4294967296 = halves-is w less in omega arith

halves_of_more : (n : ℕ) (words high : List ℕ) (x : ℕ) → length words ≡ n → length high ≡ n
    → zip2 halves_in (zip2 added words (digits_l 18446744073709551616 n x)) (zip2 added high (map upper (digits_l 18446744073709551616 n x)))
    ≡ zip2 added (zip2 halves_in words high) (map halves (digits_l 18446744073709551616 n x))
halves_of_more zero [] high x lanes same = refl
halves_of_more zero (w ∷ words) high x lanes same = absurd (omega arith)
halves_of_more (suc n) [] high x lanes same = absurd (omega arith)
halves_of_more (suc n) (t ∷ words) [] x lanes same = absurd (omega arith)
halves_of_more (suc n) (t ∷ words) (h ∷ high) x lanes same =
    let w : ℕ = x % 18446744073709551616 in
    let rest : ℕ = x / 18446744073709551616 in
    ap (λ (lane : ℕ). lane ∷ zip2 halves_in (zip2 added words (digits_l 18446744073709551616 n rest)) (zip2 added high (map upper (digits_l 18446744073709551616 n rest))))
    (halves_of_one_more t h w (omega arith))
    ∙ ap (λ lanes. added (halves_in t h) (halves w) ∷ lanes) (halves_of_more n words high rest (omega arith) (omega arith))

-- what a loop over the bytes keeps: the lanes sum to what the first of them do
pub record IsSummedSoFar (from total : List ℕ) (whole done : ℕ) : Type 0 where
  pub offset : done ≤ whole
  pub within : whole ≤ length from
  pub ends : whole % 64 ≡ 0
  pub steps : done % 64 ≡ 0
  pub lanes : length total ≡ 8
  pub room : sum_l total ≤ done * 2 ^ 30
  pub same : folded (256 * sum_l total) ≡ folded (word_sum (take done from))

-- a step adds what the next bytes sum to
total-step : (total bytes before : List ℕ) (most : ℕ) → length total ≡ 8 → length bytes ≡ 64 → Each1 (λ b. b < 256) bytes → sum_l total ≤ most → most < 2 ^ 63
    → length before % 2 ≡ 0 → folded (256 * sum_l total) ≡ folded (word_sum before)
    → (length (zip2 added total (step_lanes bytes)) ≡ 8) × (sum_l (zip2 added total (step_lanes bytes)) ≤ most + 64 * 2 ^ 30)
    × (folded (256 * sum_l (zip2 added total (step_lanes bytes))) ≡ folded (word_sum (before ++ bytes)))
total-step total bytes before most lanes long small le room even same =
    let ys : List ℕ = step_lanes bytes in
    let eight : length ys ≡ 8 = refl in
    let bound : sum_l ys ≤ 8 * 8589934592 = sum-halves-room 8 (number_l 256 bytes) in
    let s : sum_l (zip2 added total ys) ≡ sum_l total + sum_l ys = sum-added total ys (lanes ∙ sym eight) (omega arith) in
    let parts : 256 * (sum_l total + sum_l ys) ≡ 256 * sum_l total + 256 * sum_l ys = omega arith in
    let step : folded (256 * sum_l ys) ≡ folded (word_sum bytes) = sum-halves 8 (number_l 256 bytes) ∙ sum-words 8 bytes (long ∙ omega arith) small in (
      length-zip2 added total ys (lanes ∙ sym eight) ∙ lanes,
      omega arith,
      ap (λ n. folded (256 * n)) s ∙ ap folded parts ∙ folded-both _ _ _ _ same step ∙ ap folded (sym (word_sum-append before bytes even)),
    )

-- the first bytes with the next ones
take_chunk : (i n : ℕ) (xs : List ℕ) → i ≤ length xs → take (i + n) xs ≡ take i xs ++ chunk i n xs
take_chunk zero n xs le = ap (λ k. take k xs) (omega arith)
take_chunk (suc i) n [] le = absurd (omega arith)
take_chunk (suc i) n (x ∷ xs) le =
    let e : suc i + n ≡ suc (i + n) = omega arith in
    ap (λ k. take k (x ∷ xs)) e ∙ ap (λ ys. x ∷ ys) (take_chunk i n xs (omega arith))

-- It sums the words, and their high halves: so their halves.
pub record AreSummedSoFar (from words high : List ℕ) (whole done : ℕ) : Type 0 where
  pub lanes : length words ≡ 8
  pub high_lanes : length high ≡ 8
  pub halves : IsSummedSoFar from (zip2 halves_in words high) whole done

-- and they are copied
pub record IsCopiedSoFar (to from words high : List ℕ) (whole done : ℕ) : Type 0 where
  pub summed : AreSummedSoFar from words high whole done
  pub as_long : length to ≡ length from
  pub copied : take done to ≡ take done from

-- a step with the sum of all halves
IsSummedSoFar-step : (from total : List ℕ) (whole done : ℕ) → IsSummedSoFar from total whole done → done < whole → length from < 2 ^ 32
    → Each1 (λ b. b < 256) (chunk done 64 from) → IsSummedSoFar from (zip2 added total (step_lanes (chunk done 64 from))) whole (done + 64)
IsSummedSoFar-step from total whole done before less fits small =
    let offset : done ≤ whole = before.offset in
    let within : whole ≤ length from = before.within in
    let ends : whole % 64 ≡ 0 = before.ends in
    let steps : done % 64 ≡ 0 = before.steps in
    let next : done + 64 ≤ whole = omega arith in
    let bytes : List ℕ = chunk done 64 from in
    let long : length bytes ≡ 64 = length-chunk done 64 from (omega arith) in
    let front : length (take done from) ≡ done = omega (arith, length-take done from) in
    let even : length (take done from) % 2 ≡ 0 = rw front (omega arith) in
    let joined : take (done + 64) from ≡ take done from ++ bytes = take_chunk done 64 from (omega arith) in
    let added' = total-step total bytes (take done from) (done * 2 ^ 30) before.lanes long small before.room (omega arith) even before.same in
    record {
      offset = next;
      within = within;
      ends = ends;
      steps = omega arith;
      lanes = added'.0;
      room = let r = added'.1 in omega (arith, r);
      same = added'.2 ∙ ap (λ xs. folded (word_sum xs)) (sym joined);
    }

-- the words of eight bytes each, one a lane
abbrev words_in : List ℕ → List ℕ
words_in bytes = digits_l 18446744073709551616 8 (number_l 256 bytes)

-- the step of a loop that sums
pub AreSummedSoFar-step : (from words high : List ℕ) (whole done : ℕ) → AreSummedSoFar from words high whole done → done < whole → length from < 2 ^ 32
    → Each1 (λ b. b < 256) (chunk done 64 from)
    → AreSummedSoFar from (zip2 added words (words_in (chunk done 64 from))) (zip2 added high (map upper (words_in (chunk done 64 from)))) whole (done + 64)
AreSummedSoFar-step from words high whole done before less fits small =
    let these : List ℕ = words_in (chunk done 64 from) in
    let eight : length these ≡ 8 = refl in
    let eight_high : length (map upper these) ≡ 8 = refl in
    record {
      lanes = length-zip2 added words these (before.lanes ∙ sym eight) ∙ before.lanes;
      high_lanes = length-zip2 added high (map upper these) (before.high_lanes ∙ sym eight_high) ∙ before.high_lanes;
      halves = subst (λ (lanes : List ℕ). IsSummedSoFar from lanes whole (done + 64))
          (sym (halves_of_more 8 words high (number_l 256 (chunk done 64 from)) before.lanes before.high_lanes))
          (IsSummedSoFar-step from (zip2 halves_in words high) whole done before.halves less fits small);
    }

-- that of one that copies, too
pub IsCopiedSoFar-step : (to from words high : List ℕ) (whole done : ℕ) → IsCopiedSoFar to from words high whole done → done < whole → length from < 2 ^ 32
    → Each1 (λ b. b < 256) (chunk done 64 from)
    → IsCopiedSoFar (put_chunk done to (chunk done 64 from)) from (zip2 added words (words_in (chunk done 64 from)))
    (zip2 added high (map upper (words_in (chunk done 64 from)))) whole (done + 64)
IsCopiedSoFar-step to from words high whole done before less fits small =
    let offset : done ≤ whole = before.summed.halves.offset in
    let within : whole ≤ length from = before.summed.halves.within in
    let ends : whole % 64 ≡ 0 = before.summed.halves.ends in
    let steps : done % 64 ≡ 0 = before.summed.halves.steps in
    let as_long : length to ≡ length from = before.as_long in
    let next : done + 64 ≤ whole = omega arith in
    let bytes : List ℕ = chunk done 64 from in
    let long : length bytes ≡ 64 = length-chunk done 64 from (omega arith) in
    record {
      summed = AreSummedSoFar-step from words high whole done before.summed less fits small;
      as_long = length-put_chunk done to bytes ∙ as_long;
      copied =
          take_more_put_chunk done to bytes (done + 64) (omega arith) (omega arith) ∙ ap (λ xs. xs ++ bytes) before.copied
          ∙ sym (take_chunk done 64 from (omega arith));
    }

-- the lanes summed with room
fold-added : (a : ℕ) (xs : List ℕ) → a + sum_l xs < 18446744073709551616 → fold_l added a xs ≡ a + sum_l xs
fold-added a [] room = omega arith
fold-added a (x ∷ xs) room =
    let now : added a x ≡ a + x = omega arith in
    ap (λ s. fold_l added s xs) now ∙ fold-added (a + x) xs (omega arith) ∙ omega arith

-- the sum of the lanes and that of the last bytes make that of all
pub IsSummedSoFar-sum : (from total : List ℕ) (whole done last sum front result : ℕ) → IsSummedSoFar from total whole done → length from < 2 ^ 32
    → folded (256 * last) ≡ folded (word_sum (drop done from)) → folded sum ≡ folded (fold_l added 0 total + last) → front ≡ folded sum
    → result ≡ front % 256 * 256 + front / 256 % 256 → result ≡ folded (word_sum from)
IsSummedSoFar-sum from total whole done last sum front result so_far fits following summed is exchanged =
    let offset : done ≤ whole = so_far.offset in
    let within : whole ≤ length from = so_far.within in
    let steps : done % 64 ≡ 0 = so_far.steps in
    let room : sum_l total ≤ done * 2 ^ 30 = so_far.room in
    let lanes : fold_l added 0 total ≡ 0 + sum_l total = fold-added 0 total (omega arith) in
    let front_len : length (take done from) ≡ done = omega (arith, length-take done from) in
    let even : length (take done from) % 2 ≡ 0 = rw front_len (omega arith) in
    let parts : 256 * (fold_l added 0 total + last) ≡ 256 * sum_l total + 256 * last = omega arith in
    let split : word_sum (take done from) + word_sum (drop done from) ≡ word_sum from =
    sym (word_sum-append (take done from) (drop done from) even) ∙ ap word_sum (take-append-drop done from) in
    exchanged ∙ ap (λ n. n % 256 * 256 + n / 256 % 256) is ∙ folded-swapped sum
    ∙ folded-times 256 sum (fold_l added 0 total + last) summed
    ∙ ap folded parts ∙ folded-both _ _ _ _ so_far.same following ∙ ap folded split
