-- Marks that words tell.
use Rattle.std.proofs.Common.{arith, cond, ◌≡◌, ◌==◌, ◌⊎◌, inl, inr, ℕ, zero, suc, ◌+◌, ◌-◌, ◌/◌, ◌%◌, ◌^◌, ◌<◌, ◌≤◌, Bool, true, false, List, [], ◌∷◌, ◌++◌, length, Option, Some, None, get_or, refl, sym, ap, ◌∙◌, subst, length-append, slice_index, slice_set}
use Rattle.std.proofs.Math.ListN.{length-set}
use Rattle.std.proofs.lemmas.Bool.{cases_eq, cases_lt}
use Rattle.std.proofs.lemmas.List.{get_or-set_same, get_or-set_other}
use Rattle.std.proofs.lemmas.List.FromFn.{fill_by_all, get_or-map-range_with_len, length-map-range_with_len, map-range_with_len_more}
use Rattle.std.proofs.lemmas.List.Sums.{count_by-le-length, get_or-le-sum_by, sum_by-set, sum_by_push}
use Rattle.std.proofs.lemmas.Nat.Bits.{bit_at-zero}
use Rattle.std.proofs.lemmas.Option.{get_or_from_slice_get, slice_get_read, slice_get_within}
use Rattle.std.specs.Int.{bit_at}
use Rattle.std.specs.List.{count_by}
use Rattle.base_index.specs.Bits.{AreCounted, AreGrouped, AreLengthened, AreWith, HaveRoom, IsFirst, marks_of, tells, tells_some}
use Rattle.base_index.specs.Marks.{IsNext, IsOn}
use Rattle.base_index.proofs.Words.{told_by_word}

-- MARKS

pub length_marks : (words : List ℕ) (len : ℕ) → length (marks_of words len) ≡ len
length_marks words len = length-map-range_with_len (tells words) 0 len

pub mark_is : (words : List ℕ) (len i : ℕ) (d : Bool) → i < len → get_or (marks_of words len) i d ≡ tells words i
mark_is words len i d within = get_or-map-range_with_len (tells words) 0 len i i d within (omega arith)

-- who is on the agenda
pub on_told : (words : List ℕ) (len i : ℕ) → IsOn (marks_of words len) i → (i < len) × (tells words i ≡ true)
on_told words len i on =
    let within : i < length (marks_of words len) = slice_get_within (marks_of words len) i true on in
    let less : i < len = omega (arith, within, length_marks words len) in
    (less, sym (mark_is words len i true less) ∙ get_or_from_slice_get (marks_of words len) i true true on)

pub told_on : (words : List ℕ) (len i : ℕ) → i < len → tells words i ≡ true → IsOn (marks_of words len) i
told_on words len i less told =
    slice_get_read (marks_of words len) len i true (sym (length_marks words len)) less (sym (mark_is words len i true less ∙ told))

-- one mark is another
length_marks_set : (words : List ℕ) (len at : ℕ) (told : Bool) → length (slice_set (marks_of words len) at told) ≡ len
length_marks_set words len at told = let same : length (slice_set (marks_of words len) at told) ≡ length (marks_of words len) = simp length-set in
    same ∙ length_marks words len

pub marks_with : (at len : ℕ) (told : Bool) (old new : List ℕ) → AreWith at told old new → slice_set (marks_of old len) at told ≡ marks_of new len
marks_with at len told old new is = fill_by_all (tells new) (slice_set (marks_of old len) at told) len false
    (length_marks_set old len at told) (λ k less. by k less (cases_eq k at)) where
      by : (k : ℕ) → k < len → (k ≡ at) ⊎ (k ≡ at → ⊥) → get_or (slice_set (marks_of old len) at told) k false ≡ tells new k
      by k less (inl same) = subst (λ (n : ℕ). get_or (slice_set (marks_of old len) at told) n false ≡ tells new n) (sym same)
          (get_or-set_same (marks_of old len) at told false (omega (arith, less, same, length_marks old len)) ∙ sym is.here)
      by k less (inr apart) = get_or-set_other (marks_of old len) at k told false apart ∙ mark_is old len k false less ∙ sym (is.elsewhere k apart)

-- the mark of a slot that there isn't
pub marks_beyond : (at len : ℕ) (told : Bool) (words : List ℕ) → len ≤ at → slice_set (marks_of words len) at told ≡ marks_of words len
marks_beyond at len told words beyond = fill_by_all (tells words) (slice_set (marks_of words len) at told) len false
    (length_marks_set words len at told)
    (λ k less. get_or-set_other (marks_of words len) at k told false (λ same. absurd (omega (arith, same, less, beyond))) ∙ mark_is words len k false less)

-- the same marks of other words
pub marks_alike : (len : ℕ) (old new : List ℕ) → ((i : ℕ) → tells new i ≡ tells old i) → marks_of new len ≡ marks_of old len
marks_alike len old new same = sym (fill_by_all (tells new) (marks_of old len) len false (length_marks old len)
    (λ k less. mark_is old len k false less ∙ sym (same k)))

pub marks_more : (words : List ℕ) (len : ℕ) → marks_of words (len + 1) ≡ marks_of words len ++ tells words len ∷ []
marks_more words len = map-range_with_len_more (tells words) 0 len len (omega arith)

-- WORDS THAT TELL OF NOTHING

pub index_more : (words : List ℕ) (w : ℕ) → slice_index (words ++ 0 ∷ []) w ≡ slice_index words w
index_more [] zero = refl
index_more [] (suc w) = refl
index_more (x ∷ words) zero = refl
index_more (x ∷ words) (suc w) = index_more words w

pub tells_more : (words : List ℕ) (i : ℕ) → tells (words ++ 0 ∷ []) i ≡ tells words i
tells_more words i = ap (λ (n : ℕ). bit_at n (i % 64) == 1) (index_more words (i / 64))

pub none_told : (w : ℕ) → tells [] w ≡ false
none_told w = rw (bit_at-zero (w % 64)) refl

pub told_alike : (at : ℕ) (old new : List ℕ) → AreLengthened at old new → (i : ℕ) → tells new i ≡ tells old i
told_alike at old new (inl same) i = ap (λ (words : List ℕ). tells words i) same
told_alike at old new (inr more) i = ap (λ (words : List ℕ). tells words i) more.1 ∙ tells_more old i

pub lengthened_marks : (at len : ℕ) (old new : List ℕ) → AreLengthened at old new → marks_of new len ≡ marks_of old len
lengthened_marks at len old new is = marks_alike len old new (told_alike at old new is)

-- GROUPS

pub grouped_more : (words groups : List ℕ) → AreGrouped words groups → AreGrouped (words ++ 0 ∷ []) groups
grouped_more words groups is w = is w ∙ sym (rw (index_more words w) refl)

pub more_grouped : (words groups : List ℕ) → AreGrouped words groups → AreGrouped words (groups ++ 0 ∷ [])
more_grouped words groups is w = tells_more groups w ∙ is w

pub room_with_groups : (len : ℕ) (words old new : List ℕ) → HaveRoom len words old → AreLengthened (len / 64) old new → HaveRoom len words new
room_with_groups len words old new room (inl same) = subst (λ (groups : List ℕ). HaveRoom len words groups) (sym same) room
room_with_groups len words old new room (inr more) = subst (λ (groups : List ℕ). HaveRoom len words groups) (sym more.1) (record {
  grouped = more_grouped words old room.grouped;
  counted = room.counted;
  enough_words = room.enough_words;
  few_words = room.few_words;
  enough_groups = omega (arith, room.enough_groups, length-append old (0 ∷ []));
  few_groups = omega (arith, more.0, room.enough_words, length-append old (0 ∷ []));
})

pub room_with_words : (len : ℕ) (old new groups : List ℕ) → HaveRoom len old groups → len / 64 / 64 < length groups → AreLengthened len old new
    → HaveRoom len new groups
room_with_words len old new groups room some (inl same) = subst (λ (words : List ℕ). HaveRoom len words groups) (sym same) room
room_with_words len old new groups room some (inr more) = subst (λ (words : List ℕ). HaveRoom len words groups) (sym more.1) (record {
  grouped = grouped_more old groups room.grouped;
  counted = room.counted;
  enough_words = omega (arith, room.enough_words, length-append old (0 ∷ []));
  few_words = omega (arith, more.0, length-append old (0 ∷ []));
  enough_groups = omega (arith, more.0, some, length-append old (0 ∷ []));
  few_groups = omega (arith, room.few_groups, length-append old (0 ∷ []));
})

pub room_for_one : (len : ℕ) (words groups : List ℕ) → HaveRoom len words groups → len + 1 < 2 ^ 64 → len / 64 < length words → HaveRoom (len + 1) words groups
room_for_one len words groups room fits some = record {
  grouped = room.grouped;
  counted = fits;
  enough_words = omega (arith, some);
  few_words = omega (arith, room.few_words);
  enough_groups = room.enough_groups;
  few_groups = room.few_groups;
}

-- a number more
pub grouped_with : (words groups words' groups' : List ℕ) (at : ℕ) → AreGrouped words groups → AreWith at true words words'
    → AreWith (at / 64) true groups groups' → AreGrouped words' groups'
grouped_with words groups words' groups' at is with_it with_word w = by (cases_eq w (at / 64)) where
  by : (w ≡ at / 64) ⊎ (w ≡ at / 64 → ⊥) → tells groups' w ≡ tells_some words' w
  by (inl same) = subst (λ (n : ℕ). tells groups' n ≡ tells_some words' n) (sym same) (with_word.here ∙ sym (told_by_word words' at with_it.here))
  by (inr apart) = with_word.elsewhere w apart ∙ is w ∙ sym (rw (with_it.words w apart) refl)

-- one less, and the last one of its word
pub grouped_without : (words groups words' groups' : List ℕ) (at : ℕ) → AreGrouped words groups → AreWith at false words words'
    → tells_some words' (at / 64) ≡ false → AreWith (at / 64) false groups groups' → AreGrouped words' groups'
grouped_without words groups words' groups' at is without empty without_word w = by (cases_eq w (at / 64)) where
  by : (w ≡ at / 64) ⊎ (w ≡ at / 64 → ⊥) → tells groups' w ≡ tells_some words' w
  by (inl same) = subst (λ (n : ℕ). tells groups' n ≡ tells_some words' n) (sym same) (without_word.here ∙ sym empty)
  by (inr apart) = without_word.elsewhere w apart ∙ is w ∙ sym (rw (without.words w apart) refl)

-- or not
pub grouped_still : (words groups words' : List ℕ) (at : ℕ) → AreGrouped words groups → AreWith at false words words'
    → tells_some words' (at / 64) ≡ true → slice_index words' (at / 64) ≤ slice_index words (at / 64) → AreGrouped words' groups
grouped_still words groups words' at is without some less w = by (cases_eq w (at / 64)) where
  had : tells_some words (at / 64) ≡ true
  had = grind (arith, some, less)

  by : (w ≡ at / 64) ⊎ (w ≡ at / 64 → ⊥) → tells groups w ≡ tells_some words' w
  by (inl same) = subst (λ (n : ℕ). tells groups n ≡ tells_some words' n) (sym same) (is (at / 64) ∙ had ∙ sym some)
  by (inr apart) = is w ∙ sym (rw (without.words w apart) refl)

-- THE NEXT ONE

pub next_is : (words : List ℕ) (len from at : ℕ) → IsFirst (tells words) from (Some at) → at < len → IsNext from (marks_of words len) (Some at)
next_is words len from at first less = (
  first.0,
  omega (arith, less, length_marks words len),
  λ i since before on. differ (first.2 i since before) (on_told words len i on).1,
  told_on words len at less first.1,
) where
  differ : {b : Bool} → b ≡ false → b ≡ true → ⊥
  differ none some = absurd (cc)

pub none_is : (words : List ℕ) (len from : ℕ) → IsFirst (tells words) from None → IsNext from (marks_of words len) None
none_is words len from first i since on = by (on_told words len i on).1 (first i since) where
  by : tells words i ≡ true → tells words i ≡ false → ⊥
  by some none = absurd (cc)

-- COUNTED

abbrev marked_in : List ℕ → ℕ → ℕ
marked_in words len = count_by (λ mark. mark) (marks_of words len)

-- a mark counts one
abbrev worth : Bool → ℕ
worth mark = cond mark 1 0

-- the words tell the number already, or not, as they are to
pub as_they_are : (at : ℕ) (told : Bool) (words : List ℕ) → tells words at ≡ told → AreWith at told words words
as_they_are at told words is = record { here = is; elsewhere = λ i apart. refl; words = λ w apart. refl; size = refl }

-- one number is told that wasn't, or the other way round
pub counted_with : (at len : ℕ) (told : Bool) (old new : List ℕ) → at < len → AreWith at told old new
    → marked_in new len + worth (tells old at) ≡ marked_in old len + worth told
counted_with at len told old new within is =
    let set = sum_by-set worth (marks_of old len) at told false (omega (arith, within, length_marks old len)) in
    let here : worth (get_or (marks_of old len) at false) ≡ worth (tells old at) = ap worth (mark_is old len at false within) in
    let whole : count_by (λ (mark : Bool). mark) (slice_set (marks_of old len) at told) ≡ marked_in new len
    = ap (λ (marks : List Bool). count_by (λ (mark : Bool). mark) marks) (marks_with at len told old new is) in
    omega (arith, set, here, whole)

-- none lies after where none lay
pub none_following : (at len : ℕ) (told : Bool) (old new : List ℕ) → at < len → AreWith at told old new
    → ((i : ℕ) → len ≤ i → tells old i ≡ false) → (i : ℕ) → len ≤ i → tells new i ≡ false
none_following at len told old new within is none i beyond = is.elsewhere i (λ same. absurd (omega (arith, same, within, beyond))) ∙ none i beyond

pub one_more : (at len marked : ℕ) (old new : List ℕ) → at < len → tells old at ≡ false → AreWith at true old new → AreCounted len marked old
    → AreCounted len (marked + 1) new
one_more at len marked old new within untold is counted =
    let all = counted_with at len true old new within is in
    let before : worth (tells old at) ≡ 0 = ap worth untold in record {
      count = omega (arith, all, before, counted.count);
      beyond = none_following at len true old new within is counted.beyond;
    }

pub one_less : (at len marked : ℕ) (old new : List ℕ) → at < len → tells old at ≡ true → AreWith at false old new → AreCounted len marked old
    → (1 ≤ marked) × AreCounted len (marked - 1) new
one_less at len marked old new within told is counted =
    let all = counted_with at len false old new within is in
    let before : worth (tells old at) ≡ 1 = ap worth told in (
      omega (arith, all, before, counted.count),
      record {
        count = omega (arith, all, before, counted.count);
        beyond = none_following at len false old new within is counted.beyond;
      },
    )

-- no more are counted than there are
pub few_marked : (len marked : ℕ) (words : List ℕ) → AreCounted len marked words → marked ≤ len
few_marked len marked words counted =
    omega (arith, count_by-le-length (λ (mark : Bool). mark) (marks_of words len), length_marks words len, counted.count)

-- a slot more
pub counted_more : (at len marked : ℕ) (old new : List ℕ) → AreLengthened at old new → AreCounted len marked old → AreCounted len marked new
counted_more at len marked old new is counted = record {
  count = ap (λ (marks : List Bool). count_by (λ (mark : Bool). mark) marks) (lengthened_marks at len old new is) ∙ counted.count;
  beyond = λ i beyond. told_alike at old new is i ∙ counted.beyond i beyond;
}

pub counted_next : (len marked : ℕ) (words : List ℕ) → AreCounted len marked words → AreCounted (len + 1) marked words
counted_next len marked words counted =
    let last : tells words len ≡ false = counted.beyond len (omega arith) in
    let push = sum_by_push worth (marks_of words len) (tells words len) in
    let more : marked_in words (len + 1) ≡ count_by (λ (mark : Bool). mark) (marks_of words len ++ tells words len ∷ [])
    = ap (λ (marks : List Bool). count_by (λ (mark : Bool). mark) marks) (marks_more words len) in
    let one : worth (tells words len) ≡ 0 = ap worth last in record {
      count = omega (arith, push, more, one, counted.count);
      beyond = λ i beyond. counted.beyond i (omega (arith, beyond));
    }

-- one that is told is counted
pub told_counts : (words : List ℕ) (len marked i : ℕ) → AreCounted len marked words → i < len → tells words i ≡ true → 1 ≤ marked
told_counts words len marked i counted within told =
    let less = get_or-le-sum_by worth (marks_of words len) i false (omega (arith, within, length_marks words len)) in
    let here : worth (get_or (marks_of words len) i false) ≡ 1 = ap worth (mark_is words len i false within ∙ told) in
    omega (arith, less, here, counted.count)

-- where none is counted, none is on the agenda
pub none_marked : (words : List ℕ) (len from : ℕ) → AreCounted len 0 words → IsNext from (marks_of words len) None
none_marked words len from counted i since on =
    let told = on_told words len i on in absurd (omega (arith, told_counts words len 0 i counted told.0 told.1))

pub next_counted : (words : List ℕ) (len marked from : ℕ) (found : Option ℕ) → AreCounted len marked words → IsFirst (tells words) from found
    → IsNext from (marks_of words len) found
next_counted words len marked from None counted first = none_is words len from first
next_counted words len marked from (Some at) counted first = by (cases_lt at len) where
  by : (at < len) ⊎ (len ≤ at) → IsNext from (marks_of words len) (Some at)
  by (inl less) = next_is words len from at first less
  by (inr beyond) = let none : tells words at ≡ false = counted.beyond at beyond in let told : tells words at ≡ true = first.1 in absurd (cc)
