-- Laws of word sums and of their folding to 16 bits.
use Rattle.std.proofs.Common.{◌≡◌, ◌≢◌, Bool, true, false, ℕ, ◌+◌, ◌-◌, ◌*◌, ◌/◌, ◌%◌, ◌^◌, ◌<◌, ◌≤◌, List, [], ◌∷◌, ◌++◌, length, zero, suc}
use Rattle.std.proofs.Common.{refl, sym, ◌∙◌, ap, arith, ◌↔◌, take, drop, length-append}
use Rattle.std.proofs.lemmas.List.{take-append-drop}
use Rattle.std.specs.Int.{w32, w64, w128, from_bool, from_le_bytes, to_be_bytes}
use Rattle.std.specs.Bool.{FalseIff}
use Rattle.wire_address.specs.Pseudo.{pseudo_v6}
use Rattle.wire_address.specs.Sum.{word_sum, folded, ChecksumHolds}
use Rattle.wire_address.specs.Fields.{be16, put16}
use Rattle.wire_address.specs.LowFirst.{low_first}

-- a multiple of 65535 makes no difference to what is not 0
pub folded-more : (n k m : ℕ) → k ≤ m * n → folded (n + 65535 * k) ≡ folded n
folded-more zero zero m le = refl
folded-more zero (suc k) m le = absurd (omega arith)
folded-more (suc n) k m le = let e : suc n + 65535 * k ≡ suc (n + 65535 * k) = omega arith in rw e (omega arith)

-- a part of a sum may be folded before it is added
pub folded-folded : (a c : ℕ) → folded (folded a + c) ≡ folded (a + c)
folded-folded zero c = refl
folded-folded (suc n) c =
    let e : n % 65535 + 1 + c ≡ suc (n % 65535 + c) = omega arith in
    let f : suc n + c ≡ suc (n + c) = omega arith in
    rw (e, f) (omega arith)

-- sums whose parts fold alike fold alike
pub folded-alike : (a b c : ℕ) → folded a ≡ folded b → folded (a + c) ≡ folded (b + c)
folded-alike a b c same = sym (folded-folded a c) ∙ ap (λ x. folded (x + c)) same ∙ folded-folded b c

-- two sums that fold alike stay alike alongside others that do
pub folded-both : (a b c d : ℕ) → folded a ≡ folded b → folded c ≡ folded d → folded (a + c) ≡ folded (b + d)
folded-both a b c d first second =
    let turned : a + c ≡ c + a = omega arith in
    let back : d + a ≡ a + d = omega arith in
    ap folded turned ∙ folded-alike c d a second ∙ ap folded back ∙ folded-alike a b d first

-- low bytes first, times 256, folds as the words do
pub folded-low_first : (bytes : List ℕ) → folded (256 * low_first bytes) ≡ folded (word_sum bytes)
folded-low_first [] = refl
folded-low_first (b ∷ []) = ap folded (omega arith)
folded-low_first (b ∷ c ∷ bytes) =
    let whole : 256 * (b + 256 * (c + 256 * low_first bytes)) ≡ (256 * low_first bytes + (256 * b + c)) + 65535 * (c + 256 * low_first bytes) = omega arith in
    let turned : word_sum bytes + (256 * b + c) ≡ 256 * b + c + word_sum bytes = omega arith in
    ap folded whole
    ∙ folded-more (256 * low_first bytes + (256 * b + c)) (c + 256 * low_first bytes) 1 (omega arith)
    ∙ folded-alike (256 * low_first bytes) (word_sum bytes) (256 * b + c) (folded-low_first bytes)
    ∙ ap folded turned

-- the word sum of joined strings, the first of even length
pub word_sum-append : (front back : List ℕ) → length front % 2 ≡ 0 → word_sum (front ++ back) ≡ word_sum front + word_sum back
word_sum-append [] back even = omega arith
word_sum-append (b ∷ []) back even = absurd (omega arith)
word_sum-append (b ∷ c ∷ front) back even =
    let rest : word_sum (front ++ back) ≡ word_sum front + word_sum back = word_sum-append front back (omega arith) in
    omega arith

-- four bytes as the number that they make with the least significant first
from_le_bytes_4-low_first : (bytes : List ℕ) → length bytes ≡ 4 → from_le_bytes w32 bytes ≡ low_first bytes
from_le_bytes_4-low_first (a ∷ b ∷ c ∷ d ∷ []) len = omega arith
from_le_bytes_4-low_first _ len = absurd (omega arith)

-- eight bytes as the number that they make with the least significant first
pub from_le_bytes-low_first : (bytes : List ℕ) → length bytes ≡ 8 → from_le_bytes w64 bytes ≡ low_first bytes
from_le_bytes-low_first (a ∷ b ∷ c ∷ d ∷ e ∷ f ∷ g ∷ h ∷ []) len = omega arith
from_le_bytes-low_first _ len = absurd (omega arith)

-- the first four bytes added to the rest, which are again low bytes first
pub low_first-fours : (x y : ℕ) (front bytes tail : List ℕ) → x ≡ from_le_bytes w32 front → y ≡ low_first tail → front ≡ take 4 bytes → tail ≡ drop 4 bytes →
    length tail + 4 ≡ length bytes
    → folded (256 * (x + y)) ≡ folded (word_sum bytes)
low_first-fours x y front bytes tail first second taken left len =
    let joined : front ++ tail ≡ bytes = rw (taken, left) (take-append-drop 4 bytes) in
    let four : length front ≡ 4 = let e : length (front ++ tail) ≡ length bytes = ap length joined in omega (arith, length-append front tail) in
    let number : x ≡ low_first front = first ∙ from_le_bytes_4-low_first front four in
    let split : word_sum (front ++ tail) ≡ word_sum front + word_sum tail = word_sum-append front tail (rw four refl) in
    let sums : word_sum front + word_sum tail ≡ word_sum bytes = sym split ∙ ap word_sum joined in
    let parts : 256 * (x + y) ≡ 256 * low_first front + 256 * low_first tail = omega arith in
    ap folded parts ∙ folded-both _ _ _ _ (folded-low_first front) (folded-low_first tail) ∙ ap folded sums

-- sixteen bytes as the number that they make with the least significant first
from_le_bytes_16-low_first : (bytes : List ℕ) → length bytes ≡ 16 → from_le_bytes w128 bytes ≡ low_first bytes
from_le_bytes_16-low_first (a ∷ b ∷ c ∷ d ∷ e ∷ f ∷ g ∷ h ∷ i ∷ j ∷ k ∷ l ∷ m ∷ n ∷ o ∷ p ∷ []) len = omega arith
from_le_bytes_16-low_first _ len = absurd (omega arith)

-- the first eight bytes added to the rest, whose sum low bytes first folds as its words do
pub low_first-eights : (x y : ℕ) (front bytes tail : List ℕ) → x ≡ from_le_bytes w64 front → folded (256 * y) ≡ folded (word_sum tail) → front ≡ take 8 bytes →
    tail ≡ drop 8 bytes → length tail + 8 ≡ length bytes
    → folded (256 * (x + y)) ≡ folded (word_sum bytes)
low_first-eights x y front bytes tail first second taken left len =
    let joined : front ++ tail ≡ bytes = rw (taken, left) (take-append-drop 8 bytes) in
    let eight : length front ≡ 8 = let e : length (front ++ tail) ≡ length bytes = ap length joined in omega (arith, length-append front tail) in
    let number : x ≡ low_first front = first ∙ from_le_bytes-low_first front eight in
    let split : word_sum (front ++ tail) ≡ word_sum front + word_sum tail = word_sum-append front tail (rw eight refl) in
    let sums : word_sum front + word_sum tail ≡ word_sum bytes = sym split ∙ ap word_sum joined in
    let parts : 256 * (x + y) ≡ 256 * low_first front + 256 * y = omega arith in
    ap folded parts ∙ folded-both _ _ _ _ (folded-low_first front) second ∙ ap folded sums

-- a carry is at most one
pub from_bool-le : (carry : Bool) → from_bool carry ≤ 1
from_bool-le true = omega arith
from_bool-le false = omega arith

-- what is kept of a sum of two numbers of 128 bits, and its carry
pub carried : (a b kept : ℕ) (carry : Bool) → a < 2 ^ 128 → b < 2 ^ 128 → kept ≡ (a + b) % 2 ^ 128 → FalseIff carry (a + b < 2 ^ 128)
    → kept + 2 ^ 128 * from_bool carry ≡ a + b
carried a b kept true x y is over = omega (arith, over)
carried a b kept false x y is over = omega (arith, over)

-- a carry out of 128 bits counts as one, since 2^128 is 1 modulo 65535
folded-carried : (kept carry n : ℕ) → carry ≤ n → folded (256 * (kept + n) + 65535 * (256 * (carry * ((2 ^ 128 - 1) / 65535)))) ≡ folded (256 * (kept + n))
folded-carried kept carry n le = folded-more (256 * (kept + n)) (256 * (carry * ((2 ^ 128 - 1) / 65535))) ((2 ^ 128 - 1) / 65535) (omega arith)

-- no bytes add nothing
word_sum-none : (bytes : List ℕ) → length bytes ≡ 0 → word_sum bytes ≡ 0
word_sum-none [] len = refl
word_sum-none (b ∷ bytes) len = absurd (omega arith)

-- sixteen bytes added: what is kept of the sum and its carry
pub low_first-added : (total carries x kept carry : ℕ) (front bytes tail : List ℕ) → x ≡ from_le_bytes w128 front → kept + 2 ^ 128 * carry ≡ total + x →
    front ≡ take 16 bytes → tail ≡ drop 16 bytes → length tail + 16 ≡ length bytes → length bytes ≡ 16
    → folded (256 * (kept + (carries + carry))) ≡ folded (256 * (total + carries) + word_sum bytes)
low_first-added total carries x kept carry front bytes tail is carried first last left len =
    let joined : front ++ tail ≡ bytes = rw (first, last) (take-append-drop 16 bytes) in
    let sixteen : length front ≡ 16 = let e : length (front ++ tail) ≡ length bytes = ap length joined in omega (arith, length-append front tail) in
    let number : x ≡ low_first front = is ∙ from_le_bytes_16-low_first front sixteen in
    let split : word_sum bytes ≡ word_sum front + word_sum tail = sym (ap word_sum joined) ∙ word_sum-append front tail (rw sixteen refl) in
    let none : word_sum tail ≡ 0 = word_sum-none tail (omega arith) in
    let more : 256 * (kept + (carries + carry)) + 65535 * (256 * (carry * ((2 ^ 128 - 1) / 65535)))
    ≡ 256 * low_first front + 256 * (total + carries) = omega arith in
    let right : word_sum front + 256 * (total + carries) ≡ 256 * (total + carries) + word_sum bytes = omega arith in
    sym (folded-carried kept carry (carries + carry) (omega arith))
    ∙ ap folded more
    ∙ folded-alike (256 * low_first front) (word_sum front) (256 * (total + carries)) (folded-low_first front)
    ∙ ap folded right

-- a front of the bytes added, and then the rest of them
pub low_first-parts : (before first second n : ℕ) (front bytes back : List ℕ) → folded (256 * first) ≡ folded (256 * before + word_sum front)
    → folded (256 * second) ≡ folded (256 * first + word_sum back) → front ≡ take n bytes → back ≡ drop n bytes → length front % 2 ≡ 0
    → folded (256 * second) ≡ folded (256 * before + word_sum bytes)
low_first-parts before first second n front bytes back one other taken left even =
    let joined : front ++ back ≡ bytes = rw (taken, left) (take-append-drop n bytes) in
    let split : word_sum bytes ≡ word_sum front + word_sum back = sym (ap word_sum joined) ∙ word_sum-append front back even in
    let right : 256 * before + word_sum front + word_sum back ≡ 256 * before + word_sum bytes = omega arith in
    other ∙ folded-alike (256 * first) (256 * before + word_sum front) (word_sum back) one ∙ ap folded right

-- a step of the sum over the first bytes of the rest
pub low_first-cidr : (before after n : ℕ) (front rest tail : List ℕ) (all : ℕ) → folded (256 * after) ≡ folded (256 * before + word_sum front)
    → front ≡ take n rest → tail ≡ drop n rest → length tail + n ≡ length rest → n % 2 ≡ 0
    → folded (256 * before + word_sum rest) ≡ all → folded (256 * after + word_sum tail) ≡ all
low_first-cidr before after n front rest tail all is first last len whole known =
    let joined : front ++ tail ≡ rest = rw (first, last) (take-append-drop n rest) in
    let counted : length front ≡ n = let e : length (front ++ tail) ≡ length rest = ap length joined in omega (arith, length-append front tail) in
    let even : length front % 2 ≡ 0 = rw counted whole in
    let split : word_sum rest ≡ word_sum front + word_sum tail = sym (ap word_sum joined) ∙ word_sum-append front tail even in
    let right : 256 * before + word_sum front + word_sum tail ≡ 256 * before + word_sum rest = omega arith in
    folded-alike (256 * after) (256 * before + word_sum front) (word_sum tail) is ∙ ap folded right ∙ known

-- sums that fold alike do so 256 times over
pub folded-times : (k a b : ℕ) → folded a ≡ folded b → folded (k * a) ≡ folded (k * b)
folded-times zero a b same = ap folded (omega arith)
folded-times (suc k) a b same =
    let left : suc k * a ≡ a + k * a = omega arith in
    let right : b + k * b ≡ suc k * b = omega arith in
    ap folded left ∙ folded-both a b (k * a) (k * b) same (folded-times k a b same) ∙ ap folded right

-- the last step, over fewer than sixteen bytes
pub low_first-last : (total carries x result : ℕ) (rest : List ℕ) (all : ℕ) → folded (256 * x) ≡ folded (word_sum rest) →
    folded result ≡ folded (total + (carries + x))
    → folded (256 * (total + carries) + word_sum rest) ≡ all → folded (256 * result) ≡ all
low_first-last total carries x result rest all is added before =
    let left : 256 * (total + (carries + x)) ≡ 256 * x + 256 * (total + carries) = omega arith in
    let right : word_sum rest + 256 * (total + carries) ≡ 256 * (total + carries) + word_sum rest = omega arith in
    folded-times 256 result (total + (carries + x)) added
    ∙ ap folded left ∙ folded-alike (256 * x) (word_sum rest) (256 * (total + carries)) is
    ∙ ap folded right ∙ before

-- a sum that folds to 65535 is a positive multiple of 65535, and only such a sum does
pub ChecksumHolds-folded : (n : ℕ) → (folded n ≡ 65535) ↔ ChecksumHolds n
ChecksumHolds-folded zero = (λ e. absurd (omega arith), λ h. absurd (let pos : 0 < h.0 = h.1 in let is : 0 ≡ 65535 * h.0 = h.2 in omega arith))
ChecksumHolds-folded (suc n) = (
  λ e. (n / 65535 + 1, omega arith, omega arith),
  λ h. let k : ℕ = h.0 in let pos : 0 < k = h.1 in let is : suc n ≡ 65535 * k = h.2 in omega arith,
)

-- two bytes at an even offset replaced
pub word_sum-put16 : (bytes : List ℕ) (i n : ℕ) → i % 2 ≡ 0 → i + 2 ≤ length bytes → n < 65536 → word_sum (put16 bytes i n) + be16 bytes i ≡ word_sum bytes + n
word_sum-put16 [] i n even within small = absurd (omega arith)
word_sum-put16 (b ∷ []) i n even within small = absurd (omega arith)
word_sum-put16 (b ∷ c ∷ bytes) zero n even within small = omega arith
word_sum-put16 (b ∷ c ∷ bytes) (suc zero) n even within small = absurd (omega arith)
word_sum-put16 (b ∷ c ∷ bytes) (suc (suc i)) n even within small =
    let rest : word_sum (put16 bytes i n) + be16 bytes i ≡ word_sum bytes + n = word_sum-put16 bytes i n (omega arith) (omega arith) small in
    let next : suc (suc i) + 1 ≡ suc (suc (i + 1)) = omega arith in
    rw next (omega (arith, rest))

-- the words of the pseudo header over IPv6
pub word_sum-pseudo_v6 : (source destination : List ℕ) (protocol len : ℕ) → length source ≡ 16 → length destination ≡ 16 → len < 2 ^ 32
    → word_sum (pseudo_v6 source destination protocol len) ≡ word_sum source + word_sum destination + (len / 65536 + len % 65536) + protocol
word_sum-pseudo_v6 source destination protocol len s d fits =
    let rest : word_sum (to_be_bytes w32 len ++ 0 ∷ 0 ∷ 0 ∷ protocol ∷ []) ≡ len / 65536 + len % 65536 + protocol = omega arith in
    rw (
      word_sum-append source (destination ++ (to_be_bytes w32 len ++ 0 ∷ 0 ∷ 0 ∷ protocol ∷ [])) (rw s refl),
      word_sum-append destination (to_be_bytes w32 len ++ 0 ∷ 0 ∷ 0 ∷ protocol ∷ []) (rw d refl),
    )
    (omega (arith, rest))

-- the sum of joined strings is the combination of their sums
pub folded-append : (front back : List ℕ) → length front % 2 ≡ 0 → folded (word_sum (front ++ back)) ≡ folded (folded (word_sum front) + folded (word_sum back))
folded-append front back even =
    let turned : word_sum front + folded (word_sum back) ≡ folded (word_sum back) + word_sum front = omega arith in
    let back' : word_sum back + word_sum front ≡ word_sum front + word_sum back = omega arith in
    ap folded (word_sum-append front back even)
    ∙ sym (folded-folded (word_sum front) (folded (word_sum back)) ∙ ap folded turned
    ∙ folded-folded (word_sum back) (word_sum front) ∙ ap folded back')

-- the complement of the folded sum makes a checksum that holds
pub ChecksumHolds-complement : (n : ℕ) → ChecksumHolds (n + (65535 - folded n))
ChecksumHolds-complement zero = (1, omega arith, refl)
ChecksumHolds-complement (suc n) = (n / 65535 + 1, omega arith, omega arith)

-- two numbers that differ by a multiple of 65535 are congruent
classes : (a b k j : ℕ) → 65535 * j + a ≡ 65535 * k + b → a % 65535 ≢ b % 65535 → ⊥
classes a b k j same other = omega arith

-- a checksum that holds fails once one aligned word is changed to a number that is not congruent to it
pub ChecksumHolds-put16 : (covered : ℕ) (bytes : List ℕ) (i n : ℕ) → i % 2 ≡ 0 → i + 2 ≤ length bytes → n < 65536 → be16 bytes i % 65535 ≢ n % 65535
    → ChecksumHolds (covered + word_sum bytes) → ChecksumHolds (covered + word_sum (put16 bytes i n)) → ⊥
ChecksumHolds-put16 covered bytes i n even within small other before after =
    let moved : word_sum (put16 bytes i n) + be16 bytes i ≡ word_sum bytes + n = word_sum-put16 bytes i n even within small in
    let k : ℕ = before.0 in
    let j : ℕ = after.0 in
    let first : covered + word_sum bytes ≡ 65535 * k = before.2 in
    let second : covered + word_sum (put16 bytes i n) ≡ 65535 * j = after.2 in
    classes (be16 bytes i) n k j (omega arith) other

-- a folded sum with its bytes exchanged
pub folded-swapped : (n : ℕ) → folded n % 256 * 256 + folded n / 256 % 256 ≡ folded (256 * n)
folded-swapped zero = refl
folded-swapped (suc n) = let e : 256 * suc n ≡ suc (256 * n + 255) = omega arith in rw e (omega arith)

-- bytes after one that lie the other way round in their words, since 65536 is 1 modulo 65535
folded-following_one : (b : ℕ) (bytes : List ℕ) → folded (word_sum (b ∷ bytes)) ≡ folded (256 * b + 256 * word_sum bytes)
folded-following_one b [] = ap folded (omega arith)
folded-following_one b (c ∷ []) =
    let whole : 256 * b + c + 65535 * c ≡ 256 * b + 256 * (256 * c) = omega arith in
    let last : 256 * b + c + 0 ≡ 256 * b + c = omega arith in
    ap folded last ∙ sym (folded-more (256 * b + c) c 1 (omega arith)) ∙ ap folded whole
folded-following_one b (c ∷ d ∷ bytes) =
    let inner : folded (word_sum (d ∷ bytes)) ≡ folded (256 * d + 256 * word_sum bytes) = folded-following_one d bytes in
    let whole : 256 * b + c + (256 * d + 256 * word_sum bytes) + 65535 * c ≡ 256 * b + 256 * (256 * c + d + word_sum bytes) = omega arith in
    folded-both (256 * b + c) (256 * b + c) _ _ refl inner
    ∙ sym (folded-more (256 * b + c + (256 * d + 256 * word_sum bytes)) c 1 (omega arith)) ∙ ap folded whole

-- bytes after others of an odd length
folded-following_odd : (front back : List ℕ) → length front % 2 ≡ 1 → folded (word_sum (front ++ back)) ≡ folded (word_sum front + 256 * word_sum back)
folded-following_odd [] back odd = absurd (omega arith)
folded-following_odd (b ∷ []) back odd = folded-following_one b back
folded-following_odd (b ∷ c ∷ front) back odd =
    let whole : 256 * b + c + (word_sum front + 256 * word_sum back) ≡ 256 * b + c + word_sum front + 256 * word_sum back = omega arith in
    folded-both (256 * b + c) (256 * b + c) _ _ refl (folded-following_odd front back (omega arith)) ∙ ap folded whole

-- sums that fold alike fold alike after another
folded-sums : (a b : ℕ) → folded (folded a + folded b) ≡ folded (a + b)
folded-sums a b =
    let turned : a + folded b ≡ folded b + a = omega arith in
    let back : b + a ≡ a + b = omega arith in
    folded-folded a (folded b) ∙ ap folded turned ∙ folded-folded b a ∙ ap folded back

-- the sum of joined strings, the first of odd length, is made of the sum of the second with its bytes exchanged
pub folded-append_odd : (front back : List ℕ) (x y z : ℕ) → length front % 2 ≡ 1 → x ≡ folded (word_sum front) → y ≡ folded (word_sum back)
    → z ≡ y % 256 * 256 + y / 256 % 256
    → folded (x + z) ≡ folded (word_sum (front ++ back))
folded-append_odd front back x y z odd first second exchanged =
    let other : z ≡ folded (256 * word_sum back) = exchanged ∙ ap (λ n. n % 256 * 256 + n / 256 % 256) second ∙ folded-swapped (word_sum back) in
    ap (λ n. folded (n + z)) first ∙ ap (λ n. folded (folded (word_sum front) + n)) other
    ∙ folded-sums (word_sum front) (256 * word_sum back) ∙ sym (folded-following_odd front back odd)

-- the same with the first of even length
pub folded-append_even : (front back : List ℕ) (x y : ℕ) → length front % 2 ≡ 0 → x ≡ folded (word_sum front) → y ≡ folded (word_sum back)
    → folded (x + y) ≡ folded (word_sum (front ++ back))
folded-append_even front back x y even first second =
    ap (λ n. folded (n + y)) first ∙ ap (λ n. folded (folded (word_sum front) + n)) second ∙ sym (folded-append front back even)
