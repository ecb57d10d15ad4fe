-- A list of bytes read field by field: what is left at an offset is the field's bytes, then what is left
-- after it.
use Rattle.std.proofs.Common.{◌≡◌, ℕ, ◌+◌, ◌-◌, ◌/◌, ◌%◌, ◌<◌, ◌≤◌, List, ◌∷◌, ◌++◌, length, get_or, take, drop, sym, ◌∙◌, ap, arith, length-take, length-drop}
use Rattle.std.proofs.lemmas.List.{drop_more, drop-drop, take-append-drop}
use Rattle.std.specs.Prelude.{slice_range}
use Rattle.std.specs.Int.{w32, to_be_bytes}
use Rattle.wire_address.specs.Fields.{be16, be32, IsBytes}

-- a byte
pub peel8 : (bytes : List ℕ) (i b : ℕ) (rest : List ℕ) → i < length bytes → b ≡ get_or bytes i 0 → drop (i + 1) bytes ≡ rest → drop i bytes ≡ b ∷ rest
peel8 bytes i b rest le is after =
    drop_more bytes i 0 le ∙ ap (λ x. x ∷ drop (i + 1) bytes) (sym is) ∙ ap (λ xs. b ∷ xs) after

-- the two bytes of a number
pub peel16 : (bytes : List ℕ) (i n : ℕ) (rest : List ℕ) → IsBytes bytes → i + 2 ≤ length bytes → n ≡ be16 bytes i → drop (i + 2) bytes ≡ rest →
    drop i bytes ≡ n / 256 % 256 ∷ n % 256 ∷ rest
peel16 bytes i n rest small le is after =
    let high : get_or bytes i 0 < 256 = small i in
    let low : get_or bytes (i + 1) 0 < 256 = small (i + 1) in
    let offset : i + 1 + 1 ≡ i + 2 = omega arith in
    peel8 bytes i (n / 256 % 256) (n % 256 ∷ rest) (omega arith) (omega arith) (
    peel8 bytes (i + 1) (n % 256) rest (omega arith) (omega arith) (ap (λ k. drop k bytes) offset ∙ after)
    )

-- the bytes up to an offset
pub peel_to : (bytes : List ℕ) (i k : ℕ) (field rest : List ℕ) → i ≤ k → field ≡ slice_range bytes i k → drop k bytes ≡ rest → drop i bytes ≡ field ++ rest
peel_to bytes i k field rest le is after =
    let offset : i + (k - i) ≡ k = omega arith in
    let following : drop (k - i) (drop i bytes) ≡ drop k bytes = drop-drop (k - i) i bytes ∙ ap (λ j. drop j bytes) offset in
    sym (take-append-drop (k - i) (drop i bytes)) ∙ ap (λ xs. take (k - i) (drop i bytes) ++ xs) (following ∙ after)
    ∙ ap (λ xs. xs ++ rest) (sym is)

-- how long the bytes between two offsets are
pub length-slice_range : (bytes : List ℕ) (i k : ℕ) → i ≤ k → k ≤ length bytes → i + length (slice_range bytes i k) ≡ k
length-slice_range bytes i k le within = omega (arith, length-take (k - i) (drop i bytes), length-drop i bytes)

-- the four bytes of a number
pub peel32 : (bytes : List ℕ) (i n : ℕ) (rest : List ℕ) → IsBytes bytes → i + 4 ≤ length bytes → n ≡ be32 bytes i → drop (i + 4) bytes ≡ rest →
    drop i bytes ≡ to_be_bytes w32 n ++ rest
peel32 bytes i n rest small le is after =
    let first : get_or bytes i 0 < 256 = small i in
    let second : get_or bytes (i + 1) 0 < 256 = small (i + 1) in
    let third : get_or bytes (i + 2) 0 < 256 = small (i + 2) in
    let fourth : get_or bytes (i + 2 + 1) 0 < 256 = small (i + 2 + 1) in
    let offset2 : i + 1 + 1 ≡ i + 2 = omega arith in
    let offset3 : i + 2 + 1 + 1 ≡ i + 4 = omega arith in
    peel8 bytes i (n / 16777216 % 256) _ (omega arith) (omega arith) (
    peel8 bytes (i + 1) (n / 65536 % 256) _ (omega arith) (omega arith) (
    ap (λ k. drop k bytes) offset2
    ∙ peel8 bytes (i + 2) (n / 256 % 256) _ (omega arith) (omega arith) (
    peel8 bytes (i + 2 + 1) (n % 256) rest (omega arith) (omega arith) (ap (λ k. drop k bytes) offset3 ∙ after)
    )
    )
    )
