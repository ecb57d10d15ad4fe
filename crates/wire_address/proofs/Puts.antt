-- Numbers written into bytes.
use Rattle.std.proofs.Common.{◌≡◌, ◌≢◌, ◌⊎◌, inl, inr, ℕ, ◌+◌, ◌-◌, ◌*◌, ◌/◌, ◌%◌, ◌^◌, ◌<◌, ◌≤◌, List, length, ◌∙◌, ap, ap₂, arith}
use Rattle.std.specs.Prelude.{slice_index}
use Rattle.std.proofs.lemmas.List.{set-set, set_comm, get_or-set_same, get_or-set_other}
use Rattle.std.proofs.Math.ListN.{set, length-set}
use Rattle.wire_address.specs.Fields.{be16, be32, put16, put32}
use Rattle.wire_address.specs.Sum.{folded, complement}

-- of two numbers written at one place the second counts
pub put16-put16 : (bytes : List ℕ) (i m n : ℕ) → put16 (put16 bytes i m) i n ≡ put16 bytes i n
put16-put16 bytes i m n =
    let other : i + 1 ≢ i = λ e. absurd (omega (arith, e)) in
    let swapped : set (set (set bytes i (m / 256 % 256)) (i + 1) (m % 256)) i (n / 256 % 256) ≡ set (set bytes i (n / 256 % 256)) (i + 1) (m % 256) =
    set_comm (set bytes i (m / 256 % 256)) (i + 1) i (m % 256) (n / 256 % 256) other
    ∙ ap (λ xs. set xs (i + 1) (m % 256)) (set-set bytes i (m / 256 % 256) (n / 256 % 256))
    in
    ap (λ xs. set xs (i + 1) (n % 256)) swapped ∙ set-set (set bytes i (n / 256 % 256)) (i + 1) (m % 256) (n % 256)

-- a field is cleared, then filled with a value of the bytes
pub put16-cleared : (value_of : List ℕ → ℕ) (at : ℕ) (old cleared new : List ℕ) (value : ℕ) → cleared ≡ put16 old at 0 → value ≡ value_of cleared →
    new ≡ put16 cleared at value
    → new ≡ put16 old at (value_of (put16 old at 0))
put16-cleared value_of at old cleared new value first is last =
    last ∙ ap (λ n. put16 cleared at n) is ∙ ap (λ xs. put16 xs at (value_of xs)) first ∙ put16-put16 old at 0 (value_of (put16 old at 0))

-- a checksum's field is cleared, then filled with the complement of the sum of what the checksum covers
pub put16-complement : (covered : List ℕ → ℕ) (at : ℕ) (old cleared new : List ℕ) (sum : ℕ) → cleared ≡ put16 old at 0 → sum ≡ folded (covered cleared) →
    new ≡ put16 cleared at (65535 - sum)
    → new ≡ put16 old at (complement (covered (put16 old at 0)))
put16-complement covered at old cleared new sum first is last =
    put16-cleared (λ xs. complement (covered xs)) at old cleared new (65535 - sum) first (ap (λ n. 65535 - n) is) last

-- the bytes of a number that was written
put16-first : (bytes : List ℕ) (i n : ℕ) → i + 2 ≤ length bytes → slice_index (put16 bytes i n) i ≡ n / 256 % 256
put16-first bytes i n within =
    get_or-set_other (set bytes i (n / 256 % 256)) (i + 1) i (n % 256) 0 (λ e. omega arith) ∙ get_or-set_same bytes i (n / 256 % 256) 0 (omega arith)

put16-second : (bytes : List ℕ) (i n : ℕ) → i + 2 ≤ length bytes → slice_index (put16 bytes i n) (i + 1) ≡ n % 256
put16-second bytes i n within =
    let len : length (set bytes i (n / 256 % 256)) ≡ length bytes = length-set {A = ℕ} _ _ _ in
    get_or-set_same (set bytes i (n / 256 % 256)) (i + 1) (n % 256) 0 (omega arith)

-- all other bytes stay
pub put16-elsewhere : (bytes : List ℕ) (i offset n : ℕ) → (offset < i) ⊎ (i + 2 ≤ offset) → slice_index (put16 bytes i n) offset ≡ slice_index bytes offset
put16-elsewhere bytes i offset n apart =
    get_or-set_other (set bytes i (n / 256 % 256)) (i + 1) offset (n % 256) 0 (λ e. omega arith) ∙
    get_or-set_other bytes i offset (n / 256 % 256) 0 (λ e. omega arith)

pub put32-elsewhere : (bytes : List ℕ) (i offset n : ℕ) → (offset < i) ⊎ (i + 4 ≤ offset) → slice_index (put32 bytes i n) offset ≡ slice_index bytes offset
put32-elsewhere bytes i offset n apart =
    let high : (offset < i + 2) ⊎ (i + 2 + 2 ≤ offset) = elim apart [ inl l ↦ inl (omega arith) | inr r ↦ inr (omega arith) ] in
    let low : (offset < i) ⊎ (i + 2 ≤ offset) = elim apart [ inl l ↦ inl l | inr r ↦ inr (omega arith) ] in
    put16-elsewhere (put16 bytes i (n / 65536)) (i + 2) offset n high ∙ put16-elsewhere bytes i offset (n / 65536) low

-- the number that is read where it was written: its last 16 bits
be16-put16_cut : (bytes : List ℕ) (i n : ℕ) → i + 2 ≤ length bytes → be16 (put16 bytes i n) i ≡ n % 65536
be16-put16_cut bytes i n within =
    let first : slice_index (put16 bytes i n) i ≡ n / 256 % 256 = put16-first bytes i n within in
    let second : slice_index (put16 bytes i n) (i + 1) ≡ n % 256 = put16-second bytes i n within in
    rw (first, second) (omega arith)

pub be16-put16 : (bytes : List ℕ) (i n : ℕ) → i + 2 ≤ length bytes → n < 2 ^ 16 → be16 (put16 bytes i n) i ≡ n
be16-put16 bytes i n within small = let cut : be16 (put16 bytes i n) i ≡ n % 65536 = be16-put16_cut bytes i n within in cut ∙ (omega arith)

length-put16 : (bytes : List ℕ) (i n : ℕ) → length (put16 bytes i n) ≡ length bytes
length-put16 bytes i n = simp length-set

pub be32-put32 : (bytes : List ℕ) (i n : ℕ) → i + 4 ≤ length bytes → n < 2 ^ 32 → be32 (put32 bytes i n) i ≡ n
be32-put32 bytes i n within small =
    let inner : List ℕ = put16 bytes i (n / 65536) in
    let len : length inner ≡ length bytes = length-put16 bytes i (n / 65536) in
    let low : be16 (put16 inner (i + 2) n) (i + 2) ≡ n % 65536 = be16-put16_cut inner (i + 2) n (omega arith) in
    let first : slice_index (put16 inner (i + 2) n) i ≡ slice_index inner i = put16-elsewhere inner (i + 2) i n (inl (omega arith)) in
    let second : slice_index (put16 inner (i + 2) n) (i + 1) ≡ slice_index inner (i + 1) = put16-elsewhere inner (i + 2) (i + 1) n (inl (omega arith)) in
    let high : be16 inner i ≡ n / 65536 % 65536 = be16-put16_cut bytes i (n / 65536) (omega arith) in
    let top : be16 (put16 inner (i + 2) n) i ≡ n / 65536 % 65536 = ap₂ (λ a b. 256 * a + b) first second ∙ high in
    ap₂ (λ a b. 65536 * a + b) top low ∙ (omega arith)
