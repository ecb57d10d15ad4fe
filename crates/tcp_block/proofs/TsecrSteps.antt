-- What an echo says of the instant at which its segment was sent.
use Rattle.std.proofs.Common.{◌≡◌, ℕ, ◌+◌, ◌-◌, ◌/◌, ◌%◌, ◌^◌, ◌<◌, ◌≤◌, nat_le, ℤ, pos, ◌≤ℤ◌, unsigned_abs}
use Rattle.std.proofs.Common.{Bool, true, false, if◌then◌else◌, Some, None, refl, ap, ◌∙◌, arith}
use Rattle.std.proofs.lemmas.Bool.Decides.{nat_tests}
use Rattle.std.proofs.lemmas.Int.{ints}
use Rattle.ip_wire.specs.TcpTimestampGenerator.{TcpTimestampGenerator}
use Rattle.ip_wire.specs.Timestamp.{value_at}
use Rattle.tcp_block.specs.Timestamps.{gap, elapsed, millis_of}

gap_is : (g a b : ℕ) → a ≤ b → b - a < 2 ^ 32 → gap ((g + a) % 2 ^ 32) ((g + b) % 2 ^ 32) ≡ b - a
gap_is g a b e near = omega arith

-- of three instants in order
elapsed_is : (g a b c : ℕ) → a ≤ b → b ≤ c → c - a < 2 ^ 32
    → elapsed ((g + a) % 2 ^ 32) ((g + c) % 2 ^ 32) ((g + b) % 2 ^ 32) ≡ Some (c - b)
elapsed_is g a b c low high near =
    let first = gap_is g a b low (omega arith) in
    let whole = gap_is g a c (omega arith) near in
    let last = gap_is g b c high (omega arith) in
    ap (λ (n : ℕ). if nat_le n (gap ((g + a) % 2 ^ 32) ((g + c) % 2 ^ 32)) then Some (gap ((g + b) % 2 ^ 32) ((g + c) % 2 ^ 32)) else None) first
    ∙ (ap (λ (n : ℕ). if nat_le (b - a) n then Some (gap ((g + b) % 2 ^ 32) ((g + c) % 2 ^ 32)) else None) whole
    ∙ (ap (λ (n : ℕ). if nat_le (b - a) (c - a) then Some n else None) last ∙ in_order (b - a) (c - a) (c - b) (omega arith)))
  where
    in_order : (m n k : ℕ) → m ≤ n → (if nat_le m n then Some k else None) ≡ Some k
    in_order m n k e = grind (arith, nat_tests, e)

abs_le : (a b : ℤ) → pos 0 ≤ℤ a → a ≤ℤ b → unsigned_abs a ≤ unsigned_abs b
abs_le a b low e = omega (arith, ints)

thousands : (m n : ℕ) → m ≤ n → m / 1000 ≤ n / 1000
thousands m n e = omega arith

millis_mono : (a b : ℤ) → pos 0 ≤ℤ a → a ≤ℤ b → millis_of a ≤ millis_of b
millis_mono a b low e = thousands (unsigned_abs a) (unsigned_abs b) (abs_le a b low e)

pub tsecr_is : (g : TcpTimestampGenerator) (first sent now : ℤ) → pos 0 ≤ℤ first → first ≤ℤ sent → sent ≤ℤ now → millis_of now - millis_of first < 2 ^ 32
    → elapsed (value_at g first) (value_at g now) (value_at g sent) ≡ Some (millis_of now - millis_of sent)
tsecr_is g first sent now low before after near =
    elapsed_is g.0 (millis_of first) (millis_of sent) (millis_of now) (millis_mono first sent low before)
    (millis_mono sent now (later first sent low before) after) near
  where
    later : (a b : ℤ) → pos 0 ≤ℤ a → a ≤ℤ b → pos 0 ≤ℤ b
    later a b e f = omega (arith, ints)

nearer : (a b c : ℕ) → a < 2 ^ 32 → b < 2 ^ 32 → c < 2 ^ 32 → gap a c ≤ gap a b → gap c b ≤ gap a b
nearer a b c p q r e = omega arith

pub tsecr_within : (first present tsecr millis : ℕ) → first < 2 ^ 32 → present < 2 ^ 32 → tsecr < 2 ^ 32 → elapsed first present tsecr ≡ Some millis
    → millis ≤ gap first present
tsecr_within first present tsecr millis p q r e = by (nat_le (gap first tsecr) (gap first present)) refl e where
  is_some_of : (a b : ℕ) → Some a ≡ Some b → a ≡ b
  is_some_of a b f = cc

  le_of : (a b : ℕ) → nat_le a b ≡ true → a ≤ b
  le_of a b f = grind (arith, nat_tests, f)

  by : (within : Bool) → nat_le (gap first tsecr) (gap first present) ≡ within → (if within then Some (gap tsecr present) else None) ≡ Some millis
      → millis ≤ gap first present
  by true is f =
      let same = is_some_of (gap tsecr present) millis f in
      let near = nearer first present tsecr p q r (le_of (gap first tsecr) (gap first present) is) in
      omega (arith, same, near)
  by false is f = absurd (cc)
