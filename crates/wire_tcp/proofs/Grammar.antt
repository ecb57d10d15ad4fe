-- Options and the bytes that spell them.
use Rattle.std.proofs.Common.{◌≡◌, ◌≢◌, ℕ, ◌+◌, ◌-◌, ◌%◌, ◌≤◌, suc, false, List, [], ◌∷◌, ◌++◌, length, take, drop, refl, sym, ◌∙◌, ap, subst, arith, ◌↔◌, inl}
use Rattle.std.proofs.Common.{inr, length-append, length-take}
use Rattle.std.specs.Prelude.{Option, Some, None, slice_index, slice_range, ◌==◌}
use Rattle.std.proofs.lemmas.Bool.Decides.{eqb_tells, leb_tells}
use Rattle.std.proofs.lemmas.Bool.{eq-eqb}
use Rattle.std.proofs.lemmas.List.{take_at, drop_at, take-append-drop}
use Rattle.wire_tcp.proofs.First.{first_option}
use Rattle.wire_address.specs.Fields.{be16, be32}
use Rattle.wire_tcp.specs.Options.{OptionValue, EndOfList, NoOperation, MaxSegmentSize, WindowScale, SackPermitted, SackRange, TimeStamp, Unknown, ranges_of}
use Rattle.wire_tcp.specs.Options.{long_option, IsOption, IsOtherKind, Begins}
use Rattle.wire_tcp.specs.Seen.{First, first_long, before, inside}

-- no bytes are left
pub empty : (bytes : List ℕ) → length bytes ≡ 0 → bytes ≡ []
empty [] none = refl
empty (b ∷ bytes) none = absurd (omega arith)

-- an option of more than one byte that is there
first_long-inside : (bytes : List ℕ) (n : ℕ) (o : OptionValue) → 2 ≤ n → n ≤ length bytes → inside (slice_index bytes 0) (slice_range bytes 2 n) ≡ Some o
    → first_long bytes n ≡ Some (record { option = o; rest = drop n bytes })
first_long-inside bytes n o least within is =
    elim (leb_tells 2 n) [
      | inr miss ↦ absurd (omega (arith, miss.1))
      | inl hit ↦ elim (leb_tells n (length bytes)) [
        | inr miss ↦ absurd (omega (arith, miss.1))
        | inl fits ↦ rw (hit.0, fits.0, is) refl
      ]
    ]

-- an option that was read from what is inside is spelled by it
inside-spelled : (kind : ℕ) (inner : List ℕ) (o : OptionValue) → kind ≢ 0 → kind ≢ 1 → inside kind inner ≡ Some o → IsOption o (long_option kind inner)
inside-spelled kind inner o not_end not_nop is =
    elim (eqb_tells kind 2) [
      | inl two ↦ elim (eqb_tells (length inner) 2) [
        | inr miss ↦ absurd (let e = rw (two.0, miss.0) at is in cc e)
        | inl len ↦
            let read = rw (two.0, len.0) at is in
            let same : MaxSegmentSize (be16 inner 0) ≡ o = cc read in
            subst (λ p. IsOption p (long_option kind inner)) same (inner, ap (λ k. long_option k inner) two.1, len.1, refl)
      ]
      | inr not_two ↦ elim (eqb_tells kind 3) [
        | inl three ↦ elim (eqb_tells (length inner) 1) [
          | inr miss ↦ absurd (let e = rw (not_two.0, three.0, miss.0) at is in cc e)
          | inl len ↦
              let read = rw (not_two.0, three.0, len.0) at is in
              let same : WindowScale (slice_index inner 0) ≡ o = cc read in
              subst (λ p. IsOption p (long_option kind inner)) same (inner, ap (λ k. long_option k inner) three.1, len.1, refl)
        ]
        | inr not_three ↦ elim (eqb_tells kind 4) [
          | inl four ↦ elim (eqb_tells (length inner) 0) [
            | inr miss ↦ absurd (let e = rw (not_two.0, not_three.0, four.0, miss.0) at is in cc e)
            | inl len ↦
                let read = rw (not_two.0, not_three.0, four.0, len.0) at is in
                let same : SackPermitted ≡ o = cc read in
                subst (λ p. IsOption p (long_option kind inner)) same (ap (λ k. long_option k inner) four.1 ∙ ap (long_option 4) (empty inner len.1))
          ]
          | inr not_four ↦ elim (eqb_tells kind 5) [
            | inl five ↦ elim (eqb_tells (length inner % 8) 0) [
              | inr miss ↦ absurd (let e = rw (not_two.0, not_three.0, not_four.0, five.0, miss.0) at is in cc e)
              | inl len ↦
                  let read = rw (not_two.0, not_three.0, not_four.0, five.0, len.0) at is in
                  let same : SackRange (ranges_of inner) ≡ o = cc read in
                  subst (λ p. IsOption p (long_option kind inner)) same (inner, ap (λ k. long_option k inner) five.1, len.1, refl)
            ]
            | inr not_five ↦ elim (eqb_tells kind 8) [
              | inl eight ↦ elim (eqb_tells (length inner) 8) [
                | inr miss ↦ absurd (let e = rw (not_two.0, not_three.0, not_four.0, not_five.0, eight.0, miss.0) at is in cc e)
                | inl len ↦
                    let read = rw (not_two.0, not_three.0, not_four.0, not_five.0, eight.0, len.0) at is in
                    let same : TimeStamp (be32 inner 0) (be32 inner 4) ≡ o = cc read in
                    subst (λ p. IsOption p (long_option kind inner)) same (inner, ap (λ k. long_option k inner) eight.1, len.1, refl, refl)
              ]
              | inr not_eight ↦
                  let read = rw (not_two.0, not_three.0, not_four.0, not_five.0, not_eight.0) at is in
                  let same : Unknown kind inner ≡ o = cc read in
                  subst (λ p. IsOption p (long_option kind inner)) same (
                    refl,
                    record {
                      end = not_end;
                      no_operation = not_nop;
                      size = not_two.1;
                      scale = not_three.1;
                      permitted = not_four.1;
                      ranges =
                          not_five.1;
                      stamp = not_eight.1;
                    },
                  )
            ]
          ]
        ]
      ]
    ]

-- what was put before bytes
pub before-read : (m : Option OptionValue) (xs : List ℕ) (f : First) → before m xs ≡ Some f → (m ≡ Some f.option) × (f.rest ≡ xs)
before-read None xs f is = absurd (cc is)
before-read (Some o) xs f is =
    let same : record { option = o; rest = xs } ≡ f = cc in
    (ap (λ (g : First). Some g.option) same, sym (ap (λ (g : First). g.rest) same))

-- bytes cut after an option of this length
long_option-split : (kind n m : ℕ) (xs : List ℕ) → n ≡ suc (suc m) → m ≤ length xs → kind ∷ n ∷ xs ≡ long_option kind (take m xs) ++ drop n (kind ∷ n ∷ xs)
long_option-split kind n m xs is within =
    let len : 2 + length (take m xs) ≡ n = omega (arith, length-take m xs) in
    let following : drop n (kind ∷ n ∷ xs) ≡ drop m xs = ap (λ k. drop k (kind ∷ n ∷ xs)) is in
    sym (
    ap (λ k. kind ∷ k ∷ (take m xs ++ drop n (kind ∷ n ∷ xs))) len ∙ ap (λ ys. kind ∷ n ∷ (take m xs ++ ys)) following
    ∙ ap (λ ys. kind ∷ n ∷ ys) (take-append-drop m xs)
    )

-- an option of more than one byte begins the bytes that it was read from
first_long-Begins : (kind n : ℕ) (xs : List ℕ) (f : First) → kind ≢ 0 → kind ≢ 1 → first_long (kind ∷ n ∷ xs) n ≡ Some f →
    Begins (kind ∷ n ∷ xs) f.option f.rest
first_long-Begins kind n xs f not_end not_nop is =
    elim (leb_tells 2 n) [
      | inr miss ↦ absurd (let e = rw miss.0 at is in cc e)
      | inl least ↦ elim (leb_tells n (length (kind ∷ n ∷ xs))) [
        | inr miss ↦ absurd (let e = rw (least.0, miss.0) at is in cc e)
        | inl within ↦
            let read : before (inside kind (take (n - 2) xs)) (drop n (kind ∷ n ∷ xs)) ≡ Some f = rw (least.0, within.0) at is in
            let found = before-read (inside kind (take (n - 2) xs)) (drop n (kind ∷ n ∷ xs)) f read in
            let cut : kind ∷ n ∷ xs ≡ long_option kind (take (n - 2) xs) ++ drop n (kind ∷ n ∷ xs) =
            long_option-split kind n (n - 2) xs (omega (arith, least.1)) (omega (arith, within.1))
            in (
              long_option kind (take (n - 2) xs),
              inside-spelled kind (take (n - 2) xs) f.option not_end not_nop found.0,
              cut ∙ ap (λ ys. long_option kind (take (n - 2) xs) ++ ys) (sym found.1),
            )
      ]
    ]

-- so does an option of one byte
byte-Begins : (kind : ℕ) (o : OptionValue) (xs : List ℕ) (f : First) → IsOption o (kind ∷ []) → record { option = o; rest = xs } ≡ f →
    Begins (kind ∷ xs) f.option f.rest
byte-Begins kind o xs f is same = subst (λ (g : First). Begins (kind ∷ xs) g.option g.rest) same (kind ∷ [], is, refl)

-- an option stands at the front of the bytes that it was read from
first_option-Begins : (bytes : List ℕ) (f : First) → first_option bytes ≡ Some f → Begins bytes f.option f.rest
first_option-Begins [] f is = absurd (cc is)
first_option-Begins (kind ∷ xs) f is =
    elim (eqb_tells kind 0) [
      | inl hit ↦ let read = rw hit.0 at is in byte-Begins kind EndOfList xs f (ap (λ k. k ∷ []) hit.1) (cc read)
      | inr miss ↦ elim (eqb_tells kind 1) [
        | inl hit ↦ let read = rw (miss.0, hit.0) at is in byte-Begins kind NoOperation xs f (ap (λ k. k ∷ []) hit.1) (cc read)
        | inr other ↦ long-Begins kind xs f miss.1 other.1 (rw (miss.0, other.0) at is)
      ]
    ]
  where
    long-Begins : (kind : ℕ) (xs : List ℕ) (f : First) → kind ≢ 0 → kind ≢ 1 → first_long (kind ∷ xs) (slice_index xs 0) ≡ Some f →
        Begins (kind ∷ xs) f.option f.rest
    long-Begins kind [] f not_end not_nop is = absurd (cc is)
    long-Begins kind (n ∷ xs) f not_end not_nop is = first_long-Begins kind n xs f not_end not_nop is

-- an option of more than one byte at the front is read
long_option-first : (kind : ℕ) (inner rest : List ℕ) (o : OptionValue) → kind ≢ 0 → kind ≢ 1 → inside kind inner ≡ Some o
    → first_option (long_option kind inner ++ rest) ≡ Some (record { option = o; rest = rest })
long_option-first kind inner rest o not_end not_nop is =
    let bytes : List ℕ = long_option kind inner ++ rest in
    let all = length-append inner rest in
    let within : 2 + length inner ≤ length bytes = omega (arith, all) in
    let held : take (2 + length inner - 2) (inner ++ rest) ≡ inner = take_at inner rest (2 + length inner - 2) (omega arith) in
    let following : drop (2 + length inner) bytes ≡ rest = drop_at (long_option kind inner) rest (2 + length inner) (omega arith) in
    let long : first_long bytes (2 + length inner) ≡ Some (record { option = o; rest = drop (2 + length inner) bytes }) =
    first_long-inside bytes (2 + length inner) o (omega arith) within (ap (inside kind) held ∙ is)
    in
    elim (eqb_tells kind 0) [
      | inl hit ↦ absurd (not_end hit.1)
      | inr miss ↦ elim (eqb_tells kind 1)
          [ inl hit ↦ absurd (not_nop hit.1) | inr other ↦ rw (miss.0, other.0) (long ∙ ap (λ ys. Some (record { option = o; rest = ys })) following) ]
    ]

-- a test that fails
eqb-miss : (a b : ℕ) → a ≢ b → (a == b) ≡ false
eqb-miss a b other = elim (eqb_tells a b) [ inl hit ↦ absurd (other hit.1) | inr miss ↦ miss.0 ]

-- an option of another kind is read
other-inside : (kind : ℕ) (inner : List ℕ) → IsOtherKind kind → inside kind inner ≡ Some (Unknown kind inner)
other-inside kind inner other =
    rw (
      eqb-miss kind 2 other.size,
      eqb-miss kind 3 other.scale,
      eqb-miss kind 4 other.permitted,
      eqb-miss kind 5 other.ranges,
      eqb-miss kind 8 other.stamp,
    ) refl

-- an option that spells the front of bytes is read there
IsOption-first : (o : OptionValue) (front rest : List ℕ) → IsOption o front → first_option (front ++ rest) ≡ Some (record { option = o; rest = rest })
IsOption-first EndOfList front rest is = ap (λ xs. first_option (xs ++ rest)) is
IsOption-first NoOperation front rest is = ap (λ xs. first_option (xs ++ rest)) is
IsOption-first (MaxSegmentSize n) front rest is =
    let inner : List ℕ = is.0 in
    let read : inside 2 inner ≡ Some (MaxSegmentSize n) = rw (eq-eqb (length inner) 2 is.2) (ap (λ k. Some (MaxSegmentSize k)) (sym is.3)) in
    ap (λ xs. first_option (xs ++ rest)) is.1 ∙
    long_option-first 2 inner rest (MaxSegmentSize n) (λ e. absurd (omega (arith, e))) (λ e. absurd (omega (arith, e))) read
IsOption-first (WindowScale n) front rest is =
    let inner : List ℕ = is.0 in
    let read : inside 3 inner ≡ Some (WindowScale n) = rw (eq-eqb (length inner) 1 is.2) (ap (λ k. Some (WindowScale k)) (sym is.3)) in
    ap (λ xs. first_option (xs ++ rest)) is.1 ∙
    long_option-first 3 inner rest (WindowScale n) (λ e. absurd (omega (arith, e))) (λ e. absurd (omega (arith, e))) read
IsOption-first SackPermitted front rest is =
    ap (λ xs. first_option (xs ++ rest)) is ∙ long_option-first 4 [] rest SackPermitted (λ e. absurd (omega (arith, e))) (λ e. absurd (omega (arith, e))) refl
IsOption-first (SackRange ranges) front rest is =
    let inner : List ℕ = is.0 in
    let read : inside 5 inner ≡ Some (SackRange ranges) = rw (eq-eqb (length inner % 8) 0 is.2) (ap (λ k. Some (SackRange k)) (sym is.3)) in
    ap (λ xs. first_option (xs ++ rest)) is.1 ∙
    long_option-first 5 inner rest (SackRange ranges) (λ e. absurd (omega (arith, e))) (λ e. absurd (omega (arith, e))) read
IsOption-first (TimeStamp tsval tsecr) front rest is =
    let inner : List ℕ = is.0 in
    let read : inside 8 inner ≡ Some (TimeStamp tsval tsecr) =
    rw (eq-eqb (length inner) 8 is.2) (ap (λ k. Some (TimeStamp k (be32 inner 4))) (sym is.3) ∙ ap (λ k. Some (TimeStamp tsval k)) (sym is.4))
    in
    ap (λ xs. first_option (xs ++ rest)) is.1 ∙
    long_option-first 8 inner rest (TimeStamp tsval tsecr) (λ e. absurd (omega (arith, e))) (λ e. absurd (omega (arith, e))) read
IsOption-first (Unknown kind inner) front rest is =
    let other : IsOtherKind kind = is.1 in
    ap (λ xs. first_option (xs ++ rest)) is.0 ∙
    long_option-first kind inner rest (Unknown kind inner) other.end other.no_operation (other-inside kind inner other)

-- an option is read exactly where its spelling stands at the front
pub first_option-spelled : (bytes rest : List ℕ) (o : OptionValue) → (first_option bytes ≡ Some (record { option = o; rest = rest })) ↔ Begins bytes o rest
first_option-spelled bytes rest o =
    (first_option-Begins bytes (record { option = o; rest = rest }), λ begins. ap first_option begins.2 ∙ IsOption-first o begins.0 rest begins.1)
