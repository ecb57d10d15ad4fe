-- Options that were read and kept.
use Rattle.std.proofs.Common.{◌≡◌, ℕ, ◌+◌, ◌≤◌, List, [], ◌∷◌, length, refl, sym, ap, subst, arith, inl, inr, length-append}
use Rattle.std.specs.Prelude.{Some}
use Rattle.std.proofs.lemmas.Bool.Decides.{leb_tells}
use Rattle.wire_tcp.specs.Options.{OptionValue, EndOfList, NoOperation, MaxSegmentSize, WindowScale, SackPermitted, SackRange, TimeStamp, Unknown, ranges_of}
use Rattle.wire_tcp.specs.Options.{IsOption, Spells, Says, taken, all_taken, no_options, options_bytes, range_options, options_room, closed_up, AreRead}
use Rattle.wire_tcp.specs.declared.option.TcpOptions.{TcpOptions}

-- how many bytes an option takes where it is kept
abbrev kept_room : OptionValue → ℕ
kept_room EndOfList = 0
kept_room NoOperation = 0
kept_room (MaxSegmentSize n) = 4
kept_room (WindowScale n) = 3
kept_room SackPermitted = 2
kept_room (SackRange ranges) = length (options_bytes (range_options ranges))
kept_room (TimeStamp tsval tsecr) = 10
kept_room (Unknown kind inner) = 0

-- ranges take no more bytes than they were read from
ranges-room : (inner : List ℕ) → length (options_bytes (range_options (ranges_of inner))) ≤ 2 + length inner
ranges-room inner =
    elim (leb_tells 8 (length inner)) [
      | inr none ↦ elim (leb_tells 16 (length inner)) [
        | inl two ↦ absurd (omega (arith, none.1, two.1))
        | inr not_two ↦ elim (leb_tells 24 (length inner)) [
          | inl three ↦ absurd (omega (arith, none.1, three.1))
          | inr not_three ↦ rw (none.0, not_two.0, not_three.0) (omega arith)
        ]
      ]
      | inl one ↦ elim (leb_tells 16 (length inner)) [
        | inr not_two ↦ elim (leb_tells 24 (length inner)) [
          | inl three ↦ absurd (omega (arith, not_two.1, three.1))
          | inr not_three ↦ rw (one.0, not_two.0, not_three.0) (omega (arith, one.1))
        ]
        | inl two ↦ elim (leb_tells 24 (length inner)) [
          | inl three ↦ rw (one.0, two.0, three.0) (omega (arith, three.1))
          | inr not_three ↦ rw (one.0, two.0, not_three.0) (omega (arith, two.1))
        ]
      ]
    ]

-- they are closed up
ranges-closed : (inner : List ℕ) → closed_up (ranges_of inner) ≡ ranges_of inner
ranges-closed inner =
    elim (leb_tells 8 (length inner)) [
      | inr none ↦ elim (leb_tells 16 (length inner)) [
        | inl two ↦ absurd (omega (arith, none.1, two.1))
        | inr not_two ↦ elim (leb_tells 24 (length inner)) [
          | inl three ↦ absurd (omega (arith, none.1, three.1))
          | inr not_three ↦ rw (none.0, not_two.0, not_three.0) refl
        ]
      ]
      | inl one ↦ elim (leb_tells 16 (length inner)) [
        | inr not_two ↦ elim (leb_tells 24 (length inner)) [
          | inl three ↦ absurd (omega (arith, not_two.1, three.1))
          | inr not_three ↦ rw (one.0, not_two.0, not_three.0) refl
        ]
        | inl two ↦ elim (leb_tells 24 (length inner)) [
          | inl three ↦ rw (one.0, two.0, three.0) refl
          | inr not_three ↦ rw (one.0, two.0, not_three.0) refl
        ]
      ]
    ]

-- an option takes no more bytes than those that spell it
front-room : (o : OptionValue) (front : List ℕ) → IsOption o front → kept_room o ≤ length front
front-room EndOfList front is = omega arith
front-room NoOperation front is = omega arith
front-room (MaxSegmentSize n) front is = let len = ap length is.1 in omega (arith, len, is.2)
front-room (WindowScale n) front is = let len = ap length is.1 in omega (arith, len, is.2)
front-room SackPermitted front is = let len = ap length is in omega (arith, len)
front-room (SackRange ranges) front is =
    let len = ap length is.1 in
    let same = ap (λ rs. length (options_bytes (range_options rs))) is.3 in
    omega (arith, len, same, ranges-room is.0)
front-room (TimeStamp tsval tsecr) front is = let len = ap length is.1 in omega (arith, len, is.2)
front-room (Unknown kind inner) front is = omega arith

-- one more option
taken-room : (v : TcpOptions) (o : OptionValue) → options_room (taken v o) ≤ options_room v + kept_room o
taken-room v EndOfList = omega arith
taken-room v NoOperation = omega arith
taken-room v (MaxSegmentSize n) = omega arith
taken-room v (WindowScale n) = omega arith
taken-room v SackPermitted = omega arith
taken-room v (SackRange ranges) = omega arith
taken-room v (TimeStamp tsval tsecr) = omega arith
taken-room v (Unknown kind inner) = omega arith

-- options that were read have room in the bytes that they were read from
Spells-room : (os : List OptionValue) (bytes : List ℕ) (v : TcpOptions) → Spells os bytes → options_room (all_taken v os) ≤ options_room v + length bytes
Spells-room [] bytes v s = omega arith
Spells-room (EndOfList ∷ os) bytes v s = let same = ap (λ q. options_room (all_taken v q)) s.2 in omega (arith, same)
Spells-room (o ∷ os) bytes v s =
    let begins = s.1 in
    let len = ap length begins.2 in
    let here = front-room o begins.0 begins.1 in
    let rest = Spells-room os s.0 (taken v o) s.2 in
    omega (arith, len, length-append begins.0 s.0, here, taken-room v o, rest)

pub Says-room : (bytes : List ℕ) (v : TcpOptions) → Says no_options bytes v → options_room v ≤ length bytes
Says-room bytes v says =
    let room = Spells-room says.0 bytes no_options says.1 in
    let same = ap options_room says.2 in
    omega (arith, room, same)

-- what was read stays so
taken-read : (v : TcpOptions) (o : OptionValue) (front : List ℕ) → IsOption o front → AreRead v → AreRead (taken v o)
taken-read v EndOfList front is before = before
taken-read v NoOperation front is before = before
taken-read v (MaxSegmentSize n) front is before = record { scale = before.scale; ranges = before.ranges }
taken-read v (WindowScale n) front is before = record { scale = ap Some (omega arith); ranges = before.ranges }
taken-read v SackPermitted front is before = record { scale = before.scale; ranges = before.ranges }
taken-read v (SackRange ranges) front is before = record { scale = before.scale; ranges = subst (λ rs. closed_up rs ≡ rs) (sym is.3) (ranges-closed is.0) }
taken-read v (TimeStamp tsval tsecr) front is before = record { scale = before.scale; ranges = before.ranges }
taken-read v (Unknown kind inner) front is before = before

Spells-read : (os : List OptionValue) (bytes : List ℕ) (v : TcpOptions) → Spells os bytes → AreRead v → AreRead (all_taken v os)
Spells-read [] bytes v s before = before
Spells-read (EndOfList ∷ os) bytes v s before = subst (λ q. AreRead (all_taken v q)) (sym s.2) before
Spells-read (o ∷ os) bytes v s before =
    let begins = s.1 in
    Spells-read os s.0 (taken v o) s.2 (taken-read v o begins.0 begins.1 before)

pub Says-read : (bytes : List ℕ) (v : TcpOptions) → Says no_options bytes v → AreRead v
Says-read bytes v says = subst AreRead (sym says.2) (Spells-read says.0 bytes no_options says.1 (record { scale = refl; ranges = refl }))
