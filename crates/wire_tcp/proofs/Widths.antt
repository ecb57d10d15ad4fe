-- Numbers that were read have the widths of their fields.
use Rattle.std.proofs.Common.{◌≡◌, ℕ, ◌+◌, ◌-◌, ◌<◌, ◌≤◌, ◌^◌, zero, suc, Bool, true, false, List, [], ◌∷◌, ◌++◌, length, take, drop, refl, sym, ◌∙◌, ap, subst}
use Rattle.std.proofs.Common.{arith, inl, inr}
use Rattle.std.specs.Prelude.{Some, None, slice_index, slice_range, if◌then◌else◌}
use Rattle.std.proofs.Math.ListN.{get_or-append}
use Rattle.std.proofs.lemmas.List.{get_or-append-add, take-append-drop}
use Rattle.std.proofs.lemmas.Bool.Decides.{leb_tells}
use Rattle.wire_address.specs.Fields.{be16, be32, IsBytes}
use Rattle.wire_address.specs.declared.ip.IpAddress.{IpAddress}
use Rattle.wire_address.specs.declared.seq_number.SeqNumber.{SeqNumber}
use Rattle.wire_tcp.specs.Options.{OptionValue, EndOfList, NoOperation, MaxSegmentSize, WindowScale, SackPermitted, SackRange, TimeStamp, Unknown, range_at}
use Rattle.wire_tcp.specs.Options.{long_option, IsOption, Spells, Says, taken, all_taken, no_options, IsRange, AreRanges, AreOptions, IsOptionValue}
use Rattle.wire_tcp.specs.Tcp.{IsTcp, IsValue, IsAck, options_of, header_len_of}
use Rattle.wire_tcp.specs.declared.header.TcpHeader.{TcpHeader}
use Rattle.wire_tcp.specs.declared.option.TcpOptions.{TcpOptions}

-- parts of bytes are bytes
IsBytes-back : (front back : List ℕ) → IsBytes (front ++ back) → IsBytes back
IsBytes-back front back small i = subst (λ n. n < 256) (get_or-append-add front back i 0) (small (length front + i))

past : (bytes : List ℕ) (i : ℕ) → length bytes ≤ i → slice_index bytes i ≡ 0
past [] i le = refl
past (b ∷ bytes) zero le = absurd (omega arith)
past (b ∷ bytes) (suc i) le = past bytes i (omega arith)

IsBytes-front : (front back : List ℕ) → IsBytes (front ++ back) → IsBytes front
IsBytes-front front back small i =
    elim (leb_tells (suc i) (length front)) [
      | inl inside ↦ subst (λ n. n < 256) (get_or-append front back 0 i (omega (arith, inside.1))) (small i)
      | inr outside ↦ let none = past front i (omega (arith, outside.1)) in omega (arith, none)
    ]

IsBytes-inner : (kind : ℕ) (inner front : List ℕ) → front ≡ long_option kind inner → IsBytes front → IsBytes inner
IsBytes-inner kind inner front is small i = subst (λ xs. slice_index xs (suc (suc i)) < 256) is (small (suc (suc i)))

IsBytes-slice_range : (bytes : List ℕ) (i k : ℕ) → IsBytes bytes → IsBytes (slice_range bytes i k)
IsBytes-slice_range bytes i k small =
    IsBytes-front (take (k - i) (drop i bytes)) (drop (k - i) (drop i bytes)) (
    subst IsBytes (sym (take-append-drop (k - i) (drop i bytes))) (
    IsBytes-back (take i bytes) (drop i bytes) (subst IsBytes (sym (take-append-drop i bytes)) small)
    )
    )

-- numbers of two and four bytes
be16-small : (bytes : List ℕ) (i : ℕ) → IsBytes bytes → be16 bytes i < 2 ^ 16
be16-small bytes i small = let high = small i in let low = small (i + 1) in omega (arith, high, low)

be32-small : (bytes : List ℕ) (i : ℕ) → IsBytes bytes → be32 bytes i < 2 ^ 32
be32-small bytes i small = let high = be16-small bytes i small in let low = be16-small bytes (i + 2) small in omega (arith, high, low)

-- the numbers of an option
IsRange-read : (inner : List ℕ) (i : ℕ) → IsBytes inner → IsRange (range_at inner i)
IsRange-read inner i small =
    elim (leb_tells (i + 8) (length inner)) [
      | inl hit ↦ rw hit.0 (be32-small inner i small, be32-small inner (i + 4) small)
      | inr miss ↦ rw miss.0 tt
    ]

IsOptionValue-read : (o : OptionValue) (front : List ℕ) → IsOption o front → IsBytes front → IsOptionValue o
IsOptionValue-read EndOfList front is small = tt
IsOptionValue-read NoOperation front is small = tt
IsOptionValue-read (MaxSegmentSize n) front is small = let width = be16-small is.0 0 (IsBytes-inner 2 is.0 front is.1 small) in let number =
    is.3 in omega (arith, width, number)
IsOptionValue-read (WindowScale n) front is small = let width = IsBytes-inner 3 is.0 front is.1 small 0 in let number = is.3 in omega (arith, width, number)
IsOptionValue-read SackPermitted front is small = tt
IsOptionValue-read (SackRange ranges) front is small =
    let bytes = IsBytes-inner 5 is.0 front is.1 small in
    subst AreRanges (sym is.3) (IsRange-read is.0 0 bytes, IsRange-read is.0 8 bytes, IsRange-read is.0 16 bytes)
IsOptionValue-read (TimeStamp tsval tsecr) front is small =
    let bytes = IsBytes-inner 8 is.0 front is.1 small in
    let first = be32-small is.0 0 bytes in
    let second = be32-small is.0 4 bytes in
    let value = is.3 in
    let echo = is.4 in
    (omega (arith, first, value), omega (arith, second, echo))
IsOptionValue-read (Unknown kind inner) front is small = is.1

AreOptions-taken : (v : TcpOptions) (o : OptionValue) → IsOptionValue o → AreOptions v → AreOptions (taken v o)
AreOptions-taken v EndOfList widths before = before
AreOptions-taken v NoOperation widths before = before
AreOptions-taken v (MaxSegmentSize n) widths before = record { size = widths; scale = before.scale; ranges = before.ranges; stamp = before.stamp }
AreOptions-taken v (WindowScale n) widths before = record { size = before.size; scale = omega arith; ranges = before.ranges; stamp = before.stamp }
AreOptions-taken v SackPermitted widths before = record { size = before.size; scale = before.scale; ranges = before.ranges; stamp = before.stamp }
AreOptions-taken v (SackRange ranges) widths before = record { size = before.size; scale = before.scale; ranges = widths; stamp = before.stamp }
AreOptions-taken v (TimeStamp tsval tsecr) widths before = record { size = before.size; scale = before.scale; ranges = before.ranges; stamp = widths }
AreOptions-taken v (Unknown kind inner) widths before = before

Spells-widths : (os : List OptionValue) (bytes : List ℕ) (v : TcpOptions) → IsBytes bytes → Spells os bytes → AreOptions v → AreOptions (all_taken v os)
Spells-widths [] bytes v small s before = before
Spells-widths (EndOfList ∷ os) bytes v small s before = subst (λ q. AreOptions (all_taken v q)) (sym s.2) before
Spells-widths (o ∷ os) bytes v small s before =
    let begins = s.1 in
    let parts : IsBytes (begins.0 ++ s.0) = subst IsBytes begins.2 small in
    Spells-widths os s.0 (taken v o) (IsBytes-back begins.0 s.0 parts) s.2
    (AreOptions-taken v o (IsOptionValue-read o begins.0 begins.1 (IsBytes-front begins.0 s.0 parts)) before)

Says-widths : (bytes : List ℕ) (v : TcpOptions) → IsBytes bytes → Says no_options bytes v → AreOptions v
Says-widths bytes v small says =
    subst AreOptions (sym says.2) (Spells-widths says.0 bytes no_options small says.1 (record { size = tt; scale = tt; ranges = (tt, tt, tt); stamp = tt }))

-- an acknowledgement number
IsAck-read : (set : Bool) (n : ℕ) → n < 2 ^ 32 → IsAck (if set then Some (record { 0 = n }) else None)
IsAck-read true n small = small
IsAck-read false n small = tt

-- what was read has fields of their widths
pub IsValue-read : (source destination : IpAddress) (tested : Bool) (bytes : List ℕ) (v : TcpHeader) → IsBytes bytes →
    IsTcp source destination tested bytes v → IsValue v
IsValue-read source destination tested bytes v small is =
    let sequence = ap (λ (n : SeqNumber). n.0) is.sequence in
    record {
      source_port = let width = be16-small bytes 0 small in omega (arith, width, is.source_port);
      destination_port = let width = be16-small bytes 2 small in omega (arith, width, is.destination_port);
      source_accepted = λ none. is.source_accepted (sym is.source_port ∙ none);
      destination_accepted = λ none. is.destination_accepted (sym is.destination_port ∙ none);
      sequence = let width = be32-small bytes 4 small in omega (arith, width, sequence);
      acknowledgement = subst IsAck (sym is.acknowledgement) (IsAck-read _ (be32 bytes 8) (be32-small bytes 8 small));
      window = let width = be16-small bytes 14 small in omega (arith, width, is.window);
      options = Says-widths (options_of bytes) v.options (IsBytes-slice_range bytes 20 (header_len_of bytes) small) is.options;
    }
