-- Segments and the bytes that spell them.
use Rattle.std.proofs.Common.{◌≡◌, ℕ, ◌+◌, ◌-◌, ◌*◌, ◌/◌, ◌%◌, ◌<◌, ◌≤◌, Bool, true, false, List, ◌∷◌, ◌++◌, length, take, drop, refl, sym, ◌∙◌, ap, subst}
use Rattle.std.proofs.Common.{arith, inl, inr}
use Rattle.std.specs.Prelude.{Some, None, slice_index, ◌==◌, if◌then◌else◌}
use Rattle.std.specs.Int.{w16, w32, to_be_bytes}
use Rattle.std.proofs.lemmas.Bool.Decides.{eqb_tells}
use Rattle.std.proofs.lemmas.List.{drop-drop, take-append-drop}
use Rattle.wire_address.specs.Fields.{be16, be32, IsBytes}
use Rattle.wire_address.specs.declared.ip.IpAddress.{IpAddress}
use Rattle.wire_address.specs.declared.seq_number.SeqNumber.{SeqNumber}
use Rattle.wire_tcp.proofs.Read.{options_of-length}
use Rattle.wire_tcp.specs.Control.{control_of, control_bits, is_quiet}
use Rattle.wire_tcp.specs.Tcp.{IsTcp, IsWhole, fixed_fields, read_fields, ack_field, unread_flags, sent_flags, acknowledges, count_of, flag, header_len_of}
use Rattle.wire_tcp.specs.Tcp.{options_of, payload_of}
use Rattle.wire_tcp.specs.declared.control.TcpControl.{TcpControl}
use Rattle.wire_tcp.specs.declared.control.TcpControl.TheVariants as Control
use Rattle.wire_tcp.specs.declared.header.TcpHeader.{TcpHeader}

-- the bytes of numbers
high : (a b : ℕ) → a < 256 → b < 256 → (256 * a + b) / 256 % 256 ≡ a
high a b first second = omega arith

low : (a b : ℕ) → b < 256 → (256 * a + b) % 256 ≡ b
low a b second = omega arith

first : (a b c d : ℕ) → a < 256 → b < 256 → c < 256 → d < 256 → (65536 * (256 * a + b) + (256 * c + d)) / 16777216 % 256 ≡ a
first a b c d one two three four = omega arith

second : (a b c d : ℕ) → a < 256 → b < 256 → c < 256 → d < 256 → (65536 * (256 * a + b) + (256 * c + d)) / 65536 % 256 ≡ b
second a b c d one two three four = omega arith

third : (a b c d : ℕ) → c < 256 → d < 256 → (65536 * (256 * a + b) + (256 * c + d)) / 256 % 256 ≡ c
third a b c d three four = omega arith

fourth : (a b c d : ℕ) → d < 256 → (65536 * (256 * a + b) + (256 * c + d)) % 256 ≡ d
fourth a b c d four = omega arith

-- the fixed fields from the numbers that stand in them
abbrev raw_fields : List ℕ → List ℕ
raw_fields bytes =
    to_be_bytes w16 (be16 bytes 0) ++
    (to_be_bytes w16 (be16 bytes 2) ++
    (to_be_bytes w32 (be32 bytes 4) ++
    (to_be_bytes w32 (be32 bytes 8) ++
    (slice_index bytes 12 ∷ slice_index bytes 13 ∷
    (to_be_bytes w16 (be16 bytes 14) ++ (to_be_bytes w16 (be16 bytes 16) ++ to_be_bytes w16 (be16 bytes 18)))))))

raw_fields-take : (bytes : List ℕ) → IsBytes bytes → 20 ≤ length bytes → raw_fields bytes ≡ take 20 bytes
raw_fields-take (a ∷ b ∷ c ∷ d ∷ e ∷ f ∷ g ∷ h ∷ i ∷ j ∷ k ∷ l ∷ m ∷ n ∷ o ∷ p ∷ q ∷ r ∷ s ∷ t ∷ rest) small room =
    rw (
      high a b (small 0) (small 1),
      low a b (small 1),
      high c d (small 2) (small 3),
      low c d (small 3),
      first e f g h (small 4) (small 5) (small 6) (small 7),
      second e f g h (small 4) (small 5) (small 6) (small 7),
      third e f g h (small 6) (small 7),
      fourth e f g h (small 7),
      first i j k l (small 8) (small 9) (small 10) (small 11),
      second i j k l (small 8) (small 9) (small 10) (small 11),
      third i j k l (small 10) (small 11),
      fourth i j k l (small 11),
      high o p (small 14) (small 15),
      low o p (small 15),
      high q r (small 16) (small 17),
      low q r (small 17),
      high s t (small 18) (small 19),
      low s t (small 19),
    )
    refl
raw_fields-take _ small room = absurd (omega arith)

-- fields with these numbers
fields-same : (source destination sequence ack byte flags window : ℕ) (bytes : List ℕ) → source ≡ be16 bytes 0 → destination ≡ be16 bytes 2 →
    sequence ≡ be32 bytes 4 → ack ≡ be32 bytes 8 → byte ≡ slice_index bytes 12 → flags ≡ slice_index bytes 13 → window ≡ be16 bytes 14
    → to_be_bytes w16 source ++
    (to_be_bytes w16 destination ++
    (to_be_bytes w32 sequence ++
    (to_be_bytes w32 ack ++ (byte ∷ flags ∷ (to_be_bytes w16 window ++ (to_be_bytes w16 (be16 bytes 16) ++ to_be_bytes w16 (be16 bytes 18))))))) ≡
    raw_fields bytes
fields-same source destination sequence ack byte flags window bytes a b c d e f g = rw (a, b, c, d, e, f, g) refl

-- a bit counts as it is set
bit : (n : ℕ) → n % 2 ≡ count_of (n % 2 == 1)
bit n = elim (eqb_tells (n % 2) 1) [ inl hit ↦ rw hit.0 hit.1 | inr miss ↦ rw miss.0 (omega (arith, miss.1)) ]

-- the weights of the flags that were read
abbrev pushed : TcpControl → ℕ → ℕ
pushed control psh = if is_quiet control then 0 else 8 * psh

control-weights : (syn fin rst psh : Bool) (control : TcpControl) → control_of syn fin rst psh ≡ Some control
    → control_bits control + pushed control (count_of psh) ≡ count_of fin + 2 * count_of syn + 4 * count_of rst + 8 * count_of psh
control-weights false false false false control is = let same : Control.None ≡ control = cc in subst (λ k. control_bits k + pushed k 0 ≡ 0) same refl
control-weights false false false true control is = let same : Control.Psh ≡ control = cc in subst (λ k. control_bits k + pushed k 1 ≡ 8) same refl
control-weights true false false psh control is = let same : Control.Syn ≡ control =
    cc in subst (λ k. control_bits k + pushed k (count_of psh) ≡ 2 + 8 * count_of psh) same refl
control-weights false true false psh control is = let same : Control.Fin ≡ control =
    cc in subst (λ k. control_bits k + pushed k (count_of psh) ≡ 1 + 8 * count_of psh) same refl
control-weights false false true psh control is = let same : Control.Rst ≡ control =
    cc in subst (λ k. control_bits k + pushed k (count_of psh) ≡ 4 + 8 * count_of psh) same refl
control-weights true true rst psh control is = absurd (cc is)
control-weights true false true psh control is = absurd (cc is)
control-weights false true true psh control is = absurd (cc is)

ack-weight : (n : ℕ) → (if n % 2 == 1 then 16 else 0) ≡ 16 * (n % 2)
ack-weight n = elim (eqb_tells (n % 2) 1) [ inl hit ↦ rw hit.0 (omega (arith, hit.1)) | inr miss ↦ rw miss.0 (omega (arith, miss.1)) ]

-- the flags that are kept and the others are all
flags-read : (flags : ℕ) (control : TcpControl) (acks : Bool) → control_of (flags / 2 % 2 == 1) (flags / 1 % 2 == 1) (flags / 4 % 2 == 1) (flags / 8 % 2 == 1) ≡
    Some control → acks ≡ (flags / 16 % 2 == 1)
    → control_bits control + (if acks then 16 else 0) + unread_flags control flags ≡ flags
flags-read flags control acks is set =
    let weights = control-weights (flags / 2 % 2 == 1) (flags / 1 % 2 == 1) (flags / 4 % 2 == 1) (flags / 8 % 2 == 1) control is in
    let push : pushed control (flags / 8 % 2) ≡ pushed control (count_of (flags / 8 % 2 == 1)) = ap (pushed control) (bit (flags / 8)) in
    let ack : (if acks then 16 else 0) ≡ 16 * (flags / 16 % 2) = rw set (ack-weight (flags / 16)) in
    omega (arith, weights, push, ack, bit (flags / 1), bit (flags / 2), bit (flags / 4), bit (flags / 8))

-- the field of the acknowledgement number
ack_field-read : (set : Bool) (n : ℕ) → ack_field (if set then Some (record { 0 = n }) else None) n ≡ n
ack_field-read true n = refl
ack_field-read false n = refl

acknowledges-read : (set : Bool) (n : ℕ) → acknowledges (if set then Some (record { 0 = n }) else None) ≡ set
acknowledges-read true n = refl
acknowledges-read false n = refl

-- a segment is spelled by its header, with what a value doesn't keep, its options and its payload
pub bytes-spelled : (source destination : IpAddress) (tested : Bool) (bytes : List ℕ) (v : TcpHeader) → IsBytes bytes → IsTcp source destination tested bytes v
    → bytes ≡ fixed_fields v (read_fields v bytes) ++ (options_of bytes ++ payload_of bytes)
bytes-spelled source destination tested bytes v small is =
    let whole : IsWhole bytes = is.whole in
    let len = options_of-length bytes whole in
    let ack : ack_field v.ack_number (be32 bytes 8) ≡ be32 bytes 8 = ap (λ n. ack_field n (be32 bytes 8)) is.acknowledgement ∙
    ack_field-read (flag bytes 13 16) (be32 bytes 8) in
    let acks : acknowledges v.ack_number ≡ flag bytes 13 16 = ap acknowledges is.acknowledgement ∙ acknowledges-read (flag bytes 13 16) (be32 bytes 8) in
    let flags : sent_flags v + unread_flags v.control (slice_index bytes 13) ≡ slice_index bytes 13 =
    flags-read (slice_index bytes 13) v.control (acknowledges v.ack_number) is.control acks in
    let byte : (20 + length (options_of bytes)) / 4 * 16 + slice_index bytes 12 % 16 ≡ slice_index bytes 12 = omega (arith, len) in
    let sequence = ap (λ (n : SeqNumber). n.0) is.sequence in
    let fixed : fixed_fields v (read_fields v bytes) ≡ raw_fields bytes =
    fields-same v.src_port v.dst_port v.seq_number.0 _ _ _ v.window_len bytes is.source_port is.destination_port sequence ack byte flags is.window in
    let front : fixed_fields v (read_fields v bytes) ≡ take 20 bytes = fixed ∙ raw_fields-take bytes small whole.fixed in
    let offset : 20 + (header_len_of bytes - 20) ≡ header_len_of bytes = omega (arith, whole.least) in
    let payload : drop (header_len_of bytes - 20) (drop 20 bytes) ≡ payload_of bytes = drop-drop (header_len_of bytes - 20) 20 bytes ∙
    ap (λ k. drop k bytes) offset in
    let following : options_of bytes ++ payload_of bytes ≡ drop 20 bytes = ap (λ xs. options_of bytes ++ xs) (sym payload) ∙
    take-append-drop (header_len_of bytes - 20) (drop 20 bytes) in
    sym (ap (λ xs. xs ++ (options_of bytes ++ payload_of bytes)) front ∙ ap (λ xs. take 20 bytes ++ xs) following ∙ take-append-drop 20 bytes)
