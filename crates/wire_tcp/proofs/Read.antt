-- Segments that were read.
use Rattle.std.proofs.Common.{◌≡◌, ℕ, ◌+◌, ◌-◌, ◌<◌, ◌≤◌, ◌^◌, Bool, true, false, List, [], ◌∷◌, ◌++◌, length, take, drop, refl, sym, ◌∙◌, ap, arith}
use Rattle.std.proofs.Common.{length-take, length-drop}
use Rattle.std.specs.Prelude.{Option, Some, None}
use Rattle.wire_address.specs.Address.{version_of}
use Rattle.wire_address.specs.Fields.{IsBytes}
use Rattle.wire_address.specs.declared.ip.IpAddress.{IpAddress}
use Rattle.wire_tcp.proofs.Grammar.{first_option-spelled}
use Rattle.wire_tcp.proofs.Headers.{header-same}
use Rattle.wire_tcp.proofs.Kept.{Says-room}
use Rattle.wire_tcp.proofs.Steps.{Says-empty, Says-end, Says-step}
use Rattle.wire_tcp.specs.Options.{OptionValue, EndOfList, Spells, Says, taken, all_taken, no_options, no_ranges, present, closed_up, sent_ranges, read_scale}
use Rattle.wire_tcp.specs.Options.{AreRead}
use Rattle.wire_tcp.specs.Tcp.{IsTcp, IsWhole, Fits, header_len, header_len_of, options_of, payload_of, acknowledges, normal}
use Rattle.wire_tcp.specs.declared.header.TcpHeader.{TcpHeader}
use Rattle.wire_tcp.specs.declared.option.TcpOptions.{TcpOptions}

-- the option bytes are as long as the header's length says
pub options_of-length : (bytes : List ℕ) → IsWhole bytes → 20 + length (options_of bytes) ≡ header_len_of bytes
options_of-length bytes whole =
    omega (arith, whole.fixed, whole.least, whole.within, length-take (header_len_of bytes - 20) (drop 20 bytes), length-drop 20 bytes)

-- a header that was read grows no longer
pub header-no_longer : (source destination : IpAddress) (tested : Bool) (bytes : List ℕ) (v : TcpHeader) → IsTcp source destination tested bytes v →
    header_len v ≤ header_len_of bytes
header-no_longer source destination tested bytes v is =
    let room = Says-room (options_of bytes) v.options is.options in
    let len = options_of-length bytes is.whole in
    omega (arith, room, len)

-- nor does its segment
pub segment-no_longer : (source destination : IpAddress) (tested : Bool) (bytes : List ℕ) (v : TcpHeader) → IsTcp source destination tested bytes v →
    header_len v + length (payload_of bytes) ≤ length bytes
segment-no_longer source destination tested bytes v is =
    let whole : IsWhole bytes = is.whole in
    let header = header-no_longer source destination tested bytes v is in
    omega (arith, header, whole.within, length-drop (header_len_of bytes) bytes)

-- it fits what can be sent
pub Fits-read : (source destination : IpAddress) (tested : Bool) (bytes : List ℕ) (v : TcpHeader) → IsBytes bytes → length bytes < 2 ^ 16 →
    version_of source ≡ version_of destination
    → IsTcp source destination tested bytes v → Fits source destination v (payload_of bytes)
Fits-read source destination tested bytes v small short family is =
    let header = header-no_longer source destination tested bytes v is in
    let segment = segment-no_longer source destination tested bytes v is in
    let byte = small 12 in
    record { header = omega (arith, header, byte); all = omega (arith, segment, short); family = family }

-- bytes hold one value of options
Spells-one : (os : List OptionValue) (bytes : List ℕ) (v w : TcpOptions) → Spells os bytes → Says v bytes w → all_taken v os ≡ w
Spells-one [] bytes v w s says = Says-empty v w bytes (let len = ap length s in omega (arith, len)) says
Spells-one (EndOfList ∷ os) bytes v w s says =
    ap (all_taken v) s.2 ∙ (Says-end v w bytes EndOfList s.0 ((first_option-spelled bytes s.0 EndOfList).1 s.1) refl).1 says
Spells-one (o ∷ os) bytes v w s says = Spells-one os s.0 (taken v o) w s.2 ((Says-step v w bytes o s.0 ((first_option-spelled bytes s.0 o).1 s.1) refl).1 says)

Says-one : (bytes : List ℕ) (v w : TcpOptions) → Says no_options bytes v → Says no_options bytes w → v ≡ w
Says-one bytes v w says other = says.2 ∙ Spells-one says.0 bytes no_options w says.1 other

-- and one header
pub IsTcp-one : (source destination : IpAddress) (tested : Bool) (bytes : List ℕ) (v w : TcpHeader) → IsTcp source destination tested bytes v →
    IsTcp source destination tested bytes w → v ≡ w
IsTcp-one source destination tested bytes v w is other =
    let control : v.control ≡ w.control = let first = is.control in let second = other.control in cc (first, second) in
    header-same v.src_port v.dst_port v.window_len v.control v.seq_number v.ack_number v.options w
    (is.source_port ∙ sym other.source_port)
    (is.destination_port ∙ sym other.destination_port)
    control
    (is.sequence ∙ sym other.sequence)
    (is.acknowledgement ∙ sym other.acknowledgement)
    (is.window ∙ sym other.window)
    (Says-one (options_of bytes) v.options w.options is.options other.options)

-- each of these is there
abbrev AreThere : List (Option (ℕ × ℕ)) → Type 0
AreThere [] = Unit {0}
AreThere (None ∷ ranges) = ⊥
AreThere (Some range ∷ ranges) = AreThere ranges

AreThere-present : (ranges : List (Option (ℕ × ℕ))) → AreThere (present ranges)
AreThere-present [] = tt
AreThere-present (None ∷ ranges) = AreThere-present ranges
AreThere-present (Some range ∷ ranges) = AreThere-present ranges

-- ranges that are closed up stay so
closed_up-there : (ranges : List (Option (ℕ × ℕ))) → AreThere ranges → closed_up (take 3 (ranges ++ no_ranges)) ≡ take 3 (ranges ++ no_ranges)
closed_up-there [] there = refl
closed_up-there (Some a ∷ []) there = refl
closed_up-there (Some a ∷ Some b ∷ []) there = refl
closed_up-there (Some a ∷ Some b ∷ Some c ∷ ranges) there = refl
closed_up-there _ there = absurd there

closed_up-closed_up : (ranges : List (Option (ℕ × ℕ))) → closed_up (closed_up ranges) ≡ closed_up ranges
closed_up-closed_up ranges = closed_up-there (present ranges) (AreThere-present ranges)

sent_ranges-sent_ranges : (permitted acks : Bool) (ranges : List (Option (ℕ × ℕ))) →
    sent_ranges permitted acks (sent_ranges permitted acks ranges) ≡ sent_ranges permitted acks ranges
sent_ranges-sent_ranges true acks ranges = refl
sent_ranges-sent_ranges false true ranges = closed_up-closed_up ranges
sent_ranges-sent_ranges false false ranges = refl

read_scale-read_scale : (scale : Option ℕ) → read_scale (read_scale scale) ≡ read_scale scale
read_scale-read_scale None = refl
read_scale-read_scale (Some n) = ap Some (omega arith)

-- a canonical form is normal
pub normal-normal : (v : TcpHeader) → normal (normal v) ≡ normal v
normal-normal v =
    rw (read_scale-read_scale v.options.window_scale, sent_ranges-sent_ranges v.options.sack_permitted (acknowledges v.ack_number) v.options.sack_ranges) refl

-- what was read is normal but for ranges that aren't sent
pub normal-read : (v : TcpHeader) → AreRead v.options → sent_ranges v.options.sack_permitted (acknowledges v.ack_number) v.options.sack_ranges ≡
    v.options.sack_ranges → normal v ≡ v
normal-read v read kept = rw (read.scale, kept) refl
