-- A segment that was sent, read back.
use Rattle.std.proofs.Common.{◌≡◌, ℕ, ◌+◌, ◌-◌, ◌*◌, ◌/◌, ◌%◌, ◌<◌, ◌≤◌, ◌^◌, Bool, true, false, IsTrue, List, ◌++◌, length, replicate, refl, sym, ap, subst}
use Rattle.std.proofs.Common.{arith, length-append}
use Rattle.std.specs.Prelude.{Option, Some, None, ◌==◌, if◌then◌else◌}
use Rattle.std.specs.Int.{w32, to_be_bytes}
use Rattle.std.proofs.lemmas.List.{take_at, drop_at, length-replicate}
use Rattle.wire_address.proofs.Sums.{ChecksumHolds-complement}
use Rattle.wire_address.specs.Fields.{be32}
use Rattle.wire_address.specs.Sum.{word_sum, folded, ChecksumHolds}
use Rattle.wire_address.specs.declared.ip.IpAddress.{IpAddress}
use Rattle.wire_address.specs.declared.seq_number.SeqNumber.{SeqNumber}
use Rattle.wire_tcp.proofs.Sent.{Says-area}
use Rattle.wire_tcp.specs.Control.{control_of, control_bits}
use Rattle.wire_tcp.specs.Options.{Says, no_options, options_area, options_room, options_bytes, permitted_options, range_options, sack_options, size_options}
use Rattle.wire_tcp.specs.Options.{scale_options, timestamps_options, padded, sent_bytes, normal_options}
use Rattle.wire_address.specs.Pseudo.{covered}
use Rattle.wire_tcp.specs.Tcp.{IsTcp, IsChecked, IsValue, IsAck, spelling, fixed_fields, sent_fields, written, header_len_of, options_of, payload_of}
use Rattle.wire_tcp.specs.Tcp.{acknowledges, sent_ack, normal}
use Rattle.wire_tcp.specs.declared.control.TcpControl.{TcpControl}
use Rattle.wire_tcp.specs.declared.control.TcpControl.TheVariants as Control
use Rattle.wire_tcp.specs.declared.header.TcpHeader.{TcpHeader}
use Rattle.wire_tcp.specs.declared.option.TcpOptions.{TcpOptions}

-- the byte of the flags that is sent
abbrev flags_byte : TcpControl → Bool → ℕ
flags_byte control acks = control_bits control + (if acks then 16 else 0)

-- the flag is read back
control-read : (control : TcpControl) (acks : Bool)
    → control_of (flags_byte control acks / 2 % 2 == 1) (flags_byte control acks / 1 % 2 == 1) (flags_byte control acks / 4 % 2 == 1)
    (flags_byte control acks / 8 % 2 == 1) ≡ Some control
control-read Control.None true = refl
control-read Control.None false = refl
control-read Control.Psh true = refl
control-read Control.Psh false = refl
control-read Control.Syn true = refl
control-read Control.Syn false = refl
control-read Control.Fin true = refl
control-read Control.Fin false = refl
control-read Control.Rst true = refl
control-read Control.Rst false = refl

-- so is whether the segment acknowledges
acks-read : (control : TcpControl) (acks : Bool) → (flags_byte control acks / 16 % 2 == 1) ≡ acks
acks-read Control.None true = refl
acks-read Control.None false = refl
acks-read Control.Psh true = refl
acks-read Control.Psh false = refl
acks-read Control.Syn true = refl
acks-read Control.Syn false = refl
acks-read Control.Fin true = refl
acks-read Control.Fin false = refl
acks-read Control.Rst true = refl
acks-read Control.Rst false = refl

-- and the number
number : ℕ → SeqNumber
number n = record { 0 = n }

number-read : (n : SeqNumber) → n.0 < 2 ^ 32 → n ≡ record { 0 = be32 (to_be_bytes w32 n.0) 0 }
unfolding number
number-read n small =
    let same : n.0 ≡ be32 (to_be_bytes w32 n.0) 0 = omega (arith, small) in
    ap number same

ack-read : (ack : Option SeqNumber) (set : Bool) → set ≡ acknowledges ack → IsAck ack →
    ack ≡ (if set then Some (record { 0 = be32 (to_be_bytes w32 (sent_ack ack)) 0 }) else None)
ack-read None set is small = rw is refl
ack-read (Some n) set is small = rw is (ap Some (number-read n small))

-- the options that are sent have the room that is made for them
sack-room : (permitted acks : Bool) (ranges : List (Option (ℕ × ℕ)))
    → length (options_bytes (sack_options permitted acks ranges)) ≤ length (options_bytes (permitted_options permitted)) +
    length (options_bytes (range_options ranges))
sack-room true acks ranges = omega arith
sack-room false true ranges = omega arith
sack-room false false ranges = omega arith

room-padded : (n : ℕ) → n ≤ padded n
room-padded n = omega arith

pub length-options_area : (acks : Bool) (v : TcpOptions) → length (options_area acks v) ≡ padded (options_room v)
length-options_area acks v =
    let a : List ℕ = options_bytes (size_options v.max_seg_size) in
    let b : List ℕ = options_bytes (scale_options v.window_scale) in
    let c : List ℕ = options_bytes (sack_options v.sack_permitted acks v.sack_ranges) in
    let d : List ℕ = options_bytes (timestamps_options v.timestamp) in
    let sack = sack-room v.sack_permitted acks v.sack_ranges in
    let sent : length (sent_bytes acks v) ≤ options_room v = omega (arith, sack, length-append a b, length-append (a ++ b) c, length-append (a ++ b ++ c) d) in
    let all = length-append (sent_bytes acks v) (replicate (padded (options_room v) - length (sent_bytes acks v)) 0) in
    let zeros = length-replicate {A = ℕ} (padded (options_room v) - length (sent_bytes acks v)) 0 in
    omega (arith, all, zeros, sent, room-padded (options_room v))

-- the header's length is read back
len-read : (n : ℕ) → 4 * ((20 + padded n) / 4 * 16 / 16) ≡ 20 + padded n
len-read n = omega arith

-- a number in the checksum field adds itself to the word sum
word_sum-check : (v : TcpHeader) (payload : List ℕ) (check : ℕ) → check < 65536 → word_sum (spelling v check payload) ≡ word_sum (spelling v 0 payload) + check
word_sum-check v payload check small = omega arith

-- a segment whose checksum was written holds it
IsChecked-written : (source destination : IpAddress) (v : TcpHeader) (payload : List ℕ) →
    IsChecked source destination (written source destination true v payload)
IsChecked-written source destination v payload =
    let total : ℕ = covered source destination 6 (spelling v 0 payload) in
    let sums : word_sum (spelling v (65535 - folded total) payload) ≡ word_sum (spelling v 0 payload) + (65535 - folded total) =
    word_sum-check v payload (65535 - folded total) (omega arith) in
    let same : covered source destination 6 (written source destination true v payload) ≡ total + (65535 - folded total) = omega (arith, sums) in
    subst ChecksumHolds (sym same) (ChecksumHolds-complement total)

-- a segment that was written up to its checksum is read back
IsTcp-spelling : (source destination : IpAddress) (tested : Bool) (v : TcpHeader) (payload : List ℕ) (check : ℕ) → IsValue v
    → (IsTrue tested → IsChecked source destination (spelling v check payload)) → IsTcp source destination tested (spelling v check payload) (normal v)
IsTcp-spelling source destination tested v payload check value holds =
    let acks : Bool = acknowledges v.ack_number in
    let area : List ℕ = options_area acks v.options in
    let len : length area ≡ padded (options_room v.options) = length-options_area acks v.options in
    let head : header_len_of (spelling v check payload) ≡ 20 + padded (options_room v.options) = len-read (options_room v.options) in
    let following = length-append area payload in
    let apart : area ≡ options_of (spelling v check payload) =
    sym (take_at area payload (header_len_of (spelling v check payload) - 20) (omega (arith, head, len))) in
    record {
      whole = record { fixed = omega arith; least = omega (arith, head); within = omega (arith, head, len, following) };
      source_port = omega (arith, value.source_port);
      destination_port = omega (arith, value.destination_port);
      source_accepted = λ none. value.source_accepted (omega (arith, none, value.source_port));
      destination_accepted = λ none. value.destination_accepted (omega (arith, none, value.destination_port));
      checked = holds;
      control = control-read v.control acks;
      sequence = number-read v.seq_number value.sequence;
      acknowledgement = ack-read v.ack_number (flags_byte v.control acks / 16 % 2 == 1) (acks-read v.control acks) value.acknowledgement;
      window = omega (arith, value.window);
      options = subst (λ xs. Says no_options xs (normal_options acks v.options)) apart (Says-area acks v.options value.options);
    }

-- a segment that was sent is read back in its canonical form
pub IsTcp-written : (source destination : IpAddress) (tested sealed : Bool) (v : TcpHeader) (payload : List ℕ) → IsValue v → (IsTrue tested → IsTrue sealed)
    → IsTcp source destination tested (written source destination sealed v payload) (normal v)
IsTcp-written source destination tested false v payload value both = IsTcp-spelling source destination tested v payload 0 value (λ t. absurd (cc (both t)))
IsTcp-written source destination tested true v payload value both =
    IsTcp-spelling source destination tested v payload (65535 - folded (covered source destination 6 (spelling v 0 payload))) value
    (λ _. IsChecked-written source destination v payload)

-- what it carries is the payload
payload_of-spelling : (v : TcpHeader) (payload : List ℕ) (check : ℕ) → payload_of (spelling v check payload) ≡ payload
payload_of-spelling v payload check =
    let acks : Bool = acknowledges v.ack_number in
    let area : List ℕ = options_area acks v.options in
    let len : length area ≡ padded (options_room v.options) = length-options_area acks v.options in
    let head : header_len_of (spelling v check payload) ≡ 20 + padded (options_room v.options) = len-read (options_room v.options) in
    drop_at (fixed_fields v (sent_fields v check) ++ area) payload (header_len_of (spelling v check payload)) (omega (arith, head, len))

pub payload_of-written : (source destination : IpAddress) (sealed : Bool) (v : TcpHeader) (payload : List ℕ) →
    payload_of (written source destination sealed v payload) ≡ payload
payload_of-written source destination false v payload = payload_of-spelling v payload 0
payload_of-written source destination true v payload = payload_of-spelling v payload (65535 - folded (covered source destination 6 (spelling v 0 payload)))
