-- What was set in a part of a field is read there.
use Rattle.std.proofs.Common.{◌≡◌, ℕ, ◌+◌, ◌-◌, ◌*◌, ◌/◌, ◌%◌, ◌<◌, ◌≤◌, ◌^◌, ◌==◌, Bool, true, false, List, ◌++◌, length, take, drop, refl, ◌∙◌, ap, arith}
use Rattle.std.specs.Prelude.{slice_index, slice_range}
use Rattle.std.proofs.lemmas.List.{get_or-set_same, get_or-set_other, take_at, drop_at}
use Rattle.std.proofs.lemmas.List.{length-take}
use Rattle.std.proofs.Math.ListN.{set, length-set}
use Rattle.wire_address.specs.Fields.{be16, put8, put16, with_flag}
use Rattle.wire_address.specs.Protocol.{protocol_number, protocol_of}
use Rattle.wire_address.specs.declared.ip.IpProtocol.{IpProtocol}
use Rattle.wire_ip.specs.Ipv4.{header_len_of}
use Rattle.wire_ip.specs.Parts.{put_run, has_flag}

-- the byte at a place where one was put
byte : (bytes : List ℕ) (i n : ℕ) → i < length bytes → slice_index (put8 bytes i n) i ≡ n
byte bytes i n room = get_or-set_same bytes i n 0 room

-- the number at a place where one was put, its last 16 bits
word : (bytes : List ℕ) (i n : ℕ) → i + 2 ≤ length bytes → be16 (put16 bytes i n) i ≡ n % 65536
word bytes i n room =
    let len : length (set bytes i (n / 256 % 256)) ≡ length bytes = length-set {A = ℕ} _ _ _ in
    let first : slice_index (put16 bytes i n) i ≡ n / 256 % 256 =
    get_or-set_other (set bytes i (n / 256 % 256)) (i + 1) i (n % 256) 0 (λ e. omega arith) ∙ get_or-set_same bytes i (n / 256 % 256) 0 (omega arith)
    in
    let second : slice_index (put16 bytes i n) (i + 1) ≡ n % 256 = get_or-set_same (set bytes i (n / 256 % 256)) (i + 1) (n % 256) 0 (omega arith) in
    rw (first, second) (omega arith)

pub version-set : (bytes : List ℕ) (n : ℕ) → 1 ≤ length bytes → slice_index (put8 bytes 0 (n % 16 * 16 + slice_index bytes 0 % 16)) 0 / 16 ≡ n % 16
version-set bytes n room = ap (λ b. b / 16) (byte bytes 0 _ room) ∙ (omega arith)

pub header_len-set : (bytes : List ℕ) (n : ℕ) → 20 ≤ length bytes → header_len_of (put8 bytes 0 (slice_index bytes 0 / 16 * 16 + n / 4 % 16)) ≡ 4 * (n / 4 % 16)
header_len-set bytes n room = ap (λ b. 4 * (b % 16)) (byte bytes 0 _ (omega (arith, room))) ∙ (omega arith)

pub dscp-set : (bytes : List ℕ) (n : ℕ) → 20 ≤ length bytes → slice_index (put8 bytes 1 (n % 64 * 4 + slice_index bytes 1 % 4)) 1 / 4 ≡ n % 64
dscp-set bytes n room = ap (λ b. b / 4) (byte bytes 1 _ (omega (arith, room))) ∙ (omega arith)

pub ecn-set : (bytes : List ℕ) (n : ℕ) → 20 ≤ length bytes → slice_index (put8 bytes 1 (slice_index bytes 1 / 4 * 4 + n % 4)) 1 % 4 ≡ n % 4
ecn-set bytes n room = ap (λ b. b % 4) (byte bytes 1 _ (omega (arith, room))) ∙ (omega arith)

one : (n : ℕ) → n ≡ 1 → (n == 1) ≡ true
one n is = rw is refl

none : (n : ℕ) → n ≡ 0 → (n == 1) ≡ false
none n is = rw is refl

pub dont_frag-set : (bytes : List ℕ) (set : Bool) → 20 ≤ length bytes →
    has_flag (slice_index (put8 bytes 6 (with_flag (slice_index bytes 6) 64 set)) 6) 64 ≡ set
dont_frag-set bytes true room = ap (λ b. has_flag b 64) (byte bytes 6 _ (omega (arith, room))) ∙ one _ (omega arith)
dont_frag-set bytes false room = ap (λ b. has_flag b 64) (byte bytes 6 _ (omega (arith, room))) ∙ none _ (omega arith)

pub more_frags-set : (bytes : List ℕ) (set : Bool) → 20 ≤ length bytes →
    has_flag (slice_index (put8 bytes 6 (with_flag (slice_index bytes 6) 32 set)) 6) 32 ≡ set
more_frags-set bytes true room = ap (λ b. has_flag b 32) (byte bytes 6 _ (omega (arith, room))) ∙ one _ (omega arith)
more_frags-set bytes false room = ap (λ b. has_flag b 32) (byte bytes 6 _ (omega (arith, room))) ∙ none _ (omega arith)

pub offset-set : (bytes : List ℕ) (n : ℕ) → 20 ≤ length bytes → n < 2 ^ 16 →
    8 * (be16 (put16 bytes 6 (be16 bytes 6 / 2 ^ 13 * 2 ^ 13 + n / 8)) 6 % 2 ^ 13) ≡ n / 8 * 8
offset-set bytes n room small = ap (λ w. 8 * (w % 2 ^ 13)) (word bytes 6 (be16 bytes 6 / 2 ^ 13 * 2 ^ 13 + n / 8) (omega (arith, room))) ∙
    (omega (arith, small))

-- a protocol is read by the number that was put
pub protocol-set : (bytes : List ℕ) (i : ℕ) (p : IpProtocol) → i < length bytes →
    protocol_of (slice_index (put8 bytes i (protocol_number p)) i) ≡ protocol_of (protocol_number p)
protocol-set bytes i p room = ap protocol_of (byte bytes i (protocol_number p) room)

-- a run of bytes at a place where it was put
pub run-set : (bytes field : List ℕ) (i k : ℕ) → i ≤ length bytes → length field ≡ k → slice_range (put_run bytes i k field) i (i + k) ≡ field
run-set bytes field i k room len =
    let before : length (take i bytes) ≡ i = omega (arith, length-take i bytes, room) in
    let width : i + k - i ≡ k = omega arith in
    ap (λ n. take n (drop i (put_run bytes i k field))) width ∙ ap (take k) (drop_at (take i bytes) (field ++ drop (i + k) bytes) i before) ∙
    take_at field (drop (i + k) bytes) k len
