-- The text of a value is a word that says the value.
use Rattle.std.proofs.Common.{◌≡◌, ℕ, ℤ, pos, negsuc, zero, suc, ◌+◌, ◌*◌, ◌/◌, ◌%◌, ◌<◌, ◌==◌, ◌^◌, Bool, true, false, List, [], ◌∷◌, length, map, refl, sym}
use Rattle.std.proofs.Common.{ap, ◌∙◌, arith, codes, decimal, Option, Some, None, Ok}
use Rattle.std.specs.Bool.{Decides}
use Rattle.std.specs.Fmt.{signed_decimal}
use Rattle.std.specs.Str.{bytes_eq}
use Rattle.std.proofs.lemmas.Bool.Decides.{nat_tests}
use Rattle.std.proofs.lemmas.Fmt.{digits_decimal, digits_value-decimal, decimal_nonempty, decimal_is_IsNumeral}
use Rattle.std.proofs.lemmas.Slice.Eq.{bytes_eq-Decides}
use Rattle.hex.specs.Hex.{decode_of, encode_lower, lower_digits}
use Rattle.hex.proofs.HexLemmas.{decode_of-encode_lower, decode_sized-twice, length-encode_with}
use Rattle.wire_address.proofs.Printed.{IsDottedText-printed, IsIpv6Text-printed, IsIpCidrText-printed}
use Rattle.ip_wire.specs.Address.{IsIpAddress}
use Rattle.ip_wire.specs.Fields.{IsBytes}
use Rattle.ip_wire.specs.IpAddress.{IpAddress}
use Rattle.ip_wire.specs.IpAddress.TheVariants as ip
use Rattle.ip_wire.specs.IpCidr.{IpCidr}
use Rattle.ip_wire.specs.IpEndpoint.{IpEndpoint}
use Rattle.ip_wire.specs.IpVersion.{IpVersion}
use Rattle.ip_wire.specs.IpVersion.TheVariants.{Ipv4, Ipv6}
use Rattle.ip_wire.specs.Text.{IsAddressAndPort, IsEndpointText, ip_text, cidr_text}
use Rattle.net_base.specs.declared.Medium.{Medium}
use Rattle.net_base.specs.declared.Medium.TheVariants.{Ethernet, Ip}
use Rattle.sim_link.specs.declared.kinds.QueueSizes.{QueueSizes}
use Rattle.sim_link.specs.declared.kinds.Side.{Side}
use Rattle.sim_link.specs.declared.kinds.Side.TheVariants.{A, B}
use Rattle.sim_link.specs.Lines.{AreQueueSizes}
use Rattle.sim_link.specs.Words.{number_of, size_of, short_of, micros_of, side_of, medium_of, version_of, protocol_of, hex_bytes_of, four_digits_of}
use Rattle.sim_link.specs.Words.{AreCidrTexts}
use Rattle.sim_link.specs.Text.{side_text, medium_text, version_text, protocol_text, endpoint_word_of, endpoint_word, hex_word, four_digits, queue_words}
use Rattle.sim_link.specs.Text.{IsNamed, IsEndpoint, IsProtocol, AreIpBlocks, AreSizes}
use Rattle.sim_link.proofs.WordLemmas.{digit_words, number_of_yes}

pub side_back : (h : Side) → side_of (side_text h) ≡ Some h
side_back A = refl
side_back B = refl

pub medium_back : (m : Medium) → medium_of (medium_text m) ≡ Some m
medium_back Ethernet = refl
medium_back Ip = refl

pub version_back : (v : Option IpVersion) → version_of (version_text v) ≡ Some v
version_back (Some Ipv4) = refl
version_back (Some Ipv6) = refl
version_back None = refl

number_back : (bound n : ℕ) → n < bound → n < 2 ^ 64 → number_of bound (decimal n) ≡ Some n
number_back bound n less small =
    let value = digits_value-decimal digit_words n small in
    sym (number_of_yes bound (decimal n) n (digits_decimal digit_words n small) (decimal_nonempty n small) (rw value less) (sym value))

pub size_back : (n : ℕ) → n < 2 ^ 64 → size_of (decimal n) ≡ Some n
size_back n less = number_back (2 ^ 64) n less less

pub queues_back : (q : QueueSizes) → AreSizes q → AreQueueSizes (queue_words q) q
queues_back q f = (size_back q.receive_packets f.0, size_back q.receive_bytes f.1, size_back q.send_packets f.2, size_back q.send_bytes f.3)

pub short_back : (n : ℕ) → n < 2 ^ 16 → short_of (decimal n) ≡ Some n
short_back n less = number_back (2 ^ 16) n less (omega arith)

pub instant_back : (t : ℤ) → IsNamed t → micros_of (signed_decimal t) ≡ Some t
instant_back (pos n) less = rw (number_back (2 ^ 63) n less (omega arith)) refl
instant_back (negsuc n) bad = absurd bad

-- a word that begins with a digit is not `any`
differs : {P : Type 0} (b : Bool) → Decides b P → (P → ⊥) → b ≡ false
differs true decides apart = absurd (apart (decides.0 refl))
differs false decides apart = refl

other_word : (word other : List ℕ) → (word ≡ other → ⊥) → bytes_eq word other ≡ false
other_word word other apart = differs (bytes_eq word other) (bytes_eq-Decides word other) apart

false_is_not_true : false ≡ true → ⊥
false_is_not_true same = cc

-- `any` is no number
any_is_no_number : (bound n : ℕ) → number_of bound (codes "any") ≡ Some n → ⊥
any_is_no_number bound n same = cc

no_number : (bound n : ℕ) (word : List ℕ) → number_of bound word ≡ Some n → word ≡ codes "any" → ⊥
no_number bound n word says same = any_is_no_number bound n (ap (number_of bound) (sym same) ∙ says)

pub protocol_back : (p : Option ℕ) → IsProtocol p → protocol_of (protocol_text p) ≡ Some p
protocol_back (Some n) less =
    let says : number_of (2 ^ 8) (decimal n) ≡ Some n = number_back (2 ^ 8) n less (omega arith) in
    rw (other_word (decimal n) (codes "any") (no_number (2 ^ 8) n (decimal n) says), says) refl
protocol_back None less = refl

-- hex of some bytes
hex_of : (word bytes : List ℕ) → 1 < length word → decode_of word ≡ Ok bytes → hex_bytes_of word ≡ Some bytes
hex_of word bytes long says =
    let dash : bytes_eq word (codes "-") ≡ false = other_word word (codes "-") (λ same. let len = ap length same in absurd (omega (arith, long, len))) in
    let some : (length word == 0) ≡ false = grind (arith, nat_tests) in
    rw (dash, some, says) refl

pub hex_back : (bytes : List ℕ) → IsBytes bytes → hex_bytes_of (hex_word bytes) ≡ Some bytes
hex_back [] h = refl
hex_back (b ∷ bytes) h =
    hex_of (encode_lower (b ∷ bytes)) (b ∷ bytes) (omega (arith, length-encode_with lower_digits (b ∷ bytes))) (decode_of-encode_lower (b ∷ bytes) h)

pub two_bytes : (w : ℕ) → w < 2 ^ 16 → IsBytes (w / 256 ∷ w % 256 ∷ [])
two_bytes w less zero = omega arith
two_bytes w less (suc zero) = omega arith
two_bytes w less (suc (suc i)) = omega arith

pub four_digits_back : (w : ℕ) → w < 2 ^ 16 → four_digits_of (four_digits w) ≡ Some w
four_digits_back w less =
    let bytes : List ℕ = w / 256 ∷ w % 256 ∷ [] in
    let says = decode_sized-twice (encode_lower bytes) 2 (length-encode_with lower_digits bytes) ∙ decode_of-encode_lower bytes (two_bytes w less) in
    let whole : w / 256 * 256 + w % 256 ≡ w = omega arith in
    rw (says, whole) refl

endpoint_of : (a : IpAddress) (port : ℕ) → IsIpAddress a → port < 2 ^ 16 → IsAddressAndPort (endpoint_word_of a port) a port
endpoint_of (ip.Ipv4 a) port h less = record {
  address = ip_text (ip.Ipv4 a);
  digits = decimal port;
  spelled = refl;
  of_address = IsDottedText-printed a.0 h.0 h.1;
  of_port = (decimal_is_IsNumeral port (omega arith), omega arith);
}
endpoint_of (ip.Ipv6 a) port h less = record {
  address = ip_text (ip.Ipv6 a);
  digits = decimal port;
  spelled = refl;
  of_address = IsIpv6Text-printed a h;
  of_port = (decimal_is_IsNumeral port (omega arith), omega arith);
}

pub endpoint_back : (e : IpEndpoint) → IsEndpoint e → IsEndpointText (endpoint_word e) e
endpoint_back e h = endpoint_of e.addr e.port h.0 h.1

pub blocks_back : (blocks : List IpCidr) → AreIpBlocks blocks → AreCidrTexts (map cidr_text blocks) blocks
blocks_back [] h = tt
blocks_back (cidr ∷ blocks) h = (IsIpCidrText-printed cidr h.0, blocks_back blocks h.1)
