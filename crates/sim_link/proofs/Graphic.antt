-- The text of a value has no blank, and only ASCII.
use Rattle.std.proofs.Common.{◌≡◌, ℕ, ℤ, pos, negsuc, zero, suc, ◌/◌, ◌%◌, ◌<◌, ◌^◌, true, List, [], ◌∷◌, ◌++◌, take, drop, slice_index, All, refl, ◌∙◌, arith}
use Rattle.std.proofs.Common.{codes, decimal, Option, Some, None}
use Rattle.std.specs.List.{list_all}
use Rattle.std.specs.Char.{digit_char, is_ascii_digit, is_ascii_graphic, is_ascii_hexdigit}
use Rattle.std.specs.Fmt.{signed_decimal}
use Rattle.std.specs.Net.Addr.{segments_of, octets_of}
use Rattle.std.specs.Net.Text.{ipv4_text, ipv6_text, hex_groups_text}
use Rattle.std.specs.Str.{bytes_eq}
use Rattle.std.proofs.NetLemmas.Alphabet.{IsDigitOrDot, IsHexOrColon, All-ipv4_text, All-hex_groups_text}
use Rattle.std.proofs.NetLemmas.Texts.{AllSegments, AllSegments-drop}
use Rattle.std.proofs.lemmas.Bool.{cond_both}
use Rattle.std.proofs.lemmas.Bool.Decides.{nat_tests}
use Rattle.std.proofs.lemmas.Fmt.{digits_decimal}
use Rattle.std.proofs.lemmas.List.Elements.{All-weaker}
use Rattle.std.proofs.lemmas.List.Folds.{list_all-append}
use Rattle.std.proofs.lemmas.List.Sums.{AllPass-from_list_all, list_all-from_AllPass}
use Rattle.hex.specs.Hex.{encode_lower, is_hex_digit}
use Rattle.hex.proofs.HexLemmas.{decode_of-encode_lower, decode_of-ok}
use Rattle.ip_wire.specs.Address.{IsIpAddress, IsEthernetAddress}
use Rattle.ip_wire.specs.Cidr.{cidr_address}
use Rattle.ip_wire.specs.EthernetAddress.{EthernetAddress}
use Rattle.ip_wire.specs.Fields.{IsBytes}
use Rattle.ip_wire.specs.IpAddress.{IpAddress}
use Rattle.ip_wire.specs.IpAddress.TheVariants as ip
use Rattle.ip_wire.specs.IpCidr.{IpCidr}
use Rattle.ip_wire.specs.IpCidr.TheVariants as Cidr
use Rattle.ip_wire.specs.IpEndpoint.{IpEndpoint}
use Rattle.ip_wire.specs.IpVersion.{IpVersion}
use Rattle.ip_wire.specs.IpVersion.TheVariants.{Ipv4, Ipv6}
use Rattle.ip_wire.specs.Text.{ip_text, cidr_text, ethernet_text, hex_pair}
use Rattle.net_base.specs.declared.Medium.{Medium}
use Rattle.net_base.specs.declared.Medium.TheVariants.{Ethernet, Ip}
use Rattle.sim_link.specs.declared.kinds.Side.{Side}
use Rattle.sim_link.specs.declared.kinds.Side.TheVariants.{A, B}
use Rattle.sim_link.specs.Text.{side_text, medium_text, version_text, protocol_text, endpoint_word_of, endpoint_word, hex_word, four_digits, IsNamed}
use Rattle.sim_link.specs.Text.{IsEndpoint, IsProtocol}
use Rattle.sim_link.proofs.WordLemmas.{digit_words, same_digits}
use Rattle.sim_link.proofs.Backs.{two_bytes}

-- a word of ASCII that is seen: no blank, no control character
abbrev pub IsGraphic : List ℕ → Type 0
IsGraphic word = list_all is_ascii_graphic word ≡ true

-- BYTES

graphic_of : (P : ℕ → Type 0) → ((c : ℕ) → P c → is_ascii_graphic c ≡ true) → (word : List ℕ) → All P word → IsGraphic word
graphic_of P each word all = list_all-from_AllPass is_ascii_graphic word (All-weaker P (λ c. is_ascii_graphic c ≡ true) each word all)

graphic_digit : (c : ℕ) → is_ascii_digit c ≡ true → is_ascii_graphic c ≡ true
graphic_digit c h = grind (arith, nat_tests)

graphic_hexdigit : (c : ℕ) → is_ascii_hexdigit c ≡ true → is_ascii_graphic c ≡ true
graphic_hexdigit c h = grind (arith, nat_tests)

graphic_digit_or_dot : (c : ℕ) → IsDigitOrDot c → is_ascii_graphic c ≡ true
graphic_digit_or_dot c h = grind (arith, nat_tests)

graphic_hex_or_colon : (c : ℕ) → IsHexOrColon c → is_ascii_graphic c ≡ true
graphic_hex_or_colon c h = grind (arith, nat_tests)

graphic_digit_char : (d : ℕ) → d < 16 → is_ascii_graphic (digit_char d) ≡ true
graphic_digit_char d less = grind (arith, nat_tests)

-- PARTS

pub and_then : (front back : List ℕ) → IsGraphic front → IsGraphic back → IsGraphic (front ++ back)
and_then front back h k = rw (list_all-append is_ascii_graphic front back, h, k) refl

following : (c : ℕ) (back : List ℕ) → is_ascii_graphic c ≡ true → IsGraphic back → IsGraphic (c ∷ back)
following c back h k = rw (h, k) refl

-- NUMBERS AND BYTES

pub decimal_graphic : (n : ℕ) → n < 2 ^ 64 → IsGraphic (decimal n)
decimal_graphic n less =
    graphic_of (λ c. is_ascii_digit c ≡ true) graphic_digit (decimal n) (AllPass-from_list_all is_ascii_digit (decimal n) (digits_decimal digit_words n less))

pub short_graphic : (n : ℕ) → n < 2 ^ 16 → IsGraphic (decimal n)
short_graphic n less = decimal_graphic n (omega arith)

pub instant_graphic : (t : ℤ) → IsNamed t → IsGraphic (signed_decimal t)
instant_graphic (pos n) less = decimal_graphic n (omega arith)
instant_graphic (negsuc n) bad = absurd bad

encoded_graphic : (bytes : List ℕ) → IsBytes bytes → IsGraphic (encode_lower bytes)
encoded_graphic bytes h =
    let digits = list_all-from_AllPass is_hex_digit (encode_lower bytes) (decode_of-ok (encode_lower bytes) bytes (decode_of-encode_lower bytes h)).1 in
    graphic_of (λ c. is_ascii_hexdigit c ≡ true) graphic_hexdigit (encode_lower bytes)
    (AllPass-from_list_all is_ascii_hexdigit (encode_lower bytes) (same_digits (encode_lower bytes) ∙ digits))

pub hex_graphic : (bytes : List ℕ) → IsBytes bytes → IsGraphic (hex_word bytes)
hex_graphic [] h = refl
hex_graphic (b ∷ bytes) h = encoded_graphic (b ∷ bytes) h

pub four_digits_graphic : (w : ℕ) → w < 2 ^ 16 → IsGraphic (four_digits w)
four_digits_graphic w less = encoded_graphic (w / 256 ∷ w % 256 ∷ []) (two_bytes w less)

-- ADDRESSES

dotted_graphic : (o : List ℕ) → IsBytes o → IsGraphic (ipv4_text o)
dotted_graphic o bytes = graphic_of IsDigitOrDot graphic_digit_or_dot (ipv4_text o) (All-ipv4_text o bytes)

-- each group has sixteen bits
small_segments : (o : List ℕ) → IsBytes o → AllSegments (segments_of o)
small_segments [] bytes k = omega arith
small_segments (a ∷ []) bytes k = omega arith
small_segments (a ∷ b ∷ o) bytes zero = omega (arith, bytes 0, bytes 1)
small_segments (a ∷ b ∷ o) bytes (suc k) = small_segments o (λ i. bytes (suc (suc i))) k

-- the bytes of groups are bytes
small_octets : (xs : List ℕ) → AllSegments xs → IsBytes (octets_of xs)
small_octets [] small i = omega arith
small_octets (s ∷ xs) small zero = omega (arith, small 0)
small_octets (s ∷ xs) small (suc zero) = omega arith
small_octets (s ∷ xs) small (suc (suc i)) = small_octets xs (λ k. small (suc k)) i

groups_graphic : (xs : List ℕ) → AllSegments xs → IsGraphic (ipv6_text xs)
unfolding ipv6_text
groups_graphic xs fits =
    let octets : List ℕ = octets_of (drop 6 xs) in
    cond_both (bytes_eq (take 6 xs) (0 ∷ 0 ∷ 0 ∷ 0 ∷ 0 ∷ 0xffff ∷ [])) (codes "::ffff:" ++ ipv4_text octets) (hex_groups_text xs) IsGraphic
    (λ _. and_then (codes "::ffff:") (ipv4_text octets) refl (dotted_graphic octets (small_octets (drop 6 xs) (AllSegments-drop 6 xs fits))))
    (λ _. graphic_of IsHexOrColon graphic_hex_or_colon (hex_groups_text xs) (All-hex_groups_text xs fits))

pub ip_graphic : (a : IpAddress) → IsIpAddress a → IsGraphic (ip_text a)
ip_graphic (ip.Ipv4 a) h = dotted_graphic a.0 h.1
ip_graphic (ip.Ipv6 a) h = groups_graphic (segments_of a.0) (small_segments a.0 h.1)

endpoint_of : (a : IpAddress) (port : ℕ) → IsIpAddress a → port < 2 ^ 16 → IsGraphic (endpoint_word_of a port)
endpoint_of (ip.Ipv4 a) port h less =
    and_then (ip_text (ip.Ipv4 a)) (58 ∷ decimal port) (ip_graphic (ip.Ipv4 a) h) (following 58 (decimal port) refl (short_graphic port less))
endpoint_of (ip.Ipv6 a) port h less =
    let digits = following 93 (58 ∷ decimal port) refl (following 58 (decimal port) refl (short_graphic port less)) in
    following 91 (ip_text (ip.Ipv6 a) ++ 93 ∷ 58 ∷ decimal port) refl (and_then (ip_text (ip.Ipv6 a)) (93 ∷ 58 ∷ decimal port) (ip_graphic (ip.Ipv6 a) h) digits)

pub endpoint_graphic : (e : IpEndpoint) → IsEndpoint e → IsGraphic (endpoint_word e)
endpoint_graphic e h = endpoint_of e.addr e.port h.0 h.1

pub cidr_graphic : (cidr : IpCidr) → IsIpAddress (cidr_address cidr) → IsGraphic (cidr_text cidr)
cidr_graphic (Cidr.Ipv4 b) h =
    and_then (ip_text (ip.Ipv4 b.address)) (47 ∷ decimal b.prefix_len) (ip_graphic (ip.Ipv4 b.address) h)
    (following 47 (decimal b.prefix_len) refl (decimal_graphic b.prefix_len (omega (arith, b.in_range))))
cidr_graphic (Cidr.Ipv6 b) h =
    and_then (ip_text (ip.Ipv6 b.address)) (47 ∷ decimal b.prefix_len) (ip_graphic (ip.Ipv6 b.address) h)
    (following 47 (decimal b.prefix_len) refl (decimal_graphic b.prefix_len (omega (arith, b.in_range))))

pair_before : (n : ℕ) (back : List ℕ) → n < 256 → IsGraphic back → IsGraphic (hex_pair n ++ back)
pair_before n back less h =
    following (digit_char (n / 16)) (digit_char (n % 16) ∷ back) (graphic_digit_char (n / 16) (omega arith))
    (following (digit_char (n % 16)) back (graphic_digit_char (n % 16) (omega arith)) h)

pair_and_dash : (n : ℕ) (back : List ℕ) → n < 256 → IsGraphic back → IsGraphic (hex_pair n ++ 45 ∷ back)
pair_and_dash n back less h = pair_before n (45 ∷ back) less (following 45 back refl h)

pub ethernet_graphic : (a : EthernetAddress) → IsEthernetAddress a → IsGraphic (ethernet_text a.0)
ethernet_graphic a h =
    let byte : ℕ → ℕ = λ i. slice_index a.0 i in
    let sixth : List ℕ = hex_pair (byte 5) in
    let fifth : List ℕ = hex_pair (byte 4) ++ 45 ∷ sixth in
    let fourth : List ℕ = hex_pair (byte 3) ++ 45 ∷ fifth in
    let third : List ℕ = hex_pair (byte 2) ++ 45 ∷ fourth in
    let second : List ℕ = hex_pair (byte 1) ++ 45 ∷ third in
    let from_fifth : IsGraphic fifth = pair_and_dash (byte 4) sixth (h.1 4) (pair_before (byte 5) [] (h.1 5) refl) in
    let from_third : IsGraphic third = pair_and_dash (byte 2) fourth (h.1 2) (pair_and_dash (byte 3) fifth (h.1 3) from_fifth) in
    pair_and_dash (byte 0) second (h.1 0) (pair_and_dash (byte 1) third (h.1 1) from_third)

-- NAMES

pub side_graphic : (h : Side) → IsGraphic (side_text h)
side_graphic A = refl
side_graphic B = refl

pub medium_graphic : (m : Medium) → IsGraphic (medium_text m)
medium_graphic Ethernet = refl
medium_graphic Ip = refl

pub version_graphic : (v : Option IpVersion) → IsGraphic (version_text v)
version_graphic (Some Ipv4) = refl
version_graphic (Some Ipv6) = refl
version_graphic None = refl

pub protocol_graphic : (p : Option ℕ) → IsProtocol p → IsGraphic (protocol_text p)
protocol_graphic (Some n) less = decimal_graphic n (omega arith)
protocol_graphic None h = refl
