-- What is printed is a text that is read.
use Rattle.std.proofs.Common.{◌≡◌, ℕ, ◌+◌, ◌*◌, ◌/◌, ◌%◌, ◌^◌, ◌<◌, ◌≤◌, inl, List, [], ◌∷◌, ◌++◌, length, zero, suc, sym, refl, ◌∙◌, ap, ap₂, ◌-◌, ◌≢◌, subst}
use Rattle.std.proofs.Common.{length-drop, append_assoc, arith, get_or, decimal, inr, take, drop, take-append-drop, All, codes}
use Rattle.std.specs.Char.{digit_char, digit_value}
use Rattle.std.specs.Net.Addr.{segments_of, octets_of}
use Rattle.std.specs.Net.Text.{ipv4_text, ipv6_text}
use Rattle.std.specs.Net.Grammar.{IsGroup}
use Rattle.std.proofs.NetLemmas.Alphabet.{IsHexOrColon, All-hex_groups_text}
use Rattle.std.proofs.NetLemmas.Texts.{IsColonHex-hex_groups_text, AllSegments-drop}
use Rattle.std.proofs.lemmas.Slice.Eq.{bytes_eq-Decides}
use Rattle.std.proofs.lemmas.Bool.{cond_both}
use Rattle.std.proofs.lemmas.Fmt.{decimal_is_IsNumeral, length-decimal-le}
use Rattle.std.proofs.lemmas.Str.{digit_value-digit_char}
use Rattle.wire_address.specs.Address.{IsEthernetAddress, IsIpv4Address, IsIpv6Address, IsIpAddress}
use Rattle.wire_address.specs.Cidr.{cidr_address, cidr_prefix_len}
use Rattle.wire_address.specs.Fields.{IsBytes}
use Rattle.wire_address.specs.Text.{IsDecimal, IsOctet, IsDottedText, IsIpv4CidrText, IsIpv6CidrText, IsIpCidrText, IsIpv4EndpointText, IsHexPair, IsSixPairs}
use Rattle.wire_address.specs.Text.{IsEthernetText, hex_pair, ethernet_text, Lacks, IsHexGroups, two_groups, IsGroupsText, IsIpv6Text, IsIpText, ip_text}
use Rattle.wire_address.specs.Text.{cidr_text, ipv4_cidr_text, ipv6_cidr_text}
use Rattle.wire_address.proofs.Texts.{Lacks-digits, Lacks-cons, Lacks-append}
use Rattle.wire_address.specs.declared.ethernet.EthernetAddress.{EthernetAddress}
use Rattle.wire_address.specs.declared.ip.IpAddress.{IpAddress}
use Rattle.wire_address.specs.declared.ip.IpAddress.TheVariants as Ip
use Rattle.wire_address.specs.declared.ip.IpCidr.{IpCidr}
use Rattle.wire_address.specs.declared.ip.IpCidr.TheVariants as Cidr
use Rattle.wire_address.specs.declared.ipv4.Ipv4Address.{Ipv4Address}
use Rattle.wire_address.specs.declared.ipv4.Ipv4Cidr.{Ipv4Cidr}
use Rattle.wire_address.specs.declared.ipv6.Ipv6Address.{Ipv6Address}
use Rattle.wire_address.specs.declared.ipv6.Ipv6Cidr.{Ipv6Cidr}

-- a printed number is a decimal number
IsDecimal-decimal : (most n : ℕ) → n ≤ most → most < 65536 → IsDecimal most (decimal n) n
IsDecimal-decimal most n le small = (decimal_is_IsNumeral n (omega arith), le)

-- a printed byte is a part of an IPv4 address
IsOctet-decimal : (n : ℕ) → n < 256 → IsOctet (decimal n) n
IsOctet-decimal n small = (IsDecimal-decimal 255 n (omega arith) (omega arith), length-decimal-le 3 n (omega arith) (omega arith) (omega arith))

-- a printed IPv4 address
pub IsDottedText-printed : (o : List ℕ) → length o ≡ 4 → IsBytes o → IsDottedText (ipv4_text o) o
IsDottedText-printed (a ∷ b ∷ c ∷ d ∷ []) len bytes = record {
  a = a;
  b = b;
  c = c;
  d = d;
  after_a = decimal b ++ 46 ∷ (decimal c ++ 46 ∷ decimal d);
  after_b = decimal c ++ 46 ∷ decimal d;
  after_c = decimal d;
  first = (decimal a, simp append_assoc, IsOctet-decimal a (bytes 0));
  second = (decimal b, refl, IsOctet-decimal b (bytes 1));
  third = (decimal c, refl, IsOctet-decimal c (bytes 2));
  fourth = IsOctet-decimal d (bytes 3);
  value = refl;
}
IsDottedText-printed _ len bytes = absurd (omega arith)

-- a printed byte of an Ethernet address
IsHexPair-hex_pair : (n : ℕ) → n < 256 → IsHexPair (hex_pair n) n
IsHexPair-hex_pair n small =
    let high : digit_value (digit_char (n / 16)) ≡ n / 16 = digit_value-digit_char (n / 16) (omega arith) in
    let low : digit_value (digit_char (n % 16)) ≡ n % 16 = digit_value-digit_char (n % 16) (omega arith) in
    (((omega arith, (omega (arith, high), (omega (arith, low), tt))), omega (arith, high, low)), omega arith, omega arith)

-- the six bytes of a printed Ethernet address
IsSixPairs-printed : (o : List ℕ) → length o ≡ 6 → IsBytes o → IsSixPairs 45 (ethernet_text o) o
IsSixPairs-printed (a ∷ b ∷ c ∷ d ∷ e ∷ f ∷ []) len bytes = record {
  a = a;
  b = b;
  c = c;
  d = d;
  e = e;
  f = f;
  after_a = hex_pair b ++ 45 ∷ (hex_pair c ++ 45 ∷ (hex_pair d ++ 45 ∷ (hex_pair e ++ 45 ∷ hex_pair f)));
  after_b = hex_pair c ++ 45 ∷ (hex_pair d ++ 45 ∷ (hex_pair e ++ 45 ∷ hex_pair f));
  after_c = hex_pair d ++ 45 ∷ (hex_pair e ++ 45 ∷ hex_pair f);
  after_d = hex_pair e ++ 45 ∷ hex_pair f;
  after_e = hex_pair f;
  first = (hex_pair a, refl, IsHexPair-hex_pair a (bytes 0));
  second = (hex_pair b, refl, IsHexPair-hex_pair b (bytes 1));
  third = (hex_pair c, refl, IsHexPair-hex_pair c (bytes 2));
  fourth = (hex_pair d, refl, IsHexPair-hex_pair d (bytes 3));
  fifth = (hex_pair e, refl, IsHexPair-hex_pair e (bytes 4));
  sixth = IsHexPair-hex_pair f (bytes 5);
  value = refl;
}
IsSixPairs-printed _ len bytes = absurd (omega arith)

-- a printed Ethernet address
pub IsEthernetText-printed : (a : EthernetAddress) → IsEthernetAddress a → IsEthernetText (ethernet_text a.0) a
IsEthernetText-printed a h = inl (IsSixPairs-printed a.0 h.0 h.1)

-- pairs of bytes as groups
length-segments_of : (n : ℕ) (o : List ℕ) → length o ≡ 2 * n → length (segments_of o) ≡ n
length-segments_of n [] len = omega arith
length-segments_of n (a ∷ []) len = absurd (omega arith)
length-segments_of zero (a ∷ b ∷ o) len = absurd (omega arith)
length-segments_of (suc n) (a ∷ b ∷ o) len = let rest : length (segments_of o) ≡ n = length-segments_of n o (omega arith) in omega (arith, rest)

-- each group has sixteen bits
segments_of-small : (o : List ℕ) → IsBytes o → (k : ℕ) → get_or (segments_of o) k 0 < 2 ^ 16
segments_of-small [] bytes k = omega arith
segments_of-small (a ∷ []) bytes k = omega arith
segments_of-small (a ∷ b ∷ o) bytes zero = omega (arith, bytes 0, bytes 1)
segments_of-small (a ∷ b ∷ o) bytes (suc k) = segments_of-small o (λ i. bytes (suc (suc i))) k

-- the bytes of the groups of bytes
octets_of-segments_of : (n : ℕ) (o : List ℕ) → length o ≡ 2 * n → IsBytes o → octets_of (segments_of o) ≡ o
octets_of-segments_of n [] len bytes = refl
octets_of-segments_of n (a ∷ []) len bytes = absurd (omega arith)
octets_of-segments_of zero (a ∷ b ∷ o) len bytes = absurd (omega arith)
octets_of-segments_of (suc n) (a ∷ b ∷ o) len bytes =
    let high : (a * 256 + b) / 256 ≡ a = omega (arith, bytes 1) in
    let low : (a * 256 + b) % 256 ≡ b = omega (arith, bytes 1) in
    rw (high, low, octets_of-segments_of n o (omega arith) (λ i. bytes (suc (suc i)))) refl

-- groups as pairs of bytes
length-octets_of : (xs : List ℕ) → length (octets_of xs) ≡ 2 * length xs
length-octets_of [] = refl
length-octets_of (s ∷ xs) = let rest : length (octets_of xs) ≡ 2 * length xs = length-octets_of xs in omega (arith, rest)

octets_of-small : (xs : List ℕ) → ((k : ℕ) → get_or xs k 0 < 2 ^ 16) → IsBytes (octets_of xs)
octets_of-small [] small i = omega arith
octets_of-small (s ∷ xs) small zero = omega (arith, small 0)
octets_of-small (s ∷ xs) small (suc zero) = omega arith
octets_of-small (s ∷ xs) small (suc (suc i)) = octets_of-small xs (λ k. small (suc k)) i

segments_of-octets_of : (xs : List ℕ) → segments_of (octets_of xs) ≡ xs
segments_of-octets_of [] = refl
segments_of-octets_of (s ∷ xs) = let whole : s / 256 * 256 + s % 256 ≡ s = omega arith in ap₂ ◌∷◌ whole (segments_of-octets_of xs)

-- a printed byte of hex digits has no dot
Lacks-hex_pair : (n : ℕ) → n < 256 → Lacks (hex_pair n) 46
Lacks-hex_pair n small = let h : IsHexPair (hex_pair n) n = IsHexPair-hex_pair n small in Lacks-digits 16 46 (hex_pair n) h.0.0.1 (omega arith)

-- two printed bytes are a group
IsGroup-hex_pairs : (m n : ℕ) → m < 256 → n < 256 → IsGroup (hex_pair m ++ hex_pair n) (m * 256 + n)
IsGroup-hex_pairs m n first second =
    let a : digit_value (digit_char (m / 16)) ≡ m / 16 = digit_value-digit_char (m / 16) (omega arith) in
    let b : digit_value (digit_char (m % 16)) ≡ m % 16 = digit_value-digit_char (m % 16) (omega arith) in
    let c : digit_value (digit_char (n / 16)) ≡ n / 16 = digit_value-digit_char (n / 16) (omega arith) in
    let d : digit_value (digit_char (n % 16)) ≡ n % 16 = digit_value-digit_char (n % 16) (omega arith) in
    (((omega arith, (omega (arith, a), (omega (arith, b), (omega (arith, c), (omega (arith, d), tt))))), omega (arith, a, b, c, d)), omega arith)

-- `::ffff:` and two groups of printed bytes
mapped_groups : (o : List ℕ) → length o ≡ 4 → IsBytes o
    → IsHexGroups (codes "::ffff" ++ 58 ∷ two_groups o) (0 ∷ 0 ∷ 0 ∷ 0 ∷ 0 ∷ 0xffff ∷ segments_of o)
mapped_groups (a ∷ b ∷ c ∷ d ∷ []) len bytes =
    let high : IsGroup (hex_pair a ++ hex_pair b) (a * 256 + b) = IsGroup-hex_pairs a b (bytes 0) (bytes 1) in
    let low : IsGroup (hex_pair c ++ hex_pair d) (c * 256 + d) = IsGroup-hex_pairs c d (bytes 2) (bytes 3) in
    let ones : IsGroup (102 ∷ 102 ∷ 102 ∷ 102 ∷ []) 0xffff = omega arith in
    let none : Lacks [] 46 = λ i less. absurd (omega arith) in
    let other : (x y : ℕ) → x < y → y ≢ x = λ x y less e. omega arith in
    let colon : Lacks (58 ∷ []) 46 = Lacks-cons 46 58 [] (other 46 58 (omega arith)) none in
    let letter = λ (text : List ℕ) (rest : Lacks text 46). Lacks-cons 46 102 text (other 46 102 (omega arith)) rest in
    let letters : Lacks (102 ∷ 102 ∷ 102 ∷ 102 ∷ 58 ∷ []) 46 =
    letter (102 ∷ 102 ∷ 102 ∷ 58 ∷ []) (letter (102 ∷ 102 ∷ 58 ∷ []) (letter (102 ∷ 58 ∷ []) (letter (58 ∷ []) colon)))
    in
    let front : Lacks (codes "::ffff:") 46 =
    Lacks-append 46 (58 ∷ 58 ∷ []) (102 ∷ 102 ∷ 102 ∷ 102 ∷ 58 ∷ []) (Lacks-append 46 (58 ∷ []) (58 ∷ []) colon colon) letters
    in (
      Lacks-append 46 (codes "::ffff:") (two_groups (a ∷ b ∷ c ∷ d ∷ [])) front
          (Lacks-append 46 (hex_pair a) (hex_pair b ++ 58 ∷ (hex_pair c ++ hex_pair d)) (Lacks-hex_pair a (bytes 0))
          (Lacks-append 46 (hex_pair b) (58 ∷ (hex_pair c ++ hex_pair d)) (Lacks-hex_pair b (bytes 1))
          (Lacks-append 46 (58 ∷ []) (hex_pair c ++ hex_pair d) colon
          (Lacks-append 46 (hex_pair c) (hex_pair d) (Lacks-hex_pair c (bytes 2)) (Lacks-hex_pair d (bytes 3)))))),
      inr (record {
        head_text = [];
        tail_text = 102 ∷ 102 ∷ 102 ∷ 102 ∷ 58 ∷ two_groups (a ∷ b ∷ c ∷ d ∷ []);
        head = [];
        tail = 0xffff ∷ segments_of (a ∷ b ∷ c ∷ d ∷ []);
        spelled = refl;
        head_groups = refl;
        tail_groups = inl (
          102 ∷ 102 ∷ 102 ∷ 102 ∷ [],
          _,
          refl,
          ones,
          inl (hex_pair a ++ hex_pair b, 58 ∷ (hex_pair c ++ hex_pair d), refl, high, inl (hex_pair c ++ hex_pair d, [], refl, low, refl)),
        );
        room = omega arith;
        value = refl;
      }),
    )
mapped_groups _ len bytes = absurd (omega arith)

-- hex digits and colons are no dots
Lacks-hex_or_colon : (text : List ℕ) → All IsHexOrColon text → Lacks text 46
Lacks-hex_or_colon text all i less same = elim (all i 0 less) [ inl digit ↦ omega arith | inr letter ↦ omega arith ]

-- printed groups
IsGroupsText-printed : (xs : List ℕ) → length xs ≡ 8 → ((k : ℕ) → get_or xs k 0 < 2 ^ 16) → IsGroupsText (ipv6_text xs) xs
unfolding ipv6_text
IsGroupsText-printed xs eight fits =
    cond_both _ _ _ (λ text. IsGroupsText text xs)
    (λ mapped.
    let o : List ℕ = octets_of (drop 6 xs) in
    let small : (k : ℕ) → get_or (drop 6 xs) k 0 < 2 ^ 16 = AllSegments-drop 6 xs fits in
    let four : length o ≡ 4 = length-octets_of (drop 6 xs) ∙ ap (λ n. 2 * n) (length-drop 6 xs ∙ ap (λ n. n - 6) eight) in
    let all : xs ≡ 0 ∷ 0 ∷ 0 ∷ 0 ∷ 0 ∷ 0xffff ∷ drop 6 xs =
    sym (take-append-drop 6 xs) ∙ ap (λ t. t ++ drop 6 xs) ((bytes_eq-Decides (take 6 xs) (0 ∷ 0 ∷ 0 ∷ 0 ∷ 0 ∷ 0xffff ∷ [])).0 mapped) in
    let dotted : IsDottedText (ipv4_text o) o = IsDottedText-printed o four (octets_of-small (drop 6 xs) small) in
    let groups : xs ≡ 0 ∷ 0 ∷ 0 ∷ 0 ∷ 0 ∷ 0xffff ∷ segments_of o = all ∙ ap (λ t. 0 ∷ 0 ∷ 0 ∷ 0 ∷ 0 ∷ 0xffff ∷ t) (sym (segments_of-octets_of (drop 6 xs))) in
    let P : List ℕ → Type 0 = λ t. IsHexGroups (codes "::ffff" ++ 58 ∷ two_groups o) t in
    inr (
      codes "::ffff" ++ 58 ∷ two_groups o,
      record { front = codes "::ffff"; tail = ipv4_text o; octets = o; spelled = refl; of_tail = dotted; in_hex = refl },
      subst P (sym groups) (mapped_groups o four (octets_of-small (drop 6 xs) small)),
    ))
    (λ _. inl (Lacks-hex_or_colon _ (All-hex_groups_text xs fits), IsColonHex-hex_groups_text xs eight fits))

-- a printed IPv6 address
pub IsIpv6Text-printed : (a : Ipv6Address) → IsIpv6Address a → IsIpv6Text (ipv6_text (segments_of a.0)) a
IsIpv6Text-printed a h = (
  segments_of a.0,
  IsGroupsText-printed (segments_of a.0) (length-segments_of 8 a.0 h.0) (segments_of-small a.0 h.1),
  sym (octets_of-segments_of 8 a.0 h.0 h.1),
)

-- a printed address of either family
pub IsIpText-printed : (a : IpAddress) → IsIpAddress a → IsIpText (ip_text a) a
IsIpText-printed (Ip.Ipv4 a) h = IsDottedText-printed a.0 h.0 h.1
IsIpText-printed (Ip.Ipv6 a) h = IsIpv6Text-printed a h

-- a printed block
pub IsIpv4CidrText-printed : (b : Ipv4Cidr) → IsIpv4Address b.address → IsIpv4CidrText (ipv4_cidr_text b) b.address b.prefix_len
IsIpv4CidrText-printed b h = record {
  address = ipv4_text b.address.0;
  digits = decimal b.prefix_len;
  spelled = refl;
  of_address = IsDottedText-printed b.address.0 h.0 h.1;
  of_len = IsDecimal-decimal 32 b.prefix_len b.in_range (omega arith);
}

pub IsIpv6CidrText-printed : (b : Ipv6Cidr) → IsIpv6Address b.address → IsIpv6CidrText (ipv6_cidr_text b) b.address b.prefix_len
IsIpv6CidrText-printed b h = record {
  address = ipv6_text (segments_of b.address.0);
  digits = decimal b.prefix_len;
  spelled = refl;
  of_address = IsIpv6Text-printed b.address h;
  of_len = IsDecimal-decimal 128 b.prefix_len b.in_range (omega arith);
}

pub IsIpCidrText-printed : (b : IpCidr) → IsIpAddress (cidr_address b) → IsIpCidrText (cidr_text b) (cidr_address b) (cidr_prefix_len b)
IsIpCidrText-printed (Cidr.Ipv4 b) h = record {
  address = ipv4_text b.address.0;
  digits = decimal b.prefix_len;
  spelled = refl;
  of_address = IsDottedText-printed b.address.0 h.0 h.1;
  of_len = IsDecimal-decimal 32 b.prefix_len b.in_range (omega arith);
}
IsIpCidrText-printed (Cidr.Ipv6 b) h = record {
  address = ipv6_text (segments_of b.address.0);
  digits = decimal b.prefix_len;
  spelled = refl;
  of_address = IsIpv6Text-printed b.address h;
  of_len = IsDecimal-decimal 128 b.prefix_len b.in_range (omega arith);
}

-- a printed IPv4 endpoint
pub IsIpv4EndpointText-printed : (a : Ipv4Address) (port : ℕ) → IsIpv4Address a → port < 2 ^ 16 → IsIpv4EndpointText (ipv4_text a.0 ++ 58 ∷ decimal port) a port
IsIpv4EndpointText-printed a port h small = record {
  address = ipv4_text a.0;
  digits = decimal port;
  spelled = refl;
  of_address = IsDottedText-printed a.0 h.0 h.1;
  of_port = IsDecimal-decimal 65535 port (omega arith) (omega arith);
}
