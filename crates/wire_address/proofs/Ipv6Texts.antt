-- Texts of IPv6 addresses.
use Rattle.std.proofs.Common.{◌≡◌, ◌≢◌, ℕ, ◌+◌, ◌*◌, ◌<◌, ◌≤◌, inl, inr, Bool, true, false, List, [], ◌∷◌, ◌++◌, length, sym, ◌∙◌, append_assoc, ap, arith}
use Rattle.std.proofs.Common.{subst, decimal, length-append}
use Rattle.std.specs.Char.{digit_value}
use Rattle.std.specs.Net.Addr.{segments_of}
use Rattle.std.specs.Net.Grammar.{IsDotted, IsGroupsAfter, IsColonHex}
use Rattle.std.proofs.lemmas.Fmt.{decimal_is_IsNumeral}
use Rattle.wire_address.specs.Text.{Lacks, IsHexGroups, IsDottedEnd, IsCutAtLast, IsIpv6Text}
use Rattle.wire_address.specs.declared.ipv6.Ipv6Address.{Ipv6Address}
use Rattle.wire_address.proofs.Texts.{Lacks-digits, Lacks-cons, Lacks-append, Lacks-front, Lacks-back, Lacks-joined, Lacks-dotted}

-- a decimal number has digits alone
Lacks-decimal : (byte n : ℕ) → 16 ≤ digit_value byte → n < 256 → Lacks (decimal n) byte
Lacks-decimal byte n other small = Lacks-digits 10 byte (decimal n) (decimal_is_IsNumeral n (omega arith)).0.1 (omega arith)

-- the IPv4 address at the end of an IPv6 address
Lacks-tail : (byte : ℕ) (text octets : List ℕ) → 16 ≤ digit_value byte → 46 ≢ byte → IsDotted text octets → Lacks text byte
Lacks-tail byte text octets other dot h =
    let P : List ℕ → Type 0 = λ t. Lacks t byte in
    let point : Lacks (46 ∷ []) byte = Lacks-cons byte 46 [] dot (λ i less. absurd (omega arith)) in
    subst P (sym h.spelled)
    (Lacks-append byte _ (decimal h.d)
    (Lacks-append byte _ (46 ∷
    []) (Lacks-append byte _ (decimal h.c) (Lacks-append byte _ (46 ∷ []) (Lacks-append byte _ (decimal h.b) (Lacks-append byte (decimal h.a) (46 ∷ [])
    (Lacks-decimal byte h.a other h.fit.0) point) (Lacks-decimal byte h.b other h.fit.1)) point) (Lacks-decimal byte h.c other h.fit.2)) point)
    (Lacks-decimal byte h.d other h.fit.3))

-- groups of hex digits with colons between them
Lacks-groups : (byte : ℕ) (ipv4 : Bool) (lead text segments : List ℕ) → 16 ≤ digit_value byte → 46 ≢ byte → 58 ≢ byte → Lacks lead byte →
    IsGroupsAfter ipv4 lead text segments → Lacks text byte
Lacks-groups byte ipv4 lead text [] other dot colon before h = let P : List ℕ → Type 0 = λ t. Lacks t byte in subst P (sym h) (λ i less. absurd (omega arith))
Lacks-groups byte ipv4 lead text (s ∷ segments) other dot colon before h =
    let P : List ℕ → Type 0 = λ t. Lacks t byte in
    elim h [
      | inl g ↦ subst P (sym g.2) (Lacks-append byte (lead ++ g.0) g.1 (Lacks-append byte lead g.0 before (Lacks-digits 16 byte g.0 g.3.0.0.1 other))
          (Lacks-groups byte ipv4 (58 ∷ []) g.1 segments other dot colon (Lacks-cons byte 58 [] colon (λ i less. absurd (omega arith))) g.4))
      | inr d ↦ subst P (sym d.3) (Lacks-append byte lead d.0 before (Lacks-tail byte d.0 d.1 other dot d.4))
    ]

-- eight groups have hex digits, colons and dots alone
Lacks-colon_hex : (byte : ℕ) (text segments : List ℕ) → 16 ≤ digit_value byte → 46 ≢ byte → 58 ≢ byte → IsColonHex text segments → Lacks text byte
Lacks-colon_hex byte text segments other dot colon h =
    let P : List ℕ → Type 0 = λ t. Lacks t byte in
    let none : Lacks [] byte = λ i less. absurd (omega arith) in
    elim h [
      | inl g ↦ Lacks-groups byte true [] text segments other dot colon none g.0
      | inr e ↦ subst P (sym e.spelled)
          (Lacks-append byte _ e.tail_text
          (Lacks-append byte e.head_text (58 ∷ 58 ∷ []) (Lacks-groups byte false [] e.head_text e.head other dot colon none e.head_groups)
          (Lacks-cons byte 58 (58 ∷ []) colon (Lacks-cons byte 58 [] colon none)))
          (Lacks-groups byte true [] e.tail_text e.tail other dot colon none e.tail_groups))
    ]

-- groups after a colon begin with it
groups-colon : (ipv4 : Bool) (text : List ℕ) (s : ℕ) (segments : List ℕ) → IsGroupsAfter ipv4 (58 ∷ []) text (s ∷ segments) → (rest : List ℕ) ×
    (text ≡ 58 ∷ rest)
groups-colon ipv4 text s segments h = elim h [ inl g ↦ (g.0 ++ g.1, g.2) | inr d ↦ (d.0, d.3) ]

-- eight groups have a colon between them
colon-groups : (text segments : List ℕ) → IsGroupsAfter true [] text segments → length segments ≡ 8 → Lacks text 58 → ⊥
colon-groups text [] h eight lacks = absurd (omega arith)
colon-groups text (s ∷ []) h eight lacks = absurd (omega arith)
colon-groups text (s ∷ t ∷ segments) h eight lacks =
    let P : List ℕ → Type 0 = λ x. Lacks x 58 in
    elim h [
      | inl g ↦ (let k = groups-colon true g.1 t segments g.4 in Lacks-joined 58 g.0 k.0 (subst P (g.2 ∙ ap (λ x. g.0 ++ x) k.1) lacks))
      | inr d ↦ (let two : length (s ∷ t ∷ segments) ≡ 2 = ap length (d.5 ∙ ap segments_of d.4.value) in absurd (omega arith))
    ]

-- eight groups have a colon
Lacks-groups_colon : (text segments : List ℕ) → IsColonHex text segments → Lacks text 58 → ⊥
Lacks-groups_colon text segments h lacks =
    let P : List ℕ → Type 0 = λ x. Lacks x 58 in
    elim h [
      | inl g ↦ colon-groups text segments g.0 g.1 lacks
      | inr e ↦ Lacks-joined 58 e.head_text (58 ∷ e.tail_text) (subst P (e.spelled ∙ append_assoc e.head_text (58 ∷ 58 ∷ []) e.tail_text) lacks)
    ]

-- a text with a dotted end lacks what it lacks in hex, but for digits, dots and colons
Lacks-dotted_end : (byte : ℕ) (text hex : List ℕ) → 10 ≤ digit_value byte → 46 ≢ byte → 58 ≢ byte → IsDottedEnd text hex → Lacks hex byte → Lacks text byte
Lacks-dotted_end byte text hex other dot colon h lacks =
    let P : List ℕ → Type 0 = λ t. Lacks t byte in
    let front : Lacks h.front byte = Lacks-front byte h.front _ (subst P h.in_hex lacks) in
    subst P (sym h.spelled) (Lacks-append byte h.front (58 ∷ h.tail) front
    (Lacks-cons byte 58 h.tail colon (Lacks-dotted byte h.tail h.octets other dot h.of_tail)))

-- it has a dot
pub Lacks-dot : (text hex : List ℕ) → IsDottedEnd text hex → Lacks text 46 → ⊥
Lacks-dot text hex h lacks =
    let P : List ℕ → Type 0 = λ t. Lacks t 46 in
    let tail : Lacks h.tail 46 = Lacks-back 46 (58 ∷ []) h.tail (Lacks-back 46 h.front (58 ∷ h.tail) (subst P h.spelled lacks)) in
    Lacks-joined 46 h.of_tail.first.0 h.of_tail.after_a (subst P h.of_tail.first.1 tail)

-- an IPv6 address has hex digits, colons and dots alone
pub Lacks-ipv6 : (byte : ℕ) (text : List ℕ) (a : Ipv6Address) → 16 ≤ digit_value byte → 46 ≢ byte → 58 ≢ byte → IsIpv6Text text a → Lacks text byte
Lacks-ipv6 byte text a other dot colon h =
    elim h.1 [
      | inl g ↦ Lacks-colon_hex byte text h.0 other dot colon g.1
      | inr d ↦ Lacks-dotted_end byte text d.0 (omega arith) dot colon d.1 (Lacks-colon_hex byte d.0 h.0 other dot colon d.2.1)
    ]

-- it has a colon
pub Lacks-colon : (text : List ℕ) (a : Ipv6Address) → IsIpv6Text text a → Lacks text 58 → ⊥
Lacks-colon text a h lacks =
    let P : List ℕ → Type 0 = λ t. Lacks t 58 in
    elim h.1 [
      | inl g ↦ Lacks-groups_colon text h.0 g.1 lacks
      | inr d ↦ Lacks-joined 58 d.1.front d.1.tail (subst P d.1.spelled lacks)
    ]

-- a dotted IPv4 address has a dot
dotted-dot : (text octets : List ℕ) → IsDotted text octets → Lacks text 46 → ⊥
dotted-dot text octets h lacks =
    let P : List ℕ → Type 0 = λ t. Lacks t 46 in
    let last : Lacks (_ ++ 46 ∷ decimal h.d) 46 = subst P (h.spelled ∙ append_assoc _ (46 ∷ []) (decimal h.d)) lacks in
    Lacks-joined 46 _ (decimal h.d) last

-- groups of at most four digits, each after at most one byte
length-groups : (ipv4 : Bool) (lead text segments : List ℕ) → length lead ≤ 1 → Lacks text 46 → IsGroupsAfter ipv4 lead text segments →
    length text ≤ 5 * length segments
length-groups ipv4 lead text [] one lacks h = let none : length text ≡ 0 = ap length h in omega arith
length-groups ipv4 lead text (s ∷ segments) one lacks h =
    let P : List ℕ → Type 0 = λ t. Lacks t 46 in
    elim h [
      | inl g ↦ (
          let after : Lacks g.1 46 = Lacks-back 46 (lead ++ g.0) g.1 (subst P g.2 lacks) in
          let rest : length g.1 ≤ 5 * length segments = length-groups ipv4 (58 ∷ []) g.1 segments (omega arith) after g.4 in
          let four : length g.0 ≤ 4 = g.3.1 in
          let whole : length text ≡ length lead + length g.0 + length g.1 = ap length g.2 ∙ length-append (lead ++ g.0) g.1 ∙
          ap (λ n. n + length g.1) (length-append lead g.0) in
          omega arith)
      | inr d ↦ absurd (dotted-dot d.0 d.1 d.4 (Lacks-back 46 lead d.0 (subst P d.3 lacks)))
    ]

-- the groups from the first on
length-all_groups : (text segments : List ℕ) → Lacks text 46 → IsGroupsAfter true [] text segments → length segments ≡ 8 → length text ≤ 39
length-all_groups text [] lacks h eight = absurd (omega arith)
length-all_groups text (s ∷ segments) lacks h eight =
    let P : List ℕ → Type 0 = λ t. Lacks t 46 in
    elim h [
      | inl g ↦ (
          let after : Lacks g.1 46 = Lacks-back 46 g.0 g.1 (subst P g.2 lacks) in
          let rest : length g.1 ≤ 5 * length segments = length-groups true (58 ∷ []) g.1 segments (omega arith) after g.4 in
          let four : length g.0 ≤ 4 = g.3.1 in
          let whole : length text ≡ length g.0 + length g.1 = ap length g.2 ∙ length-append g.0 g.1 in
          omega arith)
      | inr d ↦ absurd (dotted-dot d.0 d.1 d.4 (subst P d.3 lacks))
    ]

-- eight groups of hex digits alone have at most 39 bytes
pub length-hex_groups : (text segments : List ℕ) → IsHexGroups text segments → length text ≤ 39
length-hex_groups text segments h =
    let P : List ℕ → Type 0 = λ t. Lacks t 46 in
    elim h.1 [
      | inl g ↦ length-all_groups text segments h.0 g.0 g.1
      | inr e ↦ (
          let both : Lacks (e.head_text ++ (58 ∷ 58 ∷ []) ++ e.tail_text) 46 = subst P e.spelled h.0 in
          let head : length e.head_text ≤ 5 * length e.head =
          length-groups false [] e.head_text e.head (omega arith) (Lacks-front 46 e.head_text (58 ∷ 58 ∷ []) (Lacks-front 46 _ e.tail_text both))
          e.head_groups in
          let tail : length e.tail_text ≤ 5 * length e.tail =
          length-groups true [] e.tail_text e.tail (omega arith) (Lacks-back 46 _ e.tail_text both) e.tail_groups in
          let room : length e.head + length e.tail < 8 = e.room in
          let whole : length text ≡ length e.head_text + 2 + length e.tail_text =
          ap length e.spelled ∙ length-append (e.head_text ++ (58 ∷ 58 ∷ [])) e.tail_text ∙
          ap (λ n. n + length e.tail_text) (length-append e.head_text (58 ∷ 58 ∷ [])) in
          omega arith)
    ]

-- the IPv4 address at the end stands after the last colon
pub IsCutAtLast-end : (text hex : List ℕ) (h : IsDottedEnd text hex) → IsCutAtLast 58 text h.front h.tail
IsCutAtLast-end text hex h = record { joined = h.spelled; last = Lacks-dotted 58 h.tail h.octets (omega arith) (λ e. omega arith) h.of_tail }
