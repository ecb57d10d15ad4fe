-- Laws of the texts of addresses.
use Rattle.std.proofs.Common.{◌≡◌, ◌≢◌, ℕ, ◌+◌, ◌<◌, ◌≤◌, ◌⊎◌, inl, inr, List, [], ◌∷◌, ◌++◌, length, zero, suc, sym, refl, ◌∙◌, ap, ap₂, arith, get_or, subst}
use Rattle.std.proofs.Common.{take, drop, take-append-drop, Option, Some, None, Result, Ok}
use Rattle.std.specs.Prelude.{MatchOption, MatchResult, IsSome, IfSome, IsSomeAnd, IsOk, IfOk, IsOkAnd, IsUtf8, Err}
use Rattle.std.specs.Str.{IsAscii}
use Rattle.std.proofs.lemmas.Str.{IsUtf8-from_ascii}
use Rattle.std.specs.Option.{ok_or}
use Rattle.std.specs.Borrow.{Bor}
use Rattle.std.specs.Char.{digit_value}
use Rattle.std.specs.Str.Parse.{AllDigits}
use Rattle.std.specs.Str.Pattern.{RFindsChar}
use Rattle.std.proofs.lemmas.Str.Pattern.{drop_at_char, NoCharPasses-char}
use Rattle.wire_address.specs.Text.{Reads, Lacks, IsCut, IsCutAtLast, IsOctetBefore, IsDottedText, IsHexPair, IsHexPairBefore, IsSixPairs}

-- digits lack what is no digit
pub Lacks-digits : (radix byte : ℕ) (text : List ℕ) → AllDigits radix text → radix ≤ digit_value byte → Lacks text byte
Lacks-digits radix byte [] digits other i less = absurd (omega arith)
Lacks-digits radix byte (c ∷ text) digits other zero less = λ same. let h : digit_value c < radix = digits.0 in let e : digit_value c ≡ digit_value byte =
    ap digit_value same in omega arith
Lacks-digits radix byte (c ∷ text) digits other (suc i) less = Lacks-digits radix byte text digits.1 other i (omega arith)

-- one more byte that is not it
pub Lacks-cons : (byte b : ℕ) (text : List ℕ) → b ≢ byte → Lacks text byte → Lacks (b ∷ text) byte
Lacks-cons byte b text other rest zero less = other
Lacks-cons byte b text other rest (suc i) less = rest i (omega arith)

-- joined texts that lack it
pub Lacks-append : (byte : ℕ) (front back : List ℕ) → Lacks front byte → Lacks back byte → Lacks (front ++ back) byte
Lacks-append byte [] back first second = second
Lacks-append byte (b ∷ front) back first second =
    Lacks-cons byte b (front ++ back) (first 0 (omega arith)) (Lacks-append byte front back (λ i less. first (suc i) (omega arith)) second)

-- what joined texts lack, each of them lacks
pub Lacks-front : (byte : ℕ) (front back : List ℕ) → Lacks (front ++ back) byte → Lacks front byte
Lacks-front byte [] back lacks i less = absurd (omega arith)
Lacks-front byte (b ∷ front) back lacks zero less = lacks 0 (omega arith)
Lacks-front byte (b ∷ front) back lacks (suc i) less = Lacks-front byte front back (λ j l. lacks (suc j) (omega arith)) i (omega arith)

pub Lacks-back : (byte : ℕ) (front back : List ℕ) → Lacks (front ++ back) byte → Lacks back byte
Lacks-back byte [] back lacks = lacks
Lacks-back byte (b ∷ front) back lacks = Lacks-back byte front back (λ j l. lacks (suc j) (omega arith))

-- a text that has a byte does not lack it
pub Lacks-joined : (byte : ℕ) (front back : List ℕ) → Lacks (front ++ byte ∷ back) byte → ⊥
Lacks-joined byte [] back lacks = lacks 0 (omega arith) refl
Lacks-joined byte (b ∷ front) back lacks = Lacks-joined byte front back (λ i less. lacks (suc i) (omega arith))

-- an octet and a dot
Lacks-octet_before : (byte : ℕ) (text : List ℕ) (n : ℕ) (rest : List ℕ) → 10 ≤ digit_value byte → 46 ≢ byte → IsOctetBefore text n rest → Lacks rest byte →
    Lacks text byte
Lacks-octet_before byte text n rest other dot h after =
    let P : List ℕ → Type 0 = λ t. Lacks t byte in
    subst P (sym h.1) (Lacks-append byte h.0 (46 ∷ rest) (Lacks-digits 10 byte h.0 h.2.0.0.0.1 other) (Lacks-cons byte 46 rest dot after))

-- an IPv4 address has digits and dots alone
pub Lacks-dotted : (byte : ℕ) (text octets : List ℕ) → 10 ≤ digit_value byte → 46 ≢ byte → IsDottedText text octets → Lacks text byte
Lacks-dotted byte text octets other dot h =
    Lacks-octet_before byte text h.a h.after_a other dot h.first
    (Lacks-octet_before byte h.after_a h.b h.after_b other dot h.second
    (Lacks-octet_before byte h.after_b h.c h.after_c other dot h.third
    (Lacks-digits 10 byte h.after_c h.fourth.0.0.0.1 other)))

-- equal values in `Some`
pub some_inside : {A : Type 0} (a b : A) → Some a ≡ Some b → a ≡ b
some_inside a b same = cc

-- a pair of parts of a text
abbrev Parts : Type 0
Parts = Option (Bor (List ℕ) × Bor (List ℕ))

-- the parts before and after a byte are a cut
pub IsCut-parts : (byte : ℕ) (text : List ℕ) (P : Type 0) (r : Parts) →
    MatchOption r P (λ x. (text ≡ x.0.now ++ (byte ∷ x.1.now)) × ((i : ℕ) → i < length x.0.now → get_or x.0.now i 0 ≢ byte)) →
    IfSome r (λ p. IsCut byte text p.0.now p.1.now)
IsCut-parts byte text P None h = tt
IsCut-parts byte text P (Some p) h = record { joined = h.0; first = h.1 }

-- parts that are these two are there
pub IsSomeAnd-parts : (front back : List ℕ) (r : Parts) → MatchOption r ⊥ (λ x. (x.0.now ≡ front) × (x.1.now ≡ back)) →
    IsSomeAnd r (λ p. (p.0.now ≡ front) × (p.1.now ≡ back))
IsSomeAnd-parts front back None h = h
IsSomeAnd-parts front back (Some p) h = h

-- the parts at the last place of a byte are determined
pub IsCutAtLast-unique : (byte : ℕ) (front back first second : List ℕ) → front ++ byte ∷ back ≡ first ++ byte ∷ second → Lacks back byte → Lacks second byte →
    (front ≡ first) × (back ≡ second)
IsCutAtLast-unique byte [] back [] second same lacks other = (refl, cc)
IsCutAtLast-unique byte [] back (b ∷ first) second same lacks other =
    let P : List ℕ → Type 0 = λ t. Lacks t byte in
    let tail : back ≡ first ++ byte ∷ second = cc in
    absurd (Lacks-joined byte first second (subst P tail lacks))
IsCutAtLast-unique byte (a ∷ front) back [] second same lacks other =
    let P : List ℕ → Type 0 = λ t. Lacks t byte in
    let tail : second ≡ front ++ byte ∷ back = cc in
    absurd (Lacks-joined byte front back (subst P tail other))
IsCutAtLast-unique byte (a ∷ front) back (b ∷ first) second same lacks other =
    let tail : front ++ byte ∷ back ≡ first ++ byte ∷ second = cc in
    let both = IsCutAtLast-unique byte front back first second tail lacks other in
    let head : a ≡ b = cc in
    (ap₂ ◌∷◌ head both.0, both.1)

-- the parts that `rsplit_once` gives at a character
abbrev pub IsRsplitOnceResult : ℕ → List ℕ → Parts → Type 0
IsRsplitOnceResult c bs r =
    MatchOption r (RFindsChar c bs None)
    (λ x. (i : ℕ) × (j : ℕ) × RFindsChar c bs (Some (i, j)) × (x.0.now ≡ take i bs) × (x.1.now ≡ drop j bs) × (i ≤ j) × (length x.0.now ≡ i) ×
    (length x.1.now + j ≡ length bs))

-- they are a cut at the last such byte
pub IsCutAtLast-parts : (byte : ℕ) (text : List ℕ) (r : Parts) → IsRsplitOnceResult byte text r → byte < 128 →
    IfSome r (λ p. IsCutAtLast byte text p.0.now p.1.now)
IsCutAtLast-parts byte text None h small = tt
IsCutAtLast-parts byte text (Some p) h small =
    let i : ℕ = h.0 in
    let j : ℕ = h.1 in
    let at : drop i text ≡ byte ∷ drop j text = drop_at_char byte text i j h.2.1 small in
    let P : List ℕ → Type 0 = λ t. Lacks t byte in
    record {
      joined = sym (take-append-drop i text) ∙ ap (λ t. take i text ++ t) at ∙ sym (ap₂ (λ f b. f ++ byte ∷ b) h.3 h.4);
      last = subst P (sym h.4) (λ k less. NoCharPasses-char byte (drop j text) k h.2.0 small less);
    }

-- and the only one
pub IsCutAtLast-only : (byte : ℕ) (text front back : List ℕ) (r : Parts) → IsRsplitOnceResult byte text r → byte < 128 → IsCutAtLast byte text front back
    → IsSomeAnd r (λ p. (p.0.now ≡ front) × (p.1.now ≡ back))
IsCutAtLast-only byte text front back None h small cut =
    let P : List ℕ → Type 0 = λ t. Lacks t byte in
    absurd (Lacks-joined byte front back (subst P cut.joined (λ k less. NoCharPasses-char byte text k h small less)))
IsCutAtLast-only byte text front back (Some p) h small cut =
    let own = IsCutAtLast-parts byte text (Some p) h small in
    IsCutAtLast-unique byte p.0.now p.1.now front back (sym own.joined ∙ cut.joined) own.last cut.last

-- a reader that makes an error of `None`
pub Reads-ok_or : {A E : Type 0} (IsTextOf : List ℕ → A → Type 0) (text : List ℕ) (o : Option A) (e : E) (r : Result A E) → r ≡ ok_or o e
    → IfSome o (IsTextOf text) → ((a : A) → IsTextOf text a → o ≡ Some a) → Reads IsTextOf text r
Reads-ok_or {A} {E} IsTextOf text None e r is found only =
    let P : Result A E → Type 0 = λ x. Reads IsTextOf text x in
    subst P (sym is) (tt, λ a h. let no : None ≡ Some a = only a h in absurd (cc))
Reads-ok_or {A} {E} IsTextOf text (Some x) e r is found only =
    let P : Result A E → Type 0 = λ y. Reads IsTextOf text y in
    subst P (sym is) (found, λ a h. ap Ok (some_inside x a (only a h)))

-- the same of a reader of blocks, whose value is told by an address and a length
pub ReadsCidr-ok_or : {A B E : Type 0} (IsTextOf : A → ℕ → Type 0) (address : B → A) (len : B → ℕ) (o : Option B) (e : E) (r : Result B E) → r ≡ ok_or o e
    → IfSome o (λ b. IsTextOf (address b) (len b)) → ((a : A) (n : ℕ) → IsTextOf a n → IsSomeAnd o (λ b. (address b ≡ a) × (len b ≡ n)))
    → IfOk r (λ b. IsTextOf (address b) (len b)) × ((a : A) (n : ℕ) → IsTextOf a n → IsOkAnd r (λ b. (address b ≡ a) × (len b ≡ n)))
ReadsCidr-ok_or {A} {B} {E} IsTextOf address len None e r is found only =
    let P : Result B E → Type 0 = λ x. IfOk x (λ b. IsTextOf (address b) (len b)) ×
    ((a : A) (n : ℕ) → IsTextOf a n → IsOkAnd x (λ b. (address b ≡ a) × (len b ≡ n))) in
    subst P (sym is) (tt, λ a n h. absurd (only a n h))
ReadsCidr-ok_or {A} {B} {E} IsTextOf address len (Some x) e r is found only =
    let P : Result B E → Type 0 = λ y. IfOk y (λ b. IsTextOf (address b) (len b)) ×
    ((a : A) (n : ℕ) → IsTextOf a n → IsOkAnd y (λ b. (address b ≡ a) × (len b ≡ n))) in
    subst P (sym is) (found, only)

-- what holds of each value that is there
pub IfSome-map : {A : Type 0} (P Q : A → Type 0) (o : Option A) → ((a : A) → P a → Q a) → IfSome o P → IfSome o Q
IfSome-map P Q None step h = tt
IfSome-map P Q (Some a) step h = step a h

-- the separators of Ethernet addresses are no hex digits
separator-other : (separator : ℕ) → (separator ≡ 45) ⊎ (separator ≡ 58) → 16 ≤ digit_value separator
separator-other separator h = let P : ℕ →
    Type 0 = λ s. 16 ≤ digit_value s in elim h [ inl e ↦ subst P (sym e) (omega arith) | inr e ↦ subst P (sym e) (omega arith) ]

-- one or two hex digits lack a separator
pub Lacks-hex : (separator : ℕ) (text : List ℕ) (n : ℕ) → (separator ≡ 45) ⊎ (separator ≡ 58) → IsHexPair text n → Lacks text separator
Lacks-hex separator text n h pair = Lacks-digits 16 separator text pair.0.0.1 (separator-other separator h)

-- a pair and a separator, before a text that lacks the byte
Lacks-pair_before : (byte separator : ℕ) (text : List ℕ) (n : ℕ) (rest : List ℕ) → 16 ≤ digit_value byte → separator ≢ byte →
    IsHexPairBefore separator text n rest → Lacks rest byte → Lacks text byte
Lacks-pair_before byte separator text n rest other apart h after =
    let P : List ℕ → Type 0 = λ t. Lacks t byte in
    subst P (sym h.1) (Lacks-append byte h.0 (separator ∷ rest) (Lacks-digits 16 byte h.0 h.2.0.0.1 other) (Lacks-cons byte separator rest apart after))

-- six pairs with colons between them have no dash
Lacks-six : (text octets : List ℕ) → IsSixPairs 58 text octets → Lacks text 45
Lacks-six text octets h =
    let step = λ (t : List ℕ) (n : ℕ) (rest : List ℕ) (before : IsHexPairBefore 58 t n rest) (after : Lacks rest 45).
    Lacks-pair_before 45 58 t n rest (omega arith) (λ e. omega arith) before after in
    step text h.a h.after_a h.first (step h.after_a h.b h.after_b h.second (step h.after_b h.c h.after_c h.third (step h.after_c h.d h.after_d h.fourth
    (step h.after_d h.e h.after_e h.fifth (Lacks-digits 16 45 h.after_e h.sixth.0.0.1 (omega arith))))))

-- no text is both with dashes and with colons
pub IsSixPairs-apart : (text octets others : List ℕ) → IsSixPairs 45 text octets → IsSixPairs 58 text others → ⊥
IsSixPairs-apart text octets others h k =
    let P : List ℕ → Type 0 = λ t. Lacks t 45 in
    Lacks-joined 45 h.first.0 h.after_a (subst P h.first.1 (Lacks-six text others k))

-- bytes of ASCII are a text
pub IsOk-ascii : {A E : Type 0} (bytes : List ℕ) (P : A → Type 0) (Q : E → Type 0) (r : Result A E) → MatchResult r P (λ e. ¬ (IsUtf8 bytes) × Q e) →
    IsAscii bytes → IsOk r
IsOk-ascii bytes P Q (Ok x) h ascii = refl
IsOk-ascii bytes P Q (Err e) h ascii = absurd (h.0 (IsUtf8-from_ascii bytes ascii))

-- a value of which something is known, and which is there
pub IsSomeAnd-from : {A : Type 0} (P Q : A → Type 0) (o : Option A) → IfSome o P → IsSome o → ((a : A) → P a → Q a) → IsSomeAnd o Q
IsSomeAnd-from P Q None found some step = absurd (cc)
IsSomeAnd-from P Q (Some a) found some step = step a found
