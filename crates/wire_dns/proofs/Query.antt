-- A query that was written, read.
use Rattle.std.proofs.Common.{◌≡◌, ◌≢◌, ℕ, ◌+◌, ◌*◌, ◌/◌, ◌%◌, ◌^◌, ◌<◌, ◌≤◌, Bool, true, false, List, [], ◌∷◌, ◌++◌, length, get_or, refl, sym, ◌∙◌, ap, subst}
use Rattle.std.proofs.Common.{arith, append_assoc, length-append}
use Rattle.std.specs.Prelude.{◌==◌, if◌then◌else◌, slice_index}
use Rattle.std.specs.Int.{w16, to_be_bytes}
use Rattle.std.proofs.lemmas.Bool.{eq-eqb, ne_eqb}
use Rattle.wire_address.specs.Fields.{be16}
use Rattle.wire_dns.specs.Codes.{type_of, type_number, opcode_number, flags_of, high_byte, low_byte}
use Rattle.wire_dns.specs.Message.{IsPlain, IsQuestion, IsQuery, normal, written}
use Rattle.wire_dns.specs.Name.{IsName, bytes_of_name}
use Rattle.wire_dns.specs.declared.codes.DnsFlags.{DnsFlags}
use Rattle.wire_dns.specs.declared.codes.DnsOpcode.{DnsOpcode}
use Rattle.wire_dns.specs.declared.question.DnsQuestion.{DnsQuestion}
use Rattle.wire_dns.specs.declared.repr.DnsRepr.{DnsRepr}
use Rattle.wire_dns.proofs.Plain.{index-at, IsName-plain}

-- a flag in its byte: what stands above it is a multiple of twice its value, what stands below it is less than it
abbrev weighs : Bool → ℕ → ℕ
weighs flag value = if flag then value else 0

flag-128 : (flag : Bool) (below : ℕ) → below < 128 → flag ≡ ((weighs flag 128 + below) / 128 % 2 == 1)
flag-128 true below small = sym (eq-eqb ((128 + below) / 128 % 2) 1 (omega (arith, small)))
flag-128 false below small = sym (ne_eqb ((0 + below) / 128 % 2) 1 (λ e. omega (arith, small, e)))

flag-4 : (flag : Bool) (above below : ℕ) → below < 4 → flag ≡ ((8 * above + weighs flag 4 + below) / 4 % 2 == 1)
flag-4 true above below small = sym (eq-eqb ((8 * above + 4 + below) / 4 % 2) 1 (omega (arith, small)))
flag-4 false above below small = sym (ne_eqb ((8 * above + 0 + below) / 4 % 2) 1 (λ e. omega (arith, small, e)))

flag-2 : (flag : Bool) (above below : ℕ) → below < 2 → flag ≡ ((4 * above + weighs flag 2 + below) / 2 % 2 == 1)
flag-2 true above below small = sym (eq-eqb ((4 * above + 2 + below) / 2 % 2) 1 (omega (arith, small)))
flag-2 false above below small = sym (ne_eqb ((4 * above + 0 + below) / 2 % 2) 1 (λ e. omega (arith, small, e)))

flag-1 : (flag : Bool) (above : ℕ) → flag ≡ ((2 * above + weighs flag 1) % 2 == 1)
flag-1 true above = sym (eq-eqb ((2 * above + 1) % 2) 1 (omega arith))
flag-1 false above = sym (ne_eqb ((2 * above + 0) % 2) 1 (λ e. omega (arith, e)))

weighs-le : (flag : Bool) (value : ℕ) → weighs flag value ≤ value
weighs-le true value = omega arith
weighs-le false value = omega arith

weighs-128 : (flag : Bool) → (weighs flag 128 ≡ 8 * weighs flag 16) × (weighs flag 128 ≡ 4 * weighs flag 32) × (weighs flag 128 ≡ 2 * weighs flag 64)
weighs-128 true = (refl, refl, refl)
weighs-128 false = (refl, refl, refl)

weighs-4 : (flag : Bool) → (weighs flag 4 ≡ 4 * weighs flag 1) × (weighs flag 4 ≡ 2 * weighs flag 2)
weighs-4 true = (refl, refl)
weighs-4 false = (refl, refl)

weighs-2 : (flag : Bool) → weighs flag 2 ≡ 2 * weighs flag 1
weighs-2 true = refl
weighs-2 false = refl

-- the byte of the first flags
abbrev summed : ℕ → ℕ → ℕ → ℕ → ℕ → ℕ
summed r o a t d = r + 8 * o + a + t + d

response-is : (r a t d : Bool) (o : ℕ) → o < 16 → r ≡ (summed (weighs r 128) o (weighs a 4) (weighs t 2) (weighs d 1) / 128 % 2 == 1)
response-is r a t d o small =
    let below : 8 * o + weighs a 4 + weighs t 2 + weighs d 1 < 128 = omega (arith, small, weighs-le a 4, weighs-le t 2, weighs-le d 1) in
    let same : weighs r 128 + (8 * o + weighs a 4 + weighs t 2 + weighs d 1) ≡ summed (weighs r 128) o (weighs a 4) (weighs t 2) (weighs d 1) = omega arith in
    flag-128 r (8 * o + weighs a 4 + weighs t 2 + weighs d 1) below ∙ ap (λ n. n / 128 % 2 == 1) same

authoritative-is : (r a t d : Bool) (o : ℕ) → a ≡ (summed (weighs r 128) o (weighs a 4) (weighs t 2) (weighs d 1) / 4 % 2 == 1)
authoritative-is r a t d o =
    let below : weighs t 2 + weighs d 1 < 4 = omega (arith, weighs-le t 2, weighs-le d 1) in
    let same : 8 * (weighs r 16 + o) + weighs a 4 + (weighs t 2 + weighs d 1) ≡ summed (weighs r 128) o (weighs a 4) (weighs t 2) (weighs d 1) =
    omega (arith, (weighs-128 r).0) in
    flag-4 a (weighs r 16 + o) (weighs t 2 + weighs d 1) below ∙ ap (λ n. n / 4 % 2 == 1) same

truncated-is : (r a t d : Bool) (o : ℕ) → t ≡ (summed (weighs r 128) o (weighs a 4) (weighs t 2) (weighs d 1) / 2 % 2 == 1)
truncated-is r a t d o =
    let below : weighs d 1 < 2 = omega (arith, weighs-le d 1) in
    let same : 4 * (weighs r 32 + 2 * o + weighs a 1) + weighs t 2 + weighs d 1 ≡ summed (weighs r 128) o (weighs a 4) (weighs t 2) (weighs d 1) =
    omega (arith, (weighs-128 r).1, (weighs-4 a).0) in
    flag-2 t (weighs r 32 + 2 * o + weighs a 1) (weighs d 1) below ∙ ap (λ n. n / 2 % 2 == 1) same

desired-is : (r a t d : Bool) (o : ℕ) → d ≡ (summed (weighs r 128) o (weighs a 4) (weighs t 2) (weighs d 1) % 2 == 1)
desired-is r a t d o =
    let same : 2 * (weighs r 64 + 4 * o + weighs a 2 + weighs t 1) + weighs d 1 ≡ summed (weighs r 128) o (weighs a 4) (weighs t 2) (weighs d 1) =
    omega (arith, (weighs-128 r).2, (weighs-4 a).1, weighs-2 t) in
    flag-1 d (weighs r 64 + 4 * o + weighs a 2 + weighs t 1) ∙ ap (λ n. n % 2 == 1) same

available-is : (flag : Bool) → flag ≡ (weighs flag 128 / 128 % 2 == 1)
available-is true = refl
available-is false = refl

abbrev of_flags : Bool → Bool → Bool → Bool → Bool → DnsFlags
of_flags r a t d v = record { response = r; authoritative = a; truncated = t; recursion_desired = d; recursion_available = v }

flags-back : (f : DnsFlags) (o : DnsOpcode) → opcode_number o < 16 → f ≡ flags_of (high_byte f o) (low_byte f)
flags-back f o small =
    let n = opcode_number o in
    let high : ℕ = summed (weighs f.response 128) (opcode_number o) (weighs f.authoritative 4) (weighs f.truncated 2) (weighs f.recursion_desired 1) in
    ap (λ x. of_flags x f.authoritative f.truncated f.recursion_desired f.recursion_available)
    (response-is f.response f.authoritative f.truncated f.recursion_desired (opcode_number o) small)
    ∙ ap (λ x. of_flags (high / 128 % 2 == 1) x f.truncated f.recursion_desired f.recursion_available)
    (authoritative-is f.response f.authoritative f.truncated f.recursion_desired (opcode_number o))
    ∙ ap (λ x. of_flags (high / 128 % 2 == 1) (high / 4 % 2 == 1) x f.recursion_desired f.recursion_available)
    (truncated-is f.response f.authoritative f.truncated f.recursion_desired (opcode_number o))
    ∙ ap (λ x. of_flags (high / 128 % 2 == 1) (high / 4 % 2 == 1) (high / 2 % 2 == 1) x f.recursion_available)
    (desired-is f.response f.authoritative f.truncated f.recursion_desired (opcode_number o))
    ∙ ap (λ x. of_flags (high / 128 % 2 == 1) (high / 4 % 2 == 1) (high / 2 % 2 == 1) (high % 2 == 1) x) (available-is f.recursion_available)

-- the header of a query, and what stands after its name
abbrev header_of : DnsRepr → List ℕ
header_of v = to_be_bytes w16 v.transaction_id ++ (high_byte v.flags v.opcode ∷ low_byte v.flags ∷ 0 ∷ 1 ∷ 0 ∷ 0 ∷ 0 ∷ 0 ∷ 0 ∷ 0 ∷ [])

abbrev tail_of : DnsRepr → List ℕ
tail_of v = to_be_bytes w16 (type_number v.question.type_) ++ (0 ∷ 1 ∷ [])

abbrev whole : List ℕ → List ℕ → List ℕ → List ℕ
whole front name rest = front ++ (name ++ rest)

question-read : (front name : List ℕ) (high low : ℕ) (more : List ℕ) (q : DnsQuestion) (kind : ℕ) → length front ≡ 12 → bytes_of_name q.name ≡ name →
    IsPlain name → kind ≡ 256 * high + low → type_number q.type_ ≡ kind
    → IsQuestion (whole front name (high ∷ low ∷ 0 ∷ 1 ∷ more)) 12 (normal q) (16 + length name)
question-read front name high low more q kind len name_is plain kind_is type_is =
    let bytes : List ℕ = whole front name (high ∷ low ∷ 0 ∷ 1 ∷ more) in
    let before : length (front ++ name) ≡ 12 + length name = omega (arith, len, length-append front name) in
    let regrouped : bytes ≡ (front ++ name) ++ (high ∷ low ∷ 0 ∷ 1 ∷ more) = sym (append_assoc front name (high ∷ low ∷ 0 ∷ 1 ∷ more)) in
    let at : (n : ℕ) → get_or bytes (12 + length name + n) 0 ≡ get_or (high ∷ low ∷ 0 ∷ 1 ∷ more) n 0 = λ n.
    ap (λ xs. get_or xs (12 + length name + n) 0) regrouped ∙
    index-at (front ++ name) (high ∷ low ∷ 0 ∷ 1 ∷ more) (12 + length name) n (12 + length name + n) before refl
    in
    let first : get_or bytes (12 + length name) 0 ≡ high = ap (λ k. get_or bytes k 0) (omega arith) ∙ at 0 in
    let third : get_or bytes (12 + length name + 2 + 1) 0 ≡ 1 = ap (λ k. get_or bytes k 0) (omega arith) ∙ at 3 in
    let kinds : type_number q.type_ ≡ be16 bytes (12 + length name) = omega (arith, type_is, kind_is, first, at 1) in
    record {
      name_end = 12 + length name;
      name = subst (λ (xs : List ℕ). IsName bytes 12 xs (12 + length name)) (sym name_is) (IsName-plain front name (high ∷ low ∷ 0 ∷ 1 ∷ more) 12 len plain);
      within = omega (arith, len, length-append front (name ++ (high ∷ low ∷ 0 ∷ 1 ∷ more)), length-append name (high ∷ low ∷ 0 ∷ 1 ∷ more));
      kind = ap type_of kinds;
      class = omega (arith, at 2, third);
      end_is = omega arith;
    }

pub IsQuery-written : (v : DnsRepr) (more : List ℕ) → v.transaction_id < 2 ^ 16 → opcode_number v.opcode < 16 → type_number v.question.type_ < 2 ^ 16 →
    IsPlain (bytes_of_name v.question.name) → IsQuery (written v ++ more) v
IsQuery-written v more small opcode kind plain =
    let name : List ℕ = bytes_of_name v.question.name in
    let code : ℕ = type_number v.question.type_ in
    let asked = question-read (header_of v) name (code / 256 % 256) (code % 256) more v.question code refl refl plain (omega (arith, kind)) refl in
    record {
      transaction_id = omega (arith, small);
      flags = flags-back v.flags v.opcode opcode;
      questions = refl;
      answers = refl;
      question = subst (λ (xs : List ℕ). IsQuestion (header_of v ++ xs) 12 (normal v.question) (16 + length name))
          (sym (append_assoc name (tail_of v) more)) asked;
    }
