-- Options that were written, read.
use Rattle.std.proofs.Common.{◌≡◌, ◌≢◌, ℕ, ◌+◌, ◌≤◌, Bool, true, false, eqb, List, [], ◌∷◌, ◌++◌, length, take, drop, refl, sym, ◌∙◌, ap, arith, append_assoc}
use Rattle.std.proofs.Common.{length-append}
use Rattle.std.specs.Prelude.{◌==◌, Option, Some, None, if◌then◌else◌}
use Rattle.std.proofs.lemmas.Bool.{eqb-false}
use Rattle.std.proofs.Math.Seq.{take-append_seam, drop-append_seam}
use Rattle.wire_dhcp.specs.Options.{OptionValue, options_in, is_area, last_of}
use Rattle.wire_dhcp.specs.Written.{Slot, inside_bytes, slots_bytes, client_slots, name_slots, time_slots, network_slots, slots, client_bytes, name_bytes}
use Rattle.wire_dhcp.specs.Written.{time_bytes, network_bytes, options_bytes}
use Rattle.wire_dhcp.specs.declared.repr.DhcpRepr.{DhcpRepr}
use Rattle.wire_dhcp.proofs.Areas.{options_in-one, is_area-one}

-- an option of a code, with what is inside
abbrev value : ℕ → List ℕ → OptionValue
value kind inside = record { kind = kind; inside = inside }

-- the options that slots make, before others
abbrev pub one : ℕ → Option (List ℕ) → List OptionValue → List OptionValue
one kind None os = os
one kind (Some inside) os = value kind inside ∷ os

abbrev pub present : List Slot → List OptionValue → List OptionValue
present [] os = os
present (s ∷ slots) os = one s.kind s.inside (present slots os)

-- no code is that of a pad or of the end
abbrev pub AreKinds : List Slot → Type 0
AreKinds [] = Unit {0}
AreKinds (s ∷ slots) = ((s.kind == 0) ≡ false) × ((s.kind == 255) ≡ false) × AreKinds slots

options_in-inside : (kind : ℕ) (inside : Option (List ℕ)) (bytes : List ℕ) → kind ≢ 0 → kind ≢ 255 →
    options_in 0 (inside_bytes kind inside ++ bytes) ≡ one kind inside (options_in 0 bytes)
options_in-inside kind None bytes some goes = refl
options_in-inside kind (Some inside) bytes some goes =
    options_in-one kind (length inside) (inside ++ bytes) some goes (omega (arith, length-append inside bytes))
    ∙ ap (λ t. value kind t ∷ options_in 0 (drop (length inside) (inside ++ bytes))) (take-append_seam inside bytes)
    ∙ ap (λ d. value kind inside ∷ options_in 0 d) (drop-append_seam inside bytes)

pub options_in-slots : (slots : List Slot) (rest : List ℕ) → AreKinds slots → options_in 0 (slots_bytes slots ++ rest) ≡ present slots (options_in 0 rest)
options_in-slots [] rest kinds = refl
options_in-slots (s ∷ slots) rest kinds =
    ap (options_in 0) (append_assoc (inside_bytes s.kind s.inside) (slots_bytes slots) rest)
    ∙ options_in-inside s.kind s.inside (slots_bytes slots ++ rest) (eqb-false s.kind 0 kinds.0) (eqb-false s.kind 255 kinds.1)
    ∙ ap (one s.kind s.inside) (options_in-slots slots rest kinds.2)

is_area-inside : (kind : ℕ) (inside : Option (List ℕ)) (bytes : List ℕ) → kind ≢ 0 → kind ≢ 255 →
    is_area 0 (inside_bytes kind inside ++ bytes) ≡ is_area 0 bytes
is_area-inside kind None bytes some goes = refl
is_area-inside kind (Some inside) bytes some goes =
    is_area-one kind (length inside) (inside ++ bytes) some goes (omega (arith, length-append inside bytes))
    ∙ ap (is_area 0) (drop-append_seam inside bytes)

pub is_area-slots : (slots : List Slot) (rest : List ℕ) → AreKinds slots → is_area 0 (slots_bytes slots ++ rest) ≡ is_area 0 rest
is_area-slots [] rest kinds = refl
is_area-slots (s ∷ slots) rest kinds =
    ap (is_area 0) (append_assoc (inside_bytes s.kind s.inside) (slots_bytes slots) rest)
    ∙ is_area-inside s.kind s.inside (slots_bytes slots ++ rest) (eqb-false s.kind 0 kinds.0) (eqb-false s.kind 255 kinds.1)
    ∙ is_area-slots slots rest kinds.2

-- what is inside, or else what was found
abbrev pub or_else : Option (List ℕ) → Option (List ℕ) → Option (List ℕ)
or_else None so_far = so_far
or_else (Some inside) so_far = Some inside

-- what is inside the last slot of a code
abbrev pub look : ℕ → Option (List ℕ) → List Slot → Option (List ℕ)
look kind so_far [] = so_far
look kind so_far (s ∷ slots) = look kind (if s.kind == kind then or_else s.inside so_far else so_far) slots

same-both : (b : Bool) (x : Option (List ℕ)) → x ≡ (if b then x else x)
same-both true x = refl
same-both false x = refl

last_of-one : (kind k : ℕ) (inside so_far : Option (List ℕ)) (os : List OptionValue) →
    last_of kind so_far (one k inside os) ≡ last_of kind (if k == kind then or_else inside so_far else so_far) os
last_of-one kind k None so_far os = ap (λ s. last_of kind s os) (same-both (k == kind) so_far)
last_of-one kind k (Some inside) so_far os = refl

pub last_of-present : (kind : ℕ) (so_far : Option (List ℕ)) (slots : List Slot) (os : List OptionValue) →
    last_of kind so_far (present slots os) ≡ last_of kind (look kind so_far slots) os
last_of-present kind so_far [] os = refl
last_of-present kind so_far (s ∷ slots) os =
    last_of-one kind s.kind s.inside so_far (present slots os)
    ∙ last_of-present kind (if s.kind == kind then or_else s.inside so_far else so_far) slots os

pub or_else-none : (inside : Option (List ℕ)) → or_else inside None ≡ inside
or_else-none None = refl
or_else-none (Some inside) = refl

-- options one after the other
pub slots_bytes-append : (a b : List Slot) → slots_bytes (a ++ b) ≡ slots_bytes a ++ slots_bytes b
slots_bytes-append [] b = refl
slots_bytes-append (s ∷ slots) b =
    ap (λ xs. inside_bytes s.kind s.inside ++ xs) (slots_bytes-append slots b) ∙
    sym (append_assoc (inside_bytes s.kind s.inside) (slots_bytes slots) (slots_bytes b))

-- the options of a message, group by group, are those of all slots
abbrev known : DhcpRepr → List ℕ
known v = slots_bytes (client_slots v) ++ (slots_bytes (name_slots v) ++ (slots_bytes (time_slots v) ++ slots_bytes (network_slots v)))

known-slots : (v : DhcpRepr) → slots_bytes (slots v) ≡ known v
known-slots v =
    slots_bytes-append (client_slots v) (name_slots v ++ (time_slots v ++ network_slots v))
    ∙ ap (λ xs. slots_bytes (client_slots v) ++ xs) (
    slots_bytes-append (name_slots v) (time_slots v ++ network_slots v)
    ∙ ap (λ xs. slots_bytes (name_slots v) ++ xs) (slots_bytes-append (time_slots v) (network_slots v))
    )

four-before : (a b c d rest : List ℕ) → a ++ (b ++ (c ++ (d ++ rest))) ≡ (a ++ (b ++ (c ++ d))) ++ rest
four-before a b c d rest = simp append_assoc refl

-- before the further ones
pub options_bytes-slots : (v : DhcpRepr) → options_bytes v ≡ slots_bytes (slots v) ++ v.additional_options.now
unfolding client_bytes name_bytes time_bytes network_bytes
options_bytes-slots v =
    four-before (slots_bytes (client_slots v)) (slots_bytes (name_slots v)) (slots_bytes (time_slots v)) (slots_bytes (network_slots v))
    v.additional_options.now
    ∙ ap (λ xs. xs ++ v.additional_options.now) (sym (known-slots v))
