-- DHCP options (RFC 2132, section 2). A pad is a single 0, and the end a single 255. Every other option is its code,
-- a byte that counts what is inside, and what is inside. An area of options goes to its end, or to the end of the bytes.
use Rattle.std.specs.Prelude.{◌==◌, ℕ, zero, suc, ◌+◌, Bool, true, false, nat_le, if◌then◌else◌, Option, Some, None, List, [], ◌∷◌, ◌++◌, length, take}
use Rattle.std.specs.Prelude.{slice_index}
use denote.Ref.{Bor}

-- an option as a value
pub record OptionValue : Type 0 where
  pub kind : ℕ
  pub inside : List ℕ

-- an option of this code, given its length field and what follows, before others; none where it is cut
abbrev pub option_before : ℕ → List ℕ → List OptionValue → List OptionValue
option_before kind [] others = []
option_before kind (n ∷ inner) others =
    if nat_le n (length inner) then record { kind = kind; inside = take n inner } ∷ others else []

-- the options of an area whose first n bytes are skipped, up to its end or to an option that is cut
abbrev pub options_in : ℕ → List ℕ → List OptionValue
options_in n [] = []
options_in (suc n) (b ∷ bytes) = options_in n bytes
options_in zero (b ∷ bytes) = elim (b == 0) [
  | true ↦ options_in zero bytes
  | false ↦ elim (b == 255) [ true ↦ [] | false ↦ option_before b bytes (options_in (suc (slice_index bytes 0)) bytes) ]
]

-- whether no option of the area is cut, its first n bytes skipped
abbrev pub is_area : ℕ → List ℕ → Bool
is_area n [] = n == 0
is_area (suc n) (b ∷ bytes) = is_area n bytes
is_area zero (b ∷ bytes) = elim (b == 0) [
  | true ↦ is_area zero bytes
  | false ↦ elim (b == 255) [ true ↦ true | false ↦ is_area (suc (slice_index bytes 0)) bytes ]
]

-- whether bytes are whole options one after the other, with no pad and no end, the first n bytes skipped
abbrev pub are_options : ℕ → List ℕ → Bool
are_options n [] = n == 0
are_options (suc n) (b ∷ bytes) = are_options n bytes
are_options zero (b ∷ bytes) = elim (b == 0) [
  | true ↦ false
  | false ↦ elim (b == 255) [ true ↦ false | false ↦ are_options (suc (slice_index bytes 0)) bytes ]
]

-- what is inside the last option of this code, or else what is given
abbrev pub last_of : ℕ → Option (List ℕ) → List OptionValue → Option (List ℕ)
last_of kind so_far [] = so_far
last_of kind so_far (o ∷ os) = last_of kind (if o.kind == kind then Some o.inside else so_far) os

-- the bytes that were found, if any
abbrev pub seen : Option (Bor (List ℕ)) → Option (List ℕ)
seen None = None
seen (Some bytes) = Some bytes.now
