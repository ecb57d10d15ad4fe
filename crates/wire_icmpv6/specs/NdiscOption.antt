-- Options of neighbour messages (RFC 4861, section 4.6): a type, a length in units of 8 bytes that counts these two
-- fields too, and what is inside.
use Rattle.std.specs.Prelude.{◌≡◌, ◌==◌, ℕ, ◌+◌, ◌-◌, ◌*◌, ◌/◌, ◌<◌, Option, Some, None, List, [], ◌∷◌, ◌++◌, length, replicate, map}
use Rattle.std.specs.List.{filter, last_or}
use Rattle.std.specs.Option.{option_map}
use Rattle.wire_address.specs.Hardware.{raw_bytes}
use Rattle.wire_address.specs.declared.hardware.RawHardwareAddress.{RawHardwareAddress}
use Rattle.wire_icmpv6.specs.declared.ndisc_option.NdiscOption.{NdiscOption}

-- an option as a value
pub record OptionValue : Type 0 where
  pub kind : ℕ
  pub inside : List ℕ

-- the value of an option
abbrev pub value_of : NdiscOption → OptionValue
value_of o = record { kind = o.option_type; inside = o.bytes.now }

-- how many units of 8 bytes an option fills
abbrev pub units : OptionValue → ℕ
units o = (2 + length o.inside) / 8

-- an option fills whole units, at least one
pub record IsOption (o : OptionValue) : Type 0 where
  pub some : 0 < units o
  pub whole : 2 + length o.inside ≡ 8 * units o

-- the bytes of an option
abbrev pub option_bytes : OptionValue → List ℕ
option_bytes o = o.kind ∷ units o ∷ o.inside

-- the bytes of options, one after the other
abbrev pub options_bytes : List OptionValue → List ℕ
options_bytes [] = []
options_bytes (o ∷ os) = option_bytes o ++ options_bytes os

-- the bytes begin with this option, and then come the others
pub record Begins (bytes : List ℕ) (o : OptionValue) (rest : List ℕ) : Type 0 where
  pub is_option : IsOption o
  pub spelled : bytes ≡ option_bytes o ++ rest

-- each is an option, and a link address of this type is one of Ethernet, which has six bytes (RFC 2464, section 6)
abbrev pub AreOptions : ℕ → List OptionValue → Type 0
AreOptions kind [] = Unit {0}
AreOptions kind (o ∷ os) = IsOption o × (o.kind ≡ kind → length o.inside ≡ 6) × AreOptions kind os

-- the link addresses of this type
abbrev pub links : ℕ → List OptionValue → List (List ℕ)
links kind os = map (λ o. o.inside) (filter (λ o. o.kind == kind) os)

-- the bytes are options whose last link address of this type is this one; it is the one so far where there is none
abbrev pub HasLink : ℕ → Option (List ℕ) → List ℕ → Option (List ℕ) → Type 0
HasLink kind so_far bytes link = (os : List OptionValue) × (bytes ≡ options_bytes os) × AreOptions kind os × (link ≡ last_or so_far (links kind os))

-- the bytes of a link address, if there is one
abbrev pub link_bytes : Option RawHardwareAddress → Option (List ℕ)
link_bytes a = option_map raw_bytes a

-- how many bytes the option of a link address fills
abbrev pub link_len : Option (List ℕ) → ℕ
link_len None = 0
link_len (Some address) = 8

-- a link address of at most six bytes with zeros up to the sixth
abbrev pub padded : List ℕ → List ℕ
padded address = address ++ replicate (6 - length address) 0

-- the option of a link address, if there is one
abbrev pub link_option : ℕ → Option (List ℕ) → List ℕ
link_option kind None = []
link_option kind (Some address) = kind ∷ 1 ∷ padded address

-- the link address that a reader finds in that option
abbrev pub read_link : Option (List ℕ) → Option (List ℕ)
read_link link = option_map padded link
