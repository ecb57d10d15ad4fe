-- The words of a script, and what each class of them says.
use Rattle.std.specs.Prelude.{◌≡◌, ℕ, ℤ, pos, ◌≤◌, ◌+◌, ◌*◌, ◌^◌, ◌&&◌, nat_lt, ◌==◌, if◌then◌else◌, List, [], ◌∷◌, length, slice_get, drop, codes, Option}
use Rattle.std.specs.Prelude.{Some, None}
use Rattle.std.specs.List.{slice_split, list_all}
use Rattle.std.specs.Char.{is_ascii_digit}
use Rattle.std.specs.Str.{bytes_eq}
use Rattle.std.specs.Str.Parse.{digits_value}
use Rattle.std.specs.Result.{result_ok, result_unwrap_or, IsOk}
use Rattle.hex.specs.Hex.{decode_of, decode_sized}
use Rattle.net_base.specs.declared.Medium.{Medium}
use Rattle.net_base.specs.declared.Medium.TheVariants.{Ethernet, Ip}
use Rattle.ip_wire.specs.IpCidr.{IpCidr}
use Rattle.ip_wire.specs.IpVersion.{IpVersion}
use Rattle.ip_wire.specs.IpVersion.TheVariants.{Ipv4, Ipv6}
use Rattle.ip_wire.specs.Text.{IsIpCidrText}
use Rattle.ip_wire.specs.Cidr.{cidr_address, cidr_prefix_len}
use Rattle.sim_link.specs.declared.kinds.Side.{Side}
use Rattle.sim_link.specs.declared.kinds.Side.TheVariants.{A, B}
use Rattle.sim_link.specs.declared.kinds.SocketKind.{SocketKind}
use Rattle.sim_link.specs.declared.kinds.SocketKind.TheVariants.{Udp, Icmp, Raw, Tcp}
use denote.Ref.{Bor}

-- the words of a text: what stands between its separators, one word more than there are separators
abbrev pub words_of : ℕ → List ℕ → List (List ℕ)
words_of separator text = slice_split (λ b. b == separator) text

-- the words of what is left of a text, if anything is
abbrev pub words_left : ℕ → Option (Bor (List ℕ)) → List (List ℕ)
words_left separator None = []
words_left separator (Some rest) = words_of separator rest.now

-- WHAT A WORD SAYS

-- what a word says, and then what follows from it
infixl 10 ◌>>=◌
abbrev pub ◌>>=◌ : {X Y : Type 0} → Option X → (X → Option Y) → Option Y
None >>= next = None
Some x >>= next = next x

-- one decimal digit or more, leading zeros allowed: their value, where it is below the bound
abbrev pub number_of : ℕ → List ℕ → Option ℕ
number_of bound word =
    if nat_lt 0 (length word) && list_all is_ascii_digit word && nat_lt (digits_value 10 word) bound
    then Some (digits_value 10 word) else None

-- an offset, a size or a count
abbrev pub size_of : List ℕ → Option ℕ
size_of = number_of (2 ^ 64)

-- a port, an identifier or a budget
abbrev pub short_of : List ℕ → Option ℕ
short_of = number_of (2 ^ 16)

-- a count of microseconds, which has no sign
abbrev pub micros_of : List ℕ → Option ℤ
micros_of word = do
  micros ← number_of (2 ^ 63) word
  Some (pos micros)

-- a host's name
abbrev pub side_of : List ℕ → Option Side
side_of word = if bytes_eq word (codes "A") then Some A else if bytes_eq word (codes "B") then Some B else None

-- the medium of a link
abbrev pub medium_of : List ℕ → Option Medium
medium_of word = if bytes_eq word (codes "eth") then Some Ethernet else if bytes_eq word (codes "ip") then Some Ip else None

-- the kind of a socket
abbrev pub kind_of : List ℕ → Option SocketKind
kind_of word =
    if bytes_eq word (codes "udp") then Some Udp
    else if bytes_eq word (codes "icmp") then Some Icmp
    else if bytes_eq word (codes "raw") then Some Raw
    else if bytes_eq word (codes "tcp") then Some Tcp
    else None

-- the version of IP that a raw socket takes, or either
abbrev pub version_of : List ℕ → Option (Option IpVersion)
version_of word =
    if bytes_eq word (codes "4") then Some (Some Ipv4)
    else if bytes_eq word (codes "6") then Some (Some Ipv6)
    else if bytes_eq word (codes "any") then Some None
    else None

-- the number of the protocol that a raw socket takes, or any
abbrev pub protocol_of : List ℕ → Option (Option ℕ)
protocol_of word =
    if bytes_eq word (codes "any") then Some None
    else do
      number ← number_of (2 ^ 8) word
      Some (Some number)

-- bytes in hex, in either case; no bytes are written `-`
abbrev pub hex_bytes_of : List ℕ → Option (List ℕ)
hex_bytes_of word =
    if bytes_eq word (codes "-") then Some []
    else if length word == 0 then None
    else result_ok (decode_of word)

-- the number of two bytes, the higher first
abbrev pub short_of_bytes : List ℕ → Option ℕ
short_of_bytes (high ∷ low ∷ []) = Some (high * 256 + low)
short_of_bytes _ = None

-- four hex digits, in either case
abbrev pub four_digits_of : List ℕ → Option ℕ
four_digits_of word = do
  bytes ← result_ok (decode_sized word 2)
  short_of_bytes bytes

-- the bytes that digits in hex say; no bytes without digits
abbrev pub bytes_said : Option (Bor (List ℕ)) → List ℕ
bytes_said None = []
bytes_said (Some digits) = result_unwrap_or (decode_of digits.now) []

abbrev pub IsHex : Option (Bor (List ℕ)) → Type 0
IsHex None = Unit {0}
IsHex (Some digits) = IsOk (decode_of digits.now)

-- the text of a block of either family
abbrev pub IsCidrText : List ℕ → IpCidr → Type 0
IsCidrText text cidr = IsIpCidrText text (cidr_address cidr) (cidr_prefix_len cidr)

-- WHAT THE FIRST OF SOME WORDS SAYS

-- what the first of these words says
abbrev pub first_as : {X : Type 0} → (List ℕ → Option X) → List (List ℕ) → Option X
first_as class words = slice_get words 0 >>= class

-- the first of these words says this
abbrev pub First : {X : Type 0} → (List ℕ → Option X) → List (List ℕ) → X → Type 0
First class words x = first_as class words ≡ Some x

-- the first of these words is a text of this value
abbrev pub FirstIs : {X : Type 0} → (List ℕ → X → Type 0) → List (List ℕ) → X → Type 0
FirstIs IsTextOf [] x = ⊥
FirstIs IsTextOf (word ∷ words) x = IsTextOf word x

-- these words are the texts of these blocks, of which there are at most four
abbrev pub AreCidrTexts : List (List ℕ) → List IpCidr → Type 0
AreCidrTexts [] [] = Unit {0}
AreCidrTexts (word ∷ words) (cidr ∷ blocks) = IsCidrText word cidr × AreCidrTexts words blocks
AreCidrTexts _ _ = ⊥

abbrev pub AreBlocks : List (List ℕ) → List IpCidr → Type 0
AreBlocks words blocks = AreCidrTexts words blocks × (length blocks ≤ 4)

-- CHAINS

-- the first word says something of a class, and the words after it say this in the light of it
abbrev pub Reads : {X Y : Type 0} → (List (List ℕ) → X → Type 0) → (X → List (List ℕ) → Y → Type 0) → List (List ℕ) → Y → Type 0
Reads {X} Class next words y = (x : X) × Class words x × next x (drop 1 words) y

-- all words together say something of a class, and what was said is this of it
abbrev pub ReadsAll : {X Y : Type 0} → (List (List ℕ) → X → Type 0) → (X → Y) → List (List ℕ) → Y → Type 0
ReadsAll {X} Class make words y = (x : X) × Class words x × (y ≡ make x)

-- no word is left, and this is what was said
abbrev pub Ends : {Y : Type 0} → Y → List (List ℕ) → Y → Type 0
Ends made words y = (words ≡ []) × (y ≡ made)
