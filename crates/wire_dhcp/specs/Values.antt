-- What options hold: numbers, addresses and lists of addresses.
use Rattle.std.specs.Prelude.{◌==◌, ℕ, ◌+◌, ◌-◌, ◌%◌, Bool, true, false, nat_le, nat_lt, ◌&&◌, if◌then◌else◌, Option, Some, None, List, [], ◌∷◌, length, take}
use Rattle.std.specs.Prelude.{drop, slice_index, slice_range}
use Rattle.wire_address.specs.Fields.{be16, be32}
use Rattle.wire_address.specs.declared.ipv4.Ipv4Address.{Ipv4Address}
use Rattle.wire_address.specs.declared.ethernet.EthernetAddress.{EthernetAddress}

-- an option that is there has so many bytes
abbrev pub has_length : ℕ → Option (List ℕ) → Bool
has_length n None = true
has_length n (Some bytes) = length bytes == n

-- an option that is there has addresses of four bytes, at least one
abbrev pub has_addresses : Option (List ℕ) → Bool
has_addresses None = true
has_addresses (Some bytes) = nat_lt 0 (length bytes) && (length bytes % 4 == 0)

-- the address at an offset, if it is there
abbrev pub address_at : List ℕ → ℕ → Option Ipv4Address
address_at bytes at = if nat_le (at + 4) (length bytes) then Some (record { 0 = slice_range bytes at (at + 4) }) else None

-- the first address
abbrev pub address_in : Option (List ℕ) → Option Ipv4Address
address_in None = None
address_in (Some bytes) = address_at bytes 0

-- a number of two bytes
abbrev pub number16_in : Option (List ℕ) → Option ℕ
number16_in None = None
number16_in (Some bytes) = if length bytes == 2 then Some (be16 bytes 0) else None

-- a number of four bytes
abbrev pub number32_in : Option (List ℕ) → Option ℕ
number32_in None = None
number32_in (Some bytes) = if length bytes == 4 then Some (be32 bytes 0) else None

-- a client identifier that is an Ethernet address after its hardware type (RFC 2132, section 9.14); of others none
abbrev pub hardware_addr_in : Option (List ℕ) → Option EthernetAddress
hardware_addr_in None = None
hardware_addr_in (Some bytes) =
    if (length bytes == 7) && (slice_index bytes 0 == 1) then Some (record { 0 = drop 1 bytes }) else None

-- the first three addresses of an option
abbrev pub servers_in : Option (List ℕ) → List (Option Ipv4Address)
servers_in None = None ∷ None ∷ None ∷ []
servers_in (Some bytes) = address_at bytes 0 ∷ address_at bytes 4 ∷ address_at bytes 8 ∷ []
