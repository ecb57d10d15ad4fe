-- What the messages of the client carry alongside its own options (RFC 2131, sections 3.5 and 4.4.1; RFC 2132).
use Rattle.std.specs.Prelude.{◌≡◌, ◌==◌, ◌||◌, ℕ, ◌+◌, ◌-◌, ◌<◌, ◌≤◌, nat_lt, Bool, IsTrue, if◌then◌else◌}
use Rattle.std.specs.Prelude.{Option, Some, None, Result, Ok, Err, List, [], ◌∷◌, length}
use Rattle.wire_dhcp.specs.Options.{are_options}
use Rattle.wire_dhcp.specs.Written.{inside_bytes}
use Rattle.wire_dhcp.specs.declared.option.DhcpOption.{DhcpOption}
use Rattle.socket_datagram.specs.declared.dhcpv4.error.OptionsError.{OptionsError}
use Rattle.socket_datagram.specs.declared.dhcpv4.error.OptionsError.TheVariants.{Reserved, TooLong, NoRoom}

-- the codes that the client asks for, and the bytes of further options
pub record ExtrasValue : Type 0 where
  pub parameters : List ℕ
  pub options : List ℕ

-- what is inside the option of the codes, which isn't sent where there are none: it has at least one (RFC 2132, section 9.8)
abbrev pub asked_inside : List ℕ → Option (List ℕ)
asked_inside [] = None
asked_inside (code ∷ codes) = Some (code ∷ codes)

-- how many bytes that option takes
abbrev pub asked_len : List ℕ → ℕ
asked_len parameters = length (inside_bytes 55 (asked_inside parameters))

-- How many bytes that option and the further ones may take. A message of 548 bytes, in a packet of 576, is taken by each server
-- (RFC 2131, section 2); 241 are the fixed fields and the end, and 28 the other options of the client at most.
abbrev pub room : ℕ
room = 279

-- a pad, the end, what gives other fields over to options, and what the client writes itself: the requested address, the type of the
-- message, the server, the codes that it asks for, the longest message, and its identifier
abbrev pub is_reserved : ℕ → Bool
is_reserved kind =
    (kind == 0) || (kind == 255) || (kind == 52) || (kind == 50) || (kind == 53) || (kind == 54) || (kind == 55) || (kind == 57) || (kind == 61)

-- the room that an option leaves, or why it can't go
abbrev pub room_following : ℕ → DhcpOption → Result ℕ OptionsError
room_following left o =
    if is_reserved o.kind then Err Reserved
    else if nat_lt 255 (length o.«data».now) then Err TooLong
    else if nat_lt left (2 + length o.«data».now) then Err NoRoom
    else Ok (left - (2 + length o.«data».now))

-- why the first option that can't go can't, if there is one
abbrev pub verdict : ℕ → List DhcpOption → Result (Unit {0}) OptionsError
verdict left [] = Ok tt
verdict left (o ∷ os) = elim (room_following left o) [ Ok rest ↦ verdict rest os | Err why ↦ Err why ]

-- why a list of codes can't go alongside further options of so many bytes
abbrev pub list_verdict : List ℕ → ℕ → Result (Unit {0}) OptionsError
list_verdict codes taken =
    if nat_lt 255 (length codes) then Err TooLong
    else if nat_lt room (asked_len codes + taken) then Err NoRoom
    else Ok tt

-- what fits a message
pub record AreExtras (parameters options : List ℕ) : Type 0 where
  pub short : length parameters < 256
  pub whole : IsTrue (are_options 0 options)
  pub fits : asked_len parameters + length options ≤ room
