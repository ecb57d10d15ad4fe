-- A message in bytes (RFC 2131, section 2): fixed fields of 240 bytes with the magic number, and then the options. The
-- overload option (RFC 2132, section 9.3) says whether the fields of the file and of the server's name hold options too.
use Rattle.std.specs.Prelude.{◌≡◌, ◌==◌, ℕ, ◌≤◌, Bool, true, false, nat_le, ◌&&◌, ◌||◌, IsTrue, if◌then◌else◌, Option, Some, None, List, [], ◌∷◌, length, drop}
use Rattle.std.specs.Prelude.{slice_index, slice_range}
use Rattle.wire_dhcp.specs.Options.{is_area, options_in, last_of}
use Rattle.wire_dhcp.specs.declared.packet.DhcpPacket.{DhcpPacket}

-- the bytes that a view reads
abbrev pub bytes_of : DhcpPacket → List ℕ
bytes_of view = view.buffer.now

-- what the options field says of overload: none, 1 for the file, 2 for the server's name, 3 for both
abbrev pub overload_number : Option (List ℕ) → ℕ
overload_number None = 0
overload_number (Some bytes) = if length bytes == 1 then slice_index bytes 0 else 4

abbrev pub overload_of : List ℕ → ℕ
overload_of bytes = overload_number (last_of 52 None (options_in 0 (drop 240 bytes)))

-- the option areas in the fields of the file and of the server's name
abbrev pub file_area : ℕ → List ℕ → List ℕ
file_area overload bytes = if (overload == 1) || (overload == 3) then slice_range bytes 108 236 else []

abbrev pub sname_area : ℕ → List ℕ → List ℕ
sname_area overload bytes = if (overload == 2) || (overload == 3) then slice_range bytes 44 108 else []

-- what is inside the last option of this code: the options field is read first, then the file, then the server's name
abbrev pub option_of : ℕ → List ℕ → Option (List ℕ)
option_of kind bytes =
    last_of kind (
    last_of kind (last_of kind None (options_in 0 (drop 240 bytes))) (options_in 0 (file_area (overload_of bytes) bytes))
    ) (options_in 0 (sname_area (overload_of bytes) bytes))

-- the fixed fields are there, and no option of any area is cut
pub record IsWhole (bytes : List ℕ) : Type 0 where
  pub header : 240 ≤ length bytes
  pub options : IsTrue (is_area 0 (drop 240 bytes))
  pub overload : overload_of bytes ≤ 3
  pub file : IsTrue (is_area 0 (file_area (overload_of bytes) bytes))
  pub sname : IsTrue (is_area 0 (sname_area (overload_of bytes) bytes))
