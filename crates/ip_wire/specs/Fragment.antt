-- The fragment header (RFC 8200, section 4.5) after its first two bytes: the offset in units of eight
-- bytes, of 13 bits, two reserved bits, more-fragments, and the identification.
use Rattle.std.specs.Prelude.{◌≡◌, ℕ, ◌+◌, ◌*◌, ◌/◌, ◌%◌, ◌<◌, ◌≤◌, ◌^◌, ◌==◌, if◌then◌else◌, List, ◌++◌, length, slice_index}
use Rattle.std.specs.Int.{w16, w32, to_be_bytes}
use Rattle.std.specs.Borrow.{GName}
use Rattle.wire_address.specs.Fields.{be16, be32}
use Rattle.ip_wire.specs.declared.ipv6_fragment.packet.Ipv6FragmentHeader.{Ipv6FragmentHeader}
use Rattle.ip_wire.specs.declared.ipv6_fragment.packet_mut.Ipv6FragmentHeaderMut.{Ipv6FragmentHeaderMut}
use Rattle.ip_wire.specs.declared.ipv6_fragment.repr.Ipv6FragmentRepr.{Ipv6FragmentRepr}

-- the bytes that a view reads
abbrev pub bytes_of : Ipv6FragmentHeader → List ℕ
bytes_of view = view.buffer.now

-- the bytes that a writing view holds
abbrev pub bytes_in : Ipv6FragmentHeaderMut → List ℕ
bytes_in view = view.buffer.now

-- which buffer it is that a writing view holds
abbrev pub name_of : Ipv6FragmentHeaderMut → GName
name_of view = view.buffer.ghost_name

-- the header is there
pub record IsWhole (bytes : List ℕ) : Type 0 where
  pub header : 6 ≤ length bytes

-- the bytes begin with this header
pub record IsFragment (bytes : List ℕ) (v : Ipv6FragmentRepr) : Type 0 where
  pub whole : IsWhole bytes
  pub offset : v.frag_offset ≡ be16 bytes 0 / 8
  pub more : v.more_frags ≡ (slice_index bytes 1 % 2 == 1)
  pub identification : v.ident ≡ be32 bytes 2

-- the two reserved bits
abbrev pub reserved_of : List ℕ → ℕ
reserved_of bytes = slice_index bytes 1 / 2 % 4

-- the header with this value and these reserved bits
abbrev pub spelling : Ipv6FragmentRepr → ℕ → List ℕ
spelling v reserved =
    to_be_bytes w16 (v.frag_offset * 8 + reserved * 2 + (if v.more_frags then 1 else 0)) ++ to_be_bytes w32 v.ident

-- what a reader makes of a value that was sent: the offset keeps 13 bits
abbrev pub normal : Ipv6FragmentRepr → Ipv6FragmentRepr
normal v = record v { frag_offset = v.frag_offset % 2 ^ 13 }

-- the header that is sent: the reserved bits are 0
abbrev pub written : Ipv6FragmentRepr → List ℕ
written v = spelling (normal v) 0

-- each field is a number of its width
pub record IsValue (v : Ipv6FragmentRepr) : Type 0 where
  pub offset : v.frag_offset < 2 ^ 16
  pub identification : v.ident < 2 ^ 32
