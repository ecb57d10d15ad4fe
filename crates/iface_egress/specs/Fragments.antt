-- A datagram that is half sent (RFC 791, section 3.2; RFC 8200, section 4.5).
use Rattle.std.specs.Prelude.{ℕ, ◌+◌, ◌-◌, ◌*◌, ◌/◌, suc, zero, nat_lt, if◌then◌else◌, List, [], ◌∷◌, length, take, Option, None, Some}
use Rattle.ip_wire.specs.HardwareAddress.{HardwareAddress}
use Rattle.net_base.specs.ChecksumCapabilities.{ChecksumCapabilities}
use Rattle.socket_context.specs.Packet.{PacketValue, payload_written}
use Rattle.iface_tables.specs.Inner.{InnerValue, mtu_to}
use Rattle.iface_tables.specs.FragmentList.{FragmentPart, fragment_at}
use Rattle.iface_egress.specs.Departure.{Departure, Part, destination_in, fragment_header_len}
use Rattle.iface_egress.specs.declared.fragmenter.Left.{Left}
use Rattle.iface_egress.specs.declared.frame.CutHeader.{CutHeader}

-- its header, where its frames go, its payload, and how many bytes of that went
pub record LeftValue : Type 0 where
  pub header : CutHeader
  pub to : HardwareAddress
  pub payload : List ℕ
  pub at : ℕ

-- what is left, with the bytes of a buffer
abbrev pub half_sent : Left → List ℕ → LeftValue
half_sent l bytes = record { header = l.header; to = l.to; payload = take l.len bytes; at = l.at }

abbrev pub left_value : Option Left → List ℕ → Option LeftValue
left_value None bytes = None
left_value (Some l) bytes = Some (half_sent l bytes)

-- a packet of which nothing went yet, as a datagram with this header
abbrev pub begun : ChecksumCapabilities → HardwareAddress → CutHeader → PacketValue → LeftValue
begun caps to header p = record { header = header; to = to; payload = payload_written caps p.header p.payload; at = 0 }

-- how long a packet of its next fragment may be, as the path to its destination is known then
abbrev pub cut_mtu : InnerValue → LeftValue → ℕ
cut_mtu i l = mtu_to i (destination_in l.header)

-- the most payload of a fragment after its headers, in whole units of 8 bytes
abbrev pub fragment_room : CutHeader → (mtu : ℕ) → ℕ
fragment_room header mtu = (mtu - fragment_header_len header) / 8 * 8

-- the fragment that goes next, where the longest packet is of this length
abbrev pub next_fragment : ℕ → LeftValue → FragmentPart
next_fragment mtu l = fragment_at (fragment_room l.header mtu) l.payload l.at

abbrev pub next_departure : ℕ → LeftValue → Departure
next_departure mtu l = Part l.to l.header (next_fragment mtu l)

-- what is left after it
abbrev pub left_after : ℕ → LeftValue → Option LeftValue
left_after mtu l =
    if nat_lt (l.at + fragment_room l.header mtu) (length l.payload) then Some (record l { at = l.at + fragment_room l.header mtu }) else None

-- the fragment that goes next from a host, and what is left after it
abbrev pub fragment_from : InnerValue → LeftValue → FragmentPart
fragment_from i l = next_fragment (cut_mtu i l) l

abbrev pub departure_from : InnerValue → LeftValue → Departure
departure_from i l = next_departure (cut_mtu i l) l

abbrev pub left_from : InnerValue → LeftValue → Option LeftValue
left_from i l = left_after (cut_mtu i l) l

-- the same of the slot in it
abbrev pub rest_of : ℕ → Left → Option Left
rest_of mtu l = if nat_lt (l.at + fragment_room l.header mtu) l.len then Some (record l { at = l.at + fragment_room l.header mtu }) else None

-- the next fragments of what is left, so many of them at most
abbrev pub fragments_from : ℕ → ℕ → Option LeftValue → List FragmentPart
fragments_from n mtu None = []
fragments_from zero mtu (Some l) = []
fragments_from (suc n) mtu (Some l) = next_fragment mtu l ∷ fragments_from n mtu (left_after mtu l)
