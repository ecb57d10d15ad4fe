-- Packets that wait for their next hop beside its search, on a network of many (RFC 1122, section 2.3.2.2; RFC 4861, section 7.2.2).
use Rattle.std.specs.Prelude.{◌≡◌, ℕ, ◌+◌, ◌==◌, nat_le, nat_lt, not, ◌&&◌, if◌then◌else◌, Bool, List, [], ◌∷◌, ◌++◌, length, filter, map, sum_by, take, drop, position, remove}
use Rattle.std.specs.Prelude.{Option, None, Some}
use Rattle.wire_address.specs.AddressTests.{is_same_address}
use Rattle.net_base.specs.ChecksumCapabilities.{ChecksumCapabilities}
use Rattle.ip_wire.specs.IpAddress.{IpAddress}
use Rattle.ip_wire.specs.Ip as Ips
use Rattle.ip_wire.specs.IpRepr.{IpRepr}
use Rattle.socket_context.specs.Packet.{PacketValue, payload_written}
use Rattle.iface_tables.specs.declared.parking.ParkedHeader.{ParkedHeader}

-- a packet that waits: its next hop, its header, and the bytes after it as they will stand in its frames
pub record ParkedValue : Type 0 where
  pub hop : IpAddress
  pub header : IpRepr
  pub payload : List ℕ

-- those that wait, from the oldest on, and how many bytes of theirs have room; without room none waits
pub record ParkingValue : Type 0 where
  pub packets : List ParkedValue
  pub room : ℕ

abbrev pub empty_parking : ℕ → ParkingValue
empty_parking room = record { packets = []; room = room }

abbrev pub parked_as : ChecksumCapabilities → IpAddress → PacketValue → ParkedValue
parked_as caps hop p = record { hop = hop; header = p.header; payload = payload_written caps p.header p.payload }

-- AS THEY STAND: headers, and the bytes one after another

abbrev pub total_len : List ParkedHeader → ℕ
total_len hs = sum_by (λ (h : ParkedHeader). h.len) hs

abbrev pub parked_value : ParkedHeader → List ℕ → ParkedValue
parked_value h bytes = record { hop = h.hop; header = h.header; payload = take h.len bytes }

abbrev pub parked_values : List ParkedHeader → List ℕ → List ParkedValue
parked_values [] bytes = []
parked_values (h ∷ hs) bytes = parked_value h bytes ∷ parked_values hs (drop h.len bytes)

-- the headers of those that wait
abbrev pub header_of : ParkedValue → ParkedHeader
header_of p = record { hop = p.hop; header = p.header; len = length p.payload }

abbrev pub headers_of : List ParkedValue → List ParkedHeader
headers_of ps = map header_of ps

-- a header says how many bytes follow it
abbrev pub IsMeasured : ParkedHeader → Type 0
IsMeasured h = Ips.payload_len_of h.header ≡ h.len

-- WHO MAKES ROOM

-- how many packets wait at a time, how many for one next hop, and how many bytes they have together at most
abbrev pub parking_places : ℕ
parking_places = 16

abbrev pub hop_places : ℕ
hop_places = 4

abbrev pub parking_size : ℕ
parking_size = 32_768

abbrev pub room_for_many : Bool → ℕ
room_for_many many = if many then parking_size else 0

abbrev pub is_for : IpAddress → ParkedValue → Bool
is_for hop p = is_same_address p.hop hop

abbrev pub waiting_for : IpAddress → List ParkedValue → ℕ
waiting_for hop ps = length (filter (is_for hop) ps)

abbrev pub bytes_of : List ParkedValue → ℕ
bytes_of ps = sum_by (λ (p : ParkedValue). length p.payload) ps

abbrev pub without_at : Option ℕ → List ParkedValue → List ParkedValue
without_at None ps = ps
without_at (Some at) ps = remove ps at

-- where as many wait for the hop as may, the oldest of them makes room
abbrev pub place_to_go : IpAddress → List ParkedValue → Option ℕ
place_to_go hop ps = if nat_le hop_places (waiting_for hop ps) then position (is_for hop) ps else None

abbrev pub with_place_for : IpAddress → List ParkedValue → List ParkedValue
with_place_for hop ps = without_at (place_to_go hop ps) ps

-- one more of so many bytes has room
abbrev pub has_room : ℕ → ℕ → List ParkedValue → Bool
has_room room len ps = nat_lt (length ps) parking_places && nat_le (bytes_of ps + len) room

-- the oldest go until it has
abbrev pub with_room_for : ℕ → ℕ → List ParkedValue → List ParkedValue
with_room_for room len [] = []
with_room_for room len (p ∷ ps) = if has_room room len (p ∷ ps) then p ∷ ps else with_room_for room len ps

-- one that has room by itself
abbrev pub is_holdable : ℕ → ℕ → Bool
is_holdable room len = not (room == 0) && nat_le len room

-- The newest comes last. One that has no room by itself is dropped.
abbrev pub with_parked : ParkedValue → ParkingValue → ParkingValue
with_parked p k =
    if is_holdable k.room (Ips.payload_len_of p.header)
    then record k { packets = with_room_for k.room (Ips.payload_len_of p.header) (with_place_for p.hop k.packets) ++ p ∷ [] }
    else k
