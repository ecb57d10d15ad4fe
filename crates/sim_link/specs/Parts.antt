-- Where a frame has a TCP segment, and that segment with one word exchanged.
use Rattle.std.specs.Prelude.{ℕ, ◌+◌, ◌-◌, ◌/◌, ◌%◌, ◌^◌, nat_le, Bool, true, ◌&&◌, ◌==◌, if◌then◌else◌, List, length, slice_index, slice_range, Option, Some}
use Rattle.std.specs.Prelude.{None}
use Rattle.base_device.specs.Capabilities.{frame_header}
use Rattle.base_device.specs.declared.capabilities.Medium.{Medium}
use Rattle.base_device.specs.declared.capabilities.Medium.TheVariants.{Ethernet, Ip}
use Rattle.wire_address.specs.Fields.{be16, put16}
use Rattle.wire_ip.specs.Ipv4.{header_len_of}
use Rattle.sim_link.specs.declared.part.Part.{Part}
use Rattle.sim_link.specs.PacketInFrame.{packet_in}

-- whether the frame is said to carry a packet of this EtherType; on a medium of bare packets it may be any
abbrev pub may_carry : Medium → ℕ → List ℕ → Bool
may_carry Ethernet number frame = be16 frame 12 == number
may_carry Ip number frame = true

-- whether there is an IPv4 header, whose lengths fit the bytes (RFC 791, section 3.1)
abbrev pub is_ipv4 : List ℕ → Bool
is_ipv4 packet =
    nat_le 20 (length packet)
    && (slice_index packet 0 / 16 == 4)
    && nat_le 20 (header_len_of packet)
    && nat_le (header_len_of packet) (be16 packet 2)
    && nat_le (be16 packet 2) (length packet)

-- whether nobody cut the packet: its offset is 0, and no more fragments follow
abbrev pub is_uncut : List ℕ → Bool
is_uncut packet = be16 packet 6 % 2 ^ 14 == 0

-- whether there is an IPv6 header, and the payload that its length names (RFC 8200, section 3)
abbrev pub is_ipv6 : List ℕ → Bool
is_ipv6 packet =
    nat_le 40 (length packet)
    && (slice_index packet 0 / 16 == 6)
    && nat_le (40 + be16 packet 4) (length packet)

-- whether an IPv6 packet begins a datagram that goes in fragments: right after its header stands a fragment header, whose offset is 0
-- (RFC 8200, section 4.5); bytes that aren't there count as 0
abbrev pub begins_fragments : Medium → List ℕ → Bool
begins_fragments medium frame =
    let packet = packet_in medium frame in
    may_carry medium 0x86dd frame && is_ipv6 packet && (slice_index packet 6 == 44) && (be16 packet 42 / 8 == 0)

-- where a packet has its payload: after the header, up to where the length says
abbrev pub payload_v4 : Medium → List ℕ → Part
payload_v4 medium packet = record { at = frame_header medium + header_len_of packet; len = be16 packet 2 - header_len_of packet }

abbrev pub payload_v6 : Medium → List ℕ → Part
payload_v6 medium packet = record { at = frame_header medium + 40; len = be16 packet 4 }

-- where a frame has a TCP segment: the payload of a packet that nobody cut, whose protocol is 6 (RFC 9293)
abbrev pub tcp_part : Medium → List ℕ → Option Part
tcp_part medium frame =
    let packet = packet_in medium frame in
    if may_carry medium 0x0800 frame && is_ipv4 packet && is_uncut packet && (slice_index packet 9 == 6) then Some (payload_v4 medium packet)
    else if may_carry medium 0x86dd frame && is_ipv6 packet && (slice_index packet 6 == 6) then Some (payload_v6 medium packet)
    else None

-- the bytes of a part
abbrev pub bytes_at : List ℕ → Part → List ℕ
bytes_at frame part = slice_range frame part.at (part.at + part.len)

-- the frame with the word at a place of this part exchanged
abbrev pub damaged : List ℕ → Part → ℕ → ℕ → List ℕ
damaged frame part offset word = put16 frame (part.at + offset) word
