-- An IPv4 frame cut in two fragments (RFC 791, section 3.2).
use Rattle.std.specs.Prelude.{ℕ, ◌+◌, ◌%◌, ◌^◌, Bool, true, ◌&&◌, if◌then◌else◌, List, ◌++◌, length, take, drop, slice_index, slice_range, Option, Some, None}
use Rattle.base_device.specs.Capabilities.{frame_header}
use Rattle.base_device.specs.declared.capabilities.Medium.{Medium}
use Rattle.wire_address.specs.Fields.{be16}
use Rattle.wire_address.specs.Protocol.{protocol_of}
use Rattle.wire_ip.specs.Parts.{has_flag}
use Rattle.wire_ip.specs.Ipv4.{payload_of, fragment_of, written_fragment}
use Rattle.wire_ip.specs.declared.ipv4.repr.Ipv4Repr.{Ipv4Repr}
use Rattle.sim_link.specs.declared.part.Part.{Part}
use Rattle.sim_link.specs.PacketInFrame.{packet_in}
use Rattle.sim_link.specs.Parts.{may_carry, is_ipv4, payload_v4}

-- where a frame has the payload of an IPv4 packet, if it carries one
abbrev pub ipv4_part : Medium → List ℕ → Option Part
ipv4_part medium frame =
    if may_carry medium 0x0800 frame && is_ipv4 (packet_in medium frame) then Some (payload_v4 medium (packet_in medium frame)) else None

-- the header of a packet, for a payload of this length
abbrev pub header_for : List ℕ → ℕ → Ipv4Repr
header_for packet count =
    record {
      src_addr = record { 0 = slice_range packet 12 16 };
      dst_addr = record { 0 = slice_range packet 16 20 };
      next_header = protocol_of (slice_index packet 9);
      payload_len = count;
      hop_limit = slice_index packet 8;
      ident = be16 packet 4;
      dont_frag = has_flag (slice_index packet 6) 64;
    }

-- a fragment of a packet: a header with length, offset, more-fragments and checksum of its own, and these bytes
abbrev pub fragment_with : List ℕ → ℕ → Bool → List ℕ → List ℕ
fragment_with packet offset more bytes = written_fragment true (header_for packet (length bytes)) offset more ++ bytes

-- A frame cut after so many bytes of its payload. Both fragments have its link header. More fragments follow the first;
-- the second stands as much later in the datagram, and as many follow it as followed the frame.
abbrev pub first_fragment : Medium → List ℕ → ℕ → List ℕ
first_fragment medium frame at =
    let packet = packet_in medium frame in
    take (frame_header medium) frame ++ fragment_with packet (fragment_of packet).offset true (take at (payload_of packet))

abbrev pub second_fragment : Medium → List ℕ → ℕ → List ℕ
second_fragment medium frame at =
    let packet = packet_in medium frame in
    take (frame_header medium) frame
    ++ fragment_with packet (((fragment_of packet).offset + at) % 2 ^ 16) (fragment_of packet).more (drop at (payload_of packet))
