use Rattle.std.proofs.Common.{◌/◌, ◌&&◌, ◌==◌, drop, slice_index, ◌∙◌, ap, sym}
use Rattle.wire_address.specs.Fields.{be16}
use Rattle.wire_address.specs.Protocol.{protocol_of}
use Rattle.sim_link.specs.PacketInFrame.{is_tcp_or_udp, has_ports_following}
use Rattle.sim_link.proofs.Named.{neither_first, neither_second, following_named, ether_is, byte_following}
use Rattle.sim_link.proofs.frame_laws.names_neither.Goals as goal

pub returns-clause-ipv4 : goal.returns-clause-ipv4
returns-clause-ipv4 c bytes tested v none is =
    neither_first (slice_index bytes 0 / 16) 4 (slice_index bytes 9) ((slice_index bytes 0 / 16 == 6) && has_ports_following bytes) v.next_header
    is.version none is.protocol

pub returns-clause-ipv6 : goal.returns-clause-ipv6
returns-clause-ipv6 c bytes v none is =
    following_named bytes v.next_header is.protocol
    (neither_second (slice_index bytes 0 / 16) 6 ((slice_index bytes 0 / 16 == 4) && is_tcp_or_udp (slice_index bytes 9)) _ is.version none)

pub returns-clause-ethernet_ipv4 : goal.returns-clause-ethernet_ipv4
returns-clause-ethernet_ipv4 c bytes tested e v none frame kind is =
    neither_first (be16 bytes 12) 0x0800 (slice_index bytes 23) ((be16 bytes 12 == 0x86dd) && has_ports_following (drop 14 bytes)) v.next_header
    (ether_is (be16 bytes 12) 0x0800 (sym frame.carried ∙ kind)) none (is.protocol ∙ ap protocol_of (byte_following bytes 14 9))

pub returns-clause-ethernet_ipv6 : goal.returns-clause-ethernet_ipv6
returns-clause-ethernet_ipv6 c bytes e v none frame kind is =
    following_named (drop 14 bytes) v.next_header is.protocol
    (neither_second (be16 bytes 12) 0x86dd ((be16 bytes 12 == 0x0800) && is_tcp_or_udp (slice_index bytes 23)) _
    (ether_is (be16 bytes 12) 0x86dd (sym frame.carried ∙ kind)) none)
