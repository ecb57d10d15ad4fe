-- Control messages that answer a packet (RFC 792; RFC 1122, sections 3.2.2 and 3.2.2.6; RFC 4443, sections 2.4 and 4.2): whom
-- they go to, from which address, and what an error quotes.
use Rattle.std.specs.Prelude.{ℕ, ◌-◌, ◌*◌, ◌&&◌, not, Bool, true, false, if◌then◌else◌, List, take, Option, None, Some}
use Rattle.wire_icmpv4.specs.declared.header.Icmpv4Header.{Icmpv4Header}
use Rattle.wire_icmpv4.specs.declared.header.Icmpv4Header.TheVariants as V4
use Rattle.wire_icmpv4.specs.declared.message.Icmpv4DstUnreachable.{Icmpv4DstUnreachable}
use Rattle.wire_icmpv4.specs.declared.message.Icmpv4DstUnreachable.TheVariants as V4Reason
use Rattle.wire_icmpv6.specs.Icmpv6 as Icmpv6
use Rattle.wire_icmpv6.specs.declared.reason.Icmpv6DstUnreachable.TheVariants as V6Reason
use Rattle.wire_icmpv6.specs.declared.reason.Icmpv6ParamProblem.{Icmpv6ParamProblem}
use Rattle.wire_icmpv6.specs.declared.reason.Icmpv6ParamProblem.TheVariants as V6Problem
use Rattle.ip_wire.specs.AddressTests.{is_unicast_v4, is_unicast_v6}
use Rattle.ip_wire.specs.IpAddress.TheVariants as Address
use Rattle.ip_wire.specs.IpProtocol.TheVariants as Protocol
use Rattle.ip_wire.specs.IpRepr.{IpRepr}
use Rattle.ip_wire.specs.IpRepr.TheVariants as Ip
use Rattle.ip_wire.specs.Ipv4Address.{Ipv4Address}
use Rattle.ip_wire.specs.Ipv4Repr.{Ipv4Repr}
use Rattle.ip_wire.specs.Ipv6Address.{Ipv6Address}
use Rattle.ip_wire.specs.Ipv6Repr.{Ipv6Repr}
use Rattle.wire_ipv6_headers.specs.declared.headers.Problem.{Problem}
use Rattle.wire_ipv6_headers.specs.declared.headers.Problem.TheVariants as Told
use Rattle.socket_context.specs.Packet.{PacketValue, PayloadValue, ControlV4, ControlV6, packet_of, payload_len}
use Rattle.iface_tables.specs.Inner.{InnerValue, is_local_broadcast}
use Rattle.iface_tables.specs.Source.{first_v4, source_v6}

-- IPv4

-- one host's address: neither a group's nor that of all hosts of a local network
abbrev pub is_one_host : InnerValue → Ipv4Address → Bool
is_one_host i address = is_unicast_v4 address && not (is_local_broadcast i (Address.Ipv4 address))

abbrev pub is_echo_reply : Icmpv4Header → Bool
is_echo_reply (V4.EchoReply ident seq_no) = true
is_echo_reply message = false

-- The address that a message is sent from. Nothing answers a packet that is from no one host, and nothing but an echo reply
-- one that is for all hosts; nothing answers a packet for a group.
abbrev pub source_of_reply : InnerValue → Ipv4Repr → Icmpv4Header → Option Ipv4Address
source_of_reply i header message =
    if not (is_one_host i header.src_addr) then None
    else if is_one_host i header.dst_addr then Some header.dst_addr
    else if is_echo_reply message && is_local_broadcast i (Address.Ipv4 header.dst_addr) then first_v4 i.addresses
    else None

-- a message between two hosts
abbrev pub sent_v4 : Option Ipv4Address → Ipv4Address → PayloadValue → Option PacketValue
sent_v4 None to message = None
sent_v4 (Some from) to message =
    Some (packet_of (Ip.Ipv4 (record {
      src_addr = from;
      dst_addr = to;
      next_header = Protocol.Icmp;
      payload_len = payload_len message;
      hop_limit = 64;
      ident =
          0;
      dont_frag = false;
    })) message)

-- the message that answers a packet with this header
abbrev pub reply_v4 : InnerValue → Ipv4Repr → Icmpv4Header → List ℕ → Option PacketValue
reply_v4 i header message bytes = sent_v4 (source_of_reply i header message) header.src_addr (ControlV4 message bytes)

-- IPv6

-- a packet for a group is answered from the address that is chosen for its sender
abbrev pub source_of_v6_reply : InnerValue → Ipv6Repr → Ipv6Address
source_of_v6_reply i header = if is_unicast_v6 header.dst_addr then header.dst_addr else source_v6 i.addresses header.src_addr

abbrev pub sent_v6 : Ipv6Address → Ipv6Address → PayloadValue → PacketValue
sent_v6 from to message =
    packet_of (Ip.Ipv6 (record { src_addr = from; dst_addr = to; next_header = Protocol.Icmpv6; payload_len = payload_len message; hop_limit = 64 })) message

abbrev pub reply_v6 : InnerValue → Ipv6Repr → Icmpv6.MessageValue → List ℕ → PacketValue
reply_v6 i header message bytes = sent_v6 (source_of_v6_reply i header) header.src_addr (ControlV6 message bytes)

-- ECHO

-- a request is answered with its data, from an IPv4 host
abbrev pub echo_v4 : InnerValue → Ipv4Repr → Icmpv4Header → List ℕ → Option PacketValue
echo_v4 i header (V4.EchoRequest ident seq_no) bytes = reply_v4 i header (V4.EchoReply ident seq_no) bytes
echo_v4 i header message bytes = None

-- and from an IPv6 host
abbrev pub echo_v6 : InnerValue → Ipv6Repr → Icmpv6.MessageValue → List ℕ → Option PacketValue
echo_v6 i header (Icmpv6.EchoRequest ident seq_no) bytes = Some (reply_v6 i header (Icmpv6.EchoReply ident seq_no) bytes)
echo_v6 i header message bytes = None

-- ERRORS quote the header and so much of the payload that a packet of the smallest MTU holds them

-- how many bytes are quoted after a header of this length, in a packet of this length with another such header
abbrev pub quoted_room : ℕ → ℕ → ℕ
quoted_room packet header = packet - 2 * header - 8

abbrev pub quoted_v4 : List ℕ → List ℕ
quoted_v4 payload = take (quoted_room 576 20) payload

abbrev pub quoted_v6 : List ℕ → List ℕ
quoted_v6 payload = take (quoted_room 1280 40) payload

-- no error answers a packet that is for a group or from no one host
abbrev pub is_between_hosts : Ipv6Repr → Bool
is_between_hosts header = is_unicast_v6 header.src_addr && is_unicast_v6 header.dst_addr

abbrev pub error_v6 : InnerValue → Ipv6Repr → Icmpv6.MessageValue → List ℕ → Option PacketValue
error_v6 i header message quoted =
    if is_between_hosts header then Some (reply_v6 i header message quoted) else None

abbrev pub error_v4 : InnerValue → Ipv4Repr → Icmpv4DstUnreachable → List ℕ → Option PacketValue
error_v4 i header reason payload = reply_v4 i header (V4.DstUnreachable reason header) (quoted_v4 payload)

-- no socket takes the datagram
abbrev pub port_unreachable : InnerValue → IpRepr → List ℕ → Option PacketValue
port_unreachable i (Ip.Ipv4 header) payload = error_v4 i header V4Reason.PortUnreachable payload
port_unreachable i (Ip.Ipv6 header) payload = error_v6 i header (Icmpv6.DstUnreachable V6Reason.PortUnreachable header) (quoted_v6 payload)

-- the host knows no such protocol
abbrev pub protocol_unreachable : InnerValue → Ipv4Repr → List ℕ → Option PacketValue
protocol_unreachable i header payload = error_v4 i header V4Reason.ProtoUnreachable payload

-- EXTENSION HEADERS of IPv6 that aren't gone through (RFC 8200, sections 4.2 and 4.4; RFC 4443, section 3.4)

abbrev pub reason_of : Problem → Icmpv6ParamProblem
reason_of Told.Field = V6Problem.ErroneousHdrField
reason_of Told.NextHeader = V6Problem.UnrecognizedNxtHdr
reason_of Told.Option = V6Problem.UnrecognizedOption
reason_of Told.OptionToAny = V6Problem.UnrecognizedOption

-- an option may ask that the source is told also where the packet is for a group
abbrev pub is_told : Problem → Ipv6Repr → Bool
is_told Told.OptionToAny header = is_unicast_v6 header.src_addr
is_told problem header = is_between_hosts header

-- the slot is one of the packet, which is quoted as it came
abbrev pub parameter_problem : InnerValue → Ipv6Repr → List ℕ → Problem → (pointer : ℕ) → Option PacketValue
parameter_problem i header payload problem pointer =
    if is_told problem header then Some (reply_v6 i header (Icmpv6.ParamProblem (reason_of problem) pointer header) (quoted_v6 payload)) else None
