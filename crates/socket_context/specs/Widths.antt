-- Payloads whose fields are numbers of their widths.
use Rattle.control_wire.specs.Icmpv4 as Icmpv4
use Rattle.control_wire.specs.Icmpv6 as Icmpv6
use Rattle.socket_context.specs.Packet.{PayloadValue, ControlV4, ControlV6, Bytes, Datagram, Segment}

-- each field of a message is a number of its width, and a neighbour message carries no bytes
abbrev pub IsPayload : PayloadValue → Type 0
IsPayload (ControlV4 message bytes) = Icmpv4.IsValue message
IsPayload (ControlV6 message bytes) = Icmpv6.IsValue message × Icmpv6.CanCarry message bytes
IsPayload (Bytes bytes) = Unit {0}
IsPayload (Datagram header bytes) = Unit {0}
IsPayload (Segment header bytes) = Unit {0}
