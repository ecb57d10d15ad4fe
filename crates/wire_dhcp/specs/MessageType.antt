-- The kinds of messages (RFC 2132, section 9.6), and who sends them (RFC 2131, table 2).
use Rattle.std.specs.Prelude.{◌==◌, ℕ, if◌then◌else◌, Option, Some, None}
use Rattle.wire_dhcp.specs.declared.message_type.DhcpMessageType.{DhcpMessageType}
use Rattle.wire_dhcp.specs.declared.message_type.DhcpMessageType.TheVariants.{Discover, Offer, Request, Decline, Ack, Nak, Release, Inform}
use Rattle.wire_dhcp.specs.declared.message_type.DhcpOpCode.{DhcpOpCode}
use Rattle.wire_dhcp.specs.declared.message_type.DhcpOpCode.TheVariants as Op

abbrev pub type_number : DhcpMessageType → ℕ
type_number Discover = 1
type_number Offer = 2
type_number Request = 3
type_number Decline = 4
type_number Ack = 5
type_number Nak = 6
type_number Release = 7
type_number Inform = 8

-- the type with this number, if there is one
abbrev pub type_of : ℕ → Option DhcpMessageType
type_of n =
    if n == 1 then Some Discover
    else if n == 2 then Some Offer
    else if n == 3 then Some Request
    else if n == 4 then Some Decline
    else if n == 5 then Some Ack
    else if n == 6 then Some Nak
    else if n == 7 then Some Release
    else if n == 8 then Some Inform
    else None

-- who sends a message of this type: servers offer, acknowledge and refuse, and clients the rest
abbrev pub opcode_of : DhcpMessageType → DhcpOpCode
opcode_of Discover = Op.Request
opcode_of Offer = Op.Reply
opcode_of Request = Op.Request
opcode_of Decline = Op.Request
opcode_of Ack = Op.Reply
opcode_of Nak = Op.Reply
opcode_of Release = Op.Request
opcode_of Inform = Op.Request

-- the number of the first field
abbrev pub op_number : DhcpOpCode → ℕ
op_number Op.Request = 1
op_number Op.Reply = 2
