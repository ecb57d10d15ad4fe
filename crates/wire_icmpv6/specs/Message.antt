-- Types of ICMPv6 messages (IANA, "ICMPv6 type Numbers").
use Rattle.std.specs.Prelude.{ℕ, List, codes, decimal, Bool, ◌==◌, ◌&&◌, nat_le, if◌then◌else◌}
use Rattle.wire_icmpv6.specs.declared.message.Icmpv6Message.{Icmpv6Message}
use Rattle.wire_icmpv6.specs.declared.message.Icmpv6Message.TheVariants as Message

-- the number of a type
abbrev pub message_number : Icmpv6Message → ℕ
message_number Message.DstUnreachable = 1
message_number Message.PktTooBig = 2
message_number Message.TimeExceeded = 3
message_number Message.ParamProblem = 4
message_number Message.EchoRequest = 128
message_number Message.EchoReply = 129
message_number Message.MldQuery = 130
message_number Message.RouterSolicit = 133
message_number Message.RouterAdvert = 134
message_number Message.NeighborSolicit = 135
message_number Message.NeighborAdvert = 136
message_number Message.Redirect = 137
message_number Message.MldReport = 143
message_number Message.RplControl = 155
message_number (Message.Unknown n) = n

-- the type of a number
abbrev pub message_of : ℕ → Icmpv6Message
message_of n =
    if n == 1 then Message.DstUnreachable
    else (if n == 2 then Message.PktTooBig
    else (if n == 3 then Message.TimeExceeded
    else (if n == 4 then Message.ParamProblem
    else (if n == 128 then Message.EchoRequest
    else (if n == 129 then Message.EchoReply
    else (if n == 130 then Message.MldQuery
    else (if n == 133 then Message.RouterSolicit
    else (if n == 134 then Message.RouterAdvert
    else (if n == 135 then Message.NeighborSolicit
    else (if n == 136 then Message.NeighborAdvert
    else (if n == 137 then Message.Redirect
    else (if n == 143 then Message.MldReport
    else (if n == 155 then Message.RplControl
    else Message.Unknown n)))))))))))))

-- the type is listed above
abbrev pub IsKnown : Icmpv6Message → Type 0
IsKnown (Message.Unknown n) = ⊥
IsKnown _ = Unit {0}

-- the types of neighbour discovery: router and neighbour solicitations and advertisements, and redirects (RFC 4861,
-- section 4)
abbrev pub is_neighbor_number : ℕ → Bool
is_neighbor_number n = nat_le 133 n && nat_le n 137

-- how many bytes stand before what varies in length: type, code, checksum and four bytes (RFC 4443, sections 3
-- and 4); in messages of neighbour discovery (RFC 4861, section 4) and in queries for listeners (RFC 3810,
-- section 5.1) more; in others type, code and checksum alone
abbrev pub header_len_of : Icmpv6Message → ℕ
header_len_of Message.DstUnreachable = 8
header_len_of Message.PktTooBig = 8
header_len_of Message.TimeExceeded = 8
header_len_of Message.ParamProblem = 8
header_len_of Message.EchoRequest = 8
header_len_of Message.EchoReply = 8
header_len_of Message.MldQuery = 28
header_len_of Message.RouterSolicit = 8
header_len_of Message.RouterAdvert = 16
header_len_of Message.NeighborSolicit = 24
header_len_of Message.NeighborAdvert = 24
header_len_of Message.Redirect = 40
header_len_of Message.MldReport = 8
header_len_of Message.RplControl = 4
header_len_of (Message.Unknown n) = 4

-- what is printed of a type: its name, or the number
abbrev pub message_text : Icmpv6Message → List ℕ
message_text Message.DstUnreachable = codes "destination unreachable"
message_text Message.PktTooBig = codes "packet too big"
message_text Message.TimeExceeded = codes "time exceeded"
message_text Message.ParamProblem = codes "parameter problem"
message_text Message.EchoRequest = codes "echo request"
message_text Message.EchoReply = codes "echo reply"
message_text Message.MldQuery = codes "multicast listener query"
message_text Message.RouterSolicit = codes "router solicitation"
message_text Message.RouterAdvert = codes "router advertisement"
message_text Message.NeighborSolicit = codes "neighbor solicitation"
message_text Message.NeighborAdvert = codes "neighbor advertisement"
message_text Message.Redirect = codes "redirect"
message_text Message.MldReport = codes "multicast listener report"
message_text Message.RplControl = codes "RPL control"
message_text (Message.Unknown n) = decimal n
