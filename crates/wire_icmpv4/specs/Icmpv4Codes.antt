-- The types of control messages (RFC 792, "Summary of Message Types"; RFC 1256, section 3, for router messages)
-- and the codes of two of them (RFC 792; RFC 1812, section 5.2.7.1; RFC 1122, section 3.2.2.1).
use Rattle.std.specs.Prelude.{ℕ, List, ◌==◌, if◌then◌else◌, codes, decimal}
use Rattle.wire_icmpv4.specs.declared.message.Icmpv4Message.{Icmpv4Message}
use Rattle.wire_icmpv4.specs.declared.message.Icmpv4Message.TheVariants as Message
use Rattle.wire_icmpv4.specs.declared.message.Icmpv4DstUnreachable.{Icmpv4DstUnreachable}
use Rattle.wire_icmpv4.specs.declared.message.Icmpv4DstUnreachable.TheVariants as Unreachable
use Rattle.wire_icmpv4.specs.declared.message.Icmpv4TimeExceeded.{Icmpv4TimeExceeded}
use Rattle.wire_icmpv4.specs.declared.message.Icmpv4TimeExceeded.TheVariants as Exceeded

-- the type of a message
abbrev pub message_number : Icmpv4Message → ℕ
message_number Message.EchoReply = 0
message_number Message.DstUnreachable = 3
message_number Message.Redirect = 5
message_number Message.EchoRequest = 8
message_number Message.RouterAdvert = 9
message_number Message.RouterSolicit = 10
message_number Message.TimeExceeded = 11
message_number Message.ParamProblem = 12
message_number Message.Timestamp = 13
message_number Message.TimestampReply = 14
message_number (Message.Unknown n) = n

-- the message of this type
abbrev pub message_of : ℕ → Icmpv4Message
message_of n =
    if n == 0 then Message.EchoReply
    else (if n == 3 then Message.DstUnreachable
    else (if n == 5 then Message.Redirect
    else (if n == 8 then Message.EchoRequest
    else (if n == 9 then Message.RouterAdvert
    else (if n == 10 then Message.RouterSolicit
    else (if n == 11 then Message.TimeExceeded
    else (if n == 12 then Message.ParamProblem
    else (if n == 13 then Message.Timestamp
    else (if n == 14 then Message.TimestampReply
    else Message.Unknown n)))))))))

-- the code that says why a destination can't be reached
abbrev pub unreachable_number : Icmpv4DstUnreachable → ℕ
unreachable_number Unreachable.NetUnreachable = 0
unreachable_number Unreachable.HostUnreachable = 1
unreachable_number Unreachable.ProtoUnreachable = 2
unreachable_number Unreachable.PortUnreachable = 3
unreachable_number Unreachable.FragRequired = 4
unreachable_number Unreachable.SrcRouteFailed = 5
unreachable_number Unreachable.DstNetUnknown = 6
unreachable_number Unreachable.DstHostUnknown = 7
unreachable_number Unreachable.SrcHostIsolated = 8
unreachable_number Unreachable.NetProhibited = 9
unreachable_number Unreachable.HostProhibited = 10
unreachable_number Unreachable.NetUnreachToS = 11
unreachable_number Unreachable.HostUnreachToS = 12
unreachable_number Unreachable.CommProhibited = 13
unreachable_number Unreachable.HostPrecedViol = 14
unreachable_number Unreachable.PrecedCutoff = 15
unreachable_number (Unreachable.Unknown n) = n

-- the reason of this code
abbrev pub unreachable_of : ℕ → Icmpv4DstUnreachable
unreachable_of n =
    if n == 0 then Unreachable.NetUnreachable
    else (if n == 1 then Unreachable.HostUnreachable
    else (if n == 2 then Unreachable.ProtoUnreachable
    else (if n == 3 then Unreachable.PortUnreachable
    else (if n == 4 then Unreachable.FragRequired
    else (if n == 5 then Unreachable.SrcRouteFailed
    else (if n == 6 then Unreachable.DstNetUnknown
    else (if n == 7 then Unreachable.DstHostUnknown
    else (if n == 8 then Unreachable.SrcHostIsolated
    else (if n == 9 then Unreachable.NetProhibited
    else (if n == 10 then Unreachable.HostProhibited
    else (if n == 11 then Unreachable.NetUnreachToS
    else (if n == 12 then Unreachable.HostUnreachToS
    else (if n == 13 then Unreachable.CommProhibited
    else (if n == 14 then Unreachable.HostPrecedViol
    else (if n == 15 then Unreachable.PrecedCutoff
    else Unreachable.Unknown n)))))))))))))))

-- the code that says which time was exceeded
abbrev pub exceeded_number : Icmpv4TimeExceeded → ℕ
exceeded_number Exceeded.TtlExpired = 0
exceeded_number Exceeded.FragExpired = 1
exceeded_number (Exceeded.Unknown n) = n

-- the reason of this code
abbrev pub exceeded_of : ℕ → Icmpv4TimeExceeded
exceeded_of n =
    if n == 0 then Exceeded.TtlExpired
    else (if n == 1 then Exceeded.FragExpired
    else Exceeded.Unknown n)

-- The names that are printed; a number without one is printed itself.

-- what is printed of a type
abbrev pub message_text : Icmpv4Message → List ℕ
message_text Message.EchoReply = codes "echo reply"
message_text Message.DstUnreachable = codes "destination unreachable"
message_text Message.Redirect = codes "redirect"
message_text Message.EchoRequest = codes "echo request"
message_text Message.RouterAdvert = codes "router advertisement"
message_text Message.RouterSolicit = codes "router solicitation"
message_text Message.TimeExceeded = codes "time exceeded"
message_text Message.ParamProblem = codes "parameter problem"
message_text Message.Timestamp = codes "timestamp"
message_text Message.TimestampReply = codes "timestamp reply"
message_text (Message.Unknown n) = decimal n

-- what is printed of why a destination can't be reached
abbrev pub unreachable_text : Icmpv4DstUnreachable → List ℕ
unreachable_text Unreachable.NetUnreachable = codes "network unreachable"
unreachable_text Unreachable.HostUnreachable = codes "host unreachable"
unreachable_text Unreachable.ProtoUnreachable = codes "protocol unreachable"
unreachable_text Unreachable.PortUnreachable = codes "port unreachable"
unreachable_text Unreachable.FragRequired = codes "fragmentation needed and DF set"
unreachable_text Unreachable.SrcRouteFailed = codes "source route failed"
unreachable_text Unreachable.DstNetUnknown = codes "destination network unknown"
unreachable_text Unreachable.DstHostUnknown = codes "destination host unknown"
unreachable_text Unreachable.SrcHostIsolated = codes "source host isolated"
unreachable_text Unreachable.NetProhibited = codes "network administratively prohibited"
unreachable_text Unreachable.HostProhibited = codes "host administratively prohibited"
unreachable_text Unreachable.NetUnreachToS = codes "network unreachable for type of service"
unreachable_text Unreachable.HostUnreachToS = codes "host unreachable for type of service"
unreachable_text Unreachable.CommProhibited = codes "communication administratively prohibited"
unreachable_text Unreachable.HostPrecedViol = codes "host precedence violation"
unreachable_text Unreachable.PrecedCutoff = codes "precedence cutoff in effect"
unreachable_text (Unreachable.Unknown n) = decimal n

-- what is printed of which time was exceeded
abbrev pub exceeded_text : Icmpv4TimeExceeded → List ℕ
exceeded_text Exceeded.TtlExpired = codes "time to live exceeded in transit"
exceeded_text Exceeded.FragExpired = codes "fragment reassembly time exceeded"
exceeded_text (Exceeded.Unknown n) = decimal n
