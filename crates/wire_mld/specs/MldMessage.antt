-- The types of messages (RFC 2710, section 3.1; RFC 3810, section 5).
use Rattle.std.specs.Prelude.{ℕ, List, ◌==◌, if◌then◌else◌, codes, decimal}
use Rattle.wire_mld.specs.declared.message.MldMessage.{MldMessage}
use Rattle.wire_mld.specs.declared.message.MldMessage.TheVariants as Message

-- the type of a message
abbrev pub message_number : MldMessage → ℕ
message_number Message.MldQuery = 130
message_number Message.MldReportV1 = 131
message_number Message.MldDone = 132
message_number Message.MldReport = 143
message_number (Message.Unknown n) = n

-- the message of this type
abbrev pub message_of : ℕ → MldMessage
message_of n =
    if n == 130 then Message.MldQuery
    else (if n == 131 then Message.MldReportV1
    else (if n == 132 then Message.MldDone
    else (if n == 143 then Message.MldReport
    else Message.Unknown n)))

-- what is printed of a type; a number without a name is printed itself
abbrev pub message_text : MldMessage → List ℕ
message_text Message.MldQuery = codes "multicast listener query"
message_text Message.MldReportV1 = codes "version 1 multicast listener report"
message_text Message.MldDone = codes "multicast listener done"
message_text Message.MldReport = codes "multicast listener report"
message_text (Message.Unknown n) = decimal n
