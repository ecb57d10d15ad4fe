-- The types of messages (RFC 1112, appendix I; RFC 2236, section 2.1; RFC 3376, section 4).
use Rattle.std.specs.Prelude.{ℕ, List, ◌==◌, if◌then◌else◌, codes, decimal}
use Rattle.wire_igmp.specs.declared.message.IgmpMessage.{IgmpMessage}
use Rattle.wire_igmp.specs.declared.message.IgmpMessage.TheVariants as Message
use Rattle.wire_igmp.specs.declared.message.IgmpVersion.{IgmpVersion}
use Rattle.wire_igmp.specs.declared.message.IgmpVersion.TheVariants as Version

-- the type of a message
abbrev pub message_number : IgmpMessage → ℕ
message_number Message.MembershipQuery = 17
message_number Message.MembershipReportV1 = 18
message_number Message.MembershipReportV2 = 22
message_number Message.LeaveGroup = 23
message_number Message.MembershipReportV3 = 34
message_number (Message.Unknown n) = n

-- the message of this type
abbrev pub message_of : ℕ → IgmpMessage
message_of n =
    if n == 17 then Message.MembershipQuery
    else (if n == 18 then Message.MembershipReportV1
    else (if n == 22 then Message.MembershipReportV2
    else (if n == 23 then Message.LeaveGroup
    else (if n == 34 then Message.MembershipReportV3
    else Message.Unknown n))))

-- the type of a report of one group
abbrev pub report_number : IgmpVersion → ℕ
report_number Version.Version1 = 18
report_number Version.Version2 = 22

-- what is printed of a type; a number without a name is printed itself
abbrev pub message_text : IgmpMessage → List ℕ
message_text Message.MembershipQuery = codes "membership query"
message_text Message.MembershipReportV1 = codes "version 1 membership report"
message_text Message.MembershipReportV2 = codes "version 2 membership report"
message_text Message.LeaveGroup = codes "leave group"
message_text Message.MembershipReportV3 = codes "version 3 membership report"
message_text (Message.Unknown n) = decimal n
