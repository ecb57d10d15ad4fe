-- How a run of a script ends early, and the line that says so.
use Rattle.std.specs.Prelude.{ℕ, List, ◌++◌, codes, Option, Some, None}
use Rattle.std.specs.Fmt.{decimal}
use Rattle.lan.specs.Worlds.AtLink.NewError.{NewError}
use Rattle.lan.specs.Worlds.AtLink.NewError.TheVariants as New
use Rattle.lan.specs.declared.at_link.history.answer.Refused.{Refused}
use Rattle.lan.specs.declared.at_link.history.answer.Refused.TheVariants.{NoSocket, WrongKind, NoFrame, NotTcp, Place, SameSum, NamesTcpOrUdp, OpenedTwice, PortTaken}
use Rattle.lan.specs.declared.at_link.history.answer.Refused.TheVariants.{TooManyBytes, TooManyCut, RawProtocol, Moment, Memory, NotIpv4, CutPlace}
use Rattle.lan.specs.declared.error.WorldError.{WorldError}
use Rattle.lan.specs.declared.error.WorldError.TheVariants as Since
use Rattle.lan.specs.declared.end.End.{End}
use Rattle.lan.specs.declared.end.End.TheVariants.{BadEvent, Refusal, Interface, World}

-- lack of memory is one end, wherever it was found
abbrev pub interface_end : NewError → End
interface_end New.Medium = Interface New.Medium
interface_end New.NotUnicast = Interface New.NotUnicast
interface_end New.Mtu = Interface New.Mtu
interface_end New.Moment = Interface New.Moment
interface_end New.Memory = Refusal Memory

abbrev pub world_end : WorldError → End
world_end Since.Media = World Since.Media
world_end Since.Checksums = World Since.Checksums
world_end Since.Mtu = World Since.Mtu
world_end Since.Buffers = World Since.Buffers
world_end Since.NotFresh = World Since.NotFresh
world_end Since.Memory = Refusal Memory

abbrev pub refused_name : Refused → List ℕ
refused_name NoSocket = codes "NoSocket"
refused_name WrongKind = codes "WrongKind"
refused_name NoFrame = codes "NoFrame"
refused_name NotTcp = codes "NotTcp"
refused_name Place = codes "Place"
refused_name SameSum = codes "SameSum"
refused_name NamesTcpOrUdp = codes "NamesTcpOrUdp"
refused_name OpenedTwice = codes "OpenedTwice"
refused_name PortTaken = codes "PortTaken"
refused_name TooManyBytes = codes "TooManyBytes"
refused_name TooManyCut = codes "TooManyCut"
refused_name RawProtocol = codes "RawProtocol"
refused_name Moment = codes "Moment"
refused_name Memory = codes "Memory"
refused_name NotIpv4 = codes "NotIpv4"
refused_name CutPlace = codes "CutPlace"

abbrev pub new_error_name : NewError → List ℕ
new_error_name New.Medium = codes "Medium"
new_error_name New.NotUnicast = codes "NotUnicast"
new_error_name New.Mtu = codes "Mtu"
new_error_name New.Moment = codes "Moment"
new_error_name New.Memory = codes "Memory"

abbrev pub world_error_name : WorldError → List ℕ
world_error_name Since.Media = codes "Media"
world_error_name Since.Checksums = codes "Checksums"
world_error_name Since.Mtu = codes "Mtu"
world_error_name Since.Buffers = codes "Buffers"
world_error_name Since.NotFresh = codes "NotFresh"
world_error_name Since.Memory = codes "Memory"

-- why a run ended early
abbrev pub end_text : End → List ℕ
end_text BadEvent = codes "bad event"
end_text (Refusal refused) = codes "refused " ++ refused_name refused
end_text (Interface error) = codes "refused " ++ new_error_name error
end_text (World error) = codes "refused " ++ world_error_name error

-- the line that says so, with the number of the script's line
abbrev pub end_line : ℕ → End → List ℕ
end_line n end = codes "line " ++ (decimal n ++ (codes ": " ++ (end_text end ++ codes "\n")))
