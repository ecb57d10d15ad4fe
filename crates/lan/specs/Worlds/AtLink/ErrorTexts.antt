-- What faults and refusals say.
use Rattle.std.specs.Prelude.{ℕ, List, codes}
use Rattle.lan.specs.declared.at_link.history.answer.Fault.{Fault}
use Rattle.lan.specs.declared.at_link.history.answer.Fault.TheVariants as Is
use Rattle.lan.specs.declared.at_link.history.answer.Refused.{Refused}
use Rattle.lan.specs.declared.at_link.history.answer.Refused.TheVariants as For

abbrev pub fault_text : Fault → List ℕ
fault_text Is.InvalidState = codes "invalid state"
fault_text Is.Unaddressable = codes "unaddressable"
fault_text Is.BufferFull = codes "buffer full"
fault_text Is.Exhausted = codes "exhausted"
fault_text Is.Truncated = codes "truncated"
fault_text Is.Finished = codes "operation finished"
fault_text Is.Medium = codes "another medium"
fault_text Is.NotUnicast = codes "not unicast"
fault_text Is.RouteTableFull = codes "route table full"

abbrev pub refused_text : Refused → List ℕ
refused_text For.NoSocket = codes "no such socket"
refused_text For.WrongKind = codes "wrong kind of socket"
refused_text For.NoFrame = codes "no such frame"
refused_text For.NotTcp = codes "no TCP segment"
refused_text For.Place = codes "no such place"
refused_text For.SameSum = codes "same sum"
refused_text For.NamesTcpOrUdp = codes "names TCP or UDP"
refused_text For.OpenedTwice = codes "opened twice"
refused_text For.PortTaken = codes "port taken"
refused_text For.TooManyBytes = codes "too many bytes"
refused_text For.TooManyCut = codes "too many datagrams"
refused_text For.RawProtocol = codes "raw TCP or UDP"
refused_text For.Moment = codes "no moment, or before the host's last"
refused_text For.Memory = codes "out of memory"
refused_text For.NotIpv4 = codes "no IPv4 packet"
refused_text For.CutPlace = codes "no place for a cut"
