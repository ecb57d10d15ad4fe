-- The names of numbers: a number is printed as its name and, in brackets, itself. A number that has no name stands under the name of its kind.
use Rattle.std.specs.Prelude.{ℕ, List, ◌++◌, codes, decimal}
use Rattle.ip_wire.specs.Protocol.{protocol_number}
use Rattle.ip_wire.specs.Arp.{operation_number}
use Rattle.control_wire.specs.Icmpv4Codes as codes4
use Rattle.control_wire.specs.Reason as codes6
use Rattle.ip_wire.specs.IpProtocol.{IpProtocol}
use Rattle.ip_wire.specs.IpProtocol.TheVariants as IpProtocol_of
use Rattle.ip_wire.specs.declared.arp.kinds.ArpOperation.{ArpOperation}
use Rattle.ip_wire.specs.declared.arp.kinds.ArpOperation.TheVariants as ArpOperation_of
use Rattle.control_wire.specs.Icmpv4DstUnreachable.{Icmpv4DstUnreachable}
use Rattle.control_wire.specs.Icmpv4DstUnreachable.TheVariants as Icmpv4DstUnreachable_of
use Rattle.control_wire.specs.Icmpv4TimeExceeded.{Icmpv4TimeExceeded}
use Rattle.control_wire.specs.Icmpv4TimeExceeded.TheVariants as Icmpv4TimeExceeded_of
use Rattle.control_wire.specs.Icmpv6DstUnreachable.{Icmpv6DstUnreachable}
use Rattle.control_wire.specs.Icmpv6DstUnreachable.TheVariants as Icmpv6DstUnreachable_of
use Rattle.control_wire.specs.Icmpv6TimeExceeded.{Icmpv6TimeExceeded}
use Rattle.control_wire.specs.Icmpv6TimeExceeded.TheVariants as Icmpv6TimeExceeded_of
use Rattle.control_wire.specs.Icmpv6ParamProblem.{Icmpv6ParamProblem}
use Rattle.control_wire.specs.Icmpv6ParamProblem.TheVariants as Icmpv6ParamProblem_of
use Rattle.ip_wire.specs.EthernetProtocol.{EthernetProtocol}
use Rattle.ip_wire.specs.EthernetProtocol.TheVariants as Ether

-- a protocol over IP
abbrev pub protocol_name : IpProtocol → List ℕ
protocol_name IpProtocol_of.HopByHop = codes "hop-by-hop options"
protocol_name IpProtocol_of.Icmp = codes "ICMP"
protocol_name IpProtocol_of.Igmp = codes "IGMP"
protocol_name IpProtocol_of.Tcp = codes "TCP"
protocol_name IpProtocol_of.Udp = codes "UDP"
protocol_name IpProtocol_of.Ipv6Route = codes "routing header"
protocol_name IpProtocol_of.Ipv6Frag = codes "fragment header"
protocol_name IpProtocol_of.IpSecEsp = codes "ESP"
protocol_name IpProtocol_of.IpSecAh = codes "AH"
protocol_name IpProtocol_of.Icmpv6 = codes "ICMPv6"
protocol_name IpProtocol_of.Ipv6NoNxt = codes "no next header"
protocol_name IpProtocol_of.Ipv6Opts = codes "destination options"
protocol_name (IpProtocol_of.Unknown n) = codes "protocol"

abbrev pub protocol_text : IpProtocol → List ℕ
protocol_text x = protocol_name x ++ (codes " (" ++ (decimal (protocol_number x) ++ codes ")"))

-- the operation of an ARP packet
abbrev pub operation_name : ArpOperation → List ℕ
operation_name ArpOperation_of.Request = codes "request"
operation_name ArpOperation_of.Reply = codes "reply"
operation_name (ArpOperation_of.Unknown n) = codes "operation"

abbrev pub operation_text : ArpOperation → List ℕ
operation_text x = operation_name x ++ (codes " (" ++ (decimal (operation_number x) ++ codes ")"))

-- why an IPv4 packet didn't reach its destination (RFC 792; RFC 1122, section 3.2.2.1)
abbrev pub unreachable4_name : Icmpv4DstUnreachable → List ℕ
unreachable4_name Icmpv4DstUnreachable_of.NetUnreachable = codes "net"
unreachable4_name Icmpv4DstUnreachable_of.HostUnreachable = codes "host"
unreachable4_name Icmpv4DstUnreachable_of.ProtoUnreachable = codes "protocol"
unreachable4_name Icmpv4DstUnreachable_of.PortUnreachable = codes "port"
unreachable4_name Icmpv4DstUnreachable_of.FragRequired = codes "fragmentation needed"
unreachable4_name Icmpv4DstUnreachable_of.SrcRouteFailed = codes "source route failed"
unreachable4_name Icmpv4DstUnreachable_of.DstNetUnknown = codes "net unknown"
unreachable4_name Icmpv4DstUnreachable_of.DstHostUnknown = codes "host unknown"
unreachable4_name Icmpv4DstUnreachable_of.SrcHostIsolated = codes "source isolated"
unreachable4_name Icmpv4DstUnreachable_of.NetProhibited = codes "net prohibited"
unreachable4_name Icmpv4DstUnreachable_of.HostProhibited = codes "host prohibited"
unreachable4_name Icmpv4DstUnreachable_of.NetUnreachToS = codes "net for this service"
unreachable4_name Icmpv4DstUnreachable_of.HostUnreachToS = codes "host for this service"
unreachable4_name Icmpv4DstUnreachable_of.CommProhibited = codes "filtered"
unreachable4_name Icmpv4DstUnreachable_of.HostPrecedViol = codes "precedence violation"
unreachable4_name Icmpv4DstUnreachable_of.PrecedCutoff = codes "precedence cutoff"
unreachable4_name (Icmpv4DstUnreachable_of.Unknown n) = codes "code"

abbrev pub unreachable4_text : Icmpv4DstUnreachable → List ℕ
unreachable4_text x = unreachable4_name x ++ (codes " (" ++ (decimal (codes4.unreachable_number x) ++ codes ")"))

-- which time was exceeded (RFC 792)
abbrev pub exceeded4_name : Icmpv4TimeExceeded → List ℕ
exceeded4_name Icmpv4TimeExceeded_of.TtlExpired = codes "time to live"
exceeded4_name Icmpv4TimeExceeded_of.FragExpired = codes "reassembly"
exceeded4_name (Icmpv4TimeExceeded_of.Unknown n) = codes "code"

abbrev pub exceeded4_text : Icmpv4TimeExceeded → List ℕ
exceeded4_text x = exceeded4_name x ++ (codes " (" ++ (decimal (codes4.exceeded_number x) ++ codes ")"))

-- why an IPv6 packet didn't reach its destination (RFC 4443, section 3.1)
abbrev pub unreachable6_name : Icmpv6DstUnreachable → List ℕ
unreachable6_name Icmpv6DstUnreachable_of.NoRoute = codes "no route"
unreachable6_name Icmpv6DstUnreachable_of.AdminProhibit = codes "prohibited"
unreachable6_name Icmpv6DstUnreachable_of.BeyondScope = codes "beyond scope"
unreachable6_name Icmpv6DstUnreachable_of.AddrUnreachable = codes "address"
unreachable6_name Icmpv6DstUnreachable_of.PortUnreachable = codes "port"
unreachable6_name Icmpv6DstUnreachable_of.FailedPolicy = codes "failed policy"
unreachable6_name Icmpv6DstUnreachable_of.RejectRoute = codes "rejected route"
unreachable6_name (Icmpv6DstUnreachable_of.Unknown n) = codes "code"

abbrev pub unreachable6_text : Icmpv6DstUnreachable → List ℕ
unreachable6_text x = unreachable6_name x ++ (codes " (" ++ (decimal (codes6.unreachable_code x) ++ codes ")"))

-- which limit was exceeded (RFC 4443, section 3.3)
abbrev pub exceeded6_name : Icmpv6TimeExceeded → List ℕ
exceeded6_name Icmpv6TimeExceeded_of.HopLimitExceeded = codes "hop limit"
exceeded6_name Icmpv6TimeExceeded_of.FragReassemExceeded = codes "reassembly"
exceeded6_name (Icmpv6TimeExceeded_of.Unknown n) = codes "code"

abbrev pub exceeded6_text : Icmpv6TimeExceeded → List ℕ
exceeded6_text x = exceeded6_name x ++ (codes " (" ++ (decimal (codes6.exceeded_code x) ++ codes ")"))

-- what was wrong with a packet (RFC 4443, section 3.4)
abbrev pub problem_name : Icmpv6ParamProblem → List ℕ
problem_name Icmpv6ParamProblem_of.ErroneousHdrField = codes "header field"
problem_name Icmpv6ParamProblem_of.UnrecognizedNxtHdr = codes "next header"
problem_name Icmpv6ParamProblem_of.UnrecognizedOption = codes "option"
problem_name (Icmpv6ParamProblem_of.Unknown n) = codes "code"

abbrev pub problem_text : Icmpv6ParamProblem → List ℕ
problem_text x = problem_name x ++ (codes " (" ++ (decimal (codes6.problem_code x) ++ codes ")"))

-- what an Ethernet frame carries
abbrev pub ether_text : EthernetProtocol → List ℕ
ether_text Ether.Ipv4 = codes "IPv4"
ether_text Ether.Arp = codes "ARP"
ether_text Ether.Ipv6 = codes "IPv6"
ether_text (Ether.Unknown n) = codes "type " ++ decimal n
