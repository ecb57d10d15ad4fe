-- The numbers by which one header names what it carries (IANA, "Protocol Numbers" and "IEEE 802 Numbers").
use Rattle.std.specs.Prelude.{ℕ, ◌==◌, if◌then◌else◌}
use Rattle.wire_address.specs.declared.ethernet.EthernetProtocol.{EthernetProtocol}
use Rattle.wire_address.specs.declared.ethernet.EthernetProtocol.TheVariants as Ether
use Rattle.wire_address.specs.declared.ip.IpProtocol.{IpProtocol}
use Rattle.wire_address.specs.declared.ip.IpProtocol.TheVariants as Ip

-- the number of what an Ethernet frame carries
abbrev pub ether_number : EthernetProtocol → ℕ
ether_number Ether.Ipv4 = 0x0800
ether_number Ether.Arp = 0x0806
ether_number Ether.Ipv6 = 0x86dd
ether_number (Ether.Unknown n) = n

-- what an Ethernet frame of this number carries
abbrev pub ether_of : ℕ → EthernetProtocol
ether_of n =
    if n == 0x0800 then Ether.Ipv4
    else if n == 0x0806 then Ether.Arp
    else if n == 0x86dd then Ether.Ipv6
    else Ether.Unknown n

-- the number of what an IP packet carries
abbrev pub protocol_number : IpProtocol → ℕ
protocol_number Ip.HopByHop = 0x00
protocol_number Ip.Icmp = 0x01
protocol_number Ip.Igmp = 0x02
protocol_number Ip.Tcp = 0x06
protocol_number Ip.Udp = 0x11
protocol_number Ip.Ipv6Route = 0x2b
protocol_number Ip.Ipv6Frag = 0x2c
protocol_number Ip.IpSecEsp = 0x32
protocol_number Ip.IpSecAh = 0x33
protocol_number Ip.Icmpv6 = 0x3a
protocol_number Ip.Ipv6NoNxt = 0x3b
protocol_number Ip.Ipv6Opts = 0x3c
protocol_number (Ip.Unknown n) = n

-- what an IP packet of this number carries
abbrev pub protocol_of : ℕ → IpProtocol
protocol_of n =
    if n == 0x00 then Ip.HopByHop
    else if n == 0x01 then Ip.Icmp
    else if n == 0x02 then Ip.Igmp
    else if n == 0x06 then Ip.Tcp
    else if n == 0x11 then Ip.Udp
    else if n == 0x2b then Ip.Ipv6Route
    else if n == 0x2c then Ip.Ipv6Frag
    else if n == 0x32 then Ip.IpSecEsp
    else if n == 0x33 then Ip.IpSecAh
    else if n == 0x3a then Ip.Icmpv6
    else if n == 0x3b then Ip.Ipv6NoNxt
    else if n == 0x3c then Ip.Ipv6Opts
    else Ip.Unknown n
