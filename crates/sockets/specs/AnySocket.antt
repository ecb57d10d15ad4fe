-- A socket of any kind, taken for one of a kind.
use Rattle.std.specs.Prelude.{Option, None, Some}
use Rattle.socket_datagram.specs.Udp.{UdpValue}
use Rattle.socket_datagram.specs.Icmp.{IcmpValue}
use Rattle.socket_datagram.specs.Raw.{RawValue}
use Rattle.tcp_block.specs.Value.{TcpValue}
use Rattle.socket_datagram.specs.DhcpClient.Value.{DhcpValue}
use Rattle.socket_datagram.specs.DnsClient.Value.{DnsValue}
use Rattle.sockets.specs.declared.socket.Socket.{Socket}
use Rattle.sockets.specs.declared.socket.Socket.TheVariants as Kind

abbrev pub as_raw : Socket → Option RawValue
as_raw (Kind.Raw v) = Some v
as_raw s = None

abbrev pub as_icmp : Socket → Option IcmpValue
as_icmp (Kind.Icmp v) = Some v
as_icmp s = None

abbrev pub as_udp : Socket → Option UdpValue
as_udp (Kind.Udp v) = Some v
as_udp s = None

abbrev pub as_tcp : Socket → Option TcpValue
as_tcp (Kind.Tcp v) = Some v
as_tcp s = None

abbrev pub as_dhcpv4 : Socket → Option DhcpValue
as_dhcpv4 (Kind.Dhcpv4 v) = Some v
as_dhcpv4 s = None

abbrev pub as_dns : Socket → Option DnsValue
as_dns (Kind.Dns v) = Some v
as_dns s = None
