-- Datagrams of the clients of DHCP and DNS, which UDP sockets carry.
use Rattle.std.specs.Prelude.{ℕ, ◌+◌, false, min, nat_le, if◌then◌else◌, List, ◌++◌, length, drop, Option, None, Some, Result, Ok, Err}
use Rattle.ip_wire.specs.Ip.{source_of, destination_of}
use Rattle.ip_wire.specs.IpAddress.{IpAddress}
use Rattle.ip_wire.specs.IpAddress.TheVariants as Address
use Rattle.ip_wire.specs.IpEndpoint.{IpEndpoint}
use Rattle.ip_wire.specs.IpProtocol.TheVariants as Protocol
use Rattle.ip_wire.specs.IpRepr.{IpRepr}
use Rattle.ip_wire.specs.IpRepr.TheVariants as Ip
use Rattle.ip_wire.specs.UdpRepr.{UdpRepr}
use Rattle.sockets.specs.Packet.{PacketValue, PayloadValue, Datagram}
use Rattle.c_calls.specs.declared.carrying.Sending.{Sending}
use Rattle.c_calls.specs.declared.code.Code.{Code}
use Rattle.c_calls.specs.declared.code.Code.TheVariants as Is

-- WHAT CAME

abbrev pub ports_of : IpEndpoint → IpEndpoint → UdpRepr
ports_of remote local = record { src_port = remote.port; dst_port = local.port }

-- how many bytes stand after the IP header: eight of UDP's, and at most as many as there can be
abbrev pub payload_len_of : ℕ → ℕ
payload_len_of len = 8 + min len 65_527

abbrev pub ip_between : IpAddress → IpAddress → ℕ → Option IpRepr
ip_between (Address.Ipv4 source) (Address.Ipv4 destination) len =
    Some (Ip.Ipv4 (record {
      src_addr = source;
      dst_addr = destination;
      next_header = Protocol.Udp;
      payload_len = payload_len_of len;
      hop_limit = 64;
      ident = 0;
      dont_frag = false;
    }))
ip_between (Address.Ipv6 source) (Address.Ipv6 destination) len =
    Some (Ip.Ipv6 (record {
      src_addr = source;
      dst_addr = destination;
      next_header = Protocol.Udp;
      payload_len = payload_len_of len;
      hop_limit = 64;
    }))
ip_between source destination len = None

abbrev pub headers_by : Option IpRepr → UdpRepr → Option (IpRepr × UdpRepr)
headers_by None ports = None
headers_by (Some ip) ports = Some (ip, ports)

-- the headers of a datagram of so many bytes, where both addresses are of one family
abbrev pub headers_of : IpEndpoint → IpEndpoint → ℕ → Option (IpRepr × UdpRepr)
headers_of remote local len = headers_by (ip_between remote.addr local.addr len) (ports_of remote local)

-- WHAT GOES

abbrev pub sending_as : IpRepr → UdpRepr → List ℕ → Sending
sending_as ip ports bytes = record {
  len = length bytes;
  remote = record { addr = destination_of ip; port = ports.dst_port };
  local = record { addr = source_of ip; port = ports.src_port };
}

-- a datagram that is longer than the buffer isn't copied
abbrev pub sending_by : IpRepr → PayloadValue → ℕ → Result Sending Code
sending_by ip (Datagram ports bytes) room = if nat_le (length bytes) room then Ok (sending_as ip ports bytes) else Err Is.TooShort
sending_by ip payload room = Err Is.Empty

abbrev pub sending_of : PacketValue → ℕ → Result Sending Code
sending_of p room = sending_by p.header p.payload room

abbrev pub written_by : PayloadValue → List ℕ → List ℕ
written_by (Datagram ports bytes) out = if nat_le (length bytes) (length out) then bytes ++ drop (length bytes) out else out
written_by payload out = out

-- it stands at the front of the buffer
abbrev pub written_of : PacketValue → List ℕ → List ℕ
written_of p out = written_by p.payload out

-- what is open to be sent, if anything is
abbrev pub sending_in : Option PacketValue → ℕ → Result Sending Code
sending_in None room = Err Is.Empty
sending_in (Some p) room = sending_of p room

abbrev pub written_in : Option PacketValue → List ℕ → List ℕ
written_in None out = out
written_in (Some p) out = written_of p out
