-- The two endpoints of a connection, in a packet and in the header of a packet; which endpoint a socket listens on.
use Rattle.std.specs.Prelude.{ℕ, ◌==◌, ◌&&◌, Bool, true, false, Option, Some, None}
use Rattle.ip_wire.specs.Ip.{source_of, destination_of}
use Rattle.ip_wire.specs.IpAddress.{IpAddress}
use Rattle.ip_wire.specs.IpAddress.TheVariants as Address
use Rattle.ip_wire.specs.IpListenEndpoint.{IpListenEndpoint}
use Rattle.ip_wire.specs.IpProtocol.TheVariants as Protocol
use Rattle.ip_wire.specs.IpRepr.{IpRepr}
use Rattle.ip_wire.specs.IpRepr.TheVariants as Ip
use Rattle.ip_wire.specs.TcpControl.{TcpControl}
use Rattle.ip_wire.specs.TcpControl.TheVariants as Control
use Rattle.ip_wire.specs.TcpHeader.{TcpHeader}
use Rattle.ip_wire.specs.SeqNumber.{SeqNumber}
use Rattle.ip_wire.specs.AddressTests.{is_same_address}
use Rattle.tcp_state.specs.declared.endpoints.AddressPair.{AddressPair}
use Rattle.tcp_state.specs.declared.endpoints.AddressPair.TheVariants as Pair
use Rattle.tcp_state.specs.declared.endpoints.FourTuple.{FourTuple}

-- the two addresses, if they are of one family
abbrev pub pair_of : IpAddress → IpAddress → Option AddressPair
pair_of (Address.Ipv4 local) (Address.Ipv4 remote) = Some (Pair.Ipv4 local remote)
pair_of (Address.Ipv6 local) (Address.Ipv6 remote) = Some (Pair.Ipv6 local remote)
pair_of local remote = None

abbrev pub local_of : AddressPair → IpAddress
local_of (Pair.Ipv4 local remote) = Address.Ipv4 local
local_of (Pair.Ipv6 local remote) = Address.Ipv6 local

abbrev pub remote_of : AddressPair → IpAddress
remote_of (Pair.Ipv4 local remote) = Address.Ipv4 remote
remote_of (Pair.Ipv6 local remote) = Address.Ipv6 remote

-- the addresses of the connection that a packet belongs to, at the host that it came to
abbrev pub addresses_in : IpRepr → AddressPair
addresses_in (Ip.Ipv4 v) = Pair.Ipv4 v.dst_addr v.src_addr
addresses_in (Ip.Ipv6 v) = Pair.Ipv6 v.dst_addr v.src_addr

-- its endpoints
abbrev pub pair_in : IpRepr → TcpHeader → FourTuple
pair_in ip header = record { addresses = addresses_in ip; local_port = header.dst_port; remote_port = header.src_port }

-- the header of a packet of a connection, for a payload of this length
abbrev pub header_for : AddressPair → ℕ → ℕ → IpRepr
header_for (Pair.Ipv4 local remote) hop_limit len =
    Ip.Ipv4 (record {
      src_addr = local;
      dst_addr = remote;
      next_header = Protocol.Tcp;
      payload_len = len;
      hop_limit = hop_limit;
      ident = 0;
      dont_frag = false;
    })
header_for (Pair.Ipv6 local remote) hop_limit len =
    Ip.Ipv6 (record { src_addr = local; dst_addr = remote; next_header = Protocol.Tcp; payload_len = len; hop_limit = hop_limit })

-- the length of the IP header
abbrev pub ip_header_len : AddressPair → ℕ
ip_header_len (Pair.Ipv4 local remote) = 20
ip_header_len (Pair.Ipv6 local remote) = 40

-- the address is the one that is named, or none is
abbrev pub takes_address : Option IpAddress → IpAddress → Bool
takes_address None address = true
takes_address (Some named) address = is_same_address named address

abbrev pub is_same_choice : Option IpAddress → Option IpAddress → Bool
is_same_choice None None = true
is_same_choice (Some one) (Some other) = is_same_address one other
is_same_choice one other = false

abbrev pub is_same_listener : IpListenEndpoint → IpListenEndpoint → Bool
is_same_listener one other = is_same_choice one.addr other.addr && (one.port == other.port)

-- the endpoints of a packet that came are those of the connection
abbrev pub is_between : FourTuple → IpRepr → TcpHeader → Bool
is_between pair ip header =
    is_same_address (local_of pair.addresses) (destination_of ip) && (is_same_address (remote_of pair.addresses) (source_of ip)
    && ((pair.local_port == header.dst_port) && (pair.remote_port == header.src_port)))

abbrev pub is_connected_by : Option FourTuple → IpRepr → TcpHeader → Bool
is_connected_by None ip header = false
is_connected_by (Some pair) ip header = is_between pair ip header

-- it neither acknowledges nor resets
abbrev pub is_bare : Option SeqNumber → TcpControl → Bool
is_bare (Some n) control = false
is_bare None Control.Rst = false
is_bare None control = true
