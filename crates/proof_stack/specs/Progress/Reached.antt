-- A datagram that comes in a frame, and the UDP socket that it is for.
use Rattle.std.specs.Prelude.{◌≡◌, ℕ, true, List, slice_get, Option, Some}
use Rattle.wire_ip.specs.Ip.{destination_of}
use Rattle.wire_ip.specs.declared.ip.repr.IpRepr.{IpRepr}
use Rattle.wire_ip.specs.declared.udp.repr.UdpRepr.{UdpRepr}
use Rattle.ip_wire.specs.declared.ethernet.repr.EthernetRepr.{EthernetRepr}
use Rattle.socket_datagram.specs.Udp.{UdpValue}
use Rattle.iface_ingress.specs.Delivered.{datagram_slot}
use Rattle.iface_ingress.specs.Packet.{Datagram}
use Rattle.iface_ingress.specs.Reassembled.{is_taken_in}
use Rattle.iface_ingress.specs.Sent.{uncut}
use Rattle.iface_ingress.specs.Socket.{Socket}
use Rattle.iface_ingress.specs.Socket.TheVariants as Kind
use Rattle.iface_ingress.specs.Upper.{IsBrought}
use Rattle.iface_tables.specs.Inner.{InnerValue, context_of, is_for_us}
use Rattle.iface_egress.specs.declared.socket_meta.Meta.{Meta}
use Rattle.iface_egress.specs.declared.socket_set.SocketStorage.{SocketStorage}

-- a slot with a UDP socket
abbrev pub udp_slot : Meta → UdpValue → SocketStorage Socket
udp_slot meta w = record { inner = Some (record { meta = meta; socket = Kind.Udp w }) }

-- A whole packet after this link header brings this datagram; the host takes it in, for it is for this host and from one host, and it
-- is for this host; and the first socket that accepts it is the UDP socket at this slot.
pub record IsFor (i : InnerValue) (slots : List (SocketStorage Socket)) (link : Option EthernetRepr) (ip : IpRepr) (payload : List ℕ) (udp : UdpRepr)
    (bytes : List ℕ) (m : ℕ) (meta : Meta) (w : UdpValue) : Type 0 where
  pub carries : IsBrought i.checksums ip payload (Some (Datagram udp bytes))
  pub listens : is_taken_in i (uncut link ip payload) ≡ true
  pub ours : is_for_us i (destination_of ip) ≡ true
  pub slot : datagram_slot (context_of i) ip udp slots ≡ Some m
  pub stands : slice_get slots m ≡ Some (udp_slot meta w)
