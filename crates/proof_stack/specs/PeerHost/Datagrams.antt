-- What a poll does to a UDP socket of its host.
use Rattle.std.specs.Prelude.{◌≡◌, ℕ, ℤ, List, ◌++◌, Some}
use Rattle.std.specs.List.{AllByRecursion}
use Rattle.net_base.specs.Device.{Move}
use Rattle.net_base.specs.Packets.{contents}
use Rattle.ip_wire.specs.IpRepr.{IpRepr}
use Rattle.ip_wire.specs.UdpRepr.{UdpRepr}
use Rattle.socket_datagram.specs.Udp.{UdpValue, metadata_of}
use Rattle.socket_datagram.specs.declared.udp.UdpMetadata.{UdpMetadata}
use Rattle.sockets.specs.declared.socket.Socket.{Socket}
use Rattle.sockets.specs.declared.socket.Socket.TheVariants as Is
use Rattle.iface_egress.specs.Set.{socket_at}
use Rattle.iface_egress.specs.declared.socket_set.SocketStorage.{SocketStorage}
use Rattle.interface.specs.State.{State}
use Rattle.proof_stack.specs.PeerHost.ReceivedPackets.{DatagramArrived}

abbrev pub IsUdpAt : List (SocketStorage Socket) → ℕ → UdpValue → Type 0
IsUdpAt slots i v = socket_at slots i ≡ Some (Is.Udp v)

module _ {D : Type 0} (moves : D → Move → D → Type 0) (instant : ℤ) (from : State D) where
  -- A datagram came in a frame with these bytes, from the endpoint and to the address that a reader is told, and to the port that the
  -- socket is bound to.
  pub record WasReceived (port : ℕ) (d : UdpMetadata × List ℕ) : Type 0 where
    pub ip : IpRepr
    pub udp : UdpRepr
    pub came : DatagramArrived moves instant from ip udp d.1
    pub told : d.0 ≡ metadata_of ip udp
    pub to_port : udp.dst_port ≡ port

  -- After the datagrams that waited at a slot there are, in the order in which they came, some that the poll took in; none was read,
  -- lost or changed, and the socket is bound as before.
  pub record DatagramsProceed (i : ℕ) (v : UdpValue) (to : State D) : Type 0 where
    pub new : UdpValue
    pub more : List (UdpMetadata × List ℕ)
    pub stays : IsUdpAt to.slots i new
    pub bound : new.settings ≡ v.settings
    pub following : contents new.received ≡ contents v.received ++ more
    pub were : AllByRecursion (WasReceived v.settings.endpoint.port) more
