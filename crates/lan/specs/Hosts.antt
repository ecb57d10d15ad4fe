-- The hosts that the header of a script asks for, and the world that begins with them.
use Rattle.std.specs.Prelude.{◌≡◌, ℕ, ◌^◌, ℤ, pos, nat_lt, ◌||◌, Bool, true, false, ◌&&◌, if◌then◌else◌, List, [], ◌∷◌, ◌++◌, length, replicate, Option, None}
use Rattle.std.specs.Prelude.{Some, option_map, ◌≤◌}
use Rattle.std.proofs.Common.{arith}
use Rattle.std.specs.List.{list_any}
use Rattle.std.specs.Net.Addr.{octets_of}
use Rattle.socket_datagram.specs.Icmp as icmp
use Rattle.socket_datagram.specs.Raw as raw
use Rattle.socket_datagram.specs.SocketValue.{initial}
use Rattle.socket_datagram.specs.Udp as udp
use Rattle.lan.specs.Worlds.AtLink.Host.{HostValue}
use Rattle.lan.specs.Worlds.Made.{new_host, with_inner}
use Rattle.lan.specs.Worlds.Set.{unmarked}
use Rattle.lan.specs.Worlds.SocketStorage.{SocketStorage}
use Rattle.lan.specs.Worlds.Settings.{default_config, refusal, with_addresses}
use Rattle.lan.specs.Worlds.AtLink.Config.{Config}
use Rattle.wire_address.specs.declared.hardware.HardwareAddress.{HardwareAddress}
use Rattle.wire_address.specs.declared.hardware.HardwareAddress.TheVariants as Hardware
use Rattle.wire_address.specs.declared.ip.IpCidr.{IpCidr}
use Rattle.wire_address.specs.declared.ip.IpCidr.TheVariants as Tcb
use Rattle.wire_address.specs.Protocol.{protocol_of}
use Rattle.lan.specs.Worlds.AtLink.Kinds.{same_side}
use Rattle.lan.specs.declared.at_link.history.event.Side.{Side}
use Rattle.lan.specs.declared.at_link.history.event.Side.TheVariants.{A, B}
use Rattle.sim_link.specs.Port.{unused_end}
use Rattle.sim_link.specs.declared.kinds.QueueSizes.{QueueSizes}
use Rattle.sim_link.specs.declared.kinds.SocketSpec.{SocketSpec}
use Rattle.sim_link.specs.declared.kinds.SocketSpec.TheVariants as Asks
use Rattle.lan.specs.Worlds.AtLink.Runs.{WorldValue}
use Rattle.lan.specs.Worlds.AtLink.Node.{NodeValue}
use Rattle.lan.specs.Worlds.Provenance.{both, starts_of}
use Rattle.lan.specs.Worlds.New.{new_error}
use Rattle.lan.specs.declared.error.WorldError.TheVariants as Since
use Rattle.net_base.specs.Capabilities.{all_checksums}
use Rattle.net_base.specs.Checksum.TheVariants.{Both}
use Rattle.net_base.specs.DeviceCapabilities.{DeviceCapabilities}
use Rattle.net_base.specs.Medium.{Medium}
use Rattle.net_base.specs.Medium.TheVariants as Medium
use Rattle.net_base.specs.Packets.{Packets, packets_in}
use Rattle.net_base.specs.Ring.{ring}
use Rattle.sockets.specs.declared.socket.Socket.{Socket}
use Rattle.sockets.specs.declared.socket.Socket.TheVariants as Is
use Rattle.lan.specs.Worlds.AtLink.Value.{new_socket}
use Rattle.lan.specs.Ends.{interface_end, world_end}
use Rattle.lan.specs.declared.end.End.{End}
use Rattle.lan.specs.declared.end.End.TheVariants.{World}

-- the header so far: the medium of the link, the longest frame of both devices, and each socket with its host, in the order of
-- their lines
pub record HeaderValue : Type 0 where
  pub medium : Medium
  pub mtu : ℕ
  pub sockets : List (Side × SocketSpec)

-- INTERFACES

-- the number of a host: its seed, and the last byte of each of its addresses
abbrev pub number : Side → ℕ
number A = 1
number B = 2

abbrev pub hardware_of : Medium → Side → HardwareAddress
hardware_of Medium.Ethernet side = Hardware.Ethernet (record { 0 = 2 ∷ 0 ∷ 0 ∷ 0 ∷ 0 ∷ number side ∷ [] })
hardware_of Medium.Ip side = Hardware.Ip

-- 192.168.1.1/24 of A, 192.168.1.2/24 of B
abbrev pub cidr_v4 : Side → IpCidr
cidr_v4 side = Tcb.Ipv4 (record { address = record { 0 = 192 ∷ 168 ∷ 1 ∷ number side ∷ [] }; prefix_len = 24; in_range = omega arith })

-- fd00::1/64 of A, fd00::2/64 of B
abbrev pub cidr_v6 : Side → IpCidr
cidr_v6 side = Tcb.Ipv6 (record {
  address = record { 0 = octets_of (0xfd00 ∷ 0 ∷ 0 ∷ 0 ∷ 0 ∷ 0 ∷ 0 ∷ number side ∷ []) };
  prefix_len = 64;
  in_range = omega arith;
})

abbrev pub config_of : Medium → Side → Config
config_of medium side = record (default_config (hardware_of medium side)) { random_seed = number side }

-- what both devices say of themselves: they verify and compute every checksum
abbrev pub device_of : Medium → ℕ → DeviceCapabilities
device_of medium mtu = record { medium = medium; max_transmission_unit = mtu; checksum = all_checksums Both }

-- an interface as a script starts it, at instant 0
abbrev pub interface_of : Medium → ℕ → Side → HostValue
interface_of medium mtu side =
    let h = new_host (config_of medium side) (device_of medium mtu) (pos 0) in
    with_inner h (with_addresses h.inner (cidr_v4 side ∷ cidr_v6 side ∷ []))

-- SOCKETS

-- a queue of so many entries and bytes, with nothing in it
abbrev pub queue : {H : Type 0} → ℕ → ℕ → Packets H
queue packets bytes = packets_in [] 0 packets bytes

abbrev pub received : {H : Type 0} → QueueSizes → Packets H
received q = queue q.receive_packets q.receive_bytes

abbrev pub queued : {H : Type 0} → QueueSizes → Packets H
queued q = queue q.send_packets q.send_bytes

abbrev pub socket_of : SocketSpec → Socket
socket_of (Asks.Udp q) = Is.Udp (udp.made (received q) (queued q))
socket_of (Asks.Icmp q) = Is.Icmp (icmp.made (received q) (queued q))
socket_of (Asks.Raw version protocol q) = Is.Raw (initial (raw.filters version (option_map protocol_of protocol)) (received q) (queued q))
socket_of (Asks.Tcp s) = Is.Tcp (new_socket s.receive_bytes (ring [] (replicate s.send_bytes 0) 0))

-- a host's own of these sockets, in order, after those in these slots
abbrev pub with_own : Side → List (SocketStorage Socket) → Side → SocketSpec → List (SocketStorage Socket)
with_own side slots of spec = if same_side of side then slots ++ unmarked (socket_of spec) ∷ [] else slots

abbrev pub with_sockets : Side → List (SocketStorage Socket) → List (Side × SocketSpec) → List (SocketStorage Socket)
with_sockets side slots [] = slots
with_sockets side slots (socket ∷ sockets) = with_sockets side (with_own side slots socket.0 socket.1) sockets

-- a buffer of a TCP socket is to hold more than 2^30 bytes
abbrev pub is_large : SocketSpec → Bool
is_large (Asks.Tcp s) = nat_lt (2 ^ 30) s.receive_bytes || nat_lt (2 ^ 30) s.send_bytes
is_large _ = false

abbrev pub has_large : Side → List (Side × SocketSpec) → Bool
has_large side sockets = list_any (λ s. same_side s.0 side && is_large s.1) sockets

-- HOSTS

abbrev pub host_of : HeaderValue → Side → NodeValue
host_of h side = record {
  host = interface_of h.medium h.mtu side;
  slots = with_sockets side [] h.sockets;
  link = unused_end (device_of h.medium h.mtu);
}

-- a world in which nothing has happened
abbrev pub first_world : NodeValue → NodeValue → WorldValue
first_world a b = record { hosts = both a b; starts = starts_of a b; history = [] }

-- WHY NO WORLD BEGINS, but for lack of memory

abbrev pub no_interface : Medium → ℕ → Side → Option End
no_interface medium mtu side = option_map interface_end (refusal (config_of medium side) (device_of medium mtu) (pos 0))

abbrev pub no_sockets : Side → List (Side × SocketSpec) → Option End
no_sockets side sockets = if has_large side sockets then Some (World Since.Buffers) else None

abbrev pub no_world : NodeValue → NodeValue → Option End
no_world a b = option_map world_end (new_error a b)

abbrev pub first_of : List (Option End) → Option End
first_of [] = None
first_of (None ∷ ends) = first_of ends
first_of (Some end ∷ ends) = Some end

-- the first reason that there is: of the interface of A, of that of B, of the sockets of A, of those of B, and of both hosts together
abbrev pub no_start : HeaderValue → Option End
no_start h =
    first_of (
    no_interface h.medium h.mtu A
    ∷ no_interface h.medium h.mtu B
    ∷ no_sockets A h.sockets
    ∷ no_sockets B h.sockets
    ∷ no_world (host_of h A) (host_of h B)
    ∷ []
    )
