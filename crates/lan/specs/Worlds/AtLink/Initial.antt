-- Hosts to which nothing has happened.
use Rattle.std.specs.Prelude.{◌≡◌, ◌<◌, ◌^◌, ℕ, true, false, [], Some}
use Rattle.std.specs.List.{AllByRecursion}
use Rattle.ip_wire.specs.Address.{IsEthernetAddress, IsIpAddress}
use Rattle.ip_wire.specs.HardwareAddress.{HardwareAddress}
use Rattle.ip_wire.specs.HardwareAddress.TheVariants as Hardware
use Rattle.net_base.specs.Capabilities.{all_checksums, ip_mtu}
use Rattle.net_base.specs.Checksum.TheVariants.{Both}
use Rattle.net_base.specs.Packets.{contents}
use Rattle.interface.specs.Made.{IsIdle}
use Rattle.iface_egress.specs.Set.{socket_at}
use Rattle.iface_egress.specs.Inner.{InnerValue}
use Rattle.interface.specs.Settings.{is_of_medium, is_mtu}
use Rattle.sockets.specs.declared.socket.Socket.{Socket}
use Rattle.sockets.specs.declared.socket.Socket.TheVariants as Is
use Rattle.lan.specs.Worlds.AtLink.Endpoints.{IsNameless}
use Rattle.lan.specs.Worlds.AtLink.Promises.{IsInitial}
use Rattle.lan.specs.Worlds.AtLink.Runs.{Start, Starts}

-- nothing is queued; one of TCP is CLOSED without endpoints, and took no FIN. A client of DHCP or DNS is at no host of a world: no
-- application accepted the datagrams that it sends.
abbrev pub IsUnused : Socket → Type 0
IsUnused (Is.Raw v) = (contents v.received ≡ []) × (contents v.queued ≡ [])
IsUnused (Is.Icmp v) = (contents v.received ≡ []) × (contents v.queued ≡ [])
IsUnused (Is.Udp v) = (contents v.received ≡ []) × (contents v.queued ≡ [])
IsUnused (Is.Tcp v) = IsInitial v × IsNameless v.tcb
IsUnused (Is.Dhcpv4 v) = ⊥
IsUnused (Is.Dns v) = ⊥

abbrev pub IsHardware : HardwareAddress → Type 0
IsHardware (Hardware.Ethernet own) = IsEthernetAddress own
IsHardware Hardware.Ip = Unit {0}

-- what the types of a host's fields say: its addresses are of their lengths, and an identification has 16 bits
pub record IsTypedHost (i : InnerValue) : Type 0 where
  pub hardware : IsHardware i.hardware
  pub routers : AllByRecursion (λ r. IsIpAddress r.via_router) i.routes
  pub ident : i.ident < 2 ^ 16

-- a host of its device's medium and MTU, with every checksum on, of smoltcp's ways, at which nothing ran and which knows no neighbour
pub record IsInitialStart (s : Start) : Type 0 where
  pub medium : is_of_medium s.host.inner.hardware s.capabilities.medium ≡ true
  pub checksums : s.host.inner.checksums ≡ all_checksums Both
  pub device_checksums : s.capabilities.checksum ≡ all_checksums Both
  pub mtu : is_mtu s.host.inner.mtu ≡ true
  pub own_mtu : s.host.inner.mtu ≡ ip_mtu s.capabilities
  pub initial : s.host.inner.initial ≡ true
  pub alone : s.host.inner.host_requirements ≡ false
  pub idle : IsIdle s.host.left s.host.assemblers
  pub unknown : s.host.inner.neighbors.entries ≡ []
  pub typed : IsTypedHost s.host.inner
  pub sockets : (i : ℕ) (socket : Socket) → socket_at s.slots i ≡ Some socket → IsUnused socket

-- two of them, of one medium
pub record IsInitialWorld (starts : Starts) : Type 0 where
  pub a : IsInitialStart starts.a
  pub b : IsInitialStart starts.b
  pub medium : starts.a.capabilities.medium ≡ starts.b.capabilities.medium
