-- A host that begins: its interface, its device and its sockets.
use Rattle.std.specs.Prelude.{◌≡◌, ℕ, ◌+◌, ◌<◌, ◌≤◌, ◌&&◌, ◌||◌, ℤ, Bool, true, false, List, [], ◌∷◌, length, replicate, slice_index_or, Option, None, Some, ⊤}
use Rattle.interface.specs.Host.{HostValue}
use Rattle.interface.specs.Made.{new_host, with_inner}
use Rattle.interface.specs.Reports.{with_own_addresses}
use Rattle.interface.specs.State.{State}
use Rattle.interface.specs.Set.{free}
use Rattle.interface.specs.Item.{Item}
use Rattle.interface.specs.SocketStorage.{SocketStorage}
use Rattle.iface_tables.specs.Route.{RoutesValue, IsGateway}
use Rattle.iface_tables.specs.Settings.{network_config, is_unicast_hardware, with_routes}
use Rattle.iface_tables.specs.declared.config.Config.{Config}
use Rattle.iface_tables.specs.declared.route.Route.{Route}
use Rattle.ip_wire.specs.AddressTests.{is_unicast, is_unspecified}
use Rattle.ip_wire.specs.Cidr.{cidr_address, cidr_prefix_len}
use Rattle.ip_wire.specs.HardwareAddress.{HardwareAddress}
use Rattle.ip_wire.specs.IpAddress.{IpAddress}
use Rattle.ip_wire.specs.IpAddress.TheVariants as Ip
use Rattle.ip_wire.specs.IpCidr.{IpCidr}
use Rattle.ip_wire.specs.Ipv4Address.{Ipv4Address}
use Rattle.ip_wire.specs.Ipv6Address.{Ipv6Address}
use Rattle.net_base.specs.Capabilities.{all_checksums}
use Rattle.net_base.specs.Checksum.TheVariants.{Both}
use Rattle.net_base.specs.DeviceCapabilities.{DeviceCapabilities}
use Rattle.net_base.specs.Medium.{Medium}
use Rattle.net_base.specs.Medium.TheVariants as Medium
use Rattle.net_base.specs.Packets.{packets_in}
use Rattle.net_base.specs.Ring.{capacity}
use Rattle.socket_datagram.specs.Udp.{UdpValue, made as made_socket, bind_after}
use Rattle.app_tun_services.specs.Backlogs.{on_port, HostState, AreInitialEntries}
use Rattle.sockets.specs.TcpSettings.{set_timeout, set_keep_alive, set_min_rto, set_fine_timer, set_nagle_enabled, set_congestion_control}
use Rattle.sockets.specs.TcpSettings.{set_tsval_generator}
use Rattle.sockets.specs.CongestionControl.TheVariants.{Cubic}
use Rattle.sockets.specs.declared.socket.Socket.{Socket}
use Rattle.sockets.specs.declared.socket.Socket.TheVariants as Is
use Rattle.app_tun_services.specs.TcbRules.{initial_tcb, default_settings}
use Rattle.sockets.specs.TcpValue.{TcpValue, emptied, room_of}
use Rattle.app_tun_services.specs.Settings.{medium_of}
use Rattle.app_tun_services.specs.Services.{service_at, socket_count, echo_room}
use Rattle.app_tun_services.specs.declared.error.ServeError.{ServeError}
use Rattle.app_tun_services.specs.declared.error.ServeError.TheVariants.{Address, Hardware, Memory}
use Rattle.app_tun_services.specs.declared.interface_of.TheConstants.{MTU}
use Rattle.app_tun_services.specs.declared.slot.Service.{Service}
use Rattle.app_tun_services.specs.declared.slot.Service.TheVariants.{Datagrams, Streams, Page, Keeper}
use Rattle.app_tun_services.specs.declared.slot.TheConstants.{ECHO_PORT, DATAGRAMS}
use Rattle.app_tun_services.specs.declared.settings.Settings.{Settings}
use Rattle.app_tun_services.specs.Link.Drain.{DrainValue, initial_drain}
use Rattle.app_tun_services.specs.Tallies.{no_tally}
use Rattle.app_tun_services.specs.Site.{initial_session}

-- THE INTERFACE

-- how many bytes stand before a packet on a link
abbrev pub head_len : Medium → ℕ
head_len Medium.Ethernet = 14
head_len Medium.Ip = 0

-- packets of at most 1,500 bytes after the link's header, and all checksums
abbrev pub capabilities_of : HardwareAddress → DeviceCapabilities
capabilities_of hardware =
    record { medium = medium_of hardware; max_transmission_unit = MTU + head_len (medium_of hardware); checksum = all_checksums Both }

abbrev pub config_of : Settings → Config
config_of s = record (network_config s.hardware) { random_seed = s.seed; isn_key = s.isn_key }

-- one host's address, or the unspecified one
abbrev pub is_host_address : IpAddress → Bool
is_host_address address = is_unicast address || is_unspecified address

-- a block of this address
abbrev pub IsBlockOf : IpAddress → ℕ → IpCidr → Type 0
IsBlockOf address prefix_len tcb = (cidr_address tcb ≡ address) × (cidr_prefix_len tcb ≡ prefix_len)

-- a route for all destinations of either family, by these routers
abbrev pub AreDefaults : Ipv4Address → Ipv6Address → List Route → Type 0
AreDefaults ipv4 ipv6 routes =
    (r4 : Route) × ((r6 : Route) × (IsGateway r4 (replicate 4 0) (Ip.Ipv4 ipv4) × IsGateway r6 (replicate 16 0) (Ip.Ipv6 ipv6) × (routes ≡ r4 ∷ r6 ∷ [])))

-- a table without routes gets these routers, where there is room for both
pub record AddsRouters (ipv4 : Ipv4Address) (ipv6 : Ipv6Address) (old new : RoutesValue) : Type 0 where
  pub first : old.entries ≡ [] → 2 ≤ old.room → AreDefaults ipv4 ipv6 new.entries
  pub room : new.room ≡ old.room

abbrev pub begun_host : Settings → ℤ → List IpCidr → List Route → HostValue
begun_host s instant local routes =
    let h = with_own_addresses (new_host (config_of s) (capabilities_of s.hardware) instant) local in
    with_inner h (with_routes h.inner routes)

-- a new interface with the own addresses in their networks, and the routers
pub record IsInterface (s : Settings) (instant : ℤ) (h : HostValue) : Type 0 where
  pub ipv4 : IpCidr
  pub ipv6 : IpCidr
  pub routes : List Route
  pub own_ipv4 : IsBlockOf (Ip.Ipv4 s.ipv4) s.ipv4_prefix_len ipv4
  pub own_ipv6 : IsBlockOf (Ip.Ipv6 s.ipv6) s.ipv6_prefix_len ipv6
  pub ipv4_is_host : is_host_address (Ip.Ipv4 s.ipv4) ≡ true
  pub ipv6_is_host : is_host_address (Ip.Ipv6 s.ipv6) ≡ true
  pub routers : AreDefaults s.ipv4_router s.ipv6_router routes
  pub host : h ≡ begun_host s instant (ipv4 ∷ ipv6 ∷ []) routes

-- why no interface is made of this hardware address; memory may be wanting at any
abbrev pub RefusesHardware : Settings → ServeError → Type 0
RefusesHardware s Hardware = is_unicast_hardware s.hardware ≡ false
RefusesHardware s Memory = ⊤
RefusesHardware s _ = ⊥

-- why these settings make no interface
abbrev pub RefusesSettings : Settings → ServeError → Type 0
RefusesSettings s Address = is_host_address (Ip.Ipv4 s.ipv4) && is_host_address (Ip.Ipv6 s.ipv6) ≡ false
RefusesSettings s e = RefusesHardware s e

-- THE SOCKETS

-- bound to its port, with empty queues
abbrev pub echo_socket : UdpValue
echo_socket = bind_after (made_socket (packets_in [] 0 DATAGRAMS echo_room) (packets_in [] 0 DATAGRAMS echo_room)) (on_port ECHO_PORT)

-- how many bytes a stream's socket has room for each way
abbrev pub stream_room : ℕ
stream_room = 262_144

-- CLOSED, as before any OPEN, with room for so many bytes each way
pub record IsUnopened (room : ℕ) (v : TcpValue) : Type 0 where
  pub tcb : v.tcb ≡ initial_tcb default_settings
  pub received : v.received ≡ emptied v.received
  pub queue : v.queued.queue ≡ []
  pub offered : v.offered ≡ None
  pub receive_room : room_of v.received ≡ room
  pub send_room : capacity v.queued ≡ room

-- how long a peer may say nothing until it is asked whether it is there, and how long at all while something waits for it, in
-- microseconds
abbrev pub keep_alive : ℕ
keep_alive = 30_000_000

abbrev pub timeout : ℕ
timeout = 120_000_000

-- how long a segment waits for its acknowledgement at least until it goes again, in microseconds (RFC 6298, 2.4, asks for a second)
abbrev pub least_rto : ℕ
least_rto = 200_000

-- it sees that its peer vanished
abbrev pub watchful : TcpValue → TcpValue
watchful v = set_timeout (set_keep_alive v (Some keep_alive)) (Some timeout)

-- what was lost goes again soon, also where a round trip takes less than a millisecond, and a last small segment goes at once (RFC 9293,
-- 3.7.4)
abbrev pub prompt : TcpValue → TcpValue
prompt v = set_nagle_enabled (set_fine_timer (set_min_rto v least_rto) true) false

-- what is sent is held back by CUBIC (RFC 9438), and both ends tell by timestamps what is late from what is lost (RFC 7323, RFC 3522)
abbrev pub careful : TcpValue → TcpValue
careful v = set_tsval_generator (set_congestion_control v Cubic) (Some (record { 0 = 0 }))

-- one that serves connections
pub record IsServer (room : ℕ) (v : TcpValue) : Type 0 where
  pub before : TcpValue
  pub unopened : IsUnopened room before
  pub set : v ≡ careful (prompt (watchful before))

-- a keeper never has a connection
abbrev pub keeper_room : ℕ
keeper_room = 1

abbrev pub IsInitialAs : Service → Socket → Type 0
IsInitialAs Datagrams s = s ≡ Is.Udp echo_socket
IsInitialAs Streams (Is.Tcp v) = IsServer stream_room v
IsInitialAs Page (Is.Tcp v) = IsServer stream_room v
IsInitialAs Keeper (Is.Tcp v) = IsUnopened keeper_room v
IsInitialAs service s = ⊥

-- a socket that waits for no neighbour
abbrev pub IsInitialItem : Service → Option (Item Socket) → Type 0
IsInitialItem service None = ⊥
IsInitialItem service (Some item) = IsInitialAs service item.socket × (item.meta ≡ record { waiting = None })

abbrev pub IsInitialSlot : Service → SocketStorage Socket → Type 0
IsInitialSlot service slot = IsInitialItem service slot.inner

-- how many sockets a host has: for datagrams, for streams, for the page, and the keepers
abbrev pub slot_count : ℕ
slot_count = 71

pub record AreInitial (slots : List (SocketStorage Socket)) : Type 0 where
  pub count : length slots ≡ slot_count
  pub each : (i : ℕ) → i < slot_count → IsInitialSlot (service_at i) (slice_index_or slots i free)

-- THE HOST

-- nothing waits at the device, and nothing was sent
abbrev pub initial_device : HardwareAddress → DrainValue
initial_device hardware = initial_drain (capabilities_of hardware)

-- a host of these settings, from this instant on, on a link
pub record BeginsAt (s : Settings) (instant : ℤ) (new : State DrainValue) : Type 0 where
  pub device : new.device ≡ initial_device s.hardware
  pub host : IsInterface s instant new.host
  pub sockets : AreInitial new.slots

pub record Begins (s : Settings) (instant : ℤ) (new : HostState) : Type 0 where
  pub net : BeginsAt s instant new.net
  pub echoes : AreInitialEntries Streams new.echoes
  pub pages : AreInitialEntries Page new.pages
  pub echo_sessions : new.echo_sessions ≡ replicate (socket_count Streams) initial_session
  pub sessions : new.sessions ≡ replicate (socket_count Page) initial_session
  pub tally : new.tally ≡ no_tally
