-- What a setting makes of a host, the room of its device, and when it wants to be polled.
use Rattle.std.specs.Prelude.{◌≡◌, ℕ, ℤ, Bool, true, false, if◌then◌else◌, List, replicate, Option, None, Some}
use Rattle.std.specs.List.{list_any}
use Rattle.ip_wire.specs.HardwareAddress.TheVariants as Hardware
use Rattle.ip_wire.specs.IpAddress.{IpAddress}
use Rattle.ip_wire.specs.IpAddress.TheVariants as Address
use Rattle.interface.specs.Made.{with_inner, with_timeout}
use Rattle.interface.specs.Host.{HostValue, host_at}
use Rattle.interface.specs.Instant.{poll_instant}
use Rattle.iface_egress.specs.Inner.{at_instant}
use Rattle.iface_ingress.specs.Route.{RoutesValue, is_gateway_v4, is_gateway_v6, IsGateway, IsAdded, has_room}
use Rattle.interface.specs.Settings.{hardware_refusal, with_hardware, is_stranger, with_addresses, with_any_ip, routes_of, with_routes}
use Rattle.interface.specs.HardwareAddrError.{HardwareAddrError}
use Rattle.interface.specs.HardwareAddrError.TheVariants as Set
use Rattle.interface.specs.Route.{Route}
use Rattle.lan.specs.Worlds.AtLink.Kinds.{Setting}
use Rattle.lan.specs.Worlds.AtLink.Kinds as Sets
use Rattle.lan.specs.declared.at_link.history.answer.Answer.{Answer}
use Rattle.lan.specs.declared.at_link.history.answer.Answer.TheVariants as To
use Rattle.lan.specs.declared.at_link.history.answer.Fault.{Fault}
use Rattle.lan.specs.declared.at_link.history.answer.Fault.TheVariants as For
use Rattle.lan.specs.Worlds.AtLink.Node.{NodeValue}

abbrev pub hardware_fault : HardwareAddrError → Fault
hardware_fault Set.Medium = For.Medium
hardware_fault Set.NotUnicast = For.NotUnicast

abbrev pub hardware_answer : Option HardwareAddrError → Answer
hardware_answer None = To.Done
hardware_answer (Some e) = To.Error (hardware_fault e)

-- a default route takes the place of that of its family, and else that of none, where there is room
abbrev pub has_route_room : IpAddress → RoutesValue → Bool
has_route_room (Address.Ipv4 router) table = has_room table.room is_gateway_v4 table.entries
has_route_room (Address.Ipv6 router) table = has_room table.room is_gateway_v6 table.entries

abbrev pub setting_answer : HostValue → Setting → Answer
setting_answer h (Sets.HardwareAddr address) = hardware_answer (hardware_refusal h.inner.hardware (Hardware.Ethernet address))
setting_answer h (Sets.Addrs blocks) = if list_any is_stranger blocks then To.Error For.NotUnicast else To.Done
setting_answer h (Sets.Route router) = if has_route_room router (routes_of h.inner) then To.Done else To.Error For.RouteTableFull
setting_answer h (Sets.AnyIp any) = To.Done
setting_answer h (Sets.ReassemblyTimeout timeout) = To.Done

-- the routes with this router for all destinations of its family
abbrev pub IsRouted : IpAddress → List Route → List Route → Type 0
IsRouted (Address.Ipv4 router) old new = IsAdded is_gateway_v4 (λ r. IsGateway r (replicate 4 0) (Address.Ipv4 router)) old new
IsRouted (Address.Ipv6 router) old new = IsAdded is_gateway_v6 (λ r. IsGateway r (replicate 16 0) (Address.Ipv6 router)) old new

abbrev pub RoutedIf : Bool → IpAddress → List Route → List Route → Type 0
RoutedIf true router old new = IsRouted router old new
RoutedIf false router old new = new ≡ old

abbrev pub SetsTo : HostValue → Setting → HostValue → Type 0
SetsTo h (Sets.HardwareAddr address) h' = h' ≡ with_inner h (with_hardware h.inner (Hardware.Ethernet address))
SetsTo h (Sets.Addrs blocks) h' = h' ≡ with_inner h (with_addresses h.inner blocks)
SetsTo h (Sets.Route router) h' =
    (routes : List Route) × RoutedIf (has_route_room router (routes_of h.inner)) router h.inner.routes routes
    × (h' ≡ with_inner h (with_routes h.inner routes))
SetsTo h (Sets.AnyIp any) h' = h' ≡ with_inner h (with_any_ip h.inner any)
SetsTo h (Sets.ReassemblyTimeout timeout) h' = h' ≡ with_timeout h timeout

-- the host, with nothing else of its host changed
abbrev pub Configures : NodeValue → Setting → Answer → NodeValue → Type 0
Configures s setting answer s' =
    (h : HostValue) × SetsTo s.host setting h × (answer ≡ setting_answer s.host setting) × (s' ≡ record s { host = h })

-- from now on the device takes so many frames more
abbrev pub with_room : NodeValue → ℕ → NodeValue
with_room s n = record s { link = record s.link { room = n } }

-- when the host wants to be polled, asked at an instant
abbrev pub instant_at : NodeValue → ℤ → Option ℤ
instant_at s instant = poll_instant (at_instant instant s.host.inner) s.host.left s.slots

abbrev pub asked : NodeValue → ℤ → NodeValue
asked s instant = record s { host = host_at instant s.host }
