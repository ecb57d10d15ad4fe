-- A message that is offered can be sent.
use Rattle.std.proofs.Common.{◌≡◌, ℕ, ◌≤◌, List, length, refl, arith}
use Rattle.ip_wire.specs.UdpRepr.{UdpRepr}
use Rattle.socket_context.specs.Packet.{IsSendable, packet_of, Datagram}
use Rattle.socket_datagram.specs.DhcpClient.Requests.{header_for}
use Rattle.socket_datagram.specs.declared.dhcpv4.request.Kind.{Kind}
use Rattle.socket_datagram.specs.declared.dhcpv4.request.Kind.TheVariants.{Discover, Request, Renew, Rebind}

pub sendable : (kind : Kind) (ports : UdpRepr) (message : List ℕ) → length message ≤ 548 →
    IsSendable (packet_of (header_for kind (length message)) (Datagram ports message))
sendable Discover ports message short =
    record { header = omega (arith, short); payload = record { len = omega (arith, short); family = refl }; len = refl }
sendable (Request s) ports message short =
    record { header = omega (arith, short); payload = record { len = omega (arith, short); family = refl }; len = refl }
sendable (Renew lease) ports message short =
    record { header = omega (arith, short); payload = record { len = omega (arith, short); family = refl }; len = refl }
sendable (Rebind lease) ports message short =
    record { header = omega (arith, short); payload = record { len = omega (arith, short); family = refl }; len = refl }
