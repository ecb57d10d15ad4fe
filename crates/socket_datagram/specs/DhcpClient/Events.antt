-- What the client tells.
use Rattle.std.specs.Prelude.{Bool, false, if◌then◌else◌, ℤ, int_le, Option, Some, None}
use Rattle.socket_datagram.specs.DhcpClient.States.{lease_of}
use Rattle.socket_datagram.specs.DhcpClient.Value.{DhcpValue, begun, unoffered}
use Rattle.socket_datagram.specs.declared.dhcpv4.config.Event.{Event}
use Rattle.socket_datagram.specs.declared.dhcpv4.config.Event.TheVariants.{Configured, Deconfigured}
use Rattle.socket_datagram.specs.declared.dhcpv4.lease.Lease.{Lease}

-- a lease is over at its end
abbrev pub is_over : ℤ → Option Lease → Bool
is_over now None = false
is_over now (Some lease) = int_le lease.expires_at now

-- a lease that is over is given up
abbrev pub initial : ℤ → DhcpValue → DhcpValue
initial now v = if is_over now (lease_of v.state) then begun v else unoffered v

abbrev pub event_with : Option Lease → Event
event_with None = Deconfigured
event_with (Some lease) = Configured lease.config

-- what happened since something was told last
abbrev pub event_of : DhcpValue → Option Event
event_of v = if v.changed then Some (event_with (lease_of v.state)) else None

abbrev pub untold : DhcpValue → DhcpValue
untold v = record v { changed = false }
