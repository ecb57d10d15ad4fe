-- What an acknowledgement says (RFC 2131, sections 4.3.1 and 4.4.5; RFC 2132).
use Rattle.std.specs.Prelude.{◌≡◌, ℕ, ◌+◌, ◌-◌, ◌*◌, ◌/◌, ◌<◌, nat_lt, min, ◌==◌, ◌&&◌, ◌||◌, not, Bool, false, slice_index, if◌then◌else◌, ℤ, Option, Some, None}
use Rattle.std.specs.Str.{bytes_eq}
use Rattle.ip_wire.specs.AddressTests.{is_unicast_v4, is_loopback_v4, broadcast_in}
use Rattle.ip_wire.specs.Address.{IsMaskV4}
use Rattle.ip_wire.specs.Ipv4Address.{Ipv4Address}
use Rattle.ip_wire.specs.Ipv4Cidr.{Ipv4Cidr}
use Rattle.wire_dhcp.specs.declared.repr.DhcpRepr.{DhcpRepr}
use Rattle.socket_datagram.specs.DhcpClient.Moments.{later, at_least}
use Rattle.socket_datagram.specs.declared.dhcpv4.config.ServerInfo.{ServerInfo}
use Rattle.socket_datagram.specs.declared.dhcpv4.lease.Lease.{Lease}
use Rattle.socket_datagram.specs.declared.dhcpv4.lease.Spans.{Spans}

-- the address of one host
abbrev pub is_usable : Ipv4Address → Bool
is_usable a = is_unicast_v4 a

-- an address of this network, or of the loopback network (RFC 1122, section 3.2.1.3: a and g)
abbrev pub is_reserved_v4 : Ipv4Address → Bool
is_reserved_v4 a = (slice_index a.0 0 == 0) || is_loopback_v4 a

-- it is the address of all hosts, where there is one
abbrev pub is_of_all : Option Ipv4Address → Ipv4Address → Bool
is_of_all None a = false
is_of_all (Some all) a = bytes_eq all.0 a.0

-- it is that of the network that the message tells of
abbrev pub is_of_all_in : Option Ipv4Cidr → Ipv4Address → Bool
is_of_all_in None a = false
is_of_all_in (Some cidr) a = is_of_all (broadcast_in cidr) a

-- a host can have this address, in the network that the message tells of, if it does
abbrev pub is_leasable : Ipv4Address → Option Ipv4Cidr → Bool
is_leasable a cidr = is_usable a && not (is_reserved_v4 a || is_of_all_in cidr a)

-- the server that a message from this source names
abbrev pub server_of : Ipv4Address → Option Ipv4Address → Option ServerInfo
server_of source None = None
server_of source (Some identifier) = if is_usable identifier then Some (record { address = source; identifier = identifier }) else None

abbrev pub server_in : Ipv4Address → DhcpRepr → Option ServerInfo
server_in source m = server_of source m.server_identifier

-- this is the network that a message tells of, with the address that it gives: the mask is ones, at least one, and then
-- zeros; of another mask there is none
abbrev pub IsCidrIn : Ipv4Address → Option Ipv4Address → Option Ipv4Cidr → Type 0
IsCidrIn address None None = Unit {0}
IsCidrIn address None (Some cidr) = ⊥
IsCidrIn address (Some mask) None = (n : ℕ) → 0 < n → IsMaskV4 mask n → ⊥
IsCidrIn address (Some mask) (Some cidr) = (cidr.address ≡ address) × (0 < cidr.prefix_len) × IsMaskV4 mask cidr.prefix_len

abbrev pub IsCidrOf : DhcpRepr → Option Ipv4Cidr → Type 0
IsCidrOf m cidr = IsCidrIn m.your_ip m.subnet_mask cidr

-- the microseconds of so many seconds
abbrev pub micros_of : Option ℕ → Option ℕ
micros_of None = None
micros_of (Some secs) = Some (secs * 1_000_000)

-- how many seconds the lease lasts: two minutes where the message doesn't say it
abbrev pub told_secs : Option ℕ → ℕ
told_secs None = 120
told_secs (Some secs) = secs

-- at most as long as was set
abbrev pub at_most : ℕ → Option ℕ → ℕ
at_most d None = d
at_most d (Some most) = min d most

abbrev pub lease_span : Option ℕ → Option ℕ → ℕ
lease_span secs most = at_most (told_secs secs * 1_000_000) most

-- T1 and T2 where the message doesn't tell them in order: half of the lease, and seven eighths of it
abbrev pub default_spans : ℕ → Spans
default_spans lease = record { renew = lease / 2; rebind = lease * 7 / 8 }

-- T1 and T2: as they are told where T1 < T2 < lease. T1 alone puts T2 at three quarters of the time from T1 to the end; T2 alone
-- puts T1 at half of the lease, but not after T2.
abbrev pub spans_of : ℕ → Option ℕ → Option ℕ → Spans
spans_of lease (Some renew) (Some rebind) =
    if nat_lt renew rebind && nat_lt rebind lease then record { renew = renew; rebind = rebind } else default_spans lease
spans_of lease (Some renew) None =
    if nat_lt renew lease then record { renew = renew; rebind = renew + (lease - renew) * 3 / 4 } else default_spans lease
spans_of lease None (Some rebind) =
    if nat_lt rebind lease then record { renew = min (lease / 2) rebind; rebind = rebind } else default_spans lease
spans_of lease None None = default_spans lease

-- the lease that an acknowledgement gives at this instant: the client asks for more after so long at least
abbrev pub lease_with : ℤ → ServerInfo → DhcpRepr → Ipv4Cidr → ℕ → Spans → ℕ → Lease
lease_with now server m cidr span spans least = record {
  config = record { server = server; address = cidr; router = m.router; dns_servers = m.dns_servers };
  refresh_at = later now (at_least spans.renew least);
  rebind_at = later now (at_least spans.rebind least);
  expires_at = later now span;
}

-- it tells of a network, and gives an address of it that a host can have
abbrev pub lease_in : ℤ → ServerInfo → DhcpRepr → Option Ipv4Cidr → Option ℕ → ℕ → Option Lease
lease_in now server m None most least = None
lease_in now server m (Some cidr) most least =
    if is_leasable m.your_ip (Some cidr)
    then Some (lease_with now server m cidr (lease_span m.lease_duration most)
    (spans_of (lease_span m.lease_duration most) (micros_of m.renew_duration) (micros_of m.rebind_duration)) least)
    else None
