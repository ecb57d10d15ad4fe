-- Words of the laws: which frame a plan sends, and what a host is after it.
use Rattle.std.specs.Prelude.{◌≡◌, ℕ, ◌+◌, ◌%◌, ◌^◌, ℤ, Bool, true, false, if◌then◌else◌, Option, None, Some}
use Rattle.net_base.specs.Device.{Move}
use Rattle.ip_wire.specs.HardwareAddress.{HardwareAddress}
use Rattle.ip_wire.specs.HardwareAddress.TheVariants as Hardware
use Rattle.ip_wire.specs.IpRepr.{IpRepr}
use Rattle.ip_wire.specs.IpRepr.TheVariants as Ip
use Rattle.socket_context.specs.Packet.{PacketValue}
use Rattle.iface_tables.specs.Inner.{InnerValue, with_request}
use Rattle.iface_tables.specs.Neighbor.{CacheValue}
use Rattle.iface_egress.specs.Departure.{Departure, Asks, Tells, Whole, Part, target_of, number_of}
use Rattle.iface_egress.specs.Fragments.{LeftValue, departure_from, left_from}
use Rattle.iface_egress.specs.IsTransmitted.{Departs, numbered, cut_of}
use Rattle.iface_egress.specs.declared.egress_path.Sent.{Sent}
use Rattle.iface_egress.specs.declared.egress_path.Sent.TheVariants as Outcome
use Rattle.iface_egress.specs.declared.plan.Plan.{Plan}
use Rattle.iface_egress.specs.declared.plan.Plan.TheVariants as Way

-- the frame that a plan sends, if it sends one
abbrev pub departure_by : InnerValue → PacketValue → Plan → Option Departure
departure_by i p (Way.Ask neighbor_query) = Some (Asks neighbor_query)
departure_by i p (Way.Go to) = Some (Whole to (numbered i p))
departure_by i p (Way.Cut to) = Some (departure_from i (cut_of i to p))
departure_by i p _ = None

-- how many bytes a frame of the medium has before its packet
abbrev pub link_room : HardwareAddress → ℕ
link_room Hardware.Ip = 0
link_room (Hardware.Ethernet local) = 14

-- a packet of IPv4 takes an identification, and one of IPv6 that is cut
abbrev pub takes_number : Plan → IpRepr → Bool
takes_number (Way.Cut to) header = true
takes_number plan (Ip.Ipv4 v) = true
takes_number plan (Ip.Ipv6 v) = false

-- the next identification
abbrev pub ident_after : Plan → Sent → IpRepr → ℕ → ℕ
ident_after plan Outcome.Gone header ident = if takes_number plan header then (ident + 1) % 2 ^ 16 else ident
ident_after plan _ header ident = ident

-- the neighbours after a request that went, with its silence
abbrev pub neighbors_after : Plan → Sent → InnerValue → CacheValue
neighbors_after (Way.Ask neighbor_query) Outcome.Waits i = (with_request i (target_of neighbor_query)).neighbors
neighbors_after plan sent i = i.neighbors

-- until when no neighbour is asked for
abbrev pub silent_after : Plan → Sent → InnerValue → ℤ
silent_after plan sent i = (neighbors_after plan sent i).silent

-- the host after a packet's egress path: all stays but its next identification, its silence, and which neighbours it looks for
abbrev pub host_after : Plan → Sent → IpRepr → InnerValue → InnerValue
host_after plan sent header i = record i { ident = ident_after plan sent header i.ident; neighbors = neighbors_after plan sent i }

-- what is left to send
abbrev pub left_following : InnerValue → PacketValue → Plan → Sent → Option LeftValue → Option LeftValue
left_following i p (Way.Cut to) Outcome.Gone l = left_from i (cut_of i to p)
left_following i p plan sent l = l

-- AT THE DEVICE

-- nothing is asked of the device, or one send, which it takes or refuses
abbrev pub SendsOnce : {D : Type 0} → (D → Move → D → Type 0) → D → InnerValue → Option Departure → Bool → D → Type 0
SendsOnce moves old i None taken new = new ≡ old
SendsOnce moves old i (Some d) taken new = Departs moves old i d taken new

abbrev pub was_taken : Sent → Bool
was_taken Outcome.Refused = false
was_taken sent = true

-- NUMBERS

abbrev pub number_in_header : IpRepr → Option ℕ
number_in_header (Ip.Ipv4 v) = Some v.ident
number_in_header (Ip.Ipv6 v) = None

-- the identification of a departure that has one
abbrev pub number_in : Departure → Option ℕ
number_in (Asks neighbor_query) = None
number_in (Tells packet) = None
number_in (Whole to p) = number_in_header p.header
number_in (Part to header fragment) = Some (number_of header)

-- SETTINGS

-- the same settings
pub record HasSettingsOf (old new : InnerValue) : Type 0 where
  pub hardware : new.hardware ≡ old.hardware
  pub mtu : new.mtu ≡ old.mtu
  pub checksums : new.checksums ≡ old.checksums
  pub addresses : new.addresses ≡ old.addresses
  pub isn_key : new.isn_key ≡ old.isn_key
  pub any_ip : new.any_ip ≡ old.any_ip
  pub groups : new.groups ≡ old.groups
  pub host_requirements : new.host_requirements ≡ old.host_requirements
  pub routes : new.routes ≡ old.routes
