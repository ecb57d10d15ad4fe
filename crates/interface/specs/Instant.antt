-- When an interface wants to be polled.
use Rattle.std.specs.Prelude.{ℤ, pos, int_lt, Bool, true, false, if◌then◌else◌, List, Option, None, Some}
use Rattle.std.specs.List.{fold}
use Rattle.iface_ingress.specs.PollAt.{PollAt}
use Rattle.iface_ingress.specs.PollAt.TheVariants as At
use Rattle.ip_wire.specs.Ip.{destination_of}
use Rattle.ip_wire.specs.IpAddress.{IpAddress}
use Rattle.ip_wire.specs.IpRepr.{IpRepr}
use Rattle.iface_tables.specs.Inner.{InnerValue, next_hop, parked_instant}
use Rattle.iface_tables.specs.Parking.{headers_of}
use Rattle.iface_egress.specs.Plan.{plan_of}
use Rattle.iface_egress.specs.declared.plan.Plan.{Plan}
use Rattle.iface_egress.specs.declared.plan.Plan.TheVariants as Way
use Rattle.iface_egress.specs.Meta.{poll_at}
use Rattle.iface_egress.specs.declared.socket_set.Item.{Item}
use Rattle.iface_egress.specs.declared.socket_set.SocketStorage.{SocketStorage}
use Rattle.iface_ingress.specs.Sockets.{poll_of}
use Rattle.iface_ingress.specs.Socket.{Socket}
use Rattle.iface_egress.specs.Fragments.{LeftValue}
use Rattle.interface.specs.Host.{HostValue}
use Rattle.interface.specs.Reports.{reports_at}
use Rattle.interface.specs.Remote.{remote_of, context_for, end_by}
use Rattle.interface.specs.Serve.{passes_filter}

-- at once is the instant 0
abbrev pub instant_of : PollAt → Option ℤ
instant_of At.Now = Some (pos 0)
instant_of (At.Time instant) = Some instant
instant_of At.Ingress = None

abbrev pub earlier_than : ℤ → Option ℤ → Option ℤ
earlier_than a None = Some a
earlier_than a (Some b) = Some (if int_lt b a then b else a)

-- the earlier of two instants, of which there may be none
abbrev pub earlier : Option ℤ → Option ℤ → Option ℤ
earlier None other = other
earlier (Some a) other = earlier_than a other

-- a socket that waits for a neighbour is asked again when its waiting ends
abbrev pub local_instant : InnerValue → Item Socket → Option ℤ
local_instant i item =
    instant_of (poll_at item.meta (poll_of (context_for i item.socket) item.socket) (passes_filter i item.meta) i.instant)

-- and a connection when what is known of the path to its remote ends: from then on its segments may be longer
abbrev pub item_instant : InnerValue → Item Socket → Option ℤ
item_instant i item = earlier (end_by i (remote_of item.socket)) (local_instant i item)

abbrev pub instant_in : InnerValue → Option (Item Socket) → Option ℤ
instant_in i None = None
instant_in i (Some item) = item_instant i item

abbrev pub slot_instant : InnerValue → SocketStorage Socket → Option ℤ
slot_instant i slot = instant_in i slot.inner

abbrev pub soonest : InnerValue → List (SocketStorage Socket) → Option ℤ
soonest i ps = fold (λ best slot. earlier best (slot_instant i slot)) None ps

-- when something is to be done about a packet that waits for its next hop: when that may be asked for again, else at once
abbrev pub due_by : Plan → Option IpAddress → InnerValue → IpRepr → ℤ
due_by Way.Wait (Some hop) i header = parked_instant i (record { hop = hop; header = header; len = 0 })
due_by plan hop i header = pos 0

abbrev pub parked_due : InnerValue → IpRepr → ℤ
parked_due i header = due_by (plan_of i false header) (next_hop i (destination_of header)) i header

-- without host requirements there are none
abbrev pub soonest_if : Bool → InnerValue → Option ℤ
soonest_if true i = fold (λ best h. earlier best (Some (parked_due i h.header))) None (headers_of i.parking.packets)
soonest_if false i = None

abbrev pub soonest_parked : InnerValue → Option ℤ
soonest_parked i = soonest_if i.host_requirements i

-- at once where a fragment waits, else when the first of the sockets wants it
abbrev pub poll_instant : InnerValue → Option LeftValue → List (SocketStorage Socket) → Option ℤ
poll_instant i (Some l) ps = Some (pos 0)
poll_instant i None ps = earlier (soonest_parked i) (soonest i ps)

-- the same, or sooner where something has to be told of multicast groups
abbrev pub host_instant : HostValue → List (SocketStorage Socket) → Option ℤ
host_instant h ps = earlier (reports_at h.reports) (poll_instant h.inner h.left ps)
