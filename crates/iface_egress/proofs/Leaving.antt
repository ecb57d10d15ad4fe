-- What leaves is for a host, and from one.
use Rattle.std.proofs.Common.{◌≡◌, Bool, true, false, if◌then◌else◌, Some, refl}
use Rattle.ip_wire.specs.Ip.{destination_of}
use Rattle.socket_context.specs.Packet.{PacketValue}
use Rattle.iface_tables.specs.Inner.{InnerValue, link_address}
use Rattle.iface_egress.specs.Departing.{departure_by}
use Rattle.iface_egress.specs.Departure.{Departure}
use Rattle.iface_egress.specs.Plan.{plan_by, never_leaves, plan_of}
use Rattle.iface_egress.specs.declared.plan.Plan.{Plan}
use Rattle.iface_egress.specs.declared.plan.Plan.TheVariants as Way

by : (i : InnerValue) (p : PacketValue) (d : Departure) (b : Bool) (plan : Plan) → departure_by i p (if b then Way.Drop else plan) ≡ Some d → b ≡ false
by i p d true plan is = absurd (cc is)
by i p d false plan is = refl

pub leaves : (i : InnerValue) (busy : Bool) (p : PacketValue) (d : Departure) → departure_by i p (plan_of i busy p.header) ≡ Some d →
    never_leaves i p.header ≡ false
leaves i busy p d is = by i p d (never_leaves i p.header) (plan_by (link_address i (destination_of p.header)) i busy p.header) is
