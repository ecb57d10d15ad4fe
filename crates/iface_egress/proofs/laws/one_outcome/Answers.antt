use Rattle.std.proofs.Common.{◌+◌}
use Rattle.iface_egress.specs.Plan.{plan_of}
use Rattle.iface_egress.specs.Departing.{link_room}
use Rattle.iface_egress.proofs.OneWay.{one_way, one_fragment}
use Rattle.iface_egress.proofs.Short.{planned_short, fragment_short}
use Rattle.iface_egress.proofs.laws.one_outcome.Goals as goal

pub returns-clause-packet : goal.returns-clause-packet
returns-clause-packet g c old i l busy p low len is s t new other j j' k k' =
    one_way g.D.Device.moves (link_room i.hardware + i.mtu) old is i l p (plan_of i busy p.header) (λ d by. planned_short i busy p d low len by) s t new
    other j j' k k'

pub returns-clause-fragment : goal.returns-clause-fragment
returns-clause-fragment g c old i l low is x y new other k k' =
    one_fragment g.D.Device.moves (link_room i.hardware + i.mtu) old is i l (fragment_short i l low) x y new other k k'
