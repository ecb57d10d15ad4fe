use Rattle.iface_egress.specs.Departure.{Tells}
use Rattle.interface.proofs.Offered.{asked, told}
use Rattle.interface.proofs.delivery_laws.neighbor_queries_arrive.Goals as goal

pub returns-clause-neighbor_query : goal.returns-clause-neighbor_query
returns-clause-neighbor_query g c old new i i' l l' busy p neighbor_query reader plan goes is on sealed =
    asked g.D.Device.moves old new i i' l l' busy p neighbor_query reader plan goes (on, is) sealed

pub returns-clause-answer : goal.returns-clause-answer
returns-clause-answer g c old new i packet reader departs value on sealed =
    told g.D.Device.moves old new i (Tells packet) reader departs (on, value) sealed
