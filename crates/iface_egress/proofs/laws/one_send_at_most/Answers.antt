use Rattle.iface_egress.specs.Plan.{plan_of}
use Rattle.iface_egress.proofs.Changes.{changes, fragment_sends, same_settings}
use Rattle.iface_egress.proofs.laws.one_send_at_most.Goals as goal

pub returns-clause-device : goal.returns-clause-device
returns-clause-device g c old new i i' l l' busy p sent goes = (changes g.D.Device.moves old new i i' l l' p busy sent goes).0

pub returns-clause-fragment : goal.returns-clause-fragment
returns-clause-fragment g c old new i l l' taken = fragment_sends g.D.Device.moves old new i l l' taken

pub returns-clause-host : goal.returns-clause-host
returns-clause-host g c old new i i' l l' busy p sent goes = (changes g.D.Device.moves old new i i' l l' p busy sent goes).1

pub returns-clause-settings : goal.returns-clause-settings
returns-clause-settings g c old new i i' l l' busy p sent goes =
    same_settings i i' (plan_of i busy p.header) sent p.header (changes g.D.Device.moves old new i i' l l' p busy sent goes).1

pub returns-clause-left : goal.returns-clause-left
returns-clause-left g c old new i i' l l' busy p sent goes = (changes g.D.Device.moves old new i i' l l' p busy sent goes).2
