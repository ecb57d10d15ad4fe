use Rattle.std.proofs.Common.{ap}
use Rattle.iface_tables.specs.Inner.{InnerValue}
use Rattle.iface_egress.proofs.Changes.{changes}
use Rattle.iface_egress.proofs.Stepping.{asked_late}
use Rattle.iface_egress.proofs.laws.asks_a_second_apart.Goals as goal

pub returns-clause-asked : goal.returns-clause-asked
returns-clause-asked g c = asked_late

pub returns-clause-silence : goal.returns-clause-silence
returns-clause-silence g c old new i i' l l' busy p sent goes =
    ap (λ (x : InnerValue). x.neighbors.silent) (changes g.D.Device.moves old new i i' l l' p busy sent goes).1
