use Rattle.std.proofs.Common.{ap}
use Rattle.iface_tables.specs.Inner.{InnerValue}
use Rattle.iface_egress.proofs.Changes.{changes}
use Rattle.iface_egress.proofs.laws.numbers_step.Goals as goal

pub returns : goal.returns
returns g c old new i i' l l' busy p sent goes = ap (λ (x : InnerValue). x.ident) (changes g.D.Device.moves old new i i' l l' p busy sent goes).1
