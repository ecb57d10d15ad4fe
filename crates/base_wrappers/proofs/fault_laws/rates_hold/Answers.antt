use Rattle.base_wrappers.proofs.Rates.{came_at_most, at_most_twice}
use Rattle.base_wrappers.proofs.fault_laws.rates_hold.Goals as goal

pub returns-clause-came : goal.returns-clause-came
returns-clause-came g c moves old new begin run some fits within = came_at_most g.D.Device.moves moves old new begin run some fits within

pub returns-clause-through : goal.returns-clause-through
returns-clause-through g c rate interval begin instants b some fits within all = at_most_twice rate interval begin instants b some fits within all
