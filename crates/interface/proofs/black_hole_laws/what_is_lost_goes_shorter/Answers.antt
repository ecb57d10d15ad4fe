use Rattle.interface.proofs.BlackHoleLaws.{lost_some, lost_shorter, lost_ten_minutes, lost_longer}
use Rattle.interface.proofs.black_hole_laws.what_is_lost_goes_shorter.Goals as goal

pub returns-clause-some : goal.returns-clause-some
returns-clause-some c = lost_some

pub returns-clause-shorter : goal.returns-clause-shorter
returns-clause-shorter c = lost_shorter

pub returns-clause-ten_minutes : goal.returns-clause-ten_minutes
returns-clause-ten_minutes c = λ i address v len later next early. lost_ten_minutes i address v len next later early

pub returns-clause-longer : goal.returns-clause-longer
returns-clause-longer c = λ i address v len later next late. lost_longer i address v len next later late
