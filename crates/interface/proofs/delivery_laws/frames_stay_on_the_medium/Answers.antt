use Rattle.interface.proofs.Stays.{go_stays, cut_stays, one_medium}
use Rattle.interface.proofs.delivery_laws.frames_stay_on_the_medium.Goals as goal

pub returns-clause-whole : goal.returns-clause-whole
returns-clause-whole c i busy p = go_stays i busy p.header

pub returns-clause-cut : goal.returns-clause-cut
returns-clause-cut c i busy p = cut_stays i busy p.header

pub returns-clause-readers : goal.returns-clause-readers
returns-clause-readers c = one_medium
