use Rattle.std.proofs.Common.{◌≡◌, ℤ, Option, subst, sym}
use Rattle.iface_reports.proofs.Quiet.{IsBefore, quiet_reports}
use Rattle.iface_reports.proofs.laws.reports_are_quiet.Goals as goal

pub returns-clause-before : goal.returns-clause-before
returns-clause-before g c = λ i old new r after went at from due early.
    quiet_reports g.D.Device.moves i old r went new after from (subst (λ (o : Option ℤ). IsBefore i.instant o) (sym due) early)

pub returns-clause-never : goal.returns-clause-never
returns-clause-never g c = λ i old new r after went from due.
    quiet_reports g.D.Device.moves i old r went new after from (subst (λ (o : Option ℤ). IsBefore i.instant o) (sym due) tt)
