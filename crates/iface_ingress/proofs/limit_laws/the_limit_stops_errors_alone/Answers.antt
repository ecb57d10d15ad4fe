use Rattle.iface_ingress.specs.Processed.{is_unclaimed, handed_host, handed_reply}
use Rattle.iface_ingress.proofs.Limit.{let_go_claimed, let_go_same, let_go_counted, let_go_nothing}
use Rattle.iface_ingress.proofs.limit_laws.the_limit_stops_errors_alone.Goals as goal

pub returns-clause-claimed : goal.returns-clause-claimed
returns-clause-claimed c = λ i slots ip payload taken carried is.
    let_go_claimed (is_unclaimed i slots ip carried) i (handed_reply i slots ip payload taken carried) (handed_host i slots ip payload carried) is

pub returns-clause-goes : goal.returns-clause-goes
returns-clause-goes c = λ i slots ip payload taken carried may.
    let_go_same (is_unclaimed i slots ip carried) i (handed_reply i slots ip payload taken carried) may

pub returns-clause-counts : goal.returns-clause-counts
returns-clause-counts c = λ i slots ip payload taken carried p is goes.
    let_go_counted (is_unclaimed i slots ip carried) i (handed_reply i slots ip payload taken carried) (handed_host i slots ip payload carried) p is goes

pub returns-clause-stops : goal.returns-clause-stops
returns-clause-stops c = λ i slots ip payload taken carried is not_now.
    let_go_nothing (is_unclaimed i slots ip carried) i (handed_reply i slots ip payload taken carried) (handed_host i slots ip payload carried) is not_now
