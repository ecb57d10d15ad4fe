use Rattle.std.proofs.Common.{arith}
use Rattle.app_tun_services.specs.Site.{initial_session}
use Rattle.app_tun_services.specs.declared.slot.Service.TheVariants.{Datagrams}
use Rattle.app_tun_services.proofs.Connections.{served_nowhere}
use Rattle.app_tun_services.proofs.backlog.serve_first.Goals as goal

pub returns-in_default : goal.returns-in_default
returns-in_default c = let it = served_nowhere c.args.moment.now Datagrams c.args.slots.now 0 initial_session (omega (arith, c.in_default.len_below)) in
    (it.0, initial_session, it.1, it.2)
