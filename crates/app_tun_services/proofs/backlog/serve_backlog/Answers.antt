use Rattle.std.proofs.Common.{◌≡◌, List, subst, sym, ap, ◌∙◌}
use Rattle.interface.specs.declared.listener.entry.Entry.{Entry}
use Rattle.interface.specs.declared.listener.Listener.{Listener}
use Rattle.app_tun_services.specs.Backlogs.{StandAt, BacklogServes}
use Rattle.app_tun_services.specs.Services.{first_slot, socket_count}
use Rattle.app_tun_services.proofs.Connections.{accepted_stand}
use Rattle.app_tun_services.proofs.backlog.serve_backlog.Goals as goal

pub serve_accepted-requires-clause-stands : goal.serve_accepted-requires-clause-stands
serve_accepted-requires-clause-stands c =
    subst (StandAt c.args.service) (sym c.accept_all.ensures.accepted)
    (accepted_stand (first_slot c.args.service) (socket_count c.args.service) c.args.listener.now.entries.items c.requires.stands)

pub returns-clause-served : goal.returns-clause-served
returns-clause-served c =
    subst (λ (es : List Entry). BacklogServes c.args.moment.now (first_slot c.args.service) c.args.service c.args.slots.now c.args.sessions.now es
    c.serve_accepted.new.slots c.serve_accepted.new.sessions c.serve_accepted.new.listener.entries.items) c.accept_all.ensures.accepted
    c.serve_accepted.ensures.served

pub returns-clause-rest : goal.returns-clause-rest
returns-clause-rest c =
    c.serve_accepted.ensures.rest ∙ ap (λ (l : Listener). record l { entries = c.serve_accepted.new.listener.entries }) c.accept_all.ensures.rest
