use Rattle.iface_egress.specs.Set.{slots}
use Rattle.lan.proofs.Worlds.AtLink.Setting.{polls_from}
use Rattle.lan.proofs.at_link.host.Host.poll.Goals as goal

pub returns-clause-polls : goal.returns-clause-polls
returns-clause-polls c =
    polls_from c.args.self.now c.prepare.new.self c.poll_ready.new.port c.self.inside.interface c.poll_ready.new.interface (slots c.self.inside.sockets)
    (slots c.poll_ready.new.sockets) c.self.inside.port.link
    c.args.instant c.args.budget c.poll_ready.result c.self.view_is c.prepare.ensures.link c.poll_ready.ensures.polls c.poll_ready.ensures.none_denied
