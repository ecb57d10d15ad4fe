use Rattle.iface_egress.specs.Set.{slots}
use Rattle.lan.specs.Worlds.AtLink.Kinds as Settings
use Rattle.lan.proofs.Worlds.AtLink.Setting.{configured_from}
use Rattle.lan.proofs.at_link.host.Host.set_route.Goals as goal

pub returns : goal.returns
returns c =
    configured_from c.args.self.now c.self.inside.interface c.set_route.new.interface (slots c.self.inside.sockets) c.self.inside.port.link
    (Settings.Route c.args.router) c.give.result c.set_route.result
    c.self.view_is c.set_route.ensures.after c.set_route.ensures.answer c.give.ensures
