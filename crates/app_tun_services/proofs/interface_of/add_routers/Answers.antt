use Rattle.std.proofs.Common.{◌∙◌}
use Rattle.app_tun_services.proofs.Beginning.{defaults_of}
use Rattle.app_tun_services.proofs.interface_of.add_routers.Goals as goal

pub returns : goal.returns
returns c = record {
  first = defaults_of c.args.ipv4 c.args.ipv6 c.add_default_ipv4_route.result c.add_default_ipv6_route.result c.args.routes.now
      c.add_default_ipv4_route.new.self c.add_default_ipv6_route.new.self
      c.add_default_ipv4_route.ensures.ok c.add_default_ipv4_route.ensures.added c.add_default_ipv4_route.ensures.room
      c.add_default_ipv6_route.ensures.ok c.add_default_ipv6_route.ensures.added;
  room = c.add_default_ipv6_route.ensures.room ∙ c.add_default_ipv4_route.ensures.room;
}
