use Rattle.std.proofs.Common.{rules}
use Rattle.app_tun_services.proofs.Beginning.{routed}
use Rattle.app_tun_services.proofs.interface_of.set_routers.Goals as goal

pub returns : goal.returns
returns c =
    let set = c.update_routes.ensures in
    routed c.args.interface.now c.update_routes.new.self c.args.ipv4 c.args.ipv6 set.0 set.1 set.2 (search rules) set.4
