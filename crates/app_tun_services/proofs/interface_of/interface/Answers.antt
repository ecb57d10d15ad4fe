use Rattle.app_tun_services.proofs.Beginning.{interface_begun, are_not_hosts}
use Rattle.app_tun_services.proofs.interface_of.interface.Goals as goal

pub returns-clause-made : goal.returns-clause-made
returns-clause-made c =
    interface_begun c.args.settings.now c.args.now c.own_ipv4-ipv4.result c.own_ipv6-ipv6.result (
      c.own_ipv4-ipv4.ensures.address,
      c.own_ipv4-ipv4.ensures.prefix_len,
    ) (c.own_ipv6-ipv6.ensures.address, c.own_ipv6-ipv6.ensures.prefix_len)
    c.in_ok-interface.interface c.set_addresses.new.interface c.set_routers.new.interface
    c.in_ok-interface.ensures.made c.set_addresses.ensures.after c.if-not-set_addresses.ensures.answer c.set_routers.ensures
