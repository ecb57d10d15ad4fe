use Rattle.iface_ingress.proofs.Given.{none_seen}
use Rattle.iface_ingress.proofs.deliver.deliver_icmpv4.Goals as goal

pub returns-else-is_for_any : goal.returns-else-is_for_any
returns-else-is_for_any c = none_seen _ _ c.args.slots.now c.is_for_any.result c.is_for_any.ensures c.if-is_for_any.false
