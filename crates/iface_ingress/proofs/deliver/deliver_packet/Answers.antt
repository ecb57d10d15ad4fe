use Rattle.iface_ingress.proofs.Given.{none_seen}
use Rattle.iface_ingress.proofs.deliver.deliver_packet.Goals as goal

pub returns-else-is_taken-clause-slots : goal.returns-else-is_taken-clause-slots
returns-else-is_taken-clause-slots g c =
    none_seen _ _ c.args.slots.now c.is_for_any-is_taken.result c.is_for_any-is_taken.ensures c.if-is_taken.false
