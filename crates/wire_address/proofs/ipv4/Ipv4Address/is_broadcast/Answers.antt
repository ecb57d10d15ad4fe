use Rattle.wire_address.proofs.FourBytes.{broadcast-number, broadcast-tells}
use Rattle.wire_address.proofs.ipv4.Ipv4Address.is_broadcast.Goals as goal

pub returns-clause-value : goal.returns-clause-value
returns-clause-value c = broadcast-tells c.args.self.now _ c.to_bits.ensures.whole c.to_bits.ensures.value

pub returns-clause-meaning : goal.returns-clause-meaning
returns-clause-meaning c = broadcast-number c.args.self.now _ c.to_bits.ensures.whole c.to_bits.ensures.value
