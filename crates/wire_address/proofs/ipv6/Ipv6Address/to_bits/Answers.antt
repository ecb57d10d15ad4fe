use Rattle.wire_address.specs.Address.{v6_number}
use Rattle.wire_address.proofs.ipv6.Ipv6Address.to_bits.Goals as goal

pub returns-clause-value : goal.returns-clause-value
unfolding v6_number
returns-clause-value c = c.read_u128.ensures
