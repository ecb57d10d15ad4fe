use Rattle.wire_address.specs.Address.{v4_number}
use Rattle.wire_address.proofs.ipv4.Ipv4Address.to_bits.Goals as goal

pub returns-clause-value : goal.returns-clause-value
unfolding v4_number
returns-clause-value c = c.read_u32.ensures
