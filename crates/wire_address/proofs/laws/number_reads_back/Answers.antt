use Rattle.wire_address.proofs.Numbers.{ether_number-ether_of, protocol_number-protocol_of}
use Rattle.wire_address.proofs.laws.number_reads_back.Goals as goal

pub returns : goal.returns
returns c = record { ether = ether_number-ether_of; ip = protocol_number-protocol_of }
