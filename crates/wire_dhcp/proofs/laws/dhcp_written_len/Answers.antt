use Rattle.wire_dhcp.proofs.Fixed.{length-written}
use Rattle.wire_dhcp.proofs.laws.dhcp_written_len.Goals as goal

pub returns : goal.returns
returns c = length-written
