use Rattle.wire_dhcp.proofs.ReadBack.{IsDhcp-written}
use Rattle.wire_dhcp.proofs.laws.dhcp_reads_back.Goals as goal

pub returns : goal.returns
returns c = IsDhcp-written
