use Rattle.wire_address.proofs.OneReading.{IsIpv4Text-unique, IsIpv6Text-unique, IsIpText-unique}
use Rattle.wire_address.proofs.text.one_reading.Goals as goal

pub returns : goal.returns
returns c = record { ipv4 = IsIpv4Text-unique; ipv6 = IsIpv6Text-unique; address = IsIpText-unique }
