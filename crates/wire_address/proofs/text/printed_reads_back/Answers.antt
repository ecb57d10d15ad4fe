use Rattle.wire_address.proofs.Printed.{IsEthernetText-printed, IsDottedText-printed, IsIpv6Text-printed, IsIpText-printed, IsIpv4CidrText-printed}
use Rattle.wire_address.proofs.Printed.{IsIpv6CidrText-printed, IsIpCidrText-printed, IsIpv4EndpointText-printed}
use Rattle.wire_address.proofs.text.printed_reads_back.Goals as goal

pub returns : goal.returns
returns c = record {
  ethernet = IsEthernetText-printed;
  ipv4 = λ a h. IsDottedText-printed a.0 h.0 h.1;
  ipv6 = IsIpv6Text-printed;
  address = IsIpText-printed;
  ipv4_cidr = IsIpv4CidrText-printed;
  ipv6_cidr = IsIpv6CidrText-printed;
  cidr = IsIpCidrText-printed;
  ipv4_endpoint = IsIpv4EndpointText-printed;
}
