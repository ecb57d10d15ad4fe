use Rattle.iface_egress.proofs.ReadBack.{link-packet, packet-read, link-fragment, fragment-read, fragment-read6, arp-read}
use Rattle.iface_egress.proofs.laws.frames_read_back.Goals as goal

pub returns-clause-link : goal.returns-clause-link
returns-clause-link c = link-packet

pub returns-clause-packet : goal.returns-clause-packet
returns-clause-packet c = packet-read

pub returns-clause-fragment_link : goal.returns-clause-fragment_link
returns-clause-fragment_link c = link-fragment

pub returns-clause-fragment : goal.returns-clause-fragment
returns-clause-fragment c = fragment-read

pub returns-clause-fragment_v6 : goal.returns-clause-fragment_v6
returns-clause-fragment_v6 c = fragment-read6

pub returns-clause-arp : goal.returns-clause-arp
returns-clause-arp c = arp-read
