use Rattle.iface_ingress.proofs.Neighbors.{renews_v4, renews_v6, learns}
use Rattle.iface_ingress.proofs.laws.refreshes.Goals as goal

pub returns-clause-ipv4 : goal.returns-clause-ipv4
returns-clause-ipv4 c = renews_v4

pub returns-clause-ipv6 : goal.returns-clause-ipv6
returns-clause-ipv6 c = renews_v6

pub returns-clause-arp : goal.returns-clause-arp
returns-clause-arp c = learns
