use Rattle.iface_ingress.proofs.upper_layer.read_header.Goals as goal

pub returns-in-Ipv4-clause-only : goal.returns-in-Ipv4-clause-only
returns-in-Ipv4-clause-only c = rw c.in-Ipv4.is c.read.ensures.only

pub returns-in-Ipv6-clause-only : goal.returns-in-Ipv6-clause-only
returns-in-Ipv6-clause-only c = rw c.in-Ipv6.is c.read-in-Ipv6.ensures.only
