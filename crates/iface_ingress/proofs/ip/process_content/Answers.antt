use Rattle.iface_ingress.proofs.ip.process_content.Goals as goal

pub returns-in-Ipv4-clause-brings : goal.returns-in-Ipv4-clause-brings
returns-in-Ipv4-clause-brings c = rw c.in-Ipv4.is c.process_ipv4.ensures.arrives

pub returns-in-Ipv6-clause-brings : goal.returns-in-Ipv6-clause-brings
returns-in-Ipv6-clause-brings c = rw c.in-Ipv6.is c.process_ipv6.ensures.arrives
