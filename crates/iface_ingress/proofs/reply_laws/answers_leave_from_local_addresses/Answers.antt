use Rattle.iface_ingress.proofs.LocalSources.{own_of, source_v4_local, source_v6_local, reset_local, arp_local, advertisement_local}
use Rattle.iface_ingress.proofs.reply_laws.answers_leave_from_local_addresses.Goals as goal

pub returns-clause-local : goal.returns-clause-local
returns-clause-local c = own_of

pub returns-clause-ipv4 : goal.returns-clause-ipv4
returns-clause-ipv4 c = source_v4_local

pub returns-clause-ipv6 : goal.returns-clause-ipv6
returns-clause-ipv6 c = source_v6_local

pub returns-clause-reset : goal.returns-clause-reset
returns-clause-reset c = reset_local

pub returns-clause-arp : goal.returns-clause-arp
returns-clause-arp c = arp_local

pub returns-clause-advertisement : goal.returns-clause-advertisement
returns-clause-advertisement c = advertisement_local
