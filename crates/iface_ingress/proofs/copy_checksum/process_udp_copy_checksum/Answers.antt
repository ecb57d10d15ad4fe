use Rattle.iface_ingress.proofs.copy_checksum.process_udp_copy_checksum.Goals as goal

pub returns-clause-taken : goal.returns-clause-taken
returns-clause-taken c = c.take_datagram.ensures.taken
