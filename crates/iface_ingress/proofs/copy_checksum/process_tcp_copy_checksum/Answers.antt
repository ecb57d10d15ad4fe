use Rattle.iface_ingress.proofs.copy_checksum.process_tcp_copy_checksum.Goals as goal

pub returns-clause-taken : goal.returns-clause-taken
returns-clause-taken c = c.on_segment.ensures.taken
