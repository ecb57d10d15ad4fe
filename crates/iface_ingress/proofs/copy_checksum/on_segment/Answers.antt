use Rattle.iface_ingress.proofs.copy_checksum.on_segment.Goals as goal

pub returns-clause-taken : goal.returns-clause-taken
returns-clause-taken c = c.read_and_take.ensures.taken
