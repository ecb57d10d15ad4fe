use Rattle.iface_ingress.proofs.ip.process_reassembled.Goals as goal

pub returns-in-Some-clause-brings : goal.returns-in-Some-clause-brings
returns-in-Some-clause-brings c = rw c.in-Some.is c.process_content.ensures.brings
