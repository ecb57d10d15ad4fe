use Rattle.iface_tables.proofs.ReassembledDatagram.{HoldsSlicesOf-taken, HoldsSlicesOf-placed, completed-payload}
use Rattle.iface_tables.proofs.laws.slices_reassemble.Goals as goal

pub returns-clause-taken : goal.returns-clause-taken
returns-clause-taken g c = λ holes payload key expires s. HoldsSlicesOf-taken holes payload key expires s

pub returns-clause-placed : goal.returns-clause-placed
returns-clause-placed g c = λ holes payload s p holds slice. HoldsSlicesOf-placed holes payload s p holds slice

pub returns-clause-complete : goal.returns-clause-complete
returns-clause-complete g c = λ holes payload s bytes holds done. completed-payload holes payload s bytes holds done
