use Rattle.iface_tables.proofs.ReassembledDatagram.{unmarked}
use Rattle.iface_tables.proofs.laws.unmarked_bytes_do_not_count.Goals as goal

pub returns : goal.returns
returns c = unmarked
