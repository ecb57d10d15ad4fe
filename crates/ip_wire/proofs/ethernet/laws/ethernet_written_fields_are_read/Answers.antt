use Rattle.std.proofs.Common.{arith}
use Rattle.wire_ip.proofs.Sets.{run-set}
use Rattle.ip_wire.proofs.ethernet.laws.ethernet_written_fields_are_read.Goals as goal

pub returns-clause-destination : goal.returns-clause-destination
returns-clause-destination c = λ bytes field within len. run-set bytes field 0 6 (omega (arith, within)) len

pub returns-clause-source : goal.returns-clause-source
returns-clause-source c = λ bytes field within len. run-set bytes field 6 6 (omega (arith, within)) len
