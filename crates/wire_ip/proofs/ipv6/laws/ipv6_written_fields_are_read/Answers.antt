use Rattle.std.proofs.Common.{arith}
use Rattle.wire_ip.proofs.Sets.{version-set, protocol-set, run-set}
use Rattle.wire_ip.proofs.ipv6.laws.ipv6_written_fields_are_read.Goals as goal

pub returns-clause-version : goal.returns-clause-version
returns-clause-version c = λ bytes n room. version-set bytes n (omega (arith, room))

pub returns-clause-protocol : goal.returns-clause-protocol
returns-clause-protocol c = λ bytes p room. protocol-set bytes 6 p (omega (arith, room))

pub returns-clause-source : goal.returns-clause-source
returns-clause-source c = λ bytes octets room len. run-set bytes octets 8 16 (omega (arith, room)) len

pub returns-clause-destination : goal.returns-clause-destination
returns-clause-destination c = λ bytes octets room len. run-set bytes octets 24 16 (omega (arith, room)) len
