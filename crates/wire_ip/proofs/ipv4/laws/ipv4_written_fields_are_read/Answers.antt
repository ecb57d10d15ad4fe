use Rattle.std.proofs.Common.{arith}
use Rattle.wire_ip.proofs.Sets.{version-set, header_len-set, dscp-set, ecn-set, dont_frag-set, more_frags-set, offset-set, protocol-set, run-set}
use Rattle.wire_ip.proofs.ipv4.laws.ipv4_written_fields_are_read.Goals as goal

pub returns-clause-version : goal.returns-clause-version
returns-clause-version c = λ bytes n room. version-set bytes n (omega (arith, room))

pub returns-clause-header_len : goal.returns-clause-header_len
returns-clause-header_len c = header_len-set

pub returns-clause-dscp : goal.returns-clause-dscp
returns-clause-dscp c = dscp-set

pub returns-clause-ecn : goal.returns-clause-ecn
returns-clause-ecn c = ecn-set

pub returns-clause-dont_frag : goal.returns-clause-dont_frag
returns-clause-dont_frag c = dont_frag-set

pub returns-clause-more_frags : goal.returns-clause-more_frags
returns-clause-more_frags c = more_frags-set

pub returns-clause-offset : goal.returns-clause-offset
returns-clause-offset c = offset-set

pub returns-clause-protocol : goal.returns-clause-protocol
returns-clause-protocol c = λ bytes p room. protocol-set bytes 9 p (omega (arith, room))

pub returns-clause-source : goal.returns-clause-source
returns-clause-source c = λ bytes octets room len. run-set bytes octets 12 4 (omega (arith, room)) len

pub returns-clause-destination : goal.returns-clause-destination
returns-clause-destination c = λ bytes octets room len. run-set bytes octets 16 4 (omega (arith, room)) len
