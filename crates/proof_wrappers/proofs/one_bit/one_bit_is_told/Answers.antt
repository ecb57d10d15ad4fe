use Rattle.proof_wrappers.proofs.OneBit.{segment_tells, datagram_tells, header_tells}
use Rattle.proof_wrappers.proofs.one_bit.one_bit_is_told.Goals as goal

pub returns-clause-segments : goal.returns-clause-segments
returns-clause-segments c = segment_tells

pub returns-clause-datagrams : goal.returns-clause-datagrams
returns-clause-datagrams c = datagram_tells

pub returns-clause-headers : goal.returns-clause-headers
returns-clause-headers c = header_tells
