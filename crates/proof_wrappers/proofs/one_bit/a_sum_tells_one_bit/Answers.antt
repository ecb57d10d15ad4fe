use Rattle.proof_wrappers.proofs.OneBit.{tells}
use Rattle.proof_wrappers.proofs.one_bit.a_sum_tells_one_bit.Goals as goal

pub returns : goal.returns
returns c = tells
