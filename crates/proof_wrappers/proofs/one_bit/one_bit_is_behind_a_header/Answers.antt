use Rattle.proof_wrappers.proofs.Behind.{bit_behind}
use Rattle.proof_wrappers.proofs.one_bit.one_bit_is_behind_a_header.Goals as goal

pub returns : goal.returns
returns c = bit_behind
