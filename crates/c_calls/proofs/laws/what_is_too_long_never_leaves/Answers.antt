use Rattle.c_calls.proofs.TooLong.{dropped}
use Rattle.c_calls.proofs.laws.what_is_too_long_never_leaves.Goals as goal

pub returns : goal.returns
returns c = dropped
