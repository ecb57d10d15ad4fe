use Rattle.std.proofs.Common.{arith}
use Rattle.wire_address.proofs.seq_number.sum_comes_after.Goals as goal

pub returns : goal.returns
returns c = record {
  distance = λ a sum n whole small is. omega arith;
  order = λ a sum n whole some small is. (omega arith, omega arith);
  opposite = λ a b whole other half. ((omega arith, omega arith), (omega arith, omega arith));
}
