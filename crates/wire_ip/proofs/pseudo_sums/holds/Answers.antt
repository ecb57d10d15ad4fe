use Rattle.wire_address.proofs.Covered.{all_ones-holds}
use Rattle.wire_ip.proofs.pseudo_sums.holds.Goals as goal

pub returns : goal.returns
returns c = all_ones-holds _ _ c.sum.ensures
