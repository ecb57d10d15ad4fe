use Rattle.std.proofs.Common.{refl}
use Rattle.iface_groups.proofs.Histories.{last_counts}
use Rattle.iface_groups.proofs.laws.the_last_record_counts.Goals as goal

pub returns : goal.returns
returns c = last_counts
