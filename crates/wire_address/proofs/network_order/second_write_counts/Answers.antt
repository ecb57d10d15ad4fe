use Rattle.wire_address.proofs.Puts.{put16-put16}
use Rattle.wire_address.proofs.network_order.second_write_counts.Goals as goal

pub returns : goal.returns
returns c = put16-put16
