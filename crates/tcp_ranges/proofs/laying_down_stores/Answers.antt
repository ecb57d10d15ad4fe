use Rattle.tcp_ranges.proofs.Storing.{held-store, overlay-spliced, store-cut}
use Rattle.tcp_ranges.proofs.laying_down_stores.Goals as goal

pub returns : goal.returns
returns c = record { stores = held-store; laid = overlay-spliced; cut = store-cut }
