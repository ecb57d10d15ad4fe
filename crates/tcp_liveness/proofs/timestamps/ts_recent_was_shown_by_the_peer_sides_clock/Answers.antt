use Rattle.tcp_liveness.proofs.TsvalPairs.{was_shown}
use Rattle.tcp_liveness.proofs.timestamps.ts_recent_was_shown_by_the_peer_sides_clock.Goals as goal

pub returns : goal.returns
returns c = record { shown = was_shown }
