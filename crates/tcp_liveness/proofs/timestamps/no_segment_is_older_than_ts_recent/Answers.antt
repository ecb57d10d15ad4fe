use Rattle.tcp_liveness.proofs.TsvalPairs.{answer_initial, offer_of_pair_initial}
use Rattle.tcp_liveness.proofs.timestamps.no_segment_is_older_than_ts_recent.Goals as goal

pub returns : goal.returns
returns c = record { offered = offer_of_pair_initial; answered = answer_initial }
