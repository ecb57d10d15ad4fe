use Rattle.tcp_liveness.proofs.LateExchange.{goes_last, goes_now, proceeds}
use Rattle.tcp_liveness.proofs.delayed_segment.an_exchange_that_takes_time_proceeds.Goals as goal

pub returns : goal.returns
returns c = record { goes = goes_now; last = goes_last; moves = proceeds }
