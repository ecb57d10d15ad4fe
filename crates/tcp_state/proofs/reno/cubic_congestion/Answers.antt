use Rattle.tcp_state.proofs.CongestionLaws.{slow_start, without}
use Rattle.tcp_state.proofs.reno.cubic_congestion.Goals as goal

pub returns-clause-slow_start : goal.returns-clause-slow_start
returns-clause-slow_start c = slow_start

pub returns-clause-without : goal.returns-clause-without
returns-clause-without c = without
