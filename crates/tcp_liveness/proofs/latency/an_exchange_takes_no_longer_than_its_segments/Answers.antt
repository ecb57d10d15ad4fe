use Rattle.tcp_liveness.proofs.CourseExchange.{exchange_in_time}
use Rattle.tcp_liveness.proofs.latency.an_exchange_takes_no_longer_than_its_segments.Goals as goal

pub returns : goal.returns
returns c = record { twice = exchange_in_time }
