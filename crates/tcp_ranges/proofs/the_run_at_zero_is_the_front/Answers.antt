use Rattle.tcp_ranges.proofs.Fronts.{front-held, following-held, takes_front}
use Rattle.tcp_ranges.proofs.the_run_at_zero_is_the_front.Goals as goal

pub returns : goal.returns
returns c = record { front = front-held; following = following-held; taken = takes_front }
