use Rattle.tcp_liveness.proofs.Accepted.{sent_accepted}
use Rattle.tcp_liveness.proofs.delayed_segment.what_was_sent_is_accepted.Goals as goal

pub returns : goal.returns
returns c = record { accepted = sent_accepted }
