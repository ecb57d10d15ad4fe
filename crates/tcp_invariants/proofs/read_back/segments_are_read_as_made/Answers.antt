use Rattle.tcp_invariants.proofs.ReadRules.{offers_read, answers_read}
use Rattle.tcp_invariants.proofs.read_back.segments_are_read_as_made.Goals as goal

pub returns : goal.returns
returns c = record { offers = offers_read; answers = answers_read }
