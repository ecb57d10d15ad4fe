use Rattle.proof_stack.proofs.Runs.ExcludedNets as nets
use Rattle.proof_stack.proofs.worlds.excluded.bad_datagrams_are_excluded.Goals as goal

pub returns : goal.returns
returns c = record {
  never_sent = nets.never_sent;
  sent_later = nets.sent_later;
  cut_short = nets.cut_short;
  other_port = nets.other_port;
}
