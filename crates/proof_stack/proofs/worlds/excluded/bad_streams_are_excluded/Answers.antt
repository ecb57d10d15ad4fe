use Rattle.proof_stack.proofs.Runs.ExcludedNets as nets
use Rattle.proof_stack.proofs.worlds.excluded.bad_streams_are_excluded.Goals as goal

pub returns : goal.returns
returns c = record {
  other_byte = nets.other_byte;
  swapped = nets.swapped;
  one_more = nets.one_more;
  freed_early = nets.freed_early;
  queued_otherwise = nets.queued_otherwise;
  queued_otherwise_alone = nets.queued_otherwise_alone;
  ended_early = nets.ended_early;
  alone = nets.alone;
}
