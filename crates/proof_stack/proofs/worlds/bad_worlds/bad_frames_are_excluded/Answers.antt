use Rattle.proof_stack.proofs.Runs.BadWorlds as by
use Rattle.proof_stack.proofs.worlds.bad_worlds.bad_frames_are_excluded.Goals as goal

pub returns : goal.returns
returns c = record {
  told = λ i slots own source target is apart. by.frames_told i slots own source target is apart;
  whole = λ i slots own source target from is source_is target_is ports apart.
      by.frames_whole i slots own source target from is source_is target_is ports apart;
  labels = λ i own source target. by.frames_labelled i own source target;
}
