use Rattle.proof_stack.proofs.Polls.ParkedGoes.{same_frame_then, step_goes}
use Rattle.proof_stack.proofs.progress.datagrams.what_waits_goes_once_its_hop_is_known.Goals as goal

pub returns-clause-goes : goal.returns-clause-goes
returns-clause-goes g c = step_goes g.D.Device.moves

pub returns-clause-frame : goal.returns-clause-frame
returns-clause-frame g c = same_frame_then
