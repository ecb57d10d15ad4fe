use Rattle.proof_stack.proofs.Polls.FragmentList.{fragment_goes, shorter}
use Rattle.proof_stack.proofs.progress.fragments.waiting_fragments_go.Goals as goal

pub returns-clause-goes : goal.returns-clause-goes
returns-clause-goes g c = fragment_goes g.D.Device.moves

pub returns-clause-shorter : goal.returns-clause-shorter
returns-clause-shorter g c = shorter
