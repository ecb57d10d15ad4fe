use Rattle.proof_stack.proofs.Polls.OneMore.{one_at_most}
use Rattle.proof_stack.proofs.progress.ready.frames_bring_one_datagram_at_most.Goals as goal

pub returns : goal.returns
returns g c u r r' answer m w = one_at_most w g.E.Device.moves m u r r' answer
