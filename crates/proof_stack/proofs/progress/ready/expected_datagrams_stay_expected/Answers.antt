use Rattle.proof_stack.proofs.Polls.Stays.{is_ready, still_expected}
use Rattle.proof_stack.proofs.progress.ready.expected_datagrams_stay_expected.Goals as goal

pub returns-clause-still : goal.returns-clause-still
returns-clause-still g c u r x to header ports m meta w is so = still_expected g.E.Device.moves u r to header ports m meta w is x so

pub returns-clause-ready : goal.returns-clause-ready
returns-clause-ready g c frames_at = is_ready g.E.Device.moves frames_at
