use Rattle.proof_stack.proofs.Polls.Solicited.{solicitation_answered, advertisement_known}
use Rattle.proof_stack.proofs.progress.neighbors.neighbors_answer_solicitations.Goals as goal

pub returns-clause-tells : goal.returns-clause-tells
returns-clause-tells c own node i source target sound six on mine group one from =
    solicitation_answered own node sound six i source target on mine group one from

pub returns-clause-known : goal.returns-clause-known
returns-clause-known c own node i overrides a asked to sound six on unknown sought one mine via =
    advertisement_known own node sound six i overrides a asked to on unknown sought one mine via
