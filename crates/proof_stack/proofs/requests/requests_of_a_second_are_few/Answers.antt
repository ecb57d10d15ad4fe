use Rattle.proof_stack.proofs.RequestsCounted.{few_requests}
use Rattle.proof_stack.proofs.requests.requests_of_a_second_are_few.Goals as goal

pub returns : goal.returns
returns c = few_requests
