use Rattle.proof_stack.proofs.EventIdle.{waits_for_none}
use Rattle.proof_stack.proofs.progress.at_once.nobody_waits_without_hardware_addresses.Goals as goal

pub returns : goal.returns
returns c = λ starts history hosts side slot initial ip first typed still. waits_for_none starts initial ip first history hosts typed still side slot
