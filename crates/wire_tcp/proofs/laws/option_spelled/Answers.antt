use Rattle.wire_tcp.proofs.Steps.{Begins-one}
use Rattle.wire_tcp.proofs.laws.option_spelled.Goals as goal

pub returns : goal.returns
returns c = Begins-one
