use Rattle.sockets.proofs.AnyKind.{same}
use Rattle.sockets.proofs.laws.unchanged.Goals as goal

pub returns : goal.returns
returns c = λ cx s s' answer offers is. same s s' cx answer offers is
