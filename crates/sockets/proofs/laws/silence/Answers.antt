use Rattle.sockets.proofs.AnyKind.{silent}
use Rattle.sockets.proofs.laws.silence.Goals as goal

pub returns : goal.returns
returns c = λ cx s s' answer before offers. silent s s' cx answer before offers
