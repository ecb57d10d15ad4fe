use Rattle.sockets.proofs.AnyKind.{once}
use Rattle.sockets.proofs.laws.one_offer.Goals as goal

pub returns : goal.returns
returns c = once c.one_offer.ensures c.one_offer-2.ensures c.one_offer-3.ensures
