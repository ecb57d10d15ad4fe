use Rattle.interface.proofs.OneEnd.{one_poll}
use Rattle.interface.proofs.poll_laws.one_outcome.Goals as goal

pub returns : goal.returns
returns g c = λ longest t budget s left right changed other steady det one two.
    one_poll c.one_offer.ensures g.D.Device.moves longest steady t budget s left right changed other det one two
