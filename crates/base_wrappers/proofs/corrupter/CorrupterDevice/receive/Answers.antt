use Rattle.std.proofs.Common.{refl}
use Rattle.base_wrappers.proofs.Corrupts.{taken_by}
use Rattle.base_wrappers.proofs.corrupter.CorrupterDevice.receive.Goals as goal

pub returns-clause-moves : goal.returns-clause-moves
returns-clause-moves g c =
    taken_by g.D.Device.moves _ _ c.self.view_is c.args.timestamp _ _ _ _ _ refl c.in_ok-token.ensures.moves c.harm-token.ensures
