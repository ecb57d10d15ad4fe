use Rattle.std.proofs.Common.{rules, refl, IsTrue}
use Rattle.base_wrappers.specs.Drop.{may_come}
use Rattle.base_wrappers.proofs.Drops.{came_by}
use Rattle.base_wrappers.proofs.dropper.DropperDevice.receive.Goals as goal

pub returns-clause-moves : goal.returns-clause-moves
returns-clause-moves g c =
    let may : IsTrue (may_come c.args.timestamp c.self.inside.state) = search rules in
    let came = c.in-Some.ensures in
    came_by g.D.Device.moves _ _ c.self.view_is c.args.timestamp _ _ c.receive_within.new.state _ _ may came.moves came.rules came.rx came.tx
    c.spend.ensures refl
