use Rattle.std.proofs.Common.{◌≡◌, rules, true}
use Rattle.base_wrappers.specs.Drop.{is_lost_out}
use Rattle.base_wrappers.proofs.Drops.{lost_by}
use Rattle.base_wrappers.proofs.dropper.DropperDevice.send.Goals as goal

pub returns-then-is_lost_out-clause-ok : goal.returns-then-is_lost_out-clause-ok
returns-then-is_lost_out-clause-ok g c =
    let lost : is_lost_out c.len.result c.args.len c.self.inside.state ≡ true = search rules in
    let ran = c.run_lost.ensures.ran in (
      ran.0,
      ran.1,
      ran.2,
      ran.3,
      ran.4,
      lost_by g.D.Device.moves _ _ c.self.view_is c.args.len ran.1 ran.3 c.is_lost_out.new.self _ c.len.result c.len.ensures lost
          c.is_lost_out.ensures.sent c.run_lost.ensures.room,
    )
