use Rattle.std.proofs.Common.{refl, rules}
use Rattle.iface_egress.specs.Set.{slots}
use Rattle.interface.specs.Host.{sender}
use Rattle.interface.specs.Pass.{passed}
use Rattle.interface.proofs.Stepped.{egress_at}
use Rattle.interface.proofs.host.Interface.send.Goals as goal

pub returns-clause-step : goal.returns-clause-step
returns-clause-step g c =
    let end = passed (sender c.egress.new.device c.egress.new.inner c.egress.new.fragmenter) c.egress.new.slots c.egress.result in (
      end,
      egress_at g.D.Device.moves c.args.device.now c.args.self.now c.set_now.new.self c.self.inside.fragmenter (slots c.args.sockets.now)
          (slots c.args.sockets.now) c.args.timestamp end (search rules) (search rules) (search rules) c.egress.ensures.egress,
      search rules,
      refl,
    )
